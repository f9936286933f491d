-- How large a line is, so that 32 bits have room for the part of every sample. Assumes nothing.
use Rattle.std.specs.Prelude.{◌≤◌}
use Rattle.pixel_convert.specs.declared.lines.Line.{Line}

-- 32 bits have room for a line with such a gain and such a base
pub record LineSized (l : Line) : Type 0 where
  pub gain_most : l.gain ≤ 262143
  pub base_most : l.base ≤ 67108864
