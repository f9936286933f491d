-- The bounds of a legal set. Assumes nothing.
use Rattle.std.specs.Prelude.{◌≤◌}
use Rattle.stretch_rect.specs.declared.sets.YuvSet.{YuvSet}

-- ---- the bounds
-- a legal set, number by number
pub record Legal (s : YuvSet) : Type 0 where
  pub luma_gain : s.luma_gain ≤ 262143
  pub luma_offset : s.luma_offset ≤ 4194303
  pub v_to_red : s.v_to_red ≤ 262143
  pub u_to_green : s.u_to_green ≤ 262143
  pub v_to_green : s.v_to_green ≤ 262143
  pub u_to_blue : s.u_to_blue ≤ 262143
  pub centre_least : 255 ≤ s.chroma_centre
  pub centre_most : s.chroma_centre ≤ 256
