-- A YUV texel's exact values as fractions, clamped to 0..255. Assumes nothing.
use Rattle.std.specs.Prelude.{ℕ, ◌*◌, ℤ}
use Rattle.words.specs.Integers.{clamp_to}
use Rattle.channels.specs.Fractions.{Fraction, ◌over◌}

-- z in parts of a unit, clamped to 0..255
abbrev pub clamped_value : (unit : ℕ) → ℤ → Fraction
clamped_value unit z = clamp_to (255 * unit) z over unit
