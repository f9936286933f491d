-- Laws on what specs/Luminance defines. Assumes nothing.
use Rattle.std.specs.Prelude.{ℕ, ◌+◌, ◌*◌, ◌<◌}
use Rattle.std.proofs.Common.{arith}
use Rattle.channels.specs.Fractions.{◌over◌, Near}
use Rattle.channels.specs.Luminance.{luminance_of}

-- it lies within half of the exact mean
pub luminance_near : (r g b : ℕ) → Near 2 (luminance_of r g b over 1) ((2125 * r + 7154 * g + 721 * b) over 10000)
unfolding luminance_of
luminance_near r g b = record { left_real = omega arith; right_real = omega arith; not_above = omega arith; not_below = omega arith }

pub luminance_byte : (r g b : ℕ) → r < 256 → g < 256 → b < 256 → luminance_of r g b < 256
unfolding luminance_of
luminance_byte r g b i j k = omega arith
