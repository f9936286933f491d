-- The luminance of a colour, from the weights 0.2125, 0.7154 and 0.0721.
-- Assumes nothing.
use Rattle.std.specs.Prelude.{ℕ, ◌+◌, ◌*◌, ◌/◌}

-- the weighted mean, rounded to the nearest byte
unfoldable pub luminance_of : (r g b : ℕ) → ℕ
luminance_of r g b = (2125 * r + 7154 * g + 721 * b + 5000) / 10000
