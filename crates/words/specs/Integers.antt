-- Integers divided by a whole number, clamped to an interval from 0, and as natural numbers. Assumes nothing.
use Rattle.std.specs.Prelude.{ℕ, ◌/◌, min, ℤ, pos, negsuc}

-- the quotient z / m, rounded down
abbrev pub floor_div : ℤ → ℕ → ℤ
floor_div (pos a) m = pos (a / m)
floor_div (negsuc a) m = negsuc (a / m)

-- z, but 0 where it is below 0, and top where it is above
unfoldable pub clamp_to : ℕ → ℤ → ℕ
clamp_to top (pos n) = min n top
clamp_to top (negsuc n) = 0

-- z, where it is not below 0, and else 0
unfoldable pub up : ℤ → ℕ
up (pos n) = n
up (negsuc n) = 0
