-- The library's clamp to a byte is the definition's. Assumes nothing.
use Rattle.std.proofs.Common.{◌≡◌, arith, refl, ℤ, pos, negsuc}
use Rattle.std.specs.Int.{int_min, int_max}
use Rattle.words.specs.Integers.{clamp_to}

pub clamped : (z : ℤ) → int_max (pos 0) (int_min z (pos 255)) ≡ pos (clamp_to 255 z)
unfolding clamp_to
clamped (pos n) = grind arith
clamped (negsuc n) = refl
