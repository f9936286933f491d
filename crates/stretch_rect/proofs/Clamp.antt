-- The clamp to a byte. Assumes nothing.
use Rattle.std.specs.Prelude.{◌≡◌, ◌≤◌, ℤ, pos, negsuc}
use Rattle.std.proofs.Common.{arith}
use Rattle.std.specs.Int.{int_min, int_max}
use Rattle.words.specs.Integers.{clamp_to}
use Rattle.stretch_rect.proofs.Clamps.{clamped}

-- the library's is the definition's, and small
pub byte_clamp : (z : ℤ) → (int_max (pos 0) (int_min z (pos 255)) ≡ pos (clamp_to 255 z)) × (clamp_to 255 z ≤ 255)
unfolding clamp_to
byte_clamp (pos n) = (clamped (pos n), omega arith)
byte_clamp (negsuc n) = (clamped (negsuc n), omega arith)
