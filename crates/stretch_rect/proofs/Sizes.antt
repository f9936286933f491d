-- What a gain multiplies has room in 64 bits. Assumes nothing.
use Rattle.std.proofs.Common.{ℕ, ◌≤◌, arith, lit<, ℤ, ◌*ℤ◌, w64, SFits, to_z, unsigned_abs}
use Rattle.std.proofs.lemmas.Int.{ints, fits_signed_mul}

pub gained_fits : (x : ℤ) (g : ℕ) → unsigned_abs x ≤ 16777216 → g ≤ 262143 → SFits w64 (x *ℤ to_z w64 g)
gained_fits x g h i = fits_signed_mul w64 x (to_z w64 g) 16777216 262143 h (omega (arith, ints)) (lit< tt)
