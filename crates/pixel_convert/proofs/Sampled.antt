-- A byte times a gain has room in 32 bits. Assumes nothing.
use Rattle.std.proofs.Common.{ℕ, ◌<◌, ◌≤◌, arith, lit<, ◌*ℤ◌, w32, SFits, to_z}
use Rattle.std.proofs.lemmas.Int.{ints, fits_signed_mul}

pub sampled_fits : (c g : ℕ) → c < 256 → g ≤ 262143 → SFits w32 (to_z w32 c *ℤ to_z w32 g)
sampled_fits c g h i = fits_signed_mul w32 (to_z w32 c) (to_z w32 g) 255 262143 (omega (arith, ints)) (omega (arith, ints)) (lit< tt)
