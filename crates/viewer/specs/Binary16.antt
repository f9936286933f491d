-- Binary16 between 2^-25 and 2^-24, where the original has zeros.
use Rattle.std.specs.Prelude.{◌≡◌, true, false, ℕ, ◌+◌, ◌*◌, ◌/◌}
use Rattle.std.specs.Float.{binary32}
use Rattle.std.specs.Float.Ieee.{of_bits}
use Rattle.convert.specs.Half.{half_of}
use Rattle.convert.specs.FaintNumbers.{faint, original_half}

-- the patterns of magnitudes above 2^-25 and below 2^-24 are those of the smallest subnormal, and all others the original's
pub record FaintHalves : Type 0 where
  -- inside, the smallest subnormal with the sign, where the original has the zero of that sign
  pub inside : (bits : ℕ) → faint (of_bits binary32 bits) ≡ true
      → (half_of bits ≡ bits / 0x80000000 * 0x8000 + 1) × (original_half bits ≡ bits / 0x80000000 * 0x8000)
  pub elsewhere : (bits : ℕ) → faint (of_bits binary32 bits) ≡ false → half_of bits ≡ original_half bits
  -- 2^-25 lies outside, the pattern after it inside
  pub from_exclusive : (faint (of_bits binary32 0x33000000) ≡ false) × (faint (of_bits binary32 0x33000001) ≡ true)
  -- the pattern before 2^-24 lies inside, 2^-24 outside
  pub to_exclusive : (faint (of_bits binary32 0x337fffff) ≡ true) × (faint (of_bits binary32 0x33800000) ≡ false)
  -- 2^-25, as near to 0 as to the smallest subnormal, gives the zero of its sign
  pub tie : (half_of 0x33000000 ≡ 0) × (half_of 0xb3000000 ≡ 0x8000)
