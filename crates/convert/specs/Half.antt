-- Binary32 as binary16: which code is meant, and the number that computes it; proofs/HalfLaws has the law that joins the two. Magnitudes are fractions n / d in units of
-- 2^-24, binary16's smallest positive number. Assumes nothing.
use Rattle.std.specs.Prelude.{◌≡◌, ◌⊎◌, ℕ, ◌+◌, ◌*◌, ◌-◌, ◌/◌, ◌%◌, ◌^◌, ◌≤◌, ◌<◌, leb, Float}
use Rattle.std.specs.Float.{nan, inf, fin, binary32}
use Rattle.std.specs.Float.Ieee.{up, down, size, of_bits}
use Rattle.std.specs.Float.Ieee.Nearest.{closest}
use Rattle.words.specs.Tests.{pick}
use Rattle.channels.specs.Nearest.{apart}
use Rattle.convert.specs.Units.{units_of}

-- the number of the binary16 code j without a sign, in units of 2^-24: its fraction has ten digits
abbrev pub half_units : ℕ → ℕ
half_units = units_of 1024

-- the largest finite code, 65504
abbrev pub largest : ℕ
largest = 0x7bff

-- how the code j lies beside the code k: further from n / d, or equally far and odd
abbrev pub GivesWay : (n d k j : ℕ) → Type 0
GivesWay n d k j = (apart (half_units k * d) n < apart (half_units j * d) n) ⊎ ((apart (half_units k * d) n ≡ apart (half_units j * d) n) × (j % 2 ≡ 1))

-- k is the finite code nearest to n / d, a tie to the even code: every other one gives way
pub record NearestHalf (n d k : ℕ) : Type 0 where
  pub finite : k ≤ largest
  pub others : (j : ℕ) → j ≤ largest → (j ≡ k → ⊥) → GivesWay n d k j

-- 65520, the middle between 65504 and 65536: from there on it is an infinity
abbrev pub overflow : ℕ
overflow = 65520 * 2 ^ 24

-- k is the code, without a sign, of the magnitude n / d
pub record OfMagnitude (n d k : ℕ) : Type 0 where
  pub overflows : overflow * d ≤ n → k ≡ 0x7c00
  pub nearest : n < overflow * d → NearestHalf n d k

-- k is the code, without a sign, of the number x
abbrev pub CodeOf : Float → ℕ → Type 0
CodeOf nan k = k ≡ 0x7e00
CodeOf (inf s) k = k ≡ 0x7c00
CodeOf (fin s m e) k = OfMagnitude (m * up e * 2 ^ 24) (down e) k

-- r is the binary16 pattern of the binary32 pattern bits: the sign is the highest bit of each, a NaN's too
pub record HalfOf (bits r : ℕ) : Type 0 where
  pub sign : r / 0x8000 ≡ bits / 0x80000000
  pub code : CodeOf (of_bits binary32 bits) (r % 0x8000)

-- ---- the same, computed
-- the leading eleven digits of n / d, rounded; each digit dropped adds one to the exponent's field
unfoldable pub nearest_half : (n d : ℕ) → ℕ
nearest_half n d = let x = size (n / d) - 11 in x * 1024 + closest n (d * 2 ^ x)

-- the code of the magnitude n / d
unfoldable pub magnitude_code : (n d : ℕ) → ℕ
magnitude_code n d = pick (leb (overflow * d) n) 0x7c00 (nearest_half n d)

-- the code of the number x, without a sign
abbrev pub code_of : Float → ℕ
code_of nan = 0x7e00
code_of (inf s) = 0x7c00
code_of (fin s m e) = magnitude_code (m * up e * 2 ^ 24) (down e)

-- the binary16 pattern of a binary32 pattern
unfoldable pub half_of : ℕ → ℕ
half_of bits = bits / 0x80000000 * 0x8000 + code_of (of_bits binary32 bits)
