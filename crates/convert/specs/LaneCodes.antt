-- The code of a byte in a lane, by the lane's kind and width.
-- Assumes nothing.
use Rattle.std.specs.Prelude.{◌≡◌, [], ◌∷◌, ℕ, ◌*◌, ◌-◌, ◌^◌, eqb}
use Rattle.std.specs.Float.{binary32}
use Rattle.std.specs.Float.Ieee.{to_bits}
use Rattle.words.specs.Tests.{pick}
use Rattle.formats.specs.Lanes.{Kind, unsigned, signed, float16, float32, ignored}
use Rattle.formats.specs.Classes.{listed}
use Rattle.channels.specs.Expansion.{truncated}
use Rattle.channels.specs.Nearest.{rounded}
use Rattle.convert.specs.Half.{half_of}
use Rattle.convert.specs.Color.{unorm_of}

-- the n-bit code nearest to v / 255 on a scale whose top code is max
abbrev pub nearest_code : (max v : ℕ) → ℕ
nearest_code max v = rounded (v * max) 255

-- the byte v in an unsigned lane of n bits: 257 times it in 16 bits, the nearest code in 2 and in 10, and else its top bits
abbrev pub unsigned_code : (n v : ℕ) → ℕ
unsigned_code n v = pick (eqb n 16) (v * 257) (pick (listed n (2 ∷ 10 ∷ [])) (nearest_code (2 ^ n - 1) v) (truncated n v))

-- the byte v in a lane of n bits of each kind; a signed code is not negative, and an X holds top bits
abbrev pub lane_code : Kind → (n v : ℕ) → ℕ
lane_code unsigned n v = unsigned_code n v
lane_code signed n v = nearest_code (2 ^ (n - 1) - 1) v
lane_code float16 n v = half_of (to_bits binary32 (unorm_of v))
lane_code float32 n v = to_bits binary32 (unorm_of v)
lane_code ignored n v = truncated n v

-- four lanes of one kind and width hold the codes of four bytes
pub record Codes (k : Kind) (n r g b a r' g' b' a' : ℕ) : Type 0 where
  pub red : r' ≡ lane_code k n r
  pub green : g' ≡ lane_code k n g
  pub blue : b' ≡ lane_code k n b
  pub alpha : a' ≡ lane_code k n a
