-- Where the code differs from the original's: magnitudes above 2^-25 and below 2^-24, which are nearest to 2^-24 and of which the original makes zeros.
-- Assumes nothing.
use Rattle.std.specs.Prelude.{Bool, true, false, ◌&&◌, ℕ, ◌*◌, ◌/◌, ◌^◌, ltb, Float}
use Rattle.std.specs.Float.{nan, inf, fin, binary32}
use Rattle.std.specs.Float.Ieee.{up, down, of_bits}
use Rattle.words.specs.Tests.{pick}
use Rattle.convert.specs.Half.{half_of}

-- a magnitude below 2^-24
abbrev pub below_unit : Float → Bool
below_unit nan = false
below_unit (inf s) = false
below_unit (fin s m e) = ltb (m * up e * 2 ^ 24) (down e)

-- a magnitude above 2^-25
abbrev pub above_half : Float → Bool
above_half nan = false
above_half (inf s) = true
above_half (fin s m e) = ltb (down e) (2 * (m * up e * 2 ^ 24))

-- a magnitude between the two
abbrev pub faint : Float → Bool
faint x = below_unit x && above_half x

-- the original's binary16 pattern: every magnitude below 2^-24 gives the signed zero, and all else is as it is here
unfoldable pub original_half : ℕ → ℕ
original_half bits = pick (below_unit (of_bits binary32 bits)) (bits / 0x80000000 * 0x8000) (half_of bits)
