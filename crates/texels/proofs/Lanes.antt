-- The lanes of whole bytes, and the formats of lanes of one width. Assumes nothing.
use Rattle.std.proofs.Common.{◌≡◌, refl, ℕ, ◌%◌, arith}
use Rattle.formats.specs.Codes.{A1R5G5B5, A4R4G4B4}
use Rattle.formats.specs.Table.{parts_of, lane_of}
use Rattle.channels.specs.Expansion.{expanded}
use Rattle.texels.specs.Texels.{argb_of, decoded_of, colour_of, missing_colour}
use Rattle.texels.proofs.Words.{expanded_eight}

-- a byte is its own expansion
pub expanded_byte : (v : ℕ) → expanded 8 (v % 256) ≡ v % 256
expanded_byte v = expanded_eight (v % 256) (omega arith)

-- the formats of alpha and three colours of one width, by their widths
pub argb_1555 : (v : ℕ) → argb_of 1 5 v ≡ decoded_of A1R5G5B5 v
unfolding argb_of decoded_of colour_of missing_colour lane_of parts_of
argb_1555 v = refl

pub argb_4444 : (v : ℕ) → argb_of 4 4 v ≡ decoded_of A4R4G4B4 v
unfolding argb_of decoded_of colour_of missing_colour lane_of parts_of
argb_4444 v = refl
