-- Fills are the original's in their binary16 lanes too. Assumes nothing.
use Rattle.std.specs.Prelude.{◌≡◌, Bool, false, not, ℕ, ◌<◌}
use Rattle.std.specs.Float.{binary32}
use Rattle.std.specs.Float.Ieee.{div, of_int, to_bits, of_bits}
use Rattle.std.specs.Float.Ieee.Bits.{is_false}
use Rattle.std.proofs.Common.{refl, List, [], ◌∷◌, ◌+◌, ◌*◌, ◌/◌, ◌^◌, ap₂, mod-lt, lit<}
use Rattle.words.proofs.ComputedLaws.{below_at}
use Rattle.formats.specs.Lanes.{Channel, red, green, blue, alpha, luminance, depth, stencil, padding, Kind, unsigned, signed, float16, float32, ignored, Part, bits, packed}
use Rattle.formats.specs.Table.{parts_of}
use Rattle.channels.proofs.LuminanceLaws.{luminance_byte}
use Rattle.convert.specs.FaintNumbers.{faint}
use Rattle.convert.specs.Color.{unorm_of, byte_of}
use Rattle.convert.proofs.FaintNumbersLaws.{elsewhere}
use Rattle.convert.specs.LaneCodes.{lane_code}
use Rattle.convert.specs.Fill.{word_of}
use Rattle.convert.specs.Unmoved.{original_lane}

-- the pattern of channel/255 is none of the interval's: computed for each byte
abbrev apart_test : ℕ → Bool
apart_test v = not (faint (of_bits binary32 (to_bits binary32 (unorm_of v))))

pub channel_apart : (v : ℕ) → v < 256 → faint (of_bits binary32 (to_bits binary32 (unorm_of v))) ≡ false
unfolding div of_int to_bits of_bits
channel_apart v h = is_false (faint (of_bits binary32 (to_bits binary32 (unorm_of v)))) (below_at apart_test 256 tt v h)

lane_unmoved : (k : Kind) (n v : ℕ) → v < 256 → lane_code k n v ≡ original_lane k n v
lane_unmoved unsigned n v h = refl
lane_unmoved signed n v h = refl
lane_unmoved float16 n v h = elsewhere (to_bits binary32 (unorm_of v)) (channel_apart v h)
lane_unmoved float32 n v h = refl
lane_unmoved ignored n v h = refl

-- what a channel takes from a colour is a byte
byte_lt : (color : ℕ) (c : Channel) → byte_of color c < 256
byte_lt color red = mod-lt (color / 2 ^ 16) (lit< tt)
byte_lt color green = mod-lt (color / 2 ^ 8) (lit< tt)
byte_lt color blue = mod-lt (color / 2 ^ 0) (lit< tt)
byte_lt color alpha = mod-lt (color / 2 ^ 24) (lit< tt)
byte_lt color padding = mod-lt (color / 2 ^ 24) (lit< tt)
byte_lt color luminance =
    luminance_byte (byte_of color red) (byte_of color green) (byte_of color blue) (mod-lt (color / 2 ^ 16) (lit< tt)) (mod-lt (color / 2 ^ 8) (lit< tt)) (mod-lt (color / 2 ^ 0) (lit< tt))
byte_lt color depth = lit< tt
byte_lt color stencil = lit< tt

packed_same : (code other : Part → ℕ) → ((p : Part) → code p ≡ other p) → (ps : List Part) → packed code ps ≡ packed other ps
packed_same code other h [] = refl
packed_same code other h (p ∷ ps) = ap₂ (λ (x y : ℕ). x * 2 ^ bits ps + y) (h p) (packed_same code other h ps)

-- THE LAW: a fill's word holds what it would with the original's binary16 pattern in each such lane
pub fill_unmoved : (color f : ℕ) → word_of color f ≡ packed (λ p. original_lane p.kind p.width (byte_of color p.channel)) (parts_of f)
unfolding word_of
fill_unmoved color f =
    packed_same (λ p. lane_code p.kind p.width (byte_of color p.channel)) (λ p. original_lane p.kind p.width (byte_of color p.channel))
    (λ p. lane_unmoved p.kind p.width (byte_of color p.channel) (byte_lt color p.channel)) (parts_of f)
