-- What a texel's word decodes to, what word a texel encodes to, and the exact values of its channels: all of it from the lane table.
-- Assumes nothing.
use Rattle.std.specs.Prelude.{Bool, true, false, List, ℕ, ◌+◌, ◌*◌, ◌-◌, ◌^◌, leb, eqb}
use Rattle.std.specs.Float.{binary32}
use Rattle.std.specs.Float.Ieee.{of_bits}
use Rattle.words.specs.Little.{bytes}
use Rattle.words.specs.Tests.{pick}
use Rattle.formats.specs.Codes.{A8}
use Rattle.formats.specs.Lanes.{Channel, red, green, blue, alpha, luminance, depth, stencil, padding, unsigned, signed, float16, float32, ignored, Part, Lane, nowhere, at, code_at, packed}
use Rattle.formats.specs.Table.{parts_of, lane_of, bytes_of}
use Rattle.channels.specs.Fractions.{Fraction, ◌over◌, mean, Near}
use Rattle.channels.specs.Expansion.{expanded, truncated}
use Rattle.channels.specs.Nearest.{rounded}
use Rattle.channels.specs.Luminance.{luminance_of}
use Rattle.channels.specs.Exact.{code_value, signed_value, float_value}
use Rattle.texels.specs.declared.Texel.{Texel}

-- ---- decoding
-- the byte nearest to an exact value, a half up
abbrev pub nearest_byte : Fraction → ℕ
nearest_byte x = rounded x.top x.bottom

-- the byte of an unsigned code of n bits: up to eight bits are repeated (two bits: 85 k), more go to the nearest byte
abbrev pub code_byte : (n k : ℕ) → ℕ
code_byte n k = pick (leb n 8) (expanded n k) (nearest_byte (code_value n k))

-- the byte of a lane; `missing` where there is none, or none of a kind that is converted
abbrev pub lane_byte : (missing : ℕ) → Lane → (word : ℕ) → ℕ
lane_byte missing nowhere w = missing
lane_byte missing (at low n unsigned) w = code_byte n (code_at low n w)
lane_byte missing (at low n signed) w = nearest_byte (signed_value n (code_at low n w))
lane_byte missing (at low n float32) w = nearest_byte (float_value (of_bits binary32 (code_at low n w)))
lane_byte missing (at low n float16) w = missing
lane_byte missing (at low n ignored) w = missing

abbrev pub or_else : Lane → Lane → Lane
or_else nowhere m = m
or_else (at low n k) m = at low n k

-- the lane of a colour, for which luminance stands in
unfoldable pub colour_of : ℕ → Channel → Lane
colour_of f c = or_else (lane_of f c) (lane_of f luminance)

-- the byte of a colour that a format lacks: A8 is black, and in any other format it is full
unfoldable pub missing_colour : ℕ → ℕ
missing_colour f = pick (eqb f A8) 0 255

-- the texel of a word; a missing alpha is 255
unfoldable pub decoded_of : (format word : ℕ) → Texel
decoded_of f w = record {
  r = lane_byte (missing_colour f) (colour_of f red) w;
  g = lane_byte (missing_colour f) (colour_of f green) w;
  b = lane_byte (missing_colour f) (colour_of f blue) w;
  a = lane_byte 255 (lane_of f alpha) w;
}

-- the texel of a word of alpha and three colours, by their widths: that of the lane table, where a format has these
unfoldable pub argb_of : (alpha colour word : ℕ) → Texel
argb_of n k w = record {
  r = expanded k (code_at (2 * k) k w);
  g = expanded k (code_at k k w);
  b = expanded k (code_at 0 k w);
  a = expanded n (code_at (3 * k) n w);
}

-- ---- encoding
-- the byte that a texel has for a channel
abbrev pub byte_of : Texel → Channel → ℕ
byte_of t red = t.r
byte_of t green = t.g
byte_of t blue = t.b
byte_of t alpha = t.a
byte_of t luminance = luminance_of t.r t.g t.b
byte_of t depth = 0
byte_of t stencil = 0
byte_of t padding = 255

-- each part takes the top bits of its channel's byte, and X is all ones
abbrev pub code_of : Texel → Part → ℕ
code_of t p = truncated p.width (byte_of t p.channel)

-- the word of a texel
unfoldable pub encoded_of : (format : ℕ) → Texel → ℕ
encoded_of f t = packed (code_of t) (parts_of f)

-- its bytes
unfoldable pub encoded_bytes : (format : ℕ) → Texel → List ℕ
encoded_bytes f t = bytes (bytes_of f) (encoded_of f t)

-- ---- exact values, in 255ths of full scale
-- the exact value of a lane; a channel that is not stored counts as the number that it decodes to
abbrev pub lane_value : (missing : ℕ) → Lane → (word : ℕ) → Fraction
lane_value missing nowhere w = missing over 1
lane_value missing (at low n unsigned) w = code_value n (code_at low n w)
lane_value missing (at low n signed) w = signed_value n (code_at low n w)
lane_value missing (at low n float32) w = float_value (of_bits binary32 (code_at low n w))
lane_value missing (at low n float16) w = missing over 1
lane_value missing (at low n ignored) w = missing over 1

-- the exact values of a source texel's four channels, whatever kind of source it is
pub record Values : Type 0 where
  pub r : Fraction
  pub g : Fraction
  pub b : Fraction
  pub a : Fraction

-- the value that a channel is held against: luminance against the weighted mean of the colours
abbrev pub value_of : Values → Channel → Fraction
value_of x red = x.r
value_of x green = x.g
value_of x blue = x.b
value_of x alpha = x.a
value_of x luminance = mean x.r x.g x.b
value_of x depth = 0 over 1
value_of x stencil = 0 over 1
value_of x padding = 0 over 1

-- the exact values of a word; a luminance code is red, green and blue alike
unfoldable pub exact_of : (format word : ℕ) → Values
exact_of f w = record {
  r = lane_value (missing_colour f) (colour_of f red) w;
  g = lane_value (missing_colour f) (colour_of f green) w;
  b = lane_value (missing_colour f) (colour_of f blue) w;
  a = lane_value 255 (lane_of f alpha) w;
}

-- ---- how far a stored number may lie from its exact value, in quarters: four times the step, and 3
-- the step of a channel of n bits, 2^(8-n) - 1 (0, 3, 7, 15, 127 for 8, 6, 5, 4, 1), and 1/2 more for luminance
abbrev pub quarters : Channel → (n : ℕ) → ℕ
quarters luminance n = 4 * (2 ^ (8 - n) - 1) + 5
quarters red n = 4 * (2 ^ (8 - n) - 1) + 3
quarters green n = 4 * (2 ^ (8 - n) - 1) + 3
quarters blue n = 4 * (2 ^ (8 - n) - 1) + 3
quarters alpha n = 4 * (2 ^ (8 - n) - 1) + 3
quarters depth n = 0
quarters stencil n = 0
quarters padding n = 0

-- the channels that have a meaning in a colour format: X has none, and no bound
abbrev pub is_colour : Channel → Bool
is_colour red = true
is_colour green = true
is_colour blue = true
is_colour alpha = true
is_colour luminance = true
is_colour depth = false
is_colour stencil = false
is_colour padding = false

-- the number that a word holds in a lane lies near x; a channel that is not stored has no bound
abbrev pub Holds : Channel → Lane → (word : ℕ) → Fraction → Type 0
Holds c nowhere w x = Unit {0}
Holds c (at low n k) w x = Near (quarters c n) (code_value n (code_at low n w)) x
