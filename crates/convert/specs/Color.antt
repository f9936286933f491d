-- A D3DCOLOR, hexadecimal AARRGGBB, and what a channel of a texel takes from it.
-- Assumes nothing.
use Rattle.std.specs.Prelude.{◌≡◌, List, [], ◌∷◌, ℕ, pos, Float}
use Rattle.std.specs.Float.{binary32}
use Rattle.std.specs.Float.Ieee.{div, of_int}
use Rattle.formats.specs.Lanes.{Channel, red, green, blue, alpha, luminance, depth, stencil, padding, code_at}
use Rattle.channels.specs.Luminance.{luminance_of}

-- the byte that a channel takes from a colour: its own, its luminance, and for an X the colour's own alpha; depth and stencil take none
abbrev pub byte_of : (color : ℕ) → Channel → ℕ
byte_of color alpha = code_at 24 8 color
byte_of color red = code_at 16 8 color
byte_of color green = code_at 8 8 color
byte_of color blue = code_at 0 8 color
byte_of color padding = code_at 24 8 color
byte_of color luminance = luminance_of (code_at 16 8 color) (code_at 8 8 color) (code_at 0 8 color)
byte_of color depth = 0
byte_of color stencil = 0

-- the four bytes of a colour
pub record Channels (color r g b a : ℕ) : Type 0 where
  pub red : r ≡ byte_of color red
  pub green : g ≡ byte_of color green
  pub blue : b ≡ byte_of color blue
  pub alpha : a ≡ byte_of color alpha

-- a byte as a binary32 number: one division of a whole number by 255
abbrev pub unorm_of : ℕ → Float
unorm_of v = div binary32 (of_int binary32 (pos v)) (of_int binary32 (pos 255))

-- red, green, blue and alpha of a colour as such numbers
abbrev pub rgba_of : (color : ℕ) → List Float
rgba_of color = unorm_of (byte_of color red) ∷ unorm_of (byte_of color green) ∷ unorm_of (byte_of color blue) ∷ unorm_of (byte_of color alpha) ∷ []
