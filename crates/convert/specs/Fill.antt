-- The bytes of a fill: a texel's word, whose parts hold each channel's code, as the lane table lists them.
-- Assumes nothing.
use Rattle.std.specs.Prelude.{◌≡◌, true, false, Option, Some, None, Result, Ok, Err, List, [], ◌∷◌, ◌++◌, ℕ, ◌*◌, ◌-◌, ◌^◌, ◌<◌, replicate}
use Rattle.words.specs.Little.{bytes}
use Rattle.words.specs.Tests.{pick}
use Rattle.formats.specs.Codes.{A8R8G8B8, X8R8G8B8, A8B8G8R8, X8B8G8R8, A2R10G10B10, A2B10G10R10, R5G6B5, A1R5G5B5, X1R5G5B5, A4R4G4B4, L8, A8, V8U8, Q8W8V8U8, V16U16, Q16W16V16U16, R32F, G32R32F, A32B32G32R32F, R16F, G16R16, A16B16G16R16, G16R16F, A16B16G16R16F}
use Rattle.formats.specs.Lanes.{packed}
use Rattle.formats.specs.Table.{parts_of, bytes_of}
use Rattle.formats.specs.Classes.{listed}
use Rattle.convert.specs.Color.{byte_of}
use Rattle.convert.specs.LaneCodes.{lane_code}
use Rattle.convert.specs.declared.pixel.FillPixel.{FillPixel}
use Rattle.convert.specs.declared.pixel.NoFill.{NoFill}

-- the texel of a colour in the format f, as a word
unfoldable pub word_of : (color f : ℕ) → ℕ
word_of color f = packed (λ p. lane_code p.kind p.width (byte_of color p.channel)) (parts_of f)

-- the formats that can be filled
abbrev pub fill_formats : List ℕ
fill_formats =
    A8R8G8B8 ∷ X8R8G8B8 ∷ A8B8G8R8 ∷ X8B8G8R8 ∷ A2R10G10B10 ∷ A2B10G10R10 ∷ R5G6B5 ∷ A1R5G5B5 ∷ X1R5G5B5 ∷ A4R4G4B4 ∷ L8 ∷ A8
    ∷ V8U8 ∷ Q8W8V8U8 ∷ V16U16 ∷ Q16W16V16U16 ∷ R32F ∷ G32R32F ∷ A32B32G32R32F ∷ R16F ∷ G16R16 ∷ A16B16G16R16 ∷ G16R16F ∷ A16B16G16R16F ∷ []

-- what a fill hands back: sixteen bytes, how many of them count, and the number of the reply
pub record Fill : Type 0 where
  pub bytes : List ℕ
  pub len : ℕ
  pub reply : ℕ

-- a word of n bytes, and zeros up to sixteen
abbrev pub filled : (n word : ℕ) → Fill
filled n word = record { bytes = bytes n word ++ replicate (16 - n) 0; len = n; reply = 0 }

-- refused: sixteen zeros, of which none counts
abbrev pub refused : Fill
refused = record { bytes = replicate 16 0; len = 0; reply = 5 }

-- THE FILL of a colour in the format f
unfoldable pub fill_of : (color f : ℕ) → Fill
fill_of color f = pick (listed f fill_formats) (filled (bytes_of f) (word_of color f)) refused

-- the pixel of it
abbrev pub pixel_of : Fill → FillPixel
pixel_of f = record { bytes = f.bytes; length = f.len }

-- what a format's word is found to be: the colour's, in the texel's bytes; none where the format cannot be filled
abbrev pub WordOf : (color f : ℕ) → Option ℕ → Type 0
WordOf color f (Some w) = (listed f fill_formats ≡ true) × (w ≡ word_of color f) × (w < 2 ^ (bytes_of f * 8))
WordOf color f None = listed f fill_formats ≡ false

-- what the reply hands back: a pixel's bytes and length, or what is refused
abbrev pub handed : Result FillPixel NoFill → Fill
handed (Ok p) = record { bytes = p.bytes; len = p.length; reply = 0 }
handed (Err _) = refused
