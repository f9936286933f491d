-- A colour is three channels, each rounded to the nearest whole number and clamped to a byte. Assumes nothing.
use Rattle.std.proofs.Common.{◌≡◌, ap, ◌∙◌, ℕ, ℤ}
use Rattle.words.specs.Integers.{clamp_to}
use Rattle.stretch_rect.specs.declared.Rgb.{Rgb}
use Rattle.stretch_rect.specs.Yuv.{nearest_whole}

-- the byte of a channel
abbrev pub byte_of : ℤ → ℕ
byte_of z = clamp_to 255 (nearest_whole z)

pub rgb_bytes : {p : Rgb} {r g b r' g' b' : ℤ} → p.r ≡ byte_of r → p.g ≡ byte_of g → p.b ≡ byte_of b → r ≡ r' → g ≡ g' → b ≡ b'
    → p ≡ record { r = byte_of r'; g = byte_of g'; b = byte_of b' }
rgb_bytes red green blue e f h = λ i. record { r = (red ∙ ap byte_of e) i; g = (green ∙ ap byte_of f) i; b = (blue ∙ ap byte_of h) i }
