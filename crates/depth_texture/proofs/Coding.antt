-- A pixel decoded by one division, and encoded by one word, for any format and its largest code. Assumes nothing.
use Rattle.std.proofs.Common.{◌≡◌, refl, sym, ap, ap₂, ◌∙◌, List, ℕ, ◌*◌, pos, T, not, lit<, lit≤, subst, arith, is_nan, ◌<◌, take}
use Rattle.std.proofs.lemmas.List.Edits.{sets}
use Rattle.std.specs.Float.{binary32}
use Rattle.std.specs.Float.Ieee.{of_int, of_bits, div}
use Rattle.std.specs.Float.Ieee.Nearest.{closest}
use Rattle.words.specs.Little.{number, bytes}
use Rattle.formats.specs.Table.{bytes_of}
use Rattle.channels.specs.Fractions.{Fraction}
use Rattle.channels.specs.Floats.{clamped}
use Rattle.depth_texture.specs.declared.pixels.DepthStencil.{DepthStencil}
use Rattle.depth_texture.specs.Depth.{code_for}
use Rattle.depth_texture.proofs.Restoration.{depth_no_nan}
use Rattle.depth_texture.specs.Pixels.{max_code, depth_code, stencil_code, decoded, pixel_word, encoded}
use Rattle.depth_texture.specs.PixelBytes.{word_at}

-- the divisors as the source writes them
pub literal_16 : of_bits binary32 0x477f_ff00 ≡ of_int binary32 (pos 65535)
unfolding of_bits of_int
literal_16 = refl

pub literal_24 : of_bits binary32 0x4b7f_ffff ≡ of_int binary32 (pos 16777215)
unfolding of_bits of_int
literal_24 = refl

-- the word that was read
pub word_read : (f n : ℕ) (pixel : List ℕ) (r : ℕ) → bytes_of f ≡ n → r ≡ number (take n pixel) → word_at f pixel 0 ≡ r
unfolding word_at
word_read f n pixel r e h = ap (λ m. number (take m pixel)) e ∙ sym h

pub decodes : (f max literal w k s : ℕ) → of_bits binary32 literal ≡ of_int binary32 (pos max) → max_code f ≡ max → depth_code f w ≡ k → stencil_code f w ≡ s
    → ◌≡◌ {A = DepthStencil} (record { depth = div binary32 (of_int binary32 (pos k)) (of_bits binary32 literal); stencil = s }) (decoded f w)
unfolding decoded
decodes f max literal w k s l m d t = rw (l, m, d, t) refl

-- what a buffer holds after the word of a code and a stencil was put at its front
pub encodes : (f max n : ℕ) (v : DepthStencil) (c : ℕ) (l : List ℕ) {word : ℕ} {after : List ℕ} → after ≡ sets l 0 (bytes n word) → bytes_of f ≡ n → max_code f ≡ max → c ≡ code_for max v.depth
    → pixel_word f c v.stencil ≡ word → after ≡ sets l 0 (encoded f v)
unfolding encoded
encodes f max n v c l put b m e w =
    put
    ∙ ap (sets l 0)
    (ap₂ bytes (sym b) (sym w) ∙ ap (λ k. bytes (bytes_of f) (pixel_word f k v.stencil)) (e ∙ ap (λ x. code_for x v.depth) (sym m)))

-- what is packed depends on the clamped depth alone
pub encoded_same : (f : ℕ) (v w : DepthStencil) → clamped v.depth ≡ clamped w.depth → v.stencil ≡ w.stencil → encoded f v ≡ encoded f w
unfolding encoded code_for
encoded_same f v w e h = ap₂ (λ (q : Fraction) (t : ℕ). bytes (bytes_of f) (pixel_word f (closest (q.top * max_code f) q.bottom) t)) e h

-- what is decoded is a number
pub number_16 : (k : ℕ) → k < 65536 → T (not (is_nan (div binary32 (of_int binary32 (pos k)) (of_bits binary32 0x477f_ff00))))
number_16 k h = subst (λ m. T (not (is_nan (div binary32 (of_int binary32 (pos k)) m)))) (sym literal_16) (depth_no_nan 65535 k (lit< tt) (omega arith) (lit≤ tt))

pub number_24 : (k : ℕ) → k < 16777216 → T (not (is_nan (div binary32 (of_int binary32 (pos k)) (of_bits binary32 0x4b7f_ffff))))
number_24 k h = subst (λ m. T (not (is_nan (div binary32 (of_int binary32 (pos k)) m)))) (sym literal_24) (depth_no_nan 16777215 k (lit< tt) (omega arith) (lit≤ tt))
