-- The words of two texels that share their chroma, by the lines of a set. Assumes nothing.
use Rattle.std.specs.Prelude.{ℕ, neg_ℤ}
use Rattle.formats.specs.Codes.{A8R8G8B8}
use Rattle.texels.specs.Texels.{encoded_of}
use Rattle.stretch_rect.specs.declared.sets.YuvSet.{YuvSet}
use Rattle.stretch_rect.specs.declared.Rgb.{Rgb}
use Rattle.stretch_rect.specs.Parts.{joined}
use Rattle.stretch_rect.specs.Lines.{luma_base_of, chroma_base_of, on_line}
use Rattle.regions.specs.Regions.{opaque_of}
use Rattle.pixel_convert.specs.declared.lines.Line.{Line}
use Rattle.pixel_convert.specs.declared.lines.Lines.{Lines}
use Rattle.pixel_convert.specs.declared.lines.Samples.{Samples}
use Rattle.pixel_convert.specs.declared.lines.Pair.{Pair}

-- the line of luma
abbrev pub luma_of : (offset gain : ℕ) → Line
luma_of o g = record { gain = g; base = luma_base_of o g }

-- that of chroma by one gain
abbrev pub chroma_of : (centre gain : ℕ) → Line
chroma_of n g = record { gain = g; base = chroma_base_of n g }

-- the lines of a set
unfoldable pub lines_of : YuvSet → Lines
lines_of s = record {
  luma = luma_of s.luma_offset s.luma_gain;
  v_red = chroma_of s.chroma_centre s.v_to_red;
  u_green = chroma_of s.chroma_centre s.u_to_green;
  v_green = chroma_of s.chroma_centre s.v_to_green;
  u_blue = chroma_of s.chroma_centre s.u_to_blue;
}

-- the colour of a sample whose parts lie on lines; those of green are taken away
unfoldable pub rgb_on : Lines → (y u v : ℕ) → Rgb
rgb_on l y u v =
    joined (on_line l.luma.gain l.luma.base y) (on_line l.v_red.gain l.v_red.base v)
    (neg_ℤ (on_line l.u_green.gain l.u_green.base u)) (neg_ℤ (on_line l.v_green.gain l.v_green.base v)) (on_line l.u_blue.gain l.u_blue.base u)

-- the A8R8G8B8 word of a colour
abbrev pub opaque_word : Rgb → ℕ
opaque_word p = encoded_of A8R8G8B8 (opaque_of p)

-- the words of two texels, of a luma each and the same U and V
unfoldable pub pair_on : Lines → Samples → Pair
pair_on l s = record { first = opaque_word (rgb_on l s.first s.u s.v); second = opaque_word (rgb_on l s.second s.u s.v) }
