-- Which bytes are a texel's luma, U and V, and the colour that they stand for by a set of numbers.
-- Assumes nothing.
use Rattle.std.specs.Prelude.{Bool, List, ℕ, ◌<◌, eqb, length, get_or}
use Rattle.words.specs.Tests.{pick}
use Rattle.formats.specs.Codes.{YUY2}
use Rattle.planar_yuv.specs.Offsets.{luma_offset_at, u_offset_at, v_offset_at}
use Rattle.planar_yuv.specs.Answers.{TexelOf}
use Rattle.planar_yuv.specs.declared.PlanarYuvLayout.{PlanarYuvLayout}
use Rattle.stretch_rect.specs.declared.Rgb.{Rgb}
use Rattle.stretch_rect.specs.declared.sets.YuvSet.{YuvSet}
use Rattle.stretch_rect.specs.Yuv.{rgb_of}

-- ---- a macropixel is Y U Y V in YUY2 and U Y V Y in UYVY
-- the first Y is the luma of the even column, and the second that of the odd one
abbrev pub luma_place : (f : ℕ) (odd : Bool) → ℕ
luma_place f odd = pick (eqb f YUY2) (pick odd 2 0) (pick odd 3 1)

-- both columns share U
abbrev pub u_place : ℕ → ℕ
u_place f = pick (eqb f YUY2) 1 0

-- both columns share V
abbrev pub v_place : ℕ → ℕ
v_place f = pick (eqb f YUY2) 3 2

-- the colour of a texel of a packed macropixel
unfoldable pub packed_rgb : YuvSet → (f : ℕ) (macropixel : List ℕ) (odd : Bool) → Rgb
packed_rgb s f macropixel odd = rgb_of s (get_or macropixel (luma_place f odd) 0) (get_or macropixel (u_place f) 0) (get_or macropixel (v_place f) 0)

-- the colour of texel (x, y) of a planar frame
unfoldable pub planar_rgb : YuvSet → (f : ℕ) (frame : List ℕ) (pitch rows x y : ℕ) → Rgb
planar_rgb s f frame pitch rows x y = rgb_of s (get_or frame (luma_offset_at pitch x y) 0) (get_or frame (u_offset_at f pitch rows x y) 0) (get_or frame (v_offset_at f pitch rows x y) 0)

-- the frame has the three bytes of texel (x, y)
pub record Readable (f : ℕ) (frame : List ℕ) (l : PlanarYuvLayout) (x y : ℕ) : Type 0 where
  pub texel : TexelOf l x y
  pub luma_read : luma_offset_at l.pitch x y < length frame
  pub u_read : u_offset_at f l.pitch l.luma_rows x y < length frame
  pub v_read : v_offset_at f l.pitch l.luma_rows x y < length frame
