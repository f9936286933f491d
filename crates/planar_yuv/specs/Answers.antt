-- What a call for a layout answers: its number and the layout's four values.
-- Assumes nothing.
use Rattle.std.specs.Prelude.{◌≡◌, ◌&&◌, ℕ, ◌≤◌, ◌<◌, leb, Result, Ok, Err}
use Rattle.words.specs.Tests.{pick}
use Rattle.formats.specs.Codes.{NV12}
use Rattle.formats.specs.Classes.{linear_row_pitch, max_texture_dim}
use Rattle.planar_yuv.specs.declared.PlanarYuvLayout.{PlanarYuvLayout}
use Rattle.planar_yuv.specs.declared.NoPlanarLayout.{NoPlanarLayout}
use Rattle.planar_yuv.specs.Rules.{chroma_rows_of, total_bytes_of, allowed, Allowed}
use Rattle.planar_yuv.specs.Offsets.{u_offset_at, v_offset_at}
use Rattle.planar_yuv.specs.Apart.{Planes}

-- the number and the four values handed back
pub record Reply : Type 0 where
  pub number : ℕ
  pub pitch : ℕ
  pub luma_rows : ℕ
  pub chroma_rows : ℕ
  pub total_bytes : ℕ

-- 14 and zeros
abbrev pub refusal : Reply
refusal = record { number = 14; pitch = 0; luma_rows = 0; chroma_rows = 0; total_bytes = 0 }

-- what each answer says in numbers
abbrev pub reply_of : Result PlanarYuvLayout NoPlanarLayout → Reply
reply_of (Ok l) = record { number = 0; pitch = l.pitch; luma_rows = l.luma_rows; chroma_rows = l.chroma_rows; total_bytes = l.total_bytes }
reply_of (Err _) = refusal

-- the layout that four values are
abbrev pub layout_of : Reply → PlanarYuvLayout
layout_of r = record { pitch = r.pitch; luma_rows = r.luma_rows; chroma_rows = r.chroma_rows; total_bytes = r.total_bytes }

-- 0 and the layout of a pitch and luma rows
abbrev pub layout_reply : (pitch rows : ℕ) → Reply
layout_reply pitch rows = record { number = 0; pitch = pitch; luma_rows = rows; chroma_rows = chroma_rows_of rows; total_bytes = total_bytes_of pitch rows }

-- the reply to a format, a pitch and luma rows
unfoldable pub from_pitch : (f pitch rows : ℕ) → Reply
from_pitch f pitch rows = pick (allowed f pitch rows) (layout_reply pitch rows) refusal

-- the reply to a format, a width of 1 to 16384 and a height
unfoldable pub from_width : (f width height : ℕ) → Reply
from_width f width height = pick (leb 1 width && leb width max_texture_dim) (from_pitch f (linear_row_pitch width) height) refusal

-- a layout whose numbers keep the rules; NV12's are those that both formats share
pub record Legal (l : PlanarYuvLayout) : Type 0 where
  pub rules : Allowed NV12 l.pitch l.luma_rows
  pub chroma : l.chroma_rows ≡ chroma_rows_of l.luma_rows
  pub total : l.total_bytes ≡ total_bytes_of l.pitch l.luma_rows

-- (x, y) is a texel of a legal layout
pub record TexelOf (l : PlanarYuvLayout) (x y : ℕ) : Type 0 where
  pub legal : Legal l
  pub column : x < l.pitch
  pub row : y < l.luma_rows

-- a layout's luma, U and V planes keep apart
abbrev pub PlanesApart : (f : ℕ) → PlanarYuvLayout → Type 0
PlanesApart f l = Planes l.pitch l.luma_rows (u_offset_at f l.pitch l.luma_rows) (v_offset_at f l.pitch l.luma_rows)

-- the planes of the layout that an answer holds
abbrev pub PlanesOf : (f : ℕ) → Result PlanarYuvLayout NoPlanarLayout → Type 0
PlanesOf f (Ok l) = PlanesApart f l
PlanesOf f (Err _) = Unit {0}

-- a layout's rows hold width texels
abbrev pub RowsHold : (width : ℕ) → Result PlanarYuvLayout NoPlanarLayout → Type 0
RowsHold width (Ok l) = width ≤ l.pitch
RowsHold width (Err _) = Unit {0}
