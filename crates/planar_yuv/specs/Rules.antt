-- Which planar 4:2:0 YUV frames have a layout, by their format, pitch and luma rows.
-- Assumes nothing.
use Rattle.std.specs.Prelude.{◌≡◌, Bool, true, ◌&&◌, ℕ, ◌+◌, ◌*◌, ◌/◌, ◌%◌, ◌≤◌, leb, eqb}
use Rattle.words.specs.Tests.{pick}
use Rattle.formats.specs.Codes.{YV12}
use Rattle.formats.specs.Classes.{is_planar_yuv, max_texture_dim}

-- half the luma rows, rounded up
abbrev pub chroma_rows_of : ℕ → ℕ
chroma_rows_of rows = (rows + 1) / 2

-- all planes together: luma rows and chroma rows of pitch bytes each
abbrev pub total_bytes_of : (pitch rows : ℕ) → ℕ
total_bytes_of pitch rows = pitch * (rows + chroma_rows_of rows)

-- the luma rows of a YV12 frame are even
abbrev pub even_rows : (f rows : ℕ) → Bool
even_rows f rows = pick (eqb f YV12) (eqb (rows % 2) 0) true

-- one of the two formats, pitch and luma rows each 1 to 16384, an even pitch, even rows for YV12, luma and chroma rows together at most 16384
unfoldable pub allowed : (f pitch rows : ℕ) → Bool
allowed f pitch rows =
    is_planar_yuv f && (leb 1 pitch && (leb pitch max_texture_dim && (eqb (pitch % 2) 0
    && (leb 1 rows && (leb rows max_texture_dim && (even_rows f rows && leb (rows + chroma_rows_of rows) max_texture_dim))))))

-- the same rules, one by one
pub record Allowed (f pitch rows : ℕ) : Type 0 where
  pub planar : is_planar_yuv f ≡ true
  pub pitch_some : 1 ≤ pitch
  pub pitch_most : pitch ≤ max_texture_dim
  pub pitch_even : pitch % 2 ≡ 0
  pub rows_some : 1 ≤ rows
  pub rows_most : rows ≤ max_texture_dim
  pub rows_even : f ≡ YV12 → rows % 2 ≡ 0
  pub together : rows + chroma_rows_of rows ≤ max_texture_dim
