-- Where the samples of texel (x, y) stand in a planar frame: offsets from its first byte. Divisions round down.
-- Assumes nothing.
use Rattle.std.specs.Prelude.{Bool, ◌&&◌, ℕ, ◌+◌, ◌*◌, ◌/◌, ◌<◌, ltb, eqb}
use Rattle.words.specs.Tests.{pick}
use Rattle.formats.specs.Codes.{YV12}
use Rattle.planar_yuv.specs.Rules.{chroma_rows_of}

-- the luma plane is pitch columns by luma rows
abbrev pub contains : (pitch rows x y : ℕ) → Bool
contains pitch rows x y = ltb x pitch && ltb y rows

-- (x, y) is a texel of the luma plane
abbrev pub Inside : (pitch rows x y : ℕ) → Type 0
Inside pitch rows x y = (x < pitch) × (y < rows)

-- the first byte after the luma rows
abbrev pub chroma_base_of : (pitch rows : ℕ) → ℕ
chroma_base_of pitch rows = pitch * rows

-- luma is stored row by row
unfoldable pub luma_offset_at : (pitch x y : ℕ) → ℕ
luma_offset_at pitch x y = y * pitch + x

-- NV12 stores U and V in pairs, a row of them for two luma rows
unfoldable pub nv12_u : (pitch rows x y : ℕ) → ℕ
nv12_u pitch rows x y = chroma_base_of pitch rows + y / 2 * pitch + 2 * (x / 2)

-- V is the next byte
unfoldable pub nv12_v : (pitch rows x y : ℕ) → ℕ
nv12_v pitch rows x y = nv12_u pitch rows x y + 1

-- YV12 stores a plane of V, a row of half the pitch for two luma rows
unfoldable pub yv12_v : (pitch rows x y : ℕ) → ℕ
yv12_v pitch rows x y = chroma_base_of pitch rows + y / 2 * (pitch / 2) + x / 2

-- U follows later by the chroma rows of half the pitch
unfoldable pub yv12_u : (pitch rows x y : ℕ) → ℕ
yv12_u pitch rows x y = yv12_v pitch rows x y + chroma_rows_of rows * (pitch / 2)

-- the U sample of a planar format
unfoldable pub u_offset_at : (f pitch rows x y : ℕ) → ℕ
u_offset_at f = pick (eqb f YV12) yv12_u nv12_u

-- the V sample of a planar format
unfoldable pub v_offset_at : (f pitch rows x y : ℕ) → ℕ
v_offset_at f = pick (eqb f YV12) yv12_v nv12_v
