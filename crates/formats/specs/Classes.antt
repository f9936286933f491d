-- Classes of formats, and the pitch of a row of one-byte texels.
-- Assumes nothing.
use Rattle.std.specs.Prelude.{Bool, true, false, ◌||◌, List, [], ◌∷◌, ℕ, eqb}
use Rattle.words.specs.Multiples.{raised}
use Rattle.formats.specs.Codes.{R8G8B8, A8R8G8B8, X8R8G8B8, R5G6B5, X1R5G5B5, A1R5G5B5, A4R4G4B4, A8, A2B10G10R10, A8B8G8R8, X8B8G8R8, G16R16, A2R10G10B10, A16B16G16R16, L8, A8L8, V8U8, Q8W8V8U8, L16, A32B32G32R32F, YUY2, UYVY, YV12, NV12}

-- f is one of a list of codes
abbrev pub listed : ℕ → List ℕ → Bool
listed f [] = false
listed f (g ∷ gs) = elim (eqb f g) [ true ↦ true | false ↦ listed f gs ]

-- the twelve RGB formats, whose channels are unsigned and at most eight bits wide
abbrev pub rgb_formats : List ℕ
rgb_formats = R8G8B8 ∷ A8R8G8B8 ∷ X8R8G8B8 ∷ R5G6B5 ∷ X1R5G5B5 ∷ A1R5G5B5 ∷ A4R4G4B4 ∷ A8 ∷ A8B8G8R8 ∷ X8B8G8R8 ∷ L8 ∷ A8L8 ∷ []

unfoldable pub is_convertible_rgb : ℕ → Bool
is_convertible_rgb f = listed f rgb_formats

-- two texels in a macropixel of four bytes
unfoldable pub is_packed_yuv : ℕ → Bool
is_packed_yuv f = listed f (YUY2 ∷ UYVY ∷ [])

-- a plane of luma, then chroma at half the resolution both ways
unfoldable pub is_planar_yuv : ℕ → Bool
is_planar_yuv f = listed f (NV12 ∷ YV12 ∷ [])

-- the YUV formats
abbrev pub is_yuv : ℕ → Bool
is_yuv f = is_packed_yuv f || is_planar_yuv f

-- the sources of A8R8G8B8 alone whose channels are whole numbers: of 16 bits, of ten and two, and of eight with a sign
abbrev pub code_sources : List ℕ
code_sources = A16B16G16R16 ∷ A2R10G10B10 ∷ A2B10G10R10 ∷ G16R16 ∷ L16 ∷ V8U8 ∷ Q8W8V8U8 ∷ []

unfoldable pub is_code_source : ℕ → Bool
is_code_source f = listed f code_sources

-- the sources of A8R8G8B8 alone: these, and four channels of binary32
abbrev pub argb_sources : List ℕ
argb_sources = A32B32G32R32F ∷ code_sources

unfoldable pub is_argb_source : ℕ → Bool
is_argb_source f = listed f argb_sources

-- the sources whose texels are words with lanes: the RGB formats, and those of A8R8G8B8 alone
unfoldable pub is_lane_source : ℕ → Bool
is_lane_source f = is_convertible_rgb f || is_argb_source f

-- the width raised to a multiple of 4: the pitch of a row of texels of one byte
unfoldable pub linear_row_pitch : ℕ → ℕ
linear_row_pitch width = raised width 4

-- the largest width and height of a texture
abbrev pub max_texture_dim : ℕ
max_texture_dim = 16384
