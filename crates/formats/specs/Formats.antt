-- The types of formats, and the codes that they have.
-- Assumes nothing.
use Rattle.std.specs.Prelude.{◌≡◌, Bool, false, ◌||◌, ℕ, Option, Some, None}
use Rattle.formats.specs.Classes.{is_lane_source, is_yuv}
use Rattle.formats.specs.declared.RgbFormat.{RgbFormat}
use Rattle.formats.specs.declared.RgbFormat.TheVariants.{R8G8B8, A8R8G8B8, X8R8G8B8, R5G6B5, X1R5G5B5, A1R5G5B5, A4R4G4B4, A8, A8B8G8R8, X8B8G8R8, L8, A8L8}
use Rattle.formats.specs.declared.CodeSource.{CodeSource}
use Rattle.formats.specs.declared.CodeSource.TheVariants.{A16B16G16R16, A2R10G10B10, A2B10G10R10, G16R16, L16, V8U8, Q8W8V8U8}
use Rattle.formats.specs.declared.LaneSource.{LaneSource}
use Rattle.formats.specs.declared.LaneSource.TheVariants.{Rgb, Codes, Floats}
use Rattle.formats.specs.declared.PackedYuv.{PackedYuv}
use Rattle.formats.specs.declared.PackedYuv.TheVariants.{YUY2, UYVY}
use Rattle.formats.specs.declared.PlanarYuv.{PlanarYuv}
use Rattle.formats.specs.declared.PlanarYuv.TheVariants.{YV12, NV12}
use Rattle.formats.specs.declared.YuvFormat.{YuvFormat}
use Rattle.formats.specs.declared.YuvFormat.TheVariants.{Packed, Planar}
use Rattle.formats.specs.declared.SourceFormat.{SourceFormat}
use Rattle.formats.specs.declared.SourceFormat.TheVariants.{Lanes, Yuv}
use Rattle.formats.specs.Codes as codes

-- ---- codes
-- the code of an RGB format
abbrev pub rgb_code : RgbFormat → ℕ
rgb_code R8G8B8 = codes.R8G8B8
rgb_code A8R8G8B8 = codes.A8R8G8B8
rgb_code X8R8G8B8 = codes.X8R8G8B8
rgb_code R5G6B5 = codes.R5G6B5
rgb_code X1R5G5B5 = codes.X1R5G5B5
rgb_code A1R5G5B5 = codes.A1R5G5B5
rgb_code A4R4G4B4 = codes.A4R4G4B4
rgb_code A8 = codes.A8
rgb_code A8B8G8R8 = codes.A8B8G8R8
rgb_code X8B8G8R8 = codes.X8B8G8R8
rgb_code L8 = codes.L8
rgb_code A8L8 = codes.A8L8

-- the code of a source of whole numbers
abbrev pub code_source_code : CodeSource → ℕ
code_source_code A16B16G16R16 = codes.A16B16G16R16
code_source_code A2R10G10B10 = codes.A2R10G10B10
code_source_code A2B10G10R10 = codes.A2B10G10R10
code_source_code G16R16 = codes.G16R16
code_source_code L16 = codes.L16
code_source_code V8U8 = codes.V8U8
code_source_code Q8W8V8U8 = codes.Q8W8V8U8

-- the code of a source with lanes
abbrev pub lane_source_code : LaneSource → ℕ
lane_source_code (Rgb f) = rgb_code f
lane_source_code (Codes f) = code_source_code f
lane_source_code Floats = codes.A32B32G32R32F

-- the code of a packed YUV format
abbrev pub packed_yuv_code : PackedYuv → ℕ
packed_yuv_code YUY2 = codes.YUY2
packed_yuv_code UYVY = codes.UYVY

-- the code of a planar YUV format
abbrev pub planar_yuv_code : PlanarYuv → ℕ
planar_yuv_code YV12 = codes.YV12
planar_yuv_code NV12 = codes.NV12

-- the code of a YUV format
abbrev pub yuv_code : YuvFormat → ℕ
yuv_code (Packed f) = packed_yuv_code f
yuv_code (Planar f) = planar_yuv_code f

-- the code of a source
abbrev pub source_code : SourceFormat → ℕ
source_code (Lanes f) = lane_source_code f
source_code (Yuv f) = yuv_code f

-- ---- what a code was found to be
-- a code is that of the format that was found for it; where none was, it is of no such class
abbrev pub Found : {F : Type 0} (code : F → ℕ) (class : ℕ → Bool) → ℕ → Option F → Type 0
Found code class c (Some f) = code f ≡ c
Found code class c None = class c ≡ false

-- a source with lanes, or YUV
abbrev pub is_source : ℕ → Bool
is_source c = is_lane_source c || is_yuv c
