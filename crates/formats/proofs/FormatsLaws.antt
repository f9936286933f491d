-- Laws on what specs/Formats defines. Assumes nothing.
use Rattle.std.specs.Prelude.{◌≡◌, refl, true, false}
use Rattle.formats.specs.Classes.{is_convertible_rgb, is_code_source, is_argb_source, is_lane_source, is_packed_yuv, is_planar_yuv}
use Rattle.formats.specs.declared.RgbFormat.{RgbFormat}
use Rattle.formats.specs.declared.RgbFormat.TheVariants.{R8G8B8, A8R8G8B8, X8R8G8B8, R5G6B5, X1R5G5B5, A1R5G5B5, A4R4G4B4, A8, A8B8G8R8, X8B8G8R8, L8, A8L8}
use Rattle.formats.specs.declared.CodeSource.{CodeSource}
use Rattle.formats.specs.declared.CodeSource.TheVariants.{A16B16G16R16, A2R10G10B10, A2B10G10R10, G16R16, L16, V8U8, Q8W8V8U8}
use Rattle.formats.specs.declared.LaneSource.{LaneSource}
use Rattle.formats.specs.declared.LaneSource.TheVariants.{Rgb, Codes, Floats}
use Rattle.formats.specs.declared.PackedYuv.{PackedYuv}
use Rattle.formats.specs.declared.PackedYuv.TheVariants.{YUY2, UYVY}
use Rattle.formats.specs.declared.PlanarYuv.{PlanarYuv}
use Rattle.formats.specs.declared.PlanarYuv.TheVariants.{YV12, NV12}
use Rattle.formats.specs.Formats.{rgb_code, code_source_code, lane_source_code, packed_yuv_code, planar_yuv_code}

-- ---- each type's codes are of its class
pub rgb_is : (f : RgbFormat) → is_convertible_rgb (rgb_code f) ≡ true
unfolding is_convertible_rgb
rgb_is R8G8B8 = refl
rgb_is A8R8G8B8 = refl
rgb_is X8R8G8B8 = refl
rgb_is R5G6B5 = refl
rgb_is X1R5G5B5 = refl
rgb_is A1R5G5B5 = refl
rgb_is A4R4G4B4 = refl
rgb_is A8 = refl
rgb_is A8B8G8R8 = refl
rgb_is X8B8G8R8 = refl
rgb_is L8 = refl
rgb_is A8L8 = refl

pub code_source_is : (f : CodeSource) → is_code_source (code_source_code f) ≡ true
unfolding is_code_source
code_source_is A16B16G16R16 = refl
code_source_is A2R10G10B10 = refl
code_source_is A2B10G10R10 = refl
code_source_is G16R16 = refl
code_source_is L16 = refl
code_source_is V8U8 = refl
code_source_is Q8W8V8U8 = refl

rgb_lane : (f : RgbFormat) → is_lane_source (rgb_code f) ≡ true
unfolding is_lane_source is_argb_source is_convertible_rgb
rgb_lane R8G8B8 = refl
rgb_lane A8R8G8B8 = refl
rgb_lane X8R8G8B8 = refl
rgb_lane R5G6B5 = refl
rgb_lane X1R5G5B5 = refl
rgb_lane A1R5G5B5 = refl
rgb_lane A4R4G4B4 = refl
rgb_lane A8 = refl
rgb_lane A8B8G8R8 = refl
rgb_lane X8B8G8R8 = refl
rgb_lane L8 = refl
rgb_lane A8L8 = refl

code_lane : (f : CodeSource) → is_lane_source (code_source_code f) ≡ true
unfolding is_lane_source is_argb_source is_convertible_rgb
code_lane A16B16G16R16 = refl
code_lane A2R10G10B10 = refl
code_lane A2B10G10R10 = refl
code_lane G16R16 = refl
code_lane L16 = refl
code_lane V8U8 = refl
code_lane Q8W8V8U8 = refl

pub lane_source_is : (f : LaneSource) → is_lane_source (lane_source_code f) ≡ true
unfolding is_lane_source is_argb_source is_convertible_rgb
lane_source_is (Rgb f) = rgb_lane f
lane_source_is (Codes f) = code_lane f
lane_source_is Floats = refl

pub packed_yuv_is : (f : PackedYuv) → is_packed_yuv (packed_yuv_code f) ≡ true
unfolding is_packed_yuv
packed_yuv_is YUY2 = refl
packed_yuv_is UYVY = refl

pub planar_yuv_is : (f : PlanarYuv) → is_planar_yuv (planar_yuv_code f) ≡ true
unfolding is_planar_yuv
planar_yuv_is YV12 = refl
planar_yuv_is NV12 = refl

-- packed YUV is no planar YUV
pub packed_yuv_not_planar : (f : PackedYuv) → is_planar_yuv (packed_yuv_code f) ≡ false
unfolding is_planar_yuv
packed_yuv_not_planar YUY2 = refl
packed_yuv_not_planar UYVY = refl
