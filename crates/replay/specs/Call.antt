-- The calls that are recorded, and their numbers.
-- Assumes nothing.
use Rattle.std.specs.Prelude.{◌≡◌, ◌<◌, ℕ, Result, MatchResult}
use Rattle.replay.specs.declared.call.Call.{Call}
use Rattle.replay.specs.declared.call.Call.TheVariants.{Expand4, Expand5, Expand6, Expand1, Truncate4, Truncate5, Truncate6, Truncate1, Luminance, NearestCode, Unorm8ToUnorm16, Unorm16ToUnorm8, F32ToUnorm8, LinearRowPitch, BytesPerTexel, CanConvert, CanConvertUpdate, YuvToRgb8, PlanarYuvLayout, PlanarYuvLayoutFromPitch, PlaneLayout, D3dcolorFillPixelBytes, F32ToF16Bits, D3dcolorToRgbaF32, ConvertRegion, Unpack, Pack, SplatPixelPattern, NearestByte, ConvertRegionWithSet, YuvToRgb8ByTables}
use Rattle.replay.specs.declared.call.UnknownCall.{UnknownCall}

-- the number that a call has in the records
abbrev pub number_of : Call → ℕ
number_of Expand4 = 1
number_of Expand5 = 2
number_of Expand6 = 3
number_of Expand1 = 4
number_of Truncate4 = 5
number_of Truncate5 = 6
number_of Truncate6 = 7
number_of Truncate1 = 8
number_of Luminance = 9
number_of NearestCode = 10
number_of Unorm8ToUnorm16 = 11
number_of Unorm16ToUnorm8 = 12
number_of F32ToUnorm8 = 13
number_of LinearRowPitch = 14
number_of BytesPerTexel = 15
number_of CanConvert = 16
number_of CanConvertUpdate = 17
number_of YuvToRgb8 = 18
number_of PlanarYuvLayout = 19
number_of PlanarYuvLayoutFromPitch = 20
number_of PlaneLayout = 21
number_of D3dcolorFillPixelBytes = 22
number_of F32ToF16Bits = 23
number_of D3dcolorToRgbaF32 = 24
number_of ConvertRegion = 25
number_of Unpack = 26
number_of Pack = 27
number_of SplatPixelPattern = 28
number_of NearestByte = 29
number_of ConvertRegionWithSet = 30
number_of YuvToRgb8ByTables = 31

-- the result is the call with this number, or an error with a number that no call has
abbrev pub Decodes : ℕ → Result Call UnknownCall → Type 0
Decodes number r =
    MatchResult r (λ call. number_of call ≡ number) (λ e. (e.0 ≡ number) × (0 < number → 31 < number))
