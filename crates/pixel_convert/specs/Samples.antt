-- Where the samples of a YUV texel lie, column by column. Assumes nothing.
use Rattle.std.specs.Prelude.{ℕ, ◌+◌, ◌/◌, ◌%◌, ◌^◌, ◌<◌, false, eqb}
use Rattle.words.specs.Tests.{pick}
use Rattle.words.specs.Integers.{up}
use Rattle.formats.specs.Classes.{is_packed_yuv}
use Rattle.planar_yuv.specs.Offsets.{luma_offset_at, u_offset_at, v_offset_at}
use Rattle.places.specs.declared.Side.{Side}
use Rattle.places.specs.Places.{place_of}
use Rattle.stretch_rect.specs.Samples.{luma_place, u_place, v_place}
use Rattle.pixel_convert.specs.declared.pairs.PairPlaces.{PairPlaces}
use Rattle.pixel_convert.specs.Places.{PlacesAre}

module _ (f : ℕ) (side : Side) (z y : ℕ) where
  -- the macropixel of a column
  abbrev pub macro_start : ℕ → ℕ
  macro_start x = up (place_of side 4 z y (x / 2))

  -- the luma of the texel at column x: in its macropixel by format and column, or in the plane of luma
  unfoldable pub luma_on : ℕ → ℕ
  luma_on x = pick (is_packed_yuv f) (macro_start x + luma_place f (eqb (x % 2) 1)) (side.start + luma_offset_at (up side.pitch) x y)

  -- its U
  unfoldable pub u_on : ℕ → ℕ
  u_on x = pick (is_packed_yuv f) (macro_start x + u_place f) (side.start + u_offset_at f (up side.pitch) (side.slice_pitch / up side.pitch) x y)

  -- its V
  unfoldable pub v_on : ℕ → ℕ
  v_on x = pick (is_packed_yuv f) (macro_start x + v_place f) (side.start + v_offset_at f (up side.pitch) (side.slice_pitch / up side.pitch) x y)

-- ---- the places of a pair, as they are handed on
-- those of a macropixel
abbrev pub PackedPair : (at : PairPlaces) (f from : ℕ) → Type 0
PackedPair at f from = PlacesAre at f (from + luma_place f false) (from + u_place f) (from + v_place f)

-- those of a texel of a planar layout that starts at a byte
abbrev pub PlanarPair : (at : PairPlaces) (f start pitch rows y x : ℕ) → Type 0
PlanarPair at f start pitch rows y x = PlacesAre at f (start + luma_offset_at pitch x y) (start + u_offset_at f pitch rows x y) (start + v_offset_at f pitch rows x y)

-- each of these is a number of 64 bits
pub record PlanarFits (f start pitch rows y x : ℕ) : Type 0 where
  pub luma : start + luma_offset_at pitch x y < 2 ^ 64
  pub u : start + u_offset_at f pitch rows x y < 2 ^ 64
  pub v : start + v_offset_at f pitch rows x y < 2 ^ 64

-- those of the pair at column x
abbrev pub PairAt : (at : PairPlaces) (f : ℕ) → Side → (z y x : ℕ) → Type 0
PairAt at f side z y x = PlacesAre at f (luma_on f side z y x) (u_on f side z y x) (v_on f side z y x)
