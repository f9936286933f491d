-- Where the samples of a pair lie, by the numbers that specs/Gathering speaks of, and places further on.
-- Assumes nothing.
use Rattle.std.specs.Prelude.{◌≡◌, List, ℕ, ◌+◌, ◌*◌, ◌<◌, ◌^◌}
use Rattle.formats.specs.Codes.{YUY2, UYVY, NV12, YV12}
use Rattle.pixel_convert.specs.declared.pairs.PairPlaces.{PairPlaces}
use Rattle.pixel_convert.specs.declared.pairs.PairPlaces.TheVariants.{Yuy2, Uyvy, Yv12, Nv12}
use Rattle.pixel_convert.specs.Gathering.{luma_step, luma_gap, chroma_step, PairsIn, GathersBytes}

-- the format of the picture
abbrev pub format_of : PairPlaces → ℕ
format_of (Yuy2 macropixel) = YUY2
format_of (Uyvy macropixel) = UYVY
format_of (Yv12 luma u v) = YV12
format_of (Nv12 luma chroma) = NV12

-- the pair's first luma
abbrev pub luma_at : PairPlaces → ℕ
luma_at (Yuy2 macropixel) = macropixel
luma_at (Uyvy macropixel) = macropixel + 1
luma_at (Yv12 luma u v) = luma
luma_at (Nv12 luma chroma) = luma

-- its U
abbrev pub u_at : PairPlaces → ℕ
u_at (Yuy2 macropixel) = macropixel + 1
u_at (Uyvy macropixel) = macropixel
u_at (Yv12 luma u v) = u
u_at (Nv12 luma chroma) = chroma

-- its V
abbrev pub v_at : PairPlaces → ℕ
v_at (Yuy2 macropixel) = macropixel + 3
v_at (Uyvy macropixel) = macropixel + 2
v_at (Yv12 luma u v) = v
v_at (Nv12 luma chroma) = chroma + 1

-- the samples of n pairs, the first of which lies there, lie below len
abbrev pub PlacesIn : (len : ℕ) (at : PairPlaces) (n : ℕ) → Type 0
PlacesIn len at n = PairsIn len (format_of at) (luma_at at) (u_at at) (v_at at) n

-- the lumas of n pairs were gathered, the first of which lies there
abbrev pub GathersLumas : (src : List ℕ) (at : PairPlaces) (n : ℕ) (out : List ℕ) → Type 0
GathersLumas src at n out = GathersBytes src (luma_at at) (luma_at at + luma_gap (format_of at)) (luma_step (format_of at)) n out

-- and their U and V
abbrev pub GathersChromas : (src : List ℕ) (at : PairPlaces) (n : ℕ) (out : List ℕ) → Type 0
GathersChromas src at n out = GathersBytes src (u_at at) (v_at at) (chroma_step (format_of at)) n out

-- places n pairs further on fit 64 bits
pub record HasAfter (at : PairPlaces) (n : ℕ) : Type 0 where
  pub luma : luma_at at + n * luma_step (format_of at) < 2 ^ 64
  pub u : u_at at + n * chroma_step (format_of at) < 2 ^ 64
  pub v : v_at at + n * chroma_step (format_of at) < 2 ^ 64

-- places are those of a pair in a picture of format f, with its samples there
pub record PlacesAre (at : PairPlaces) (f luma u v : ℕ) : Type 0 where
  pub format : format_of at ≡ f
  pub luma_is : luma_at at ≡ luma
  pub u_is : u_at at ≡ u
  pub v_is : v_at at ≡ v

-- those are places n pairs further on, in the same picture
abbrev pub After : (at : PairPlaces) (n : ℕ) (those : PairPlaces) → Type 0
After at n those = PlacesAre those (format_of at) (luma_at at + n * luma_step (format_of at)) (u_at at + n * chroma_step (format_of at)) (v_at at + n * chroma_step (format_of at))
