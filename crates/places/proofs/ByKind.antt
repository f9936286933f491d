-- Parts by the kind of their picture, as the code asks of each. Assumes nothing.
use Rattle.std.specs.Prelude.{IsOk}
use Rattle.std.proofs.Common.{◌≡◌, true, ℕ, ◌+◌, ◌-◌, ◌/◌, ◌*◌, ◌≤◌, ◌<◌, Result, sym, ap, ◌∙◌, arith}
use Rattle.words.specs.Integers.{up}
use Rattle.words.proofs.IterateLaws.{all_same, all_onto}
use Rattle.formats.specs.Table.{bytes_of}
use Rattle.formats.proofs.Listed.{lane_some, lane_only}
use Rattle.formats.specs.declared.LaneSource.{LaneSource}
use Rattle.formats.specs.declared.PackedYuv.{PackedYuv}
use Rattle.formats.specs.declared.PlanarYuv.{PlanarYuv}
use Rattle.formats.specs.declared.YuvFormat.{YuvFormat}
use Rattle.formats.specs.declared.YuvFormat.TheVariants.{Planar}
use Rattle.formats.specs.Formats.{planar_yuv_code, packed_yuv_code, yuv_code, lane_source_code}
use Rattle.formats.proofs.FormatsLaws.{lane_source_is, packed_yuv_is, packed_yuv_not_planar, planar_yuv_is}
use Rattle.planar_yuv.specs.declared.PlanarYuvLayout.{PlanarYuvLayout}
use Rattle.planar_yuv.specs.declared.NoPlanarLayout.{NoPlanarLayout}
use Rattle.planar_yuv.specs.Answers.{reply_of, from_pitch}
use Rattle.places.specs.declared.Side.{Side}
use Rattle.places.specs.Places.{place_of, planar_places, places_at, places_in, texel_in, inside_all}
use Rattle.places.specs.Inside.{bytes_in, units_in}
use Rattle.places.proofs.InsideLaws.{texel_in_places, places_at_planar, lanes_in, packed_in}
use Rattle.places.proofs.PlanarRegions.{started_in, last_decides}
use Rattle.places.proofs.Laid.{laid_some}

-- a texel has a byte
pub lane_byte : (k : LaneSource) (size : ℕ) → size ≡ bytes_of (lane_source_code k) → 0 < size
lane_byte k size e = rw e (lane_some (lane_source_code k) (lane_source_is k))

module _ (len : ℕ) (side : Side) (width height depth : ℕ) (pw : 0 < width) (ph : 0 < height) (pd : 0 < depth)
    (xs : side.x + (width - 1) ≤ 4294967295) (ys : side.y + (height - 1) ≤ 4294967295) where
  -- ---- lanes: a unit is a texel
  pub lanes_inside : (k : LaneSource) (size n : ℕ) → size ≡ bytes_of (lane_source_code k) → n ≡ width - 1
      → units_in len size side side.x (n + 1) height depth ≡ inside_all len (lane_source_code k) side width height depth
  unfolding units_in inside_all
  lanes_inside k size n e w =
      let f = lane_source_code k in
      let lane = lane_source_is k in
      let kind = lane_only f lane in
      let same : (z row col : ℕ) → row < height → col < width → texel_in len f side z (side.y + row) (side.x + col) ≡ bytes_in len (bytes_of f) (place_of side (bytes_of f) z (side.y + row) (side.x + col)) = λ z row col rl cl.
      texel_in_places len f side z (side.y + row) (side.x + col) (omega (arith, cl, xs)) (omega (arith, rl, ys)) ∙ lanes_in len f side z (side.y + row) (side.x + col) kind.0 kind.1 (lane_some f lane) in
      rw (e, w)
      (all_same _ _ depth λ z zl. all_same _ _ height λ row rl.
      all_onto _ _ (width - 1 + 1) width
      (λ u ul. let cl : u < width = omega (arith, ul, pw) in (u, cl, sym (same z row u rl cl)))
      (λ col cl. (col, omega (arith, cl, pw), same z row col rl cl)))

  -- ---- packed YUV: a unit is a macropixel
  pub packed_inside : (k : PackedYuv) (first last n : ℕ) → first ≡ side.x / 2 → last ≡ side.x + (width - 1) → n ≡ last / 2 - first
      → units_in len 4 side first (n + 1) height depth ≡ inside_all len (packed_yuv_code k) side width height depth
  unfolding units_in inside_all
  packed_inside k first last n e l w =
      let f = packed_yuv_code k in
      let same : (z row col : ℕ) → row < height → col < width → texel_in len f side z (side.y + row) (side.x + col) ≡ bytes_in len 4 (place_of side 4 z (side.y + row) ((side.x + col) / 2)) = λ z row col rl cl.
      texel_in_places len f side z (side.y + row) (side.x + col) (omega (arith, cl, xs)) (omega (arith, rl, ys)) ∙ packed_in len f side z (side.y + row) (side.x + col) (packed_yuv_not_planar k) (packed_yuv_is k) in
      all_same _ _ depth λ z zl. all_same _ _ height λ row rl.
      all_onto _ _ (n + 1) width
      (λ u ul.
      let col = 2 * (first + u) - side.x in
      let g : (side.x + col) / 2 ≡ first + u = omega (arith, e) in
      let cl : col < width = omega (arith, e, l, w, ul, pw) in
      (col, cl, sym (same z row col rl cl ∙ ap (λ j. bytes_in len 4 (place_of side 4 z (side.y + row) j)) g)))
      (λ col cl.
      let u = (side.x + col) / 2 - first in
      let g : (side.x + col) / 2 ≡ first + u = omega (arith, e) in
      (u, omega (arith, e, l, w, cl), same z row col rl cl ∙ ap (λ j. bytes_in len 4 (place_of side 4 z (side.y + row) j)) g))

  -- ---- planar YUV: the last texel, in what lies behind the start
  pub planar_inside : (k : PlanarYuv) (behind y x : ℕ) → behind ≡ len - side.start → y ≡ side.y + (height - 1) → x ≡ side.x + (width - 1)
      → places_in behind (planar_places (planar_yuv_code k) (up side.pitch) (side.slice_pitch / up side.pitch) y x) ≡ inside_all len (planar_yuv_code k) side width height depth
  planar_inside k behind y x b e g = rw (b, e, g) (last_decides len (planar_yuv_code k) side width height depth (planar_yuv_is k) pw ph pd xs ys)

-- a planar texel that lies within a length has a layout
pub texel_laid : (len : ℕ) (side : Side) (z y x : ℕ) (f : YuvFormat) (k : PlanarYuv) (r : Result PlanarYuvLayout NoPlanarLayout) → f ≡ Planar k
    → reply_of r ≡ from_pitch (planar_yuv_code k) (up side.pitch) (side.slice_pitch / up side.pitch)
    → places_in len (places_at (yuv_code f) side z y x) ≡ true → IsOk r
texel_laid len side z y x f k r e h i =
    let code = planar_yuv_code k in
    laid_some code (up side.pitch) (side.slice_pitch / up side.pitch) (len - side.start) y x r h
    (sym (started_in len side.start (planar_places code (up side.pitch) (side.slice_pitch / up side.pitch) y x))
    ∙ sym (ap (places_in len) (places_at_planar code side z y x (planar_yuv_is k)))
    ∙ sym (ap (λ j. places_in len (places_at (yuv_code j) side z y x)) e) ∙ i)
