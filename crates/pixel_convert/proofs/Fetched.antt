-- A texel that lies within a source, by the kind of its picture. Assumes nothing.
use Rattle.std.specs.Prelude.{refl, [], ◌∷◌, map, ◌<◌, ◌^◌, pos}
use Rattle.std.specs.Int.{w64, FitsUnsigned}
use Rattle.std.proofs.Common.{ap₂, arith, get_or-drop, ◌≡◌, true, List, ℕ, Ok, ◌+◌, ◌/◌, ◌-◌, ◌%◌, ◌≤◌, eqb, length, take, drop, sym, ap, ◌∙◌}
use Rattle.std.proofs.lemmas.List.{take_rest}
use Rattle.words.specs.Integers.{up}
use Rattle.formats.specs.Classes.{is_packed_yuv, is_planar_yuv}
use Rattle.formats.specs.declared.PackedYuv.{PackedYuv}
use Rattle.formats.specs.declared.PlanarYuv.{PlanarYuv}
use Rattle.formats.specs.declared.YuvFormat.{YuvFormat}
use Rattle.formats.specs.declared.YuvFormat.TheVariants.{Packed, Planar}
use Rattle.formats.specs.Formats.{packed_yuv_code, planar_yuv_code, yuv_code}
use Rattle.formats.proofs.FormatsLaws.{packed_yuv_is, packed_yuv_not_planar, planar_yuv_is}
use Rattle.planar_yuv.specs.declared.PlanarYuvLayout.{PlanarYuvLayout}
use Rattle.planar_yuv.specs.Answers.{reply_of, from_pitch, Legal, TexelOf}
use Rattle.places.specs.declared.Side.{Side}
use Rattle.places.specs.Places.{Places, absent, offsets, place_of, started, layout_places, planar_places, places_at, places_in, bytes_from, bytes_at}
use Rattle.places.specs.Inside.{EndsWithin}
use Rattle.places.proofs.InsideLaws.{places_at_planar, packed_ends, ends_fit}
use Rattle.places.proofs.PlanarRegions.{started_in}
use Rattle.places.proofs.Planar.{in_layout}
use Rattle.stretch_rect.specs.Samples.{planar_rgb, Readable}
use Rattle.stretch_rect.specs.declared.sets.YuvSet.{YuvSet}
use Rattle.regions.specs.Regions.{opaque_of, texel_of, texel_at}
use Rattle.regions.proofs.RowOffsetsLaws.{offset_is}
use Rattle.regions.proofs.Fetch.{readable, planar_opaque, packed_texel}
use Rattle.pixel_convert.proofs.SamplesLaws.{planar_in}

-- a texel that lies within a frame is one of its layout
pub planar_texel : (p : PlanarYuv) (frame : List ℕ) (l : PlanarYuvLayout) (x y : ℕ) → Legal l → places_in (length frame) (layout_places (planar_yuv_code p) l.pitch l.luma_rows y x) ≡ true → TexelOf l x y
planar_texel p frame l x y g h = (readable (planar_yuv_code p) frame l y x g h).texel

-- its three bytes are read
pub can_read : (p : PlanarYuv) (frame : List ℕ) (l : PlanarYuvLayout) (x y : ℕ) → TexelOf l x y → places_in (length frame) (layout_places (planar_yuv_code p) l.pitch l.luma_rows y x) ≡ true
    → Readable (planar_yuv_code p) frame l x y
can_read p frame l x y t h = readable (planar_yuv_code p) frame l y x t.legal h

-- and make its colour
pub planar_colour : (numbers : YuvSet) (p : PlanarYuv) (frame : List ℕ) (l : PlanarYuvLayout) (x y : ℕ) → TexelOf l x y → places_in (length frame) (layout_places (planar_yuv_code p) l.pitch l.luma_rows y x) ≡ true
    → opaque_of (planar_rgb numbers (planar_yuv_code p) frame l.pitch l.luma_rows x y) ≡ texel_of numbers (planar_yuv_code p) (eqb (x % 2) 1) (bytes_at frame (layout_places (planar_yuv_code p) l.pitch l.luma_rows y x))
planar_colour numbers p frame l x y t h = planar_opaque numbers (planar_yuv_code p) (eqb (x % 2) 1) frame l x y (planar_yuv_is p) (can_read p frame l x y t h)

-- ---- a picture that starts at a byte is one that starts at 0 of what lies behind it
bytes_behind : (src : List ℕ) (start : ℕ) (os : List ℕ) → bytes_from src (map (λ o. start + o) os) ≡ bytes_from (drop start src) os
bytes_behind src start [] = refl
bytes_behind src start (o ∷ os) = ap₂ (λ a b. a ∷ b) (sym (get_or-drop start src o 0)) (bytes_behind src start os)

started_bytes : (src : List ℕ) (start : ℕ) (q : Places) → bytes_at src (started start q) ≡ bytes_at (drop start src) q
unfolding bytes_at
started_bytes src start absent = refl
started_bytes src start (offsets os) = bytes_behind src start os

-- ---- a source's texel
module _ (src : List ℕ) (f : YuvFormat) (side : Side) (z y x : ℕ) where
  module _ (k : PlanarYuv) (e : f ≡ Planar k) where
    abbrev code : ℕ
    code = planar_yuv_code k

    at_places : places_at (yuv_code f) side z y x ≡ started side.start (planar_places code (up side.pitch) (side.slice_pitch / up side.pitch) y x)
    at_places = ap (λ j. places_at (yuv_code j) side z y x) e ∙ places_at_planar code side z y x (planar_yuv_is k)

    behind : places_in (length src) (places_at (yuv_code f) side z y x) ≡ true → places_in (length src - side.start) (planar_places code (up side.pitch) (side.slice_pitch / up side.pitch) y x) ≡ true
    behind h = sym (started_in (length src) side.start (planar_places code (up side.pitch) (side.slice_pitch / up side.pitch) y x)) ∙ sym (ap (places_in (length src)) at_places) ∙ h

    -- the picture starts within the source
    pub frame_in : places_in (length src) (places_at (yuv_code f) side z y x) ≡ true → side.start ≤ length src
    frame_in h = omega (arith, (planar_in (length src - side.start) code (up side.pitch) (side.slice_pitch / up side.pitch) x y (behind h)).luma_below)

    module _ (l : PlanarYuvLayout) (is : reply_of (Ok l) ≡ from_pitch code (up side.pitch) (side.slice_pitch / up side.pitch)) where
      pub frame_has : places_in (length src) (places_at (yuv_code f) side z y x) ≡ true → places_in (length src - side.start) (layout_places code l.pitch l.luma_rows y x) ≡ true
      frame_has h = sym (ap (places_in (length src - side.start)) (in_layout 0 code (up side.pitch) (side.slice_pitch / up side.pitch) y x l is)) ∙ behind h

      pub planar_fetched : (numbers : YuvSet) → texel_of numbers code (eqb (x % 2) 1) (bytes_at (drop side.start src) (layout_places code l.pitch l.luma_rows y x)) ≡ texel_at numbers src (yuv_code f) side z y x
      unfolding texel_at
      planar_fetched numbers =
          ap (λ q. texel_of numbers code (eqb (x % 2) 1) (bytes_at (drop side.start src) q)) (sym (in_layout 0 code (up side.pitch) (side.slice_pitch / up side.pitch) y x l is))
          ∙ ap (texel_of numbers code (eqb (x % 2) 1)) (sym (started_bytes src side.start (planar_places code (up side.pitch) (side.slice_pitch / up side.pitch) y x)))
          ∙ ap (λ q. texel_of numbers code (eqb (x % 2) 1) (bytes_at src q)) (sym at_places)
          ∙ ap (λ j. texel_of numbers (yuv_code j) (eqb (x % 2) 1) (bytes_at src (places_at (yuv_code f) side z y x))) (sym e)

-- ---- one that lies within it
module _ (src : List ℕ) (f : YuvFormat) (side : Side) (z y x : ℕ) (inside : places_in (length src) (places_at (yuv_code f) side z y x) ≡ true) where
  module _ (k : PackedYuv) (e : f ≡ Packed k) where
    -- its macropixel ends within the source
    pub packed_in : EndsWithin (length src) 4 (place_of side 4 z y (x / 2)) (up (place_of side 4 z y (x / 2)))
    packed_in = packed_ends (length src) (yuv_code f) side z y x inside (ap (λ j. is_planar_yuv (yuv_code j)) e ∙ packed_yuv_not_planar k) (ap (λ j. is_packed_yuv (yuv_code j)) e ∙ packed_yuv_is k)

    pub packed_fits : length src < 2 ^ 64 → FitsUnsigned w64 (place_of side 4 z y (x / 2))
    packed_fits h = ends_fit (length src) 4 _ _ h packed_in

    -- where it starts
    pub packed_at : (start : ℕ) → pos start ≡ place_of side 4 z y (x / 2) → EndsWithin (length src) 4 (place_of side 4 z y (x / 2)) start
    packed_at start at = record { place = sym at; end = let e : start ≡ up (place_of side 4 z y (x / 2)) = offset_is _ start at in omega (arith, e, packed_in.end) }

    pub packed_fetched : (numbers : YuvSet) (start : ℕ) → pos start ≡ place_of side 4 z y (x / 2)
        → texel_of numbers (packed_yuv_code k) (eqb (x % 2) 1) (take 4 (take (length src - start) (drop start src))) ≡ texel_at numbers src (yuv_code f) side z y x
    packed_fetched numbers start at =
        ap (λ m. texel_of numbers (packed_yuv_code k) (eqb (x % 2) 1) (take 4 m)) (take_rest src start)
        ∙ ap (λ j. texel_of numbers (yuv_code j) (eqb (x % 2) 1) (take 4 (drop start src))) (sym e)
        ∙ sym (packed_texel numbers src (yuv_code f) side z y x start (ap (λ j. is_planar_yuv (yuv_code j)) e ∙ packed_yuv_not_planar k) (ap (λ j. is_packed_yuv (yuv_code j)) e ∙ packed_yuv_is k) (packed_at start at))
