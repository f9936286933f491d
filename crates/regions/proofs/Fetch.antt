-- The source texel by the kind of its picture, and what an offset that is worked out afresh stays below. Assumes nothing.
use Rattle.std.specs.Prelude.{◌≡◌, refl, Bool, true, false, ◌&&◌, ◌||◌, eqb, ltb, length, take, drop, List, [], ◌∷◌, ℕ, ◌+◌, ◌/◌, ◌%◌, ◌<◌}
use Rattle.std.proofs.Common.{sym, ap₂, ◌∙◌, arith, get_or-take, ltb-true, ap}
use Rattle.std.proofs.lemmas.Bool.{false≢true, and_parts}
use Rattle.std.proofs.lemmas.List.Edits.{sets}
use Rattle.words.specs.Little.{number}
use Rattle.words.proofs.IterateLaws.{iterate_same}
use Rattle.words.specs.Tests.{pick}
use Rattle.formats.specs.Codes.{YUY2}
use Rattle.formats.specs.Table.{bytes_of}
use Rattle.formats.specs.Classes.{is_packed_yuv, is_planar_yuv, is_yuv, is_lane_source}
use Rattle.formats.proofs.Listed.{planar_not_packed, lane_only}
use Rattle.texels.specs.Texels.{decoded_of, encoded_bytes}
use Rattle.planar_yuv.specs.declared.PlanarYuvLayout.{PlanarYuvLayout}
use Rattle.planar_yuv.specs.Offsets.{contains, luma_offset_at, u_offset_at, v_offset_at}
use Rattle.planar_yuv.proofs.OffsetsLaws.{contains_is, contains_yes}
use Rattle.planar_yuv.specs.Answers.{Legal}
use Rattle.words.specs.Integers.{up}
use Rattle.places.specs.declared.Side.{Side}
use Rattle.places.specs.Inside.{EndsWithin}
use Rattle.places.specs.Places.{absent, offsets, run, place_of, from_place, started, layout_places, planar_places, places_at, places_in, bytes_at}
use Rattle.places.proofs.InsideLaws.{places_at_lanes, places_at_packed, places_at_planar, bytes_run}
use Rattle.stretch_rect.specs.declared.sets.YuvSet.{YuvSet}
use Rattle.stretch_rect.specs.Yuv.{rgb_of}
use Rattle.stretch_rect.specs.Samples.{luma_place, u_place, v_place, packed_rgb, planar_rgb, Readable}
use Rattle.regions.specs.declared.reply.ConvertRegion.{ConvertRegion}
use Rattle.regions.specs.Replies.{if_accepted}
use Rattle.regions.proofs.ChecksLaws.{any_reply}
use Rattle.regions.specs.Regions.{luma_of, u_of, v_of, opaque_of, texel_of, texel_at, to_at, source_texel, written, row_written, slice_written, region_written, converted_with}

no_yuv : (f : ℕ) → is_planar_yuv f ≡ false → is_packed_yuv f ≡ false → is_yuv f ≡ false
no_yuv f p q = ap (λ b. b || is_planar_yuv f) q ∙ p

-- a YUV picture is packed or planar, and not both
pub kind : (f : ℕ) {A : Type 0} → is_yuv f ≡ true → (is_planar_yuv f ≡ false → is_packed_yuv f ≡ true → A) → (is_planar_yuv f ≡ true → is_packed_yuv f ≡ false → A) → A
kind f {A} h p q = go (is_planar_yuv f) (is_packed_yuv f) refl refl h
  where
    go : (a b : Bool) → is_planar_yuv f ≡ a → is_packed_yuv f ≡ b → (b || a) ≡ true → A
    go true b e g k = q e (planar_not_packed f e)
    go false true e g k = p e g
    go false false e g k = absurd (false≢true k)

module _ (numbers : YuvSet) (src : List ℕ) (f : ℕ) (side : Side) (z y x : ℕ) where
  -- ---- the texel of each kind
  pub lane_texel : (at : ℕ) → is_planar_yuv f ≡ false → is_packed_yuv f ≡ false → EndsWithin (length src) (bytes_of f) (place_of side (bytes_of f) z y x) at
      → texel_at numbers src f side z y x ≡ decoded_of f (number (take (bytes_of f) (drop at src)))
  unfolding texel_at texel_of bytes_at
  lane_texel at p q h =
      ap (λ l. texel_of numbers f (eqb (x % 2) 1) (bytes_at src l)) (places_at_lanes f side z y x p q ∙ ap (λ k. from_place k (bytes_of f)) h.place)
      ∙ ap (λ b. pick b (opaque_of (rgb_of numbers (luma_of f (eqb (x % 2) 1) bs) (u_of f bs) (v_of f bs))) (decoded_of f (number bs))) (no_yuv f p q)
      ∙ ap (λ l. decoded_of f (number l)) (bytes_run (bytes_of f) at src h.end)
    where
      bs : List ℕ
      bs = bytes_at src (offsets (run at (bytes_of f)))

  pub packed_texel : (at : ℕ) → is_planar_yuv f ≡ false → is_packed_yuv f ≡ true → EndsWithin (length src) 4 (place_of side 4 z y (x / 2)) at
      → texel_at numbers src f side z y x ≡ texel_of numbers f (eqb (x % 2) 1) (take 4 (drop at src))
  unfolding texel_at bytes_at
  packed_texel at p q h =
      ap (λ l. texel_of numbers f (eqb (x % 2) 1) (bytes_at src l)) (places_at_packed f side z y x p q ∙ ap (λ k. from_place k 4) h.place)
      ∙ ap (texel_of numbers f (eqb (x % 2) 1)) (bytes_run 4 at src h.end)

  pub planar_texel : is_planar_yuv f ≡ true
      → texel_at numbers src f side z y x ≡ texel_of numbers f (eqb (x % 2) 1) (bytes_at src (started side.start (planar_places f (up side.pitch) (side.slice_pitch / up side.pitch) y x)))
  unfolding texel_at
  planar_texel p = ap (λ l. texel_of numbers f (eqb (x % 2) 1) (bytes_at src l)) (places_at_planar f side z y x p)

-- ---- a source that is no YUV has no use for the set
pub any_texel : (a b : YuvSet) (f : ℕ) (odd : Bool) (bs : List ℕ) → is_yuv f ≡ false → texel_of a f odd bs ≡ texel_of b f odd bs
unfolding texel_of
any_texel a b f odd bs h =
    ap (λ t. pick t (opaque_of (rgb_of a (luma_of f odd bs) (u_of f bs) (v_of f bs))) (decoded_of f (number bs))) h
    ∙ sym (ap (λ t. pick t (opaque_of (rgb_of b (luma_of f odd bs) (u_of f bs) (v_of f bs))) (decoded_of f (number bs))) h)

any_row : (a b : YuvSet) (src : List ℕ) (s d : ℕ) (r : ConvertRegion) (z row : ℕ) (dst : List ℕ) → is_yuv s ≡ false → row_written a src s d r z row dst ≡ row_written b src s d r z row dst
unfolding row_written written source_texel texel_at
any_row a b src s d r z row dst h =
    iterate_same _ _ r.width dst
    (λ col l w. ap (λ t. sets w (to_at d r z row col) (encoded_bytes d t)) (any_texel a b s _ (bytes_at src (places_at s r.source z (r.source.y + row) (r.source.x + col))) h))

-- so has a row of a source with lanes
pub any_set : (a b : YuvSet) (src : List ℕ) (s d : ℕ) (r : ConvertRegion) (z row : ℕ) (dst : List ℕ) → is_lane_source s ≡ true → row_written a src s d r z row dst ≡ row_written b src s d r z row dst
any_set a b src s d r z row dst h = any_row a b src s d r z row dst (no_yuv s (lane_only s h).0 (lane_only s h).1)

-- and a whole conversion
pub set_unlooked : (a b : YuvSet) (src dst : List ℕ) (s d : ℕ) (r : ConvertRegion) → is_yuv s ≡ false → converted_with a src dst s d r ≡ converted_with b src dst s d r
unfolding converted_with region_written slice_written
set_unlooked a b src dst s d r h =
    ap₂ (λ q l. if_accepted q l dst) (any_reply a b s d r (length src) (length dst) h)
    (iterate_same _ _ r.depth dst (λ z zl l. iterate_same _ _ r.height l (λ row rl w. any_row a b src s d r z row w h)))

-- ---- YUV samples
-- a macropixel has four bytes
pub place_lt : (a b : Bool) → (pick a (pick b 2 0) (pick b 3 1) < 4) × (pick a 1 0 < 4) × (pick a 3 2 < 4)
place_lt true true = omega arith
place_lt true false = omega arith
place_lt false true = omega arith
place_lt false false = omega arith

-- a macropixel's texel
pub packed_opaque : (numbers : YuvSet) (f : ℕ) (odd : Bool) (l : List ℕ) → is_packed_yuv f ≡ true → opaque_of (packed_rgb numbers f l odd) ≡ texel_of numbers f odd (take 4 l)
unfolding texel_of packed_rgb
packed_opaque numbers f odd l q =
    let k = place_lt (eqb f YUY2) odd in
    let e = get_or-take 4 l (luma_place f odd) 0 k.0 in
    let g = get_or-take 4 l (u_place f) 0 k.1 in
    let h = get_or-take 4 l (v_place f) 0 k.2 in
    rw (q, e, g, h) refl

-- the texel of a layout whose bytes lie within a frame
pub readable : (f : ℕ) (frame : List ℕ) (l : PlanarYuvLayout) (y x : ℕ) → Legal l → places_in (length frame) (layout_places f l.pitch l.luma_rows y x) ≡ true
    → Readable f frame l x y
unfolding places_in
readable f frame l y x g h = go (contains l.pitch l.luma_rows x y) refl h
  where
    lo : ℕ
    lo = luma_offset_at l.pitch x y

    uo : ℕ
    uo = u_offset_at f l.pitch l.luma_rows x y

    vo : ℕ
    vo = v_offset_at f l.pitch l.luma_rows x y

    go : (t : Bool) → contains l.pitch l.luma_rows x y ≡ t → places_in (length frame) (pick t (offsets (lo ∷ uo ∷ vo ∷ [])) absent) ≡ true → Readable f frame l x y
    go true e k =
        let i = contains_is l.pitch l.luma_rows x y e in
        let n = length frame in
        let rest = (and_parts (ltb lo n) (ltb uo n && (ltb vo n && true)) k).1 in
        record {
          texel = record { legal = g; column = i.0; row = i.1 };
          luma_read = ltb-true lo n (and_parts (ltb lo n) (ltb uo n && (ltb vo n && true)) k).0;
          u_read = ltb-true uo n (and_parts (ltb uo n) (ltb vo n && true) rest).0;
          v_read = ltb-true vo n (and_parts (ltb vo n) true (and_parts (ltb uo n) (ltb vo n && true) rest).1).0;
        }
    go false e k = absurd (false≢true k)

-- a planar texel
pub planar_opaque : (numbers : YuvSet) (f : ℕ) (odd : Bool) (src : List ℕ) (l : PlanarYuvLayout) (x y : ℕ) → is_planar_yuv f ≡ true → Readable f src l x y
    → opaque_of (planar_rgb numbers f src l.pitch l.luma_rows x y) ≡ texel_of numbers f odd (bytes_at src (layout_places f l.pitch l.luma_rows y x))
unfolding texel_of bytes_at planar_rgb
planar_opaque numbers f odd src l x y p r =
    rw (contains_yes l.pitch l.luma_rows x y (r.texel.column, r.texel.row), planar_not_packed f p, p) refl
