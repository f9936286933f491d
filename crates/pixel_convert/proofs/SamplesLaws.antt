-- Laws on what specs/Samples defines. Assumes nothing.
use Rattle.std.specs.Prelude.{◌≡◌, Bool, ◌&&◌, List, [], ◌∷◌, ℕ, ◌+◌, ◌*◌, ◌/◌, ◌%◌, ◌-◌, ◌^◌, ◌<◌, ltb, length, take, drop, refl, true, false, eqb, get_or, pos, ◌+ℤ◌}
use Rattle.std.proofs.Common.{sym, ap, subst, ◌∙◌, ltb-true, eq-eqb, ne_eqb, arith, get_or-take, get_or-drop}
use Rattle.std.proofs.lemmas.Bool.{false≢true, and_parts}
use Rattle.words.specs.Tests.{pick}
use Rattle.words.specs.Integers.{up}
use Rattle.words.proofs.IntegersLaws.{up_pos}
use Rattle.formats.specs.Codes.{YUY2, YV12}
use Rattle.formats.specs.Classes.{is_packed_yuv, is_planar_yuv, is_yuv}
use Rattle.planar_yuv.specs.Rules.{allowed}
use Rattle.planar_yuv.specs.Offsets.{contains, luma_offset_at, u_offset_at, v_offset_at, nv12_u, nv12_v, yv12_u, yv12_v}
use Rattle.planar_yuv.proofs.OffsetsLaws.{contains_is}
use Rattle.planar_yuv.specs.declared.PlanarYuvLayout.{PlanarYuvLayout}
use Rattle.planar_yuv.specs.Answers.{layout_of, layout_reply, refusal, from_pitch, TexelOf}
use Rattle.places.specs.Places.{absent, offsets, place_of, planar_places, places_at, places_in, bytes_at}
use Rattle.places.proofs.Planar.{LayoutFor, laid_out}
use Rattle.places.proofs.InsideLaws.{along, packed_ends, places_at_planar}
use Rattle.places.proofs.PlanarRegions.{started_in}
use Rattle.places.specs.declared.Side.{Side}
use Rattle.stretch_rect.specs.declared.sets.YuvSet.{YuvSet}
use Rattle.stretch_rect.specs.Yuv.{rgb_of}
use Rattle.stretch_rect.specs.Samples.{luma_place, u_place, v_place}
use Rattle.regions.specs.Regions.{opaque_of, texel_of, texel_at}
use Rattle.regions.proofs.Fetch.{kind, place_lt, packed_texel, planar_texel}
use Rattle.pixel_convert.specs.declared.pairs.PairPlaces.{PairPlaces}
use Rattle.pixel_convert.specs.Gathering.{luma_step, luma_gap, chroma_step}
use Rattle.pixel_convert.specs.Samples.{macro_start, luma_on, u_on, v_on, PackedPair, PlanarPair, PlanarFits, PairAt}

-- ---- a texel that is inside
-- its three samples lie below len
pub record SamplesIn (len f : ℕ) (side : Side) (z y x : ℕ) : Type 0 where
  pub luma_in : luma_on f side z y x < len
  pub u_in : u_on f side z y x < len
  pub v_in : v_on f side z y x < len

-- what a planar texel that is inside has
pub record PlanarIn (len f pitch rows x y : ℕ) : Type 0 where
  pub has_layout : allowed f pitch rows ≡ true
  pub has_texel : contains pitch rows x y ≡ true
  pub luma_below : luma_offset_at pitch x y < len
  pub u_below : u_offset_at f pitch rows x y < len
  pub v_below : v_offset_at f pitch rows x y < len

pub planar_in : (len f pitch rows x y : ℕ) → places_in len (planar_places f pitch rows y x) ≡ true → PlanarIn len f pitch rows x y
unfolding places_in
planar_in len f pitch rows x y h = go (allowed f pitch rows) (contains pitch rows x y) refl refl h
  where
    lo : ℕ
    lo = luma_offset_at pitch x y

    uo : ℕ
    uo = u_offset_at f pitch rows x y

    vo : ℕ
    vo = v_offset_at f pitch rows x y

    go : (a c : Bool) → allowed f pitch rows ≡ a → contains pitch rows x y ≡ c → places_in len (pick a (pick c (offsets (lo ∷ uo ∷ vo ∷ [])) absent) absent) ≡ true → PlanarIn len f pitch rows x y
    go true true e k t =
        let rest = (and_parts (ltb lo len) (ltb uo len && (ltb vo len && true)) t).1 in
        record {
          has_layout = e;
          has_texel = k;
          luma_below = ltb-true lo len (and_parts (ltb lo len) (ltb uo len && (ltb vo len && true)) t).0;
          u_below = ltb-true uo len (and_parts (ltb uo len) (ltb vo len && true) rest).0;
          v_below = ltb-true vo len (and_parts (ltb vo len) true (and_parts (ltb uo len) (ltb vo len && true) rest).1).0;
        }
    go true false e k t = absurd (false≢true t)
    go false c e k t = absurd (false≢true t)

module _ (numbers : YuvSet) (src : List ℕ) (f : ℕ) (side : Side) (z y x : ℕ) (yuv : is_yuv f ≡ true) (h : places_in (length src) (places_at f side z y x) ≡ true) where
  inside : is_planar_yuv f ≡ true → PlanarIn (length src - side.start) f (up side.pitch) (side.slice_pitch / up side.pitch) x y
  inside n =
      planar_in (length src - side.start) f (up side.pitch) (side.slice_pitch / up side.pitch) x y
      (sym (started_in (length src) side.start (planar_places f (up side.pitch) (side.slice_pitch / up side.pitch) y x)) ∙ sym (ap (places_in (length src)) (places_at_planar f side z y x n)) ∙ h)

  -- a macropixel starts at a number
  pub macro_is : is_planar_yuv f ≡ false → is_packed_yuv f ≡ true → place_of side 4 z y (x / 2) ≡ pos (macro_start f side z y x)
  macro_is n k = (packed_ends (length src) f side z y x h n k).place

  pub samples_in : SamplesIn (length src) f side z y x
  unfolding luma_on u_on v_on
  samples_in = kind f yuv
      (λ n q.
      let e = (packed_ends (length src) f side z y x h n q).end in
      let l = place_lt (eqb f YUY2) (eqb (x % 2) 1) in
      record { luma_in = rw q (omega (arith, e, l.0)); u_in = rw q (omega (arith, e, l.1)); v_in = rw q (omega (arith, e, l.2)) })
      (λ n q. record { luma_in = rw q (omega (arith, (inside n).luma_below)); u_in = rw q (omega (arith, (inside n).u_below)); v_in = rw q (omega (arith, (inside n).v_below)) })

  -- a texel's colour is that of its three samples
  pub texel_samples : texel_at numbers src f side z y x
      ≡ opaque_of (rgb_of numbers (get_or src (luma_on f side z y x) 0) (get_or src (u_on f side z y x) 0) (get_or src (v_on f side z y x) 0))
  unfolding luma_on u_on v_on texel_of bytes_at
  texel_samples = kind f yuv
      (λ n q.
      let s = macro_start f side z y x in
      let odd = eqb (x % 2) 1 in
      let l = place_lt (eqb f YUY2) odd in
      let byte : (k : ℕ) → k < 4 → get_or (take 4 (drop s src)) k 0 ≡ get_or src (s + k) 0 = λ k b. get_or-take 4 (drop s src) k 0 b ∙ get_or-drop s src k 0 in
      packed_texel numbers src f side z y x s n q (packed_ends (length src) f side z y x h n q)
      ∙ rw (q, byte (luma_place f odd) l.0, byte (u_place f) l.1, byte (v_place f) l.2) refl)
      (λ n q. planar_texel numbers src f side z y x n ∙ rw ((inside n).has_layout, (inside n).has_texel, q, n) refl)

-- ---- pairs: column x is even
module _ (f : ℕ) (side : Side) (z y x : ℕ) (yuv : is_yuv f ≡ true) (even : x % 2 ≡ 0) (starts : is_planar_yuv f ≡ false → is_packed_yuv f ≡ true → place_of side 4 z y (x / 2) ≡ pos (macro_start f side z y x)) where
  halves : (k : ℕ) → ((x + 2 * k) / 2 ≡ x / 2 + k) × ((x + (2 * k + 1)) / 2 ≡ x / 2 + k)
  halves k = (omega (arith, even), omega (arith, even))

  odds : (k : ℕ) → (eqb ((x + 2 * k) % 2) 1 ≡ false) × (eqb ((x + (2 * k + 1)) % 2) 1 ≡ true)
  odds k = (ne_eqb ((x + 2 * k) % 2) 1 (λ e. omega (arith, even, e)), eq-eqb ((x + (2 * k + 1)) % 2) 1 (omega (arith, even)))

  pub even_here : eqb (x % 2) 1 ≡ false
  even_here = ne_eqb (x % 2) 1 (λ e. omega (arith, even, e))

  -- a macropixel further on
  macro_step : is_planar_yuv f ≡ false → is_packed_yuv f ≡ true → (k : ℕ) → up (place_of side 4 z y (x / 2 + k)) ≡ up (place_of side 4 z y (x / 2)) + k * 4
  macro_step n q k = ap up (along side 4 z y (x / 2) k ∙ ap (λ m. m +ℤ pos (k * 4)) (starts n q)) ∙ up_pos (macro_start f side z y x + k * 4)

  second_place : (a : Bool) → pick a 2 3 ≡ pick a 0 1 + 2
  second_place true = refl
  second_place false = refl

  -- k pairs on, the first luma, the second, U and V
  pub first_on : (k : ℕ) → luma_on f side z y (x + 2 * k) ≡ luma_on f side z y x + k * luma_step f
  unfolding luma_on luma_step luma_offset_at
  first_on k = kind f yuv
      (λ n q. rw (q, (odds k).0, even_here, (halves k).0) (omega (arith, macro_step n q k)))
      (λ n q. rw q (omega arith))

  pub second_on : (k : ℕ) → luma_on f side z y (x + (2 * k + 1)) ≡ luma_on f side z y x + luma_gap f + k * luma_step f
  unfolding luma_on luma_step luma_gap luma_offset_at
  second_on k = kind f yuv
      (λ n q. rw (q, (odds k).1, even_here, (halves k).1) (omega (arith, macro_step n q k, second_place (eqb f YUY2))))
      (λ n q. rw q (omega arith))

  -- U and V of a planar texel go by half its column
  planar_u : (t : Bool) (rows x' k : ℕ) → x' / 2 ≡ x / 2 + k → pick t yv12_u nv12_u (up side.pitch) rows x' y ≡ pick t yv12_u nv12_u (up side.pitch) rows x y + k * pick t 1 2
  unfolding yv12_u yv12_v nv12_u
  planar_u true rows x' k e = omega (arith, e)
  planar_u false rows x' k e = omega (arith, e)

  planar_v : (t : Bool) (rows x' k : ℕ) → x' / 2 ≡ x / 2 + k → pick t yv12_v nv12_v (up side.pitch) rows x' y ≡ pick t yv12_v nv12_v (up side.pitch) rows x y + k * pick t 1 2
  unfolding yv12_v nv12_v nv12_u
  planar_v true rows x' k e = omega (arith, e)
  planar_v false rows x' k e = omega (arith, e)

  pub u_by_half : (x' k : ℕ) → x' / 2 ≡ x / 2 + k → u_on f side z y x' ≡ u_on f side z y x + k * chroma_step f
  unfolding u_on chroma_step u_offset_at
  u_by_half x' k e = kind f yuv
      (λ n q. rw (q, e) (omega (arith, macro_step n q k)))
      (λ n q. rw q (omega (arith, planar_u (eqb f YV12) (side.slice_pitch / up side.pitch) x' k e)))

  pub v_by_half : (x' k : ℕ) → x' / 2 ≡ x / 2 + k → v_on f side z y x' ≡ v_on f side z y x + k * chroma_step f
  unfolding v_on chroma_step v_offset_at
  v_by_half x' k e = kind f yuv
      (λ n q. rw (q, e) (omega (arith, macro_step n q k)))
      (λ n q. rw q (omega (arith, planar_v (eqb f YV12) (side.slice_pitch / up side.pitch) x' k e)))

-- ---- the places of a pair, as they are handed on
-- a planar texel that is inside is one of its layout
pub record LaidOut (l : PlanarYuvLayout) (pitch rows x y : ℕ) : Type 0 where
  pub texel : TexelOf l x y
  pub pitch_is : l.pitch ≡ pitch
  pub rows_are : l.luma_rows ≡ rows

module _ (len f : ℕ) (side : Side) (z y x : ℕ) (l : PlanarYuvLayout) (planar : is_planar_yuv f ≡ true) (is : l ≡ layout_of (from_pitch f (up side.pitch) (side.slice_pitch / up side.pitch)))
    (for : LayoutFor f (up side.pitch) (side.slice_pitch / up side.pitch) l) (h : places_in len (places_at f side z y x) ≡ true) where
  abbrev behind : places_in (len - side.start) (planar_places f (up side.pitch) (side.slice_pitch / up side.pitch) y x) ≡ true
  behind = sym (started_in len side.start (planar_places f (up side.pitch) (side.slice_pitch / up side.pitch) y x)) ∙ sym (ap (places_in len) (places_at_planar f side z y x planar)) ∙ h

  pub laid : LaidOut l (up side.pitch) (side.slice_pitch / up side.pitch) x y
  unfolding from_pitch
  laid =
      let pitch = up side.pitch in
      let rows = side.slice_pitch / up side.pitch in
      let i = planar_in (len - side.start) f pitch rows x y behind in
      let e : l ≡ layout_of (layout_reply pitch rows) = is ∙ ap (λ t. layout_of (pick t (layout_reply pitch rows) refusal)) i.has_layout in
      let c = contains_is pitch rows x y i.has_texel in
      record {
        texel = record {
          legal = (laid_out (len - side.start) f pitch rows l for y x behind).0;
          column = subst (λ q. x < q) (sym (ap (λ q. q.pitch) e)) c.0;
          row = subst (λ q. y < q) (sym (ap (λ q. q.luma_rows) e)) c.1;
        };
        pitch_is = ap (λ q. q.pitch) e;
        rows_are = ap (λ q. q.luma_rows) e;
      }

  pub laid_fits : len < 2 ^ 64 → PlanarFits f side.start l.pitch l.luma_rows y x
  laid_fits small =
      let i = planar_in (len - side.start) f (up side.pitch) (side.slice_pitch / up side.pitch) x y behind in
      rw (laid.pitch_is, laid.rows_are) (record { luma = omega (arith, i.luma_below, small); u = omega (arith, i.u_below, small); v = omega (arith, i.v_below, small) })

  pub planar_pair : {at : PairPlaces} → is_packed_yuv f ≡ false → PlanarPair at f side.start l.pitch l.luma_rows y x → PairAt at f side z y x
  unfolding luma_on u_on v_on
  planar_pair {at} q g = rw q (subst (λ (k : ℕ). PlanarPair at f side.start (up side.pitch) k y x) laid.rows_are (subst (λ (k : ℕ). PlanarPair at f side.start k l.luma_rows y x) laid.pitch_is g))

pub packed_pair : (at : PairPlaces) (f : ℕ) (side : Side) (z y x : ℕ) → is_packed_yuv f ≡ true → x % 2 ≡ 0 → PackedPair at f (up (place_of side 4 z y (x / 2))) → PairAt at f side z y x
unfolding luma_on u_on v_on
packed_pair at f side z y x q even h = rw (q, ne_eqb (x % 2) 1 (λ e. omega (arith, even, e))) h
