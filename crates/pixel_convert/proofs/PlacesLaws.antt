-- Laws on what specs/Places defines. Assumes nothing.
use Rattle.std.specs.Prelude.{◌≡◌, refl, Bool, true, false, ℕ, ◌+◌, ◌*◌, ◌<◌, ◌≤◌, eqb}
use Rattle.std.proofs.Common.{sym, ap, ◌∙◌, subst, arith, add-mul, mul-le-mul}
use Rattle.words.specs.Tests.{pick}
use Rattle.formats.specs.Codes.{YV12}
use Rattle.formats.specs.Classes.{is_packed_yuv}
use Rattle.pixel_convert.specs.declared.pairs.PairPlaces.{PairPlaces}
use Rattle.pixel_convert.specs.Gathering.{luma_step, chroma_step, PairsIn}
use Rattle.pixel_convert.specs.Places.{format_of, luma_at, u_at, v_at, PlacesIn, HasAfter, PlacesAre, After}

-- ---- further on
-- no pair further on, they are the places themselves
pub after_none : (at : PairPlaces) → After at 0 at
after_none at = record { format = refl; luma_is = omega arith; u_is = omega arith; v_is = omega arith }

-- n pairs further on than those that are so many further on
pub after_more : (first at next : PairPlaces) (done n : ℕ) → After first done at → After at n next → After first (done + n) next
after_more first at next done n a b =
    let f = b.format ∙ a.format in
    let luma : n * luma_step (format_of at) ≡ n * luma_step (format_of first) = ap (λ g. n * luma_step g) a.format in
    let chroma : n * chroma_step (format_of at) ≡ n * chroma_step (format_of first) = ap (λ g. n * chroma_step g) a.format in
    record {
      format = f;
      luma_is = omega (arith, a.luma_is, b.luma_is, luma, add-mul done n (luma_step (format_of first)));
      u_is = omega (arith, a.u_is, b.u_is, chroma, add-mul done n (chroma_step (format_of first)));
      v_is = omega (arith, a.v_is, b.v_is, chroma, add-mul done n (chroma_step (format_of first)));
    }

-- what holds of numbers holds of the places that they are
module _ {at : PairPlaces} {f luma u v : ℕ} (h : PlacesAre at f luma u v) where
  pub by_places : (P : (f luma u v : ℕ) → Type 0) → P f luma u v → P (format_of at) (luma_at at) (u_at at) (v_at at)
  by_places P p = subst (λ k. P k (luma_at at) (u_at at) (v_at at)) (sym h.format) (subst (λ k. P f k (u_at at) (v_at at)) (sym h.luma_is) (subst (λ k. P f luma k (v_at at)) (sym h.u_is) (subst (λ k. P f luma u k) (sym h.v_is) p)))

  pub by_numbers : (P : (f luma u v : ℕ) → Type 0) → P (format_of at) (luma_at at) (u_at at) (v_at at) → P f luma u v
  by_numbers P p = subst (λ k. P k luma u v) h.format (subst (λ k. P (format_of at) k u v) h.luma_is (subst (λ k. P (format_of at) (luma_at at) k v) h.u_is (subst (λ k. P (format_of at) (luma_at at) (u_at at) k) h.v_is p)))

-- so many of the pairs further on lie within the same length
pub places_on : (len : ℕ) (first at : PairPlaces) (pairs done n : ℕ) → After first done at → PlacesIn len first pairs → done + n ≤ pairs → PlacesIn len at n
places_on len first at pairs done n a p h =
    by_places a (λ f luma u v. PairsIn len f luma u v n)
    (λ j l.
    let i = p (done + j) (omega (arith, h, l)) in
    record {
      lumas = omega (arith, i.lumas, add-mul done j (luma_step (format_of first)));
      us = omega (arith, i.us, add-mul done j (chroma_step (format_of first)));
      vs = omega (arith, i.vs, add-mul done j (chroma_step (format_of first)));
    })

-- a step is at most a macropixel
pub steps_small : (f : ℕ) → (luma_step f ≤ 4) × (chroma_step f ≤ 4)
unfolding luma_step chroma_step
steps_small f = (go (is_packed_yuv f), more (is_packed_yuv f) (eqb f YV12))
  where
    go : (b : Bool) → pick b 4 2 ≤ 4
    go true = omega arith
    go false = omega arith

    more : (b c : Bool) → pick b 4 (pick c 1 2) ≤ 4
    more true c = omega arith
    more false true = omega arith
    more false false = omega arith

-- places behind at most 32 pairs of a buffer fit 64 bits
pub has_after : (len : ℕ) (at : PairPlaces) (n : ℕ) → PlacesIn len at n → 0 < n → n ≤ 32 → len ≤ 9223372036854775807 → HasAfter at n
has_after len at n p some few fits =
    let f = format_of at in
    let k = steps_small f in
    let luma : n * luma_step f ≤ 32 * 4 = mul-le-mul few k.0 in
    let chroma : n * chroma_step f ≤ 32 * 4 = mul-le-mul few k.1 in
    let i = p 0 some in
    record { luma = omega (arith, i.lumas, luma); u = omega (arith, i.us, chroma); v = omega (arith, i.vs, chroma) }
