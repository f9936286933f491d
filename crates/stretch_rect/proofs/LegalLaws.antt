-- Laws on what specs/Legal defines. Assumes nothing.
use Rattle.std.specs.Prelude.{◌≡◌, refl, Bool, true, false, ◌&&◌, ◌||◌, ℕ, ◌+◌, ◌*◌, ◌≤◌, leb, ltb, eqb}
use Rattle.std.proofs.lemmas.Bool.{false≢true, and_parts}
use Rattle.std.proofs.Common.{arith, lit<, leb-true, ltb-true, eqb-true}
use Rattle.channels.proofs.Nearest.{nearest_within_half}
use Rattle.stretch_rect.specs.declared.sets.YuvSet.{YuvSet}
use Rattle.stretch_rect.specs.Sets.{is_gain, is_legal, same_set, NearestTo, RoundedFrom, bt601, bt709}
use Rattle.stretch_rect.specs.Legal.{Legal}

-- ---- the bounds
-- a centre of 127.5 or 128 lies from 127.5 to 128
centre_between : (c : ℕ) → (eqb c 255 || eqb c 256) ≡ true → (255 ≤ c) × (c ≤ 256)
centre_between c h = go (eqb c 255) (eqb c 256) refl refl h
  where
    go : (a b : Bool) → eqb c 255 ≡ a → eqb c 256 ≡ b → (a || b) ≡ true → (255 ≤ c) × (c ≤ 256)
    go true b e f k = omega (arith, eqb-true c 255 e)
    go false true e f k = omega (arith, eqb-true c 256 f)
    go false false e f k = absurd (false≢true k)

-- each test of a chain of seven
seven : (a b c d e f g : Bool) → (a && b && c && d && e && f && g) ≡ true → (a ≡ true) × (b ≡ true) × (c ≡ true) × (d ≡ true) × (e ≡ true) × (f ≡ true) × (g ≡ true)
seven true true true true true true true h = (refl, refl, refl, refl, refl, refl, refl)
seven true true true true true true false h = absurd (false≢true h)
seven true true true true true false g h = absurd (false≢true h)
seven true true true true false f g h = absurd (false≢true h)
seven true true true false e f g h = absurd (false≢true h)
seven true true false d e f g h = absurd (false≢true h)
seven true false c d e f g h = absurd (false≢true h)
seven false b c d e f g h = absurd (false≢true h)

pub legal : (s : YuvSet) → is_legal s ≡ true → Legal s
unfolding is_legal
legal s h =
    let k = seven (is_gain s.luma_gain) (leb s.luma_offset 4194303) (is_gain s.v_to_red) (is_gain s.u_to_green) (is_gain s.v_to_green) (is_gain s.u_to_blue) (eqb s.chroma_centre 255 || eqb s.chroma_centre 256) h in
    record {
      luma_gain = leb-true _ _ k.0;
      luma_offset = leb-true _ _ k.1;
      v_to_red = leb-true _ _ k.2;
      u_to_green = leb-true _ _ k.3;
      v_to_green = leb-true _ _ k.4;
      u_to_blue = leb-true _ _ k.5;
      centre_least = (centre_between s.chroma_centre k.6).0;
      centre_most = (centre_between s.chroma_centre k.6).1;
    }

-- the two with names are legal
pub bt601_legal : is_legal bt601 ≡ true
unfolding is_legal
bt601_legal = refl

pub bt709_legal : is_legal bt709 ≡ true
unfolding is_legal
bt709_legal = refl

-- ---- equal sets
pub same_set_is : (s t : YuvSet) → same_set s t ≡ true → s ≡ t
unfolding same_set
same_set_is s t h =
    let k = seven (eqb s.luma_gain t.luma_gain) (eqb s.luma_offset t.luma_offset) (eqb s.v_to_red t.v_to_red) (eqb s.u_to_green t.u_to_green) (eqb s.v_to_green t.v_to_green) (eqb s.u_to_blue t.u_to_blue) (eqb s.chroma_centre t.chroma_centre) h in
    λ i. record {
      luma_gain = eqb-true s.luma_gain t.luma_gain k.0 i;
      luma_offset = eqb-true s.luma_offset t.luma_offset k.1 i;
      v_to_red = eqb-true s.v_to_red t.v_to_red k.2 i;
      u_to_green = eqb-true s.u_to_green t.u_to_green k.3 i;
      v_to_green = eqb-true s.v_to_green t.v_to_green k.4 i;
      u_to_blue = eqb-true s.u_to_blue t.u_to_blue k.5 i;
      chroma_centre = eqb-true s.chroma_centre t.chroma_centre k.6 i;
    }

-- ---- decimals
-- n / 65536 lies less than half a step from a decimal in thousandths
within_half : (thousandths n : ℕ) → Bool
within_half t n = ltb (2 * (n * 1000)) (2 * (t * 65536) + 1000) && ltb (2 * (t * 65536)) (2 * (n * 1000) + 1000)

-- so it is the nearest to it
near_decimal : (t n : ℕ) → within_half t n ≡ true → NearestTo t n
unfolding within_half
near_decimal t n h =
    let below = ltb-true (2 * (n * 1000)) (2 * (t * 65536) + 1000) (and_parts (ltb (2 * (n * 1000)) (2 * (t * 65536) + 1000)) (ltb (2 * (t * 65536)) (2 * (n * 1000) + 1000)) h).0 in
    let above = ltb-true (2 * (t * 65536)) (2 * (n * 1000) + 1000) (and_parts (ltb (2 * (n * 1000)) (2 * (t * 65536) + 1000)) (ltb (2 * (t * 65536)) (2 * (n * 1000) + 1000)) h).1 in
    nearest_within_half (λ j q. ⊥) (t * 65536) 1000 n (lit< tt) (omega (arith, below)) (omega (arith, above)) (λ j s e. omega (arith, below)) (λ j s e. omega (arith, above))

rounded_from : {g o vr ug vg ub : ℕ} {s : YuvSet} → within_half g s.luma_gain ≡ true → within_half o s.luma_offset ≡ true → within_half vr s.v_to_red ≡ true
    → within_half ug s.u_to_green ≡ true → within_half vg s.v_to_green ≡ true → within_half ub s.u_to_blue ≡ true → RoundedFrom g o vr ug vg ub s
rounded_from a b c d e f = record {
  gain_nearest = near_decimal _ _ a;
  offset_nearest = near_decimal _ _ b;
  v_to_red_nearest = near_decimal _ _ c;
  u_to_green_nearest = near_decimal _ _ d;
  v_to_green_nearest = near_decimal _ _ e;
  u_to_blue_nearest = near_decimal _ _ f;
}

pub bt601_rounded : RoundedFrom 1164 16065 1596 392 813 2017 bt601
unfolding within_half
bt601_rounded = rounded_from refl refl refl refl refl refl

pub bt709_rounded : RoundedFrom 1164 16000 1793 213 533 2112 bt709
unfolding within_half
bt709_rounded = rounded_from refl refl refl refl refl refl
