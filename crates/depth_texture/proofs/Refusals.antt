-- The refusals by their tests: which number each outcome of the tests gives, and what holds of a layout that stands and of a call that is accepted.
-- Assumes nothing.
use Rattle.std.specs.Prelude.{◌≡◌, Result, Ok, Err, Bool, not, ◌&&◌, ◌||◌, ltb, eqb, refl, true, false, ℕ, ◌+◌, ◌-◌, ◌*◌, ◌≤◌, ◌<◌, max, leb}
use Rattle.std.proofs.Common.{sym, ap, ap₂, subst, ◌∙◌, mul_comm, arith, ltb-true, lt-ltb, le-leb, leb-true, eq-eqb, ne_eqb}
use Rattle.std.proofs.lemmas.Bool.{and_parts}
use Rattle.words.specs.Tests.{pick}
use Rattle.words.proofs.TestsLaws.{not_zero}
use Rattle.words.specs.Multiples.{raised, Raised}
use Rattle.words.proofs.MultiplesLaws.{raised_is}
use Rattle.formats.specs.Table.{bytes_of}
use Rattle.depth_texture.specs.declared.PlaneLayout.{PlaneLayout}
use Rattle.depth_texture.specs.Pixels.{is_packed_depth, has_stencil}
use Rattle.depth_texture.specs.Pictures.{RowIn}
use Rattle.depth_texture.proofs.PicturesLaws.{rows_in, plane_in}
use Rattle.depth_texture.specs.declared.PlaneLayoutRefusal.{PlaneLayoutRefusal}
use Rattle.depth_texture.specs.declared.PlaneLayoutRefusal.TheVariants.{ZeroSize, NoPowerOfTwo, Over64Bits}
use Rattle.depth_texture.specs.Layouts.{limit, layout, aligned, is_power_of_two, is_empty, planes_fit, layout_refusal, layout_for, answer_number, answer_layout, Stands, stands, Pitches}
use Rattle.depth_texture.specs.Replies.{row_bytes, packed_holds, plane_holds, stencil_holds, refusal_of, Accepts}

-- ---- a layout that stands
neither : (a b : Bool) → not (a || b) ≡ true → (a ≡ false) × (b ≡ false)
neither false false h = (refl, refl)
neither false true h = let z : ◌≡◌ {A = ℕ} 0 1 = cc in absurd (omega arith)
neither true b h = let z : ◌≡◌ {A = ℕ} 0 1 = cc in absurd (omega arith)

pub stands_holds : (l : PlaneLayout) → stands l ≡ true → Stands l
unfolding stands is_empty planes_fit
stands_holds l h =
    let w = eqb l.width 0 in
    let g = eqb l.height 0 in
    let a = not (w || g) in
    let b = leb (4 * l.width) l.depth_pitch in
    let c = leb l.width l.stencil_pitch in
    let d = ltb (l.depth_pitch * l.height) limit in
    let e = ltb (l.stencil_pitch * l.height) limit in
    let abc = (and_parts (a && b && c) (d && e) h).0 in
    let de = (and_parts (a && b && c) (d && e) h).1 in
    let ab = (and_parts (a && b) c abc).0 in
    let none = neither w g (and_parts a b ab).0 in
    record {
      wide = not_zero l.width none.0;
      high = not_zero l.height none.1;
      depth_row_fits = leb-true (4 * l.width) l.depth_pitch (and_parts a b ab).1;
      stencil_row_fits = leb-true l.width l.stencil_pitch (and_parts (a && b) c abc).1;
      depth_fits = ltb-true (l.depth_pitch * l.height) limit (and_parts d e de).0;
      stencil_fits = ltb-true (l.stencil_pitch * l.height) limit (and_parts d e de).1;
    }

pub stands_tested : (l : PlaneLayout) → Stands l → stands l ≡ true
unfolding stands is_empty planes_fit
stands_tested l s =
    rw (
      ne_eqb l.width 0 (λ e. omega (arith, s.wide)),
      ne_eqb l.height 0 (λ e. omega (arith, s.high)),
      le-leb (4 * l.width) l.depth_pitch s.depth_row_fits,
      le-leb l.width l.stencil_pitch s.stencil_row_fits,
      lt-ltb (l.depth_pitch * l.height) limit s.depth_fits,
      lt-ltb (l.stencil_pitch * l.height) limit s.stencil_fits,
    ) refl

-- where there is a pixel and the pitches hold their rows it is whether the planes fit
pub rows_stand : (l : PlaneLayout) → 0 < l.width → 0 < l.height → 4 * l.width ≤ l.depth_pitch → l.width ≤ l.stencil_pitch → planes_fit l ≡ stands l
unfolding stands is_empty
rows_stand l w h d s =
    rw (
      ne_eqb l.width 0 (λ e. omega (arith, w)),
      ne_eqb l.height 0 (λ e. omega (arith, h)),
      le-leb (4 * l.width) l.depth_pitch d,
      le-leb l.width l.stencil_pitch s,
    ) refl

pub not_standing : (l : PlaneLayout) → (Stands l → ⊥) → false ≡ stands l
not_standing l k = sym (go (stands l) refl)
  where
    go : (t : Bool) → stands l ≡ t → t ≡ false
    go true e = absurd (k (stands_holds l e))
    go false e = refl

-- ---- a layout that is asked for
-- what `PlaneLayout::new` owes of its answer
abbrev pub Answered : (width height alignment : ℕ) → Result PlaneLayout PlaneLayoutRefusal → Type 0
Answered w h a r = record {
  reply : answer_number r ≡ layout_refusal w h a;
  layout : answer_layout r ≡ layout_for w h a;
  stands : answer_number r ≡ 0 → Stands (answer_layout r);
  pitches : answer_number r ≡ 0 → Pitches w a (answer_layout r);
}

-- a refusal is a number above 0 with four zeros
refused : (w h a : ℕ) (r : Result PlaneLayout PlaneLayoutRefusal) → answer_number r ≡ layout_refusal w h a → 0 < answer_number r → answer_layout r ≡ layout 0 0 0 0 → Answered w h a r
unfolding layout_for
refused w h a r e p z = record {
  reply = e;
  layout = z ∙ sym (ap (λ t. pick t (aligned w h a) (layout 0 0 0 0)) (ap (λ n. eqb n 0) (sym e) ∙ ne_eqb (answer_number r) 0 (λ q. omega arith)));
  stands = λ q. absurd (omega arith);
  pitches = λ q. absurd (omega arith);
}

module _ (w h a : ℕ) where
  pub zero_width : w ≡ 0 → Answered w h a (Err ZeroSize)
  unfolding layout_refusal is_empty aligned
  zero_width e = refused w h a (Err ZeroSize) (rw (eq-eqb w 0 e) refl) (omega arith) refl

  pub zero_height : h ≡ 0 → Answered w h a (Err ZeroSize)
  unfolding layout_refusal is_empty aligned
  zero_height e = refused w h a (Err ZeroSize) (rw (eq-eqb h 0 e, or_true (eqb w 0)) refl) (omega arith) refl
    where
      or_true : (b : Bool) → (b || true) ≡ true
      or_true true = refl
      or_true false = refl

  module _ (wide : w ≡ 0 → ⊥) (high : h ≡ 0 → ⊥) where
    pub no_power : is_power_of_two (max 4 a) ≡ false → Answered w h a (Err NoPowerOfTwo)
    unfolding layout_refusal is_empty aligned
    no_power e = refused w h a (Err NoPowerOfTwo) (rw (ne_eqb w 0 wide, ne_eqb h 0 high, e) refl) (omega arith) refl

    -- the pitches as they were computed, and whether their planes fit
    module _ (power : is_power_of_two (max 4 a) ≡ true) (d s : ℕ) (depth_is : d ≡ raised (w * 4) (max 4 a)) (stencil-is : s ≡ raised w (max 4 a)) where
      is_aligned : aligned w h a ≡ layout w h d s
      unfolding aligned
      is_aligned = sym (ap₂ (layout w h) (depth_is ∙ ap (λ n. raised n (max 4 a)) (mul_comm w 4)) stencil-is)

      pub over : planes_fit (layout w h d s) ≡ false → Answered w h a (Err Over64Bits)
      unfolding layout_refusal is_empty aligned
      over e = refused w h a (Err Over64Bits) (rw (ne_eqb w 0 wide, ne_eqb h 0 high, power, ap planes_fit is_aligned ∙ e) refl) (omega arith) refl

      pub made : planes_fit (layout w h d s) ≡ true → Answered w h a (Ok (layout w h d s))
      unfolding layout_refusal layout_for is_empty aligned planes_fit
      made e =
          let z : layout_refusal w h a ≡ 0 = rw (ne_eqb w 0 wide, ne_eqb h 0 high, power, ap planes_fit is_aligned ∙ e) refl in
          let unit : 0 < max 4 a = omega arith in
          let p = ltb (d * h) limit in
          let q = ltb (s * h) limit in record {
            reply = sym z;
            layout = sym (ap (λ n. pick (eqb n 0) (aligned w h a) (layout 0 0 0 0)) z ∙ is_aligned);
            stands = λ n. record {
              wide = omega (arith, wide);
              high = omega (arith, high);
              depth_row_fits = omega (arith, depth_is, (raised_is (w * 4) (max 4 a) unit).enough);
              stencil_row_fits = omega (arith, stencil-is, (raised_is w (max 4 a) unit).enough);
              depth_fits = ltb-true (d * h) limit (and_parts p q e).0;
              stencil_fits = ltb-true (s * h) limit (and_parts p q e).1;
            };
            pitches = λ n. record {
              depth = subst (Raised (4 * w) (max 4 a)) (sym (depth_is ∙ ap (λ n. raised n (max 4 a)) (mul_comm w 4))) (raised_is (4 * w) (max 4 a) unit);
              stencil = subst (Raised w (max 4 a)) (sym stencil-is) (raised_is w (max 4 a) unit);
            };
          }

-- ---- the numbers
-- the tests that leave no number
passed : (a b c d e : Bool) → ◌≡◌ {A = ℕ} (pick (not a) 9 (pick (not b) 10 (pick (not c) 11 (pick (not d) 12 (pick (not e) 13 0))))) 0
    → (a ≡ true) × (b ≡ true) × (c ≡ true) × (d ≡ true) × (e ≡ true)
passed true true true true true h = (refl, refl, refl, refl, refl)
passed true true true true false h = absurd (omega arith)
passed true true true false e h = absurd (omega arith)
passed true true false d e h = absurd (omega arith)
passed true false c d e h = absurd (omega arith)
passed false b c d e h = absurd (omega arith)

module _ (f : ℕ) (l : PlaneLayout) (packed pitch depth stencil : ℕ) where
  pub refused_9 : is_packed_depth f ≡ false → refusal_of f l packed pitch depth stencil ≡ 9
  unfolding refusal_of
  refused_9 a = rw a refl

  pub refused_10 : is_packed_depth f ≡ true → stands l ≡ false → refusal_of f l packed pitch depth stencil ≡ 10
  unfolding refusal_of
  refused_10 a b = rw (a, b) refl

  pub refused_11 : is_packed_depth f ≡ true → stands l ≡ true → packed_holds f l packed pitch ≡ false → refusal_of f l packed pitch depth stencil ≡ 11
  unfolding refusal_of
  refused_11 a b c = rw (a, b, c) refl

  pub refused_12 : is_packed_depth f ≡ true → stands l ≡ true → packed_holds f l packed pitch ≡ true → plane_holds l.depth_pitch l.height depth ≡ false
      → refusal_of f l packed pitch depth stencil ≡ 12
  unfolding refusal_of
  refused_12 a b c d = rw (a, b, c, d) refl

  pub refused_13 : is_packed_depth f ≡ true → stands l ≡ true → packed_holds f l packed pitch ≡ true → plane_holds l.depth_pitch l.height depth ≡ true
      → stencil_holds f l stencil ≡ false → refusal_of f l packed pitch depth stencil ≡ 13
  unfolding refusal_of
  refused_13 a b c d e = rw (a, b, c, d, e) refl

  pub not_refused : is_packed_depth f ≡ true → stands l ≡ true → packed_holds f l packed pitch ≡ true → plane_holds l.depth_pitch l.height depth ≡ true
      → stencil_holds f l stencil ≡ true → refusal_of f l packed pitch depth stencil ≡ 0
  unfolding refusal_of
  not_refused a b c d e = rw (a, b, c, d, e) refl

  -- WHAT AN ACCEPTED CALL HAS
  pub accepts : refusal_of f l packed pitch depth stencil ≡ 0 → Accepts f l packed pitch depth stencil
  unfolding refusal_of packed_holds stencil_holds
  accepts h =
      let t = passed (is_packed_depth f) (stands l) (packed_holds f l packed pitch) (plane_holds l.depth_pitch l.height depth) (stencil_holds f l stencil) h in
      let a = leb (row_bytes f l) pitch in
      let b = leb ((l.height - 1) * pitch + row_bytes f l) packed in
      record {
        known = t.0;
        sound = stands_holds l t.1;
        packed_row_fits = leb-true (row_bytes f l) pitch (and_parts a b t.2).0;
        packed_all = leb-true ((l.height - 1) * pitch + row_bytes f l) packed (and_parts a b t.2).1;
        depth_all = leb-true (l.depth_pitch * l.height) depth t.3;
        stencil_all = λ s. leb-true (l.stencil_pitch * l.height) stencil (asked s t.4);
      }
    where
      asked : has_stencil f ≡ true → pick (has_stencil f) (plane_holds l.stencil_pitch l.height stencil) true ≡ true → plane_holds l.stencil_pitch l.height stencil ≡ true
      asked s t = rw s at t

-- ---- each row of an accepted call lies within its buffers
pub record RowsWithin (f : ℕ) (l : PlaneLayout) (packed pitch depth stencil y : ℕ) : Type 0 where
  pub in_packed : RowIn packed (y * pitch) (bytes_of f) l.width
  pub in_depth : RowIn depth (y * l.depth_pitch) 4 l.width
  pub in_stencil : has_stencil f ≡ true → RowIn stencil (y * l.stencil_pitch) 1 l.width

pub rows_within : (f : ℕ) (l : PlaneLayout) (packed pitch depth stencil : ℕ) → Accepts f l packed pitch depth stencil → (y : ℕ) → y < l.height → RowsWithin f l packed pitch depth stencil y
rows_within f l packed pitch depth stencil ok y h = record {
  in_packed = rows_in packed pitch (bytes_of f) l.width l.height ok.packed_all y h;
  in_depth = plane_in depth l.depth_pitch 4 l.width l.height (omega (arith, ok.sound.depth_row_fits)) ok.depth_all y h;
  in_stencil = λ s. plane_in stencil l.stencil_pitch 1 l.width l.height (omega (arith, ok.sound.stencil_row_fits)) (ok.stencil_all s) y h;
}
