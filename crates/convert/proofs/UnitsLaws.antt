-- Laws on what specs/Units defines. Assumes nothing.
use Rattle.std.specs.Prelude.{◌≡◌, ◌⊎◌, ℕ, zero, suc, ◌+◌, ◌*◌, ◌/◌, ◌%◌, ◌^◌, ◌≤◌, ◌<◌}
use Rattle.std.proofs.Common.{sym, ap, ap₂, ◌∙◌, subst, inl, inr, le_trans, lt_of_lt_of_le, le_of_eq, mod-lt, div-add-mod', mul_assoc, mul-one, mul-le-mul_right, mul-le-mul_left, mul-lt-mul_of_pos_right, eq-or-lt_of_le, le-add_right, arith, pow-add, pow_pos, pow_mono}
use Rattle.std.proofs.Math.Arith.{digits_div, digits_mod}
use Rattle.std.proofs.lemmas.Bool.{cases_lt}
use Rattle.convert.specs.Units.{units_at, units_of}

pub units_fields : (h e t : ℕ) → t < h → units_of h (e * h + t) ≡ units_at h e t
unfolding units_of
units_fields h e t l = ap₂ (units_at h) (digits_div e l) (digits_mod e l)

-- ---- a larger code stands for a larger number
below_next : (h e t : ℕ) → t < h → units_at h e t < h * 2 ^ e
below_next h zero t l = subst (λ (z : ℕ). t < z) (sym (mul-one h)) l
below_next h (suc x) t l =
    lt_of_lt_of_le (mul-lt-mul_of_pos_right (twice h t l) (pow_pos x))
    (le_of_eq (mul_assoc h 2 (2 ^ x) ∙ ap (λ (z : ℕ). h * z) (sym (pow-add 2 1 x) ∙ ap (λ (z : ℕ). 2 ^ z) (one_more x))))
  where
    twice : (h t : ℕ) → t < h → h + t < h * 2
    twice h t l = omega arith

    one_more : (x : ℕ) → 1 + x ≡ suc x
    one_more x = omega arith

from_field : (h x t : ℕ) → h * 2 ^ x ≤ units_at h (suc x) t
from_field h x t = mul-le-mul_right (2 ^ x) (le-add_right h t)

same_field : (h e s t : ℕ) → s < t → units_at h e s < units_at h e t
same_field h zero s t l = l
same_field h (suc x) s t l = mul-lt-mul_of_pos_right (more h s t l) (pow_pos x)
  where
    more : (h s t : ℕ) → s < t → h + s < h + t
    more h s t l = omega arith

fields_lt : (h e s f t : ℕ) → s < h → t < h → (e < f) ⊎ ((e ≡ f) × (s < t)) → units_at h e s < units_at h f t
fields_lt h e s zero t p q (inl l) = absurd (omega arith)
fields_lt h e s (suc x) t p q (inl l) =
    lt_of_lt_of_le (below_next h e s p) (le_trans (mul-le-mul_left h (pow_mono (under e x l))) (from_field h x t))
  where
    under : (e x : ℕ) → e < suc x → e ≤ x
    under e x l = omega arith
fields_lt h e s f t p q (inr w) = subst (λ (z : ℕ). units_at h e s < units_at h z t) w.0 (same_field h e s t w.1)

-- THE ORDER
pub units_lt : (h j k : ℕ) → 0 < h → j < k → units_of h j < units_of h k
unfolding units_of
units_lt h j k H l = fields_lt h (j / h) (j % h) (k / h) (k % h) (mod-lt j H) (mod-lt k H) (which (cases_lt (j / h) (k / h)))
  where
    lex : (a b s t : ℕ) → b ≤ a → a * h + s < b * h + t → s < h → t < h → (a ≡ b) × (s < t)
    lex a b s t g m p q = elim (eq-or-lt_of_le g) [
      | inl e ↦ (sym e, omega (arith, ap (λ (z : ℕ). z * h) e))
      | inr u ↦ absurd (omega (arith, mul-le-mul_right h u, lt_step b))
    ]
      where
        lt_step : (b : ℕ) → suc b * h ≡ b * h + h
        lt_step b = omega arith

    which : (j / h < k / h) ⊎ (k / h ≤ j / h) → (j / h < k / h) ⊎ ((j / h ≡ k / h) × (j % h < k % h))
    which (inl m) = inl m
    which (inr m) = inr (lex (j / h) (k / h) (j % h) (k % h) m (subst (λ (z : ℕ). z < k / h * h + k % h) (sym (div-add-mod' j h)) (subst (λ (z : ℕ). j < z) (sym (div-add-mod' k h)) l)) (mod-lt j H) (mod-lt k H))

pub units_le : (h j k : ℕ) → 0 < h → j ≤ k → units_of h j ≤ units_of h k
units_le h j k H l = elim (eq-or-lt_of_le l) [ inl e ↦ le_of_eq (ap (units_of h) e) | inr m ↦ omega (arith, units_lt h j k H m) ]
