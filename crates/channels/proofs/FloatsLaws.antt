-- Laws on what specs/Floats defines. Assumes nothing.
use Rattle.std.specs.Prelude.{◌≡◌, refl, ℕ, zero, suc, ◌+◌, ◌-◌, ◌*◌, ◌/◌, ◌%◌, ◌^◌, ◌≤◌, ◌<◌, Bool, true, false, cond, T, leb, eqb, pos, negsuc, Float}
use Rattle.std.proofs.Common.{sym, ap, ◌∙◌, subst, inl, inr, ⊎_elim, zero-le, le_refl, le_trans, le_of_eq, le_of_lt, eq-or-lt_of_le, lt_of_lt_of_le, not-le_of_lt, zero-lt-suc, mul-one, mul_comm, mul_assoc, mul_right_comm, mul-le-mul_right, mul-lt-mul_of_pos_right, mul-le-mul, lt_of_mul-lt-mul_right, le_of_mul-le-mul_right, mod-eq_of_lt, arith, true≢false, leb→le, le→leb, lt→ltb, eqb→eq, pow-add, pow_pos, pow_mono, shl_lt}
use Rattle.std.proofs.Math.Nat.{eq_of_mul-eq-mul_right, min-eq_left, min-eq_right, min-le_right}
use Rattle.std.proofs.Math.Dec.{not_T}
use Rattle.std.specs.Float.{nan, inf, fin, binary32}
use Rattle.std.specs.Float.Ieee.{up, down, odd, of_fields, of_bits, is_nan}
use Rattle.std.specs.Float.Ieee.Fits.{down_pos}
use Rattle.std.specs.Float.Ieee.Bits.{is_true, is_false, cond_no, nan_bits_is, nan_bits_above}
use Rattle.std.specs.Float.Ieee.Exact.{HasValue, odd_sign}
use Rattle.std.proofs.lemmas.Bool.{cases_lt}
use Rattle.channels.specs.Fractions.{◌over◌}
use Rattle.channels.specs.Floats.{clamped}

-- ---- the fraction
pub bottom_pos : (x : Float) → 0 < (clamped x).bottom
bottom_pos nan = zero-lt-suc 0
bottom_pos (inf s) = zero-lt-suc 0
bottom_pos (fin true m e) = zero-lt-suc 0
bottom_pos (fin false m e) = down_pos e

-- the bottom is a power of two
pub bottom_power : (x : Float) → (s : ℕ) × ((clamped x).bottom ≡ 2 ^ s)
bottom_power nan = (0, refl)
bottom_power (inf s) = (0, refl)
bottom_power (fin true m e) = (0, refl)
bottom_power (fin false m (pos k)) = (0, refl)
bottom_power (fin false m (negsuc k)) = (suc k, refl)

pub top_le : (x : Float) → (clamped x).top ≤ (clamped x).bottom
top_le nan = zero-le
top_le (inf true) = zero-le
top_le (inf false) = le_refl 1
top_le (fin true m e) = zero-le
top_le (fin false m e) = min-le_right (m * up e) (down e)

-- a value of v / c, up to one, and from one on
pub below_one : (x : Float) (v c : ℕ) → HasValue x false v c → 0 < c → v ≤ c → (clamped x).top * c ≡ v * (clamped x).bottom
below_one nan v c h C l = absurd h
below_one (inf s) v c h C l = absurd h
below_one (fin true m e) v c h C l = absurd (true≢false h.0)
below_one (fin false m e) v c h C l =
    let le : m * up e ≤ down e = le_of_mul-le-mul_right (le_trans (le_of_eq h.1) (le_trans (mul-le-mul_right (down e) l) (le_of_eq (mul_comm c (down e))))) C in
    ap (λ (z : ℕ). z * c) (min-eq_left le) ∙ h.1

pub from_one : (x : Float) (v c : ℕ) → HasValue x false v c → 0 < c → c ≤ v → (clamped x).top ≡ (clamped x).bottom
from_one nan v c h C l = absurd h
from_one (inf s) v c h C l = absurd h
from_one (fin true m e) v c h C l = absurd (true≢false h.0)
from_one (fin false m e) v c h C l =
    min-eq_right (le_of_mul-le-mul_right (le_trans (le_of_eq (mul_comm (down e) c)) (le_trans (mul-le-mul_right (down e) l) (le_of_eq (sym h.1)))) C)

-- ---- the number that a pattern with no sign stands for, in units of 2 ^ -149
of_bits_is : (b : ℕ) → of_bits binary32 b ≡ of_fields binary32 (leb 2147483648 b) (b % 2147483648 / 8388608) (b % 8388608)
unfolding of_bits
of_bits_is b = refl

unsigned : (b : ℕ) → b < 2147483648 → of_bits binary32 b ≡ of_fields binary32 false (b / 8388608) (b % 8388608)
unsigned b h =
    of_bits_is b
    ∙ ap (λ (s : Bool). of_fields binary32 s (b % 2147483648 / 8388608) (b % 8388608)) (is_false (leb 2147483648 b) (not_T (leb 2147483648 b) (λ (u : T (leb 2147483648 b)). not-le_of_lt h (leb→le 2147483648 b u))))
    ∙ ap (λ (x : ℕ). of_fields binary32 false (x / 8388608) (b % 8388608)) (mod-eq_of_lt h)

-- the field of a finite number is not all ones
pub differ : (x : ℕ) → suc x < 255 → suc x ≡ 255 → ⊥
differ x h e = omega arith

at_zero : (t : ℕ) → of_fields binary32 false 0 t ≡ odd 24 false t 0 149
unfolding of_fields
at_zero t = refl

under_ones : (t x : ℕ) → suc x < 255 → of_fields binary32 false (suc x) t ≡ odd 24 false (8388608 + t) x 149
unfolding of_fields
under_ones t x h = cond_no (eqb (suc x) 255) (cond (eqb t 0) (inf false) nan) (odd 24 false (8388608 + t) x 149) (not_T (eqb (suc x) 255) (λ (u : T (eqb (suc x) 255)). differ x h (eqb→eq (suc x) 255 u)))

-- a pattern whose exponent's field is x + 1
normal : (b x : ℕ) → b / 8388608 ≡ suc x → suc x < 255 → b < 2147483648 → HasValue (of_bits binary32 b) false ((8388608 + b % 8388608) * 2 ^ x) (2 ^ 149)
normal b x e h l =
    subst (λ (v : Float). HasValue v false ((8388608 + b % 8388608) * 2 ^ x) (2 ^ 149))
    (sym (unsigned b l ∙ ap (λ (y : ℕ). of_fields binary32 false y (b % 8388608)) e ∙ under_ones (b % 8388608) x h))
    (odd_sign 24 false (8388608 + b % 8388608) x 149)

subnormal : (b : ℕ) → b / 8388608 ≡ 0 → b < 2147483648 → HasValue (of_bits binary32 b) false (b % 8388608 * 2 ^ 0) (2 ^ 149)
subnormal b e l =
    subst (λ (v : Float). HasValue v false (b % 8388608 * 2 ^ 0) (2 ^ 149))
    (sym (unsigned b l ∙ ap (λ (y : ℕ). of_fields binary32 false y (b % 8388608)) e ∙ at_zero (b % 8388608)))
    (odd_sign 24 false (b % 8388608) 0 149)

-- a normal significand has 24 digits
pub digits : (b : ℕ) → 8388608 + b % 8388608 < 2 ^ 24
digits b = omega arith

-- ---- by the range in which a pattern lies
-- a sign: 0
sign_odd : (d q k l : ℕ) → clamped (odd d true q k l) ≡ 0 over 1
unfolding odd
sign_odd d zero k l = refl
sign_odd d (suc q) k l = refl

sign_cond : (a b : Bool) (x : Float) → clamped x ≡ 0 over 1 → clamped (cond a (cond b (inf true) nan) x) ≡ 0 over 1
sign_cond true true x h = refl
sign_cond true false x h = refl
sign_cond false b x h = h

sign_fields : (x t : ℕ) → clamped (of_fields binary32 true x t) ≡ 0 over 1
unfolding of_fields
sign_fields zero t = sign_odd 24 t 0 149
sign_fields (suc x) t = sign_cond (eqb (suc x) 255) (eqb t 0) (odd 24 true (8388608 + t) x 149) (sign_odd 24 (8388608 + t) x 149)

negative_pattern : (b : ℕ) → 2147483648 ≤ b → clamped (of_bits binary32 b) ≡ 0 over 1
negative_pattern b h =
    ap clamped (of_bits_is b ∙ ap (λ (s : Bool). of_fields binary32 s (b % 2147483648 / 8388608) (b % 8388608)) (is_true (leb 2147483648 b) (le→leb 2147483648 b h)))
    ∙ sign_fields (b % 2147483648 / 8388608) (b % 8388608)

-- a NaN: 0
nan_clamped : (x : Float) → T (is_nan x) → clamped x ≡ 0 over 1
unfolding is_nan
nan_clamped nan t = refl
nan_clamped (inf s) t = absurd t
nan_clamped (fin s m e) t = absurd t

nan_pattern : (b : ℕ) → 2139095040 < b → b < 2147483648 → clamped (of_bits binary32 b) ≡ 0 over 1
nan_pattern b h k =
    nan_clamped (of_bits binary32 b)
    (subst T (nan_bits_is binary32 b) (subst T (sym (nan_bits_above binary32 b)) (lt→ltb 2139095040 (b % 2147483648) (subst (λ (z : ℕ). 2139095040 < z) (sym (mod-eq_of_lt k)) h))))

-- either, beside the pattern 0
pub zero_clamped : clamped (of_bits binary32 0) ≡ 0 over 1
unfolding of_bits of_fields odd
zero_clamped = refl

pub as_zero : (b : ℕ) → 2139095040 < b → clamped (of_bits binary32 0) ≡ clamped (of_bits binary32 b)
as_zero b h = zero_clamped ∙ sym (⊎_elim (nan_pattern b h) (negative_pattern b) (cases_lt b 2147483648))

-- one and above, the infinity too: 1
infinity : of_bits binary32 2139095040 ≡ inf false
unfolding of_bits
infinity = refl

finite_pattern : (b : ℕ) → 1065353216 ≤ b → b < 2139095040 → (clamped (of_bits binary32 b)).top ≡ (clamped (of_bits binary32 b)).bottom
finite_pattern b h k =
    let x = b / 8388608 - 1 in
    from_one (of_bits binary32 b) ((8388608 + b % 8388608) * 2 ^ x) (2 ^ 149) (normal b x (field b h) (top b h k) (signless b k)) (pow_pos 149)
    (le_trans (le_of_eq (pow-add 2 23 126)) (mul-le-mul (lead (b % 8388608)) (pow_mono (deep b h))))
  where
    field : (b : ℕ) → 1065353216 ≤ b → b / 8388608 ≡ suc (b / 8388608 - 1)
    field b h = omega arith

    top : (b : ℕ) → 1065353216 ≤ b → b < 2139095040 → suc (b / 8388608 - 1) < 255
    top b h k = omega arith

    signless : (b : ℕ) → b < 2139095040 → b < 2147483648
    signless b k = omega arith

    lead : (t : ℕ) → 2 ^ 23 ≤ 8388608 + t
    lead t = omega arith

    deep : (b : ℕ) → 1065353216 ≤ b → 126 ≤ b / 8388608 - 1
    deep b h = omega arith

pub high_pattern : (b : ℕ) → 1065353216 ≤ b → b ≤ 2139095040 → (clamped (of_bits binary32 b)).top ≡ (clamped (of_bits binary32 b)).bottom
high_pattern b h k = elim (eq-or-lt_of_le k) [
  | inl e ↦ subst (λ (v : Float). (clamped v).top ≡ (clamped v).bottom) (sym (ap (of_bits binary32) e ∙ infinity)) refl
  | inr l ↦ finite_pattern b h l
]

-- normal and at most one: the significand over a power of two
pub normal_pattern : (b : ℕ) → 8388608 ≤ b → b ≤ 1065353216
    → (clamped (of_bits binary32 b)).top * 2 ^ (150 - b / 8388608) ≡ (8388608 + b % 8388608) * (clamped (of_bits binary32 b)).bottom
normal_pattern b h k =
    let x = b / 8388608 - 1 in
    let s = 150 - b / 8388608 in
    let t = (clamped (of_bits binary32 b)).top in
    let u = (clamped (of_bits binary32 b)).bottom in
    let m = 8388608 + b % 8388608 in
    let E : t * 2 ^ 149 ≡ m * 2 ^ x * u =
    below_one (of_bits binary32 b) (m * 2 ^ x) (2 ^ 149) (normal b x (field b h) (low b h k) (signless b k)) (pow_pos 149) (most b h k) in
    eq_of_mul-eq-mul_right (2 ^ x) (pow_pos x) (t * 2 ^ s) (m * u)
    (mul_assoc t (2 ^ s) (2 ^ x) ∙ ap (λ (z : ℕ). t * z) (sym (pow-add 2 s x) ∙ ap (λ (z : ℕ). 2 ^ z) (whole b h k)) ∙ E ∙ mul_right_comm m (2 ^ x) u)
  where
    field : (b : ℕ) → 8388608 ≤ b → b / 8388608 ≡ suc (b / 8388608 - 1)
    field b h = omega arith

    low : (b : ℕ) → 8388608 ≤ b → b ≤ 1065353216 → suc (b / 8388608 - 1) < 255
    low b h k = omega arith

    signless : (b : ℕ) → b ≤ 1065353216 → b < 2147483648
    signless b k = omega arith

    cap : (b : ℕ) → 8388608 ≤ b → b < 1065353216 → 24 + (b / 8388608 - 1) ≤ 149
    cap b h k = omega arith

    most : (b : ℕ) → 8388608 ≤ b → b ≤ 1065353216 → (8388608 + b % 8388608) * 2 ^ (b / 8388608 - 1) ≤ 2 ^ 149
    most b h k = elim (eq-or-lt_of_le k) [
      | inl e ↦ subst (λ (z : ℕ). (8388608 + z % 8388608) * 2 ^ (z / 8388608 - 1) ≤ 2 ^ 149) (sym e) (le_of_eq (sym (pow-add 2 23 126)))
      | inr l ↦ le_of_lt (lt_of_lt_of_le (shl_lt 24 (b / 8388608 - 1) (digits b)) (pow_mono (cap b h l)))
    ]

    whole : (b : ℕ) → 8388608 ≤ b → b ≤ 1065353216 → 150 - b / 8388608 + (b / 8388608 - 1) ≡ 149
    whole b h k = omega arith

-- below the power of two with the exponent's field t, which is 2 ^ (t - 127)
abbrev Small : (t b : ℕ) → Type 0
Small t b = (v : ℕ) × (v < 2 ^ (22 + t)) × HasValue (of_bits binary32 b) false v (2 ^ 149)

small_value : (t b : ℕ) → 1 ≤ t → t ≤ 127 → b < t * 8388608 → Small t b
small_value t b o l h = go (b / 8388608) refl
  where
    signless : (t b : ℕ) → t ≤ 127 → b < t * 8388608 → b < 2147483648
    signless t b l h = omega arith

    part : (b : ℕ) → b % 8388608 < 2 ^ 23
    part b = omega arith

    room : (t : ℕ) → 1 ≤ t → 23 ≤ 22 + t
    room t o = omega arith

    low : (t b x : ℕ) → b < t * 8388608 → b / 8388608 ≡ suc x → suc x < t
    low t b x h e = omega arith

    lt_255 : (t x : ℕ) → t ≤ 127 → suc x < t → suc x < 255
    lt_255 t x l h = omega arith

    cap : (t x : ℕ) → suc x < t → 24 + x ≤ 22 + t
    cap t x h = omega arith

    go : (x : ℕ) → b / 8388608 ≡ x → Small t b
    go zero e = (
      b % 8388608 * 2 ^ 0,
      subst (λ (z : ℕ). z < 2 ^ (22 + t)) (sym (mul-one (b % 8388608))) (lt_of_lt_of_le (part b) (pow_mono (room t o))),
      subnormal b e (signless t b l h),
    )
    go (suc x) e = (
      (8388608 + b % 8388608) * 2 ^ x,
      lt_of_lt_of_le (shl_lt 24 x (digits b)) (pow_mono (cap t x (low t b x h e))),
      normal b x e (lt_255 t x l (low t b x h e)) (signless t b l h),
    )

pub small_pattern : (t b : ℕ) → 1 ≤ t → t ≤ 127 → b < t * 8388608 → (clamped (of_bits binary32 b)).top * 2 ^ (127 - t) < (clamped (of_bits binary32 b)).bottom
small_pattern t b o l h =
    let x = of_bits binary32 b in
    let w = small_value t b o l h in
    let p = (clamped x).top in
    let q = (clamped x).bottom in
    let cut : 2 ^ (22 + t) * 2 ^ (127 - t) ≡ 2 ^ 149 = sym (pow-add 2 (22 + t) (127 - t)) ∙ ap (λ (z : ℕ). 2 ^ z) (whole t l) in
    let v-lt : w.0 < 2 ^ 149 = lt_of_lt_of_le w.1 (pow_mono (under t l)) in
    let E : p * 2 ^ 149 ≡ w.0 * q = below_one x w.0 (2 ^ 149) w.2 (pow_pos 149) (le_of_lt v-lt) in
    let L : w.0 * 2 ^ (127 - t) < 2 ^ 149 = subst (λ (z : ℕ). w.0 * 2 ^ (127 - t) < z) cut (mul-lt-mul_of_pos_right w.1 (pow_pos (127 - t))) in
    lt_of_mul-lt-mul_right (2 ^ 149)
    (subst (λ (z : ℕ). z < q * 2 ^ 149) (sym (mul_right_comm p (2 ^ (127 - t)) (2 ^ 149) ∙ ap (λ (z : ℕ). z * 2 ^ (127 - t)) E ∙ mul_right_comm w.0 q (2 ^ (127 - t))))
    (subst (λ (z : ℕ). w.0 * 2 ^ (127 - t) * q < z) (mul_comm (2 ^ 149) q) (mul-lt-mul_of_pos_right L (bottom_pos x))))
  where
    whole : (t : ℕ) → t ≤ 127 → 22 + t + (127 - t) ≡ 149
    whole t l = omega arith

    under : (t : ℕ) → t ≤ 127 → 22 + t ≤ 149
    under t l = omega arith
