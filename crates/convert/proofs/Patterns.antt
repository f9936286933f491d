-- The binary16 code of a binary32 pattern, by the range in which the pattern without its sign lies. Assumes nothing.
use Rattle.std.specs.Prelude.{◌≡◌, refl, Bool, cond, ℕ, zero, suc, ◌+◌, ◌*◌, ◌-◌, ◌/◌, ◌%◌, ◌^◌, ◌≤◌, ◌<◌, T, leb, eqb, Float}
use Rattle.std.proofs.Common.{sym, ap₂, ◌∙◌, subst, inl, inr, le_trans, le_of_eq, lt_of_lt_of_le, not-le_of_lt, eq-or-lt_of_le, mul-pos, mul_right_comm, mul-one, one-mul, mul-le-mul_right, mul-lt-mul_of_pos_right, le_of_mul-le-mul_right, lt_of_mul-lt-mul_right, div-lt_iff_lt-mul, le-div_iff_mul-le, arith, lt→ltb, eqb→eq, lit<, pow_pos, pow_mono, le-leb, ap, mul_assoc, zero-add, pow-add}
use Rattle.std.proofs.Math.Dec.{not_T}
use Rattle.std.specs.Float.{nan, inf, fin, binary32}
use Rattle.std.specs.Float.Ieee.{up, down, size, odd, of_fields, of_bits, is_nan}
use Rattle.std.specs.Float.Ieee.Digits.{size-lt, size-le}
use Rattle.std.specs.Float.Ieee.Bits.{cond_no, nan_bits_is, nan_bits_above}
use Rattle.std.specs.Float.Ieee.Exact.{HasValue, odd_sign}
use Rattle.std.specs.Float.Ieee.Fits.{down_pos}
use Rattle.std.specs.Float.Ieee.Nearest.{closest, closest_same, div_same}
use Rattle.std.proofs.lemmas.Bool.{lt-leb, cases_lt}
use Rattle.words.specs.Tests.{pick}
use Rattle.words.proofs.TestsLaws.{leb_same}
use Rattle.channels.proofs.Even.{Rounds, rounds}
use Rattle.channels.proofs.FloatsLaws.{differ, digits}
use Rattle.convert.specs.Units.{units_at, units_of}
use Rattle.convert.proofs.UnitsLaws.{units_lt, units_le}
use Rattle.convert.specs.Half.{overflow, nearest_half, magnitude_code, code_of}

module _ (n d m c : ℕ) (D : 0 < d) (C : 0 < c) (e : n * c ≡ m * d) where
  -- ---- two names of one fraction have one code
  at_least : (K : ℕ) → K * d ≤ n → K * c ≤ m
  at_least K h = le_of_mul-le-mul_right (le_trans (le_of_eq (mul_right_comm K c d)) (le_trans (mul-le-mul_right c h) (le_of_eq e))) D

  less : (K : ℕ) → n < K * d → m < K * c
  less K h = lt_of_mul-lt-mul_right d (subst (λ (z : ℕ). z < K * c * d) e (subst (λ (z : ℕ). n * c < z) (mul_right_comm K d c) (mul-lt-mul_of_pos_right h C)))

  same_row : nearest_half n d ≡ nearest_half m c
  unfolding nearest_half
  same_row =
      let x = size (n / d) - 11 in
      ap (λ (z : ℕ). x * 1024 + z)
      (closest_same n (d * 2 ^ x) m (c * 2 ^ x) (mul-pos D (pow_pos x)) (mul-pos C (pow_pos x))
      (sym (mul_assoc n c (2 ^ x)) ∙ ap (λ (z : ℕ). z * 2 ^ x) e ∙ mul_assoc m d (2 ^ x)))
      ∙ ap (λ (z : ℕ). (size z - 11) * 1024 + closest m (c * 2 ^ (size z - 11))) (div_same n d m c D C e)

  same_overflow : leb (overflow * d) n ≡ leb (overflow * c) m
  same_overflow = leb_same (overflow * d) n (overflow * c) m (at_least overflow) (less overflow)

  pub magnitude_same : magnitude_code n d ≡ magnitude_code m c
  unfolding magnitude_code
  magnitude_same =
      ap (λ (a : Bool). pick a 0x7c00 (nearest_half n d)) same_overflow ∙ ap (λ (z : ℕ). pick (leb (overflow * c) m) 0x7c00 z) same_row

-- a number of v / c, whatever its sign
pub code_by_value : (x : Float) (s : Bool) (v c : ℕ) → HasValue x s v c → 0 < c → code_of x ≡ magnitude_code (v * 2 ^ 24) c
code_by_value nan s v c h C = absurd h
code_by_value (inf t) s v c h C = absurd h
code_by_value (fin t m e) s v c h C =
    magnitude_same (m * up e * 2 ^ 24) (down e) (v * 2 ^ 24) c (down_pos e) C
    (mul_right_comm (m * up e) (2 ^ 24) c ∙ ap (λ (z : ℕ). z * 2 ^ 24) h.1 ∙ mul_right_comm v (down e) (2 ^ 24))

-- ---- the number of a binary32 pattern in units of 2^-149; h is 2^23
abbrev pub float_units : ℕ → ℕ
float_units = units_of 8388608

fields_value : (s : Bool) (e t : ℕ) → e < 255 → HasValue (of_fields binary32 s e t) s (units_at 8388608 e t) (2 ^ 149)
unfolding of_fields
fields_value s zero t h = subst (λ (z : ℕ). HasValue (odd 24 s t 0 149) s z (2 ^ 149)) (mul-one t) (odd_sign 24 s t 0 149)
fields_value s (suc x) t h =
    subst (λ (v : Float). HasValue v s ((8388608 + t) * 2 ^ x) (2 ^ 149))
    (sym (cond_no (eqb (suc x) 255) (cond (eqb t 0) (inf s) nan) (odd 24 s (8388608 + t) x 149) (not_T (eqb (suc x) 255) (λ (u : T (eqb (suc x) 255)). differ x h (eqb→eq (suc x) 255 u)))))
    (odd_sign 24 s (8388608 + t) x 149)

fields_code : (s : Bool) (e t : ℕ) → e < 255 → code_of (of_fields binary32 s e t) ≡ magnitude_code (units_at 8388608 e t) (2 ^ 125)
fields_code s e t h =
    let u = units_at 8388608 e t in
    code_by_value (of_fields binary32 s e t) s u (2 ^ 149) (fields_value s e t h) (pow_pos 149)
    ∙ magnitude_same (u * 2 ^ 24) (2 ^ 149) u (2 ^ 125) (pow_pos 149) (pow_pos 125) (mul_assoc u (2 ^ 24) (2 ^ 125))

of_bits_fields : (b : ℕ) → of_bits binary32 b ≡ of_fields binary32 (leb 2147483648 b) (b % 2147483648 / 8388608) (b % 2147483648 % 8388608)
unfolding of_bits
of_bits_fields b = ap (of_fields binary32 (leb 2147483648 b) (b % 2147483648 / 8388608)) (low b)
  where
    low : (b : ℕ) → b % 8388608 ≡ b % 2147483648 % 8388608
    low b = omega arith

-- a finite pattern
pub finite_code : (b : ℕ) → b % 2147483648 < 0x7f800000 → code_of (of_bits binary32 b) ≡ magnitude_code (float_units (b % 2147483648)) (2 ^ 125)
unfolding units_of
finite_code b h =
    ap code_of (of_bits_fields b) ∙ fields_code (leb 2147483648 b) (b % 2147483648 / 8388608) (b % 2147483648 % 8388608) (field (b % 2147483648) h)
  where
    field : (a : ℕ) → a < 0x7f800000 → a / 8388608 < 255
    field a h = omega arith

-- ---- by range
-- a NaN
pub nan_code : (b : ℕ) → 0x7f800000 < b % 2147483648 → code_of (of_bits binary32 b) ≡ 0x7e00
unfolding is_nan
nan_code b h =
    of_nan (of_bits binary32 b)
    (subst T (nan_bits_is binary32 b) (subst T (sym (nan_bits_above binary32 b)) (lt→ltb 2139095040 (b % 2147483648) h)))
  where
    of_nan : (x : Float) → T (is_nan x) → code_of x ≡ 0x7e00
    of_nan nan t = refl
    of_nan (inf s) t = absurd t
    of_nan (fin s m e) t = absurd t

-- 65520 and above, the infinity too
infinity_code : (s : Bool) → code_of (of_fields binary32 s 255 0) ≡ 0x7c00
unfolding of_fields
infinity_code s = refl

magnitude_overflows : (n d : ℕ) → overflow * d ≤ n → magnitude_code n d ≡ 0x7c00
unfolding magnitude_code
magnitude_overflows n d h = ap (λ (a : Bool). pick a 0x7c00 (nearest_half n d)) (le-leb (overflow * d) n h)

-- 65520 in binary32, 2^-24, and 2^-25
threshold : float_units 0x477ff000 ≡ overflow * 2 ^ 125
unfolding units_of
threshold = refl

smallest : float_units 0x33800000 ≡ 2 ^ 125
unfolding units_of
smallest = refl

half_of_it : 2 * float_units 0x33000000 ≡ 2 ^ 125
unfolding units_of
half_of_it = refl

pub overflow_code : (b : ℕ) → 0x477ff000 ≤ b % 2147483648 → b % 2147483648 ≤ 0x7f800000 → code_of (of_bits binary32 b) ≡ 0x7c00
overflow_code b h l = elim (eq-or-lt_of_le l) [
  | inl e ↦
      ap code_of (of_bits_fields b)
      ∙ ap₂ (λ (x y : ℕ). code_of (of_fields binary32 (leb 2147483648 b) x y)) (ap (λ (z : ℕ). z / 8388608) e) (ap (λ (z : ℕ). z % 8388608) e)
      ∙ infinity_code (leb 2147483648 b)
  | inr g ↦
      finite_code b g
      ∙ magnitude_overflows (float_units (b % 2147483648)) (2 ^ 125) (le_trans (le_of_eq (sym threshold)) (units_le 8388608 0x477ff000 (b % 2147483648) (lit< tt) h))
]

-- below 65520
magnitude_rounds : (n d : ℕ) → n < overflow * d → magnitude_code n d ≡ nearest_half n d
unfolding magnitude_code
magnitude_rounds n d l = ap (λ (a : Bool). pick a 0x7c00 (nearest_half n d)) (lt-leb (overflow * d) n l)

-- below one unit: what is not above half of one gives 0, a half too, since 0 is even, and all else gives 1
closest_zero : (k n d p : ℕ) → 0 < d → Rounds n d k p → p ≡ k * d → 2 * n ≤ d → k ≡ 0
closest_zero k n d p D R e h = elim (cases_lt 0 k) [
  | inr l ↦ omega arith
  | inl l ↦ elim (cases_lt 1 k) [
    | inl g ↦ absurd (omega (arith, R.below, e, mul-le-mul_right d g))
    | inr g ↦ absurd (omega (arith, e, R.tie_up (omega (arith, e, R.below, ap (λ (z : ℕ). z * d) (one k l g)))))
  ]
]
  where
    one : (k : ℕ) → 0 < k → k ≤ 1 → k ≡ 1
    one k l g = omega arith

closest_one : (k n d p : ℕ) → 0 < d → Rounds n d k p → p ≡ k * d → d < 2 * n → n < d → k ≡ 1
closest_one k n d p D R e h l = elim (cases_lt 0 k) [
  | inr g ↦ absurd (omega (arith, e, R.above, mul-le-mul_right d g))
  | inl g ↦ elim (cases_lt 1 k) [
    | inl f ↦ absurd (omega (arith, e, R.below, mul-le-mul_right d f))
    | inr f ↦ omega arith
  ]
]

module _ (n d : ℕ) (D : 0 < d) (l : n < d) where
  none : n / d ≡ 0
  none = omega (arith, (div-lt_iff_lt-mul {k = d} {x = n} {y = 1} D).1 (subst (λ (z : ℕ). n < z) (sym (one-mul d)) l))

  magnitude_closest : magnitude_code n d ≡ closest n d
  unfolding nearest_half size
  magnitude_closest =
      magnitude_rounds n d (omega arith)
      ∙ ap (λ (q : ℕ). (size q - 11) * 1024 + closest n (d * 2 ^ (size q - 11))) none
      ∙ zero-add (closest n (d * 2 ^ 0)) ∙ ap (closest n) (mul-one d)

  pub magnitude_zero : 2 * n ≤ d → magnitude_code n d ≡ 0
  magnitude_zero h = magnitude_closest ∙ closest_zero (closest n d) n d (closest n d * d) D (rounds n d D) refl h

  pub magnitude_one : d < 2 * n → magnitude_code n d ≡ 1
  magnitude_one h = magnitude_closest ∙ closest_one (closest n d) n d (closest n d * d) D (rounds n d D) refl h l

-- 2^-25 and below
pub zero_code : (b : ℕ) → b % 2147483648 ≤ 0x33000000 → code_of (of_bits binary32 b) ≡ 0
zero_code b h =
    let a = b % 2147483648 in
    let l : float_units a ≤ float_units 0x33000000 = units_le 8388608 a 0x33000000 (lit< tt) h in
    finite_code b (omega arith) ∙ magnitude_zero (float_units a) (2 ^ 125) (pow_pos 125) (omega (arith, l, half_of_it, pow_pos 125)) (omega (arith, l, half_of_it))

-- above 2^-25 and below 2^-24
pub unit_code : (b : ℕ) → 0x33000000 < b % 2147483648 → b % 2147483648 < 0x33800000 → code_of (of_bits binary32 b) ≡ 1
unit_code b h l =
    let a = b % 2147483648 in
    let u : float_units a < float_units 0x33800000 = units_lt 8388608 a 0x33800000 (lit< tt) l in
    let v : float_units 0x33000000 < float_units a = units_lt 8388608 0x33000000 a (lit< tt) h in
    finite_code b (omega arith) ∙ magnitude_one (float_units a) (2 ^ 125) (pow_pos 125) (subst (λ (z : ℕ). float_units a < z) smallest u) (omega (arith, v, half_of_it))

-- below 65520
pub code_nearest : (b : ℕ) → b % 2147483648 < 0x477ff000 → code_of (of_bits binary32 b) ≡ nearest_half (float_units (b % 2147483648)) (2 ^ 125)
code_nearest b l =
    let a = b % 2147483648 in
    finite_code b (omega arith)
    ∙ magnitude_rounds (float_units a) (2 ^ 125) (lt_of_lt_of_le (units_lt 8388608 a 0x477ff000 (lit< tt) l) (le_of_eq threshold))

module _ (m y : ℕ) (l : 2 ^ 23 ≤ m) (u : m < 2 ^ 24) (h : 102 ≤ y) where
  -- ---- a significand of 24 digits, m × 2^y units of 2^-149: y - 112 more than the exponent's field 1 has, and the low s digits rounded away
  shift_up : 2 ^ (y - 102) ≤ m * 2 ^ y / 2 ^ 125
  shift_up =
      (le-div_iff_mul-le {k = 2 ^ 125} {x = 2 ^ (y - 102)} {y = m * 2 ^ y} (pow_pos 125)).1
      (le_trans (le_of_eq (sym (pow-add 2 (y - 102) 125) ∙ ap (λ (z : ℕ). 2 ^ z) (at_23 y h) ∙ pow-add 2 23 y)) (mul-le-mul_right (2 ^ y) l))
    where
      at_23 : (y : ℕ) → 102 ≤ y → y - 102 + 125 ≡ 23 + y
      at_23 y h = omega arith

  shift_down : m * 2 ^ y / 2 ^ 125 < 2 ^ (y - 101)
  shift_down =
      (div-lt_iff_lt-mul {k = 2 ^ 125} {x = m * 2 ^ y} {y = 2 ^ (y - 101)} (pow_pos 125)).1
      (lt_of_lt_of_le (mul-lt-mul_of_pos_right u (pow_pos y)) (le_of_eq (sym (sym (pow-add 2 (y - 101) 125) ∙ ap (λ (z : ℕ). 2 ^ z) (at_24 y h) ∙ pow-add 2 24 y))))
    where
      at_24 : (y : ℕ) → 102 ≤ y → y - 101 + 125 ≡ 24 + y
      at_24 y h = omega arith

  dropped : size (m * 2 ^ y / 2 ^ 125) - 11 ≡ y - 112
  dropped = counts (size (m * 2 ^ y / 2 ^ 125)) y h (size-le (m * 2 ^ y / 2 ^ 125) (y - 101) shift_down) (reaches (m * 2 ^ y / 2 ^ 125) (y - 102) shift_up)
    where
      reaches : (n j : ℕ) → 2 ^ j ≤ n → j < size n
      reaches n j g = elim (cases_lt j (size n)) [ inl a ↦ a | inr a ↦ absurd (not-le_of_lt (lt_of_lt_of_le (size-lt n) (pow_mono a)) g) ]

      counts : (z y : ℕ) → 102 ≤ y → z ≤ y - 101 → y - 102 < z → z - 11 ≡ y - 112
      counts z y h a b = omega arith

  pub row_code : (s : ℕ) → y + s ≡ 125 + (y - 112) → nearest_half (m * 2 ^ y) (2 ^ 125) ≡ (y - 112) * 1024 + closest m (2 ^ s)
  unfolding nearest_half
  row_code s e =
      ap (λ (x : ℕ). x * 1024 + closest (m * 2 ^ y) (2 ^ 125 * 2 ^ x)) dropped
      ∙ ap (λ (z : ℕ). (y - 112) * 1024 + z)
      (closest_same (m * 2 ^ y) (2 ^ 125 * 2 ^ (y - 112)) m (2 ^ s) (mul-pos (pow_pos 125) (pow_pos (y - 112))) (pow_pos s)
      (mul_assoc m (2 ^ y) (2 ^ s) ∙ ap (λ (z : ℕ). m * z) (sym (pow-add 2 y s) ∙ ap (λ (z : ℕ). 2 ^ z) e ∙ pow-add 2 125 (y - 112))))

-- the code of such a pattern, from its exponent's field and its significand
pub rounded_code : (a s : ℕ) → 0x33800000 ≤ a → a < 0x477ff000 → a / 8388608 + s ≡ 126 + (a / 8388608 - 113)
    → code_of (of_bits binary32 a) ≡ (a / 8388608 - 113) * 1024 + closest (8388608 + a % 8388608) (2 ^ s)
unfolding units_of
rounded_code a s h l e =
    let plain : a % 2147483648 ≡ a = omega arith in
    let y = a / 8388608 - 1 in
    let field : a / 8388608 ≡ suc y = omega arith in
    let m = 8388608 + a % 8388608 in
    code_nearest a (omega arith)
    ∙ ap (λ (z : ℕ). nearest_half (float_units z) (2 ^ 125)) plain
    ∙ ap (λ (z : ℕ). nearest_half (units_at 8388608 z (a % 8388608)) (2 ^ 125)) field
    ∙ row_code m y (lead a) (digits a) (deep a h) s (omega arith)
    ∙ ap (λ (z : ℕ). z * 1024 + closest m (2 ^ s)) (less_one a h)
  where
    lead : (a : ℕ) → 2 ^ 23 ≤ 8388608 + a % 8388608
    lead a = omega arith

    deep : (a : ℕ) → 0x33800000 ≤ a → 102 ≤ a / 8388608 - 1
    deep a h = omega arith

    less_one : (a : ℕ) → 0x33800000 ≤ a → a / 8388608 - 1 - 112 ≡ a / 8388608 - 113
    less_one a h = omega arith
