-- THE LAW THAT JOINS THE CODE THAT IS MEANT AND THE NUMBER THAT COMPUTES IT, and that no other pattern is meant. Assumes nothing.
use Rattle.std.proofs.Common.{◌≡◌, refl, Bool, true, false, ◌⊎◌, ℕ, suc, ◌+◌, ◌*◌, ◌-◌, ◌/◌, ◌%◌, ◌^◌, ◌≤◌, ◌<◌, leb, Float, sym, ap, ap₂, ◌∙◌, subst, inl, inr, le_trans, le_of_eq, le_of_lt, lt_trans, lt_irrefl, lt_of_lt_of_le, eq-or-lt_of_le, mul-pos, mul_comm, mul_assoc, mul-one, mul-le-mul_right, mul-lt-mul_of_pos_right, suc-mul, div-lt_iff_lt-mul, le-div_iff_mul-le, div-add-mod', arith, lit<, lit≤, pow-add, pow_pos, pow_mono, leb-true, leb-false}
use Rattle.std.proofs.Math.Arith.{digits_div, digits_mod}
use Rattle.std.specs.Float.{nan, inf, fin, binary32}
use Rattle.std.specs.Float.Ieee.{up, down, size, of_bits}
use Rattle.std.specs.Float.Ieee.Digits.{size-lt, size_reaches}
use Rattle.std.specs.Float.Ieee.Fits.{down_pos}
use Rattle.std.specs.Float.Ieee.Nearest.{closest}
use Rattle.std.proofs.lemmas.Bool.{cases_lt}
use Rattle.words.specs.Tests.{pick}
use Rattle.channels.specs.Nearest.{apart, NearestEven}
use Rattle.channels.proofs.Even.{rounds, closest_even, apart_two}
use Rattle.convert.proofs.UnitsLaws.{units_fields, units_lt}
use Rattle.convert.specs.Half.{half_units, largest, GivesWay, NearestHalf, overflow, OfMagnitude, CodeOf, HalfOf, nearest_half, magnitude_code, code_of, half_of}

-- ---- codes that share the exponent x: the code x * 1024 + i stands for i * 2^x, from i = 1024 to 2048, and below too where x is 0
row_upper : (x i : ℕ) → 1024 ≤ i → i < 2048 → half_units (x * 1024 + i) ≡ i * 2 ^ x
row_upper x i l u =
    ap half_units (apart_code x i l) ∙ units_fields 1024 (suc x) (i - 1024) (omega arith) ∙ ap (λ (z : ℕ). z * 2 ^ x) (whole i l)
  where
    apart_code : (x i : ℕ) → 1024 ≤ i → x * 1024 + i ≡ suc x * 1024 + (i - 1024)
    apart_code x i l = omega arith

    whole : (i : ℕ) → 1024 ≤ i → 1024 + (i - 1024) ≡ i
    whole i l = omega arith

row_end : (x : ℕ) → half_units (x * 1024 + 2048) ≡ 2048 * 2 ^ x
row_end x =
    ap half_units (next x) ∙ units_fields 1024 (suc (suc x)) 0 (lit< tt)
    ∙ ap (λ (z : ℕ). 1024 * z) (ap (λ (z : ℕ). 2 ^ z) (one_more x) ∙ pow-add 2 1 x) ∙ sym (mul_assoc 1024 2 (2 ^ x))
  where
    next : (x : ℕ) → x * 1024 + 2048 ≡ suc (suc x) * 1024 + 0
    next x = omega arith

    one_more : (x : ℕ) → suc x ≡ 1 + x
    one_more x = omega arith

row_lower : (i : ℕ) → i < 1024 → half_units (0 * 1024 + i) ≡ i * 2 ^ 0
row_lower i u = units_fields 1024 0 i u ∙ sym (mul-one i)

row : (x i : ℕ) → (x ≡ 0) ⊎ (1024 ≤ i) → i ≤ 2048 → half_units (x * 1024 + i) ≡ i * 2 ^ x
row x i h u = elim (eq-or-lt_of_le u) [
  | inl e ↦ subst (λ (z : ℕ). half_units (x * 1024 + z) ≡ z * 2 ^ x) (sym e) (row_end x)
  | inr l ↦ elim (cases_lt i 1024) [
    | inr g ↦ row_upper x i g l
    | inl g ↦ elim h [
      | inl z ↦ subst (λ (y : ℕ). half_units (y * 1024 + i) ≡ i * 2 ^ y) (sym z) (row_lower i g)
      | inr g' ↦ absurd (omega arith)
    ]
  ]
]

-- ---- the nearest code: n / d lies in the row of x, between 1024 and 2048 steps of 2^x, and q of them are nearest
record Row (n d x q : ℕ) : Type 0 where
  pub even : NearestEven n (d * 2 ^ x) q
  pub high : n ≤ 2048 * (d * 2 ^ x)
  pub low : (x ≡ 0) ⊎ (1024 * (d * 2 ^ x) ≤ n)
  pub most : q ≤ 2048
  pub least : (x ≡ 0) ⊎ (1024 ≤ q)

-- no number of steps lies nearer than q
steps : (n D q i : ℕ) → NearestEven n D q → apart (q * D) n ≤ apart (i * D) n
steps n D q i E = elim (cases_lt i q) [
  | inl l ↦ ends (E.others i (λ e. lt_irrefl i (subst (λ (z : ℕ). i < z) (sym e) l)))
  | inr l ↦ elim (eq-or-lt_of_le l) [
    | inl e ↦ le_of_eq (ap (λ (z : ℕ). apart (z * D) n) e)
    | inr g ↦ ends (E.others i (λ e. lt_irrefl q (subst (λ (z : ℕ). q < z) e g)))
  ]
]
  where
    ends : (apart (q * D) n < apart (i * D) n) ⊎ ((apart (q * D) n ≡ apart (i * D) n) × (i % 2 ≡ 1)) → apart (q * D) n ≤ apart (i * D) n
    ends (inl l) = le_of_lt l
    ends (inr e) = le_of_eq e.0

-- i steps of 2^x in parts of d
in_parts : (i d x : ℕ) → i * 2 ^ x * d ≡ i * (d * 2 ^ x)
in_parts i d x = mul_assoc i (2 ^ x) d ∙ ap (λ (z : ℕ). i * z) (mul_comm (2 ^ x) d)

-- a number beyond an end of the row lies further off than the end does
beyond_above : (X M Y n : ℕ) → n ≤ M → M < Y → apart X n ≤ apart M n → apart X n < apart Y n
beyond_above X M Y n h l u = omega arith

beyond_below : (X M Y n : ℕ) → M ≤ n → Y < M → apart X n ≤ apart M n → apart X n < apart Y n
beyond_below X M Y n h l u = omega arith

module _ (n d x q : ℕ) (D : 0 < d) (R : Row n d x q) where
  own : half_units (x * 1024 + q) * d ≡ q * (d * 2 ^ x)
  own = ap (λ (z : ℕ). z * d) (row x q R.least R.most) ∙ in_parts q d x

  -- a code of the same row
  inside : (i : ℕ) → (x ≡ 0) ⊎ (1024 ≤ i) → i ≤ 2048 → (i ≡ q → ⊥) → GivesWay n d (x * 1024 + q) (x * 1024 + i)
  inside i h u ne =
      let theirs = ap (λ (z : ℕ). z * d) (row x i h u) ∙ in_parts i d x in
      elim (R.even.others i ne) [
        | inl l ↦ inl (subst (λ (z : ℕ). apart z n < apart (half_units (x * 1024 + i) * d) n) (sym own) (subst (λ (z : ℕ). apart (q * (d * 2 ^ x)) n < apart z n) (sym theirs) l))
        | inr e ↦ inr (ap (λ (z : ℕ). apart z n) own ∙ e.0 ∙ ap (λ (z : ℕ). apart z n) (sym theirs), same_parity x i e.1)
      ]
    where
      same_parity : (x i : ℕ) → i % 2 ≡ 1 → (x * 1024 + i) % 2 ≡ 1
      same_parity x i e = omega arith

  -- a code past its end
  after : (j : ℕ) → x * 1024 + 2048 < j → GivesWay n d (x * 1024 + q) j
  after j l =
      let M : 2048 * 2 ^ x < half_units j = subst (λ (z : ℕ). z < half_units j) (row_end x) (units_lt 1024 (x * 1024 + 2048) j (lit< tt) l) in
      let M' : 2048 * (d * 2 ^ x) < half_units j * d = subst (λ (z : ℕ). z < half_units j * d) (in_parts 2048 d x) (mul-lt-mul_of_pos_right M D) in
      inl (subst (λ (z : ℕ). apart z n < apart (half_units j * d) n) (sym own) (beyond_above (q * (d * 2 ^ x)) (2048 * (d * 2 ^ x)) (half_units j * d) n R.high M' (steps n (d * 2 ^ x) q 2048 R.even)))

  -- a code before its start
  before : (j : ℕ) → 1024 * (d * 2 ^ x) ≤ n → j < x * 1024 + 1024 → GivesWay n d (x * 1024 + q) j
  before j g l =
      let start : half_units (x * 1024 + 1024) ≡ 1024 * 2 ^ x = row_upper x 1024 (lit≤ tt) (lit< tt) in
      let M : half_units j < 1024 * 2 ^ x = subst (λ (z : ℕ). half_units j < z) start (units_lt 1024 j (x * 1024 + 1024) (lit< tt) l) in
      let M' : half_units j * d < 1024 * (d * 2 ^ x) = subst (λ (z : ℕ). half_units j * d < z) (in_parts 1024 d x) (mul-lt-mul_of_pos_right M D) in
      inl (subst (λ (z : ℕ). apart z n < apart (half_units j * d) n) (sym own) (beyond_below (q * (d * 2 ^ x)) (1024 * (d * 2 ^ x)) (half_units j * d) n g M' (steps n (d * 2 ^ x) q 1024 R.even)))

  all_others : (j : ℕ) → (j ≡ x * 1024 + q → ⊥) → GivesWay n d (x * 1024 + q) j
  all_others j ne = elim (cases_lt (x * 1024 + 2048) j) [
    | inl l ↦ after j l
    | inr l ↦ elim (cases_lt j (x * 1024 + 1024)) [
      | inr g ↦ shifted (inr (omega arith)) (omega arith) l
      | inl g ↦ elim R.low [
        | inl z ↦ shifted (inl z) (omega arith) l
        | inr m ↦ before j m g
      ]
    ]
  ]
    where
      shifted : (x ≡ 0) ⊎ (1024 ≤ j - x * 1024) → x * 1024 ≤ j → j ≤ x * 1024 + 2048 → GivesWay n d (x * 1024 + q) j
      shifted h l u =
          let e : x * 1024 + (j - x * 1024) ≡ j = omega arith in
          subst (GivesWay n d (x * 1024 + q)) e
          (inside (j - x * 1024) h (omega arith) (λ f. ne (sym e ∙ ap (λ (z : ℕ). x * 1024 + z) f)))

-- ---- the row that `size` finds
digits_high : (n d : ℕ) → 0 < d → n < 2 ^ size (n / d) * d
digits_high n d D = (div-lt_iff_lt-mul {k = d} {x = n} {y = 2 ^ size (n / d)} D).0 (size-lt (n / d))

row_high : (n d x : ℕ) → 0 < d → size (n / d) ≤ 11 + x → n ≤ 2048 * (d * 2 ^ x)
row_high n d x D h =
    le_of_lt (lt_of_lt_of_le (digits_high n d D) (le_trans (mul-le-mul_right d (pow_mono h)) (le_of_eq (ap (λ (z : ℕ). z * d) (pow-add 2 11 x) ∙ in_parts 2048 d x))))

row_low : (n d x : ℕ) → 0 < d → 10 + x < size (n / d) → 1024 * (d * 2 ^ x) ≤ n
row_low n d x D h =
    le_trans (le_of_eq (sym (ap (λ (z : ℕ). z * d) (pow-add 2 10 x) ∙ in_parts 1024 d x)))
    ((le-div_iff_mul-le {k = d} {x = 2 ^ (10 + x)} {y = n} D).0 (size_reaches (n / d) (10 + x) h))

count_most : (q D n : ℕ) → 0 < D → 2 * (q * D) ≤ 2 * n + D → n ≤ 2048 * D → q ≤ 2048
count_most q D n P h l = elim (cases_lt 2048 q) [
  | inr g ↦ g
  | inl g ↦ absurd (omega (arith, mul-le-mul_right D g))
]

count_least : (q D n : ℕ) → 0 < D → 2 * n ≤ 2 * (q * D) + D → 1024 * D ≤ n → 1024 ≤ q
count_least q D n P h l = elim (cases_lt q 1024) [
  | inr g ↦ g
  | inl g ↦ absurd (omega (arith, mul-le-mul_right D g, suc-mul q D))
]

found_row : (n d : ℕ) → 0 < d → Row n d (size (n / d) - 11) (closest n (d * 2 ^ (size (n / d) - 11)))
found_row n d P =
    let x = size (n / d) - 11 in
    let D = d * 2 ^ x in
    let r = rounds n D (mul-pos P (pow_pos x)) in
    let h : n ≤ 2048 * D = row_high n d x P (omega arith) in
    let l : (x ≡ 0) ⊎ (1024 * D ≤ n) = elim (cases_lt 11 (size (n / d))) [ inl g ↦ inr (row_low n d x P (omega arith)) | inr g ↦ inl (omega arith) ] in
    record {
      even = closest_even n D (mul-pos P (pow_pos x));
      high = h;
      low = l;
      most = count_most (closest n D) D n (mul-pos P (pow_pos x)) r.below h;
      least = elim l [ inl z ↦ inl z | inr g ↦ inr (count_least (closest n D) D n (mul-pos P (pow_pos x)) r.above g) ];
    }

-- below 65520 the code is finite
row_finite : (n d x q : ℕ) → 0 < d → Row n d x q → 2 * (q * (d * 2 ^ x)) ≤ 2 * n + d * 2 ^ x → n < overflow * d → x * 1024 + q ≤ largest
row_finite n d x q P R below h = elim (cases_lt x 29) [
  | inl l ↦ omega (arith, R.most)
  | inr l ↦ elim (eq-or-lt_of_le l) [
    | inl e ↦ at_29 (sym e)
    | inr g ↦ absurd (far g R.low)
  ]
]
  where
    last : (q d n : ℕ) → 0 < d → 2 * (q * (d * 536870912)) ≤ 2 * n + d * 536870912 → n < overflow * d → q ≤ 2047
    last q d n D b h = elim (cases_lt 2047 q) [ inr g ↦ g | inl g ↦ absurd (omega (arith, mul-le-mul_right (d * 536870912) g)) ]

    at_29 : x ≡ 29 → x * 1024 + q ≤ largest
    at_29 e = omega (arith, last q d n P (subst (λ (z : ℕ). 2 * (q * (d * 2 ^ z)) ≤ 2 * n + d * 2 ^ z) e below) h)

    far : 29 < x → (x ≡ 0) ⊎ (1024 * (d * 2 ^ x) ≤ n) → ⊥
    far g (inl z) = omega arith
    far g (inr m) = omega (arith, mul-le-mul_right d (pow_mono {i = 30} {j = x} g), mul_comm d (2 ^ x))

-- THE NEAREST LAW
pub nearest_half_is : (n d : ℕ) → 0 < d → n < overflow * d → NearestHalf n d (nearest_half n d)
unfolding nearest_half
nearest_half_is n d P h =
    let x = size (n / d) - 11 in
    let D = d * 2 ^ x in
    let R = found_row n d P in
    record {
      finite = row_finite n d x (closest n D) P R (rounds n D (mul-pos P (pow_pos x))).below h;
      others = λ j l ne. all_others n d x (closest n D) P R j ne;
    }

-- ---- what is computed is what is meant
pub magnitude_of : (n d : ℕ) → 0 < d → OfMagnitude n d (magnitude_code n d)
unfolding magnitude_code
magnitude_of n d P = go (leb (overflow * d) n) refl
  where
    go : (a : Bool) → leb (overflow * d) n ≡ a → OfMagnitude n d (pick a 0x7c00 (nearest_half n d))
    go true e =
        let h : overflow * d ≤ n = leb-true (overflow * d) n e in
        record { overflows = λ g. refl; nearest = λ u. absurd (omega arith) }
    go false e =
        let h : n < overflow * d = leb-false (overflow * d) n e in
        record { overflows = λ g. absurd (omega arith); nearest = λ u. nearest_half_is n d P h }

pub code_of_is : (x : Float) → CodeOf x (code_of x)
code_of_is nan = refl
code_of_is (inf s) = refl
code_of_is (fin s m e) = magnitude_of (m * up e * 2 ^ 24) (down e) (down_pos e)

magnitude_small : (n d k : ℕ) → OfMagnitude n d k → k < 0x8000
magnitude_small n d k M = elim (cases_lt n (overflow * d)) [
  | inr h ↦ omega (arith, M.overflows h)
  | inl h ↦ omega (arith, (M.nearest h).finite)
]

pub code_small : (x : Float) → code_of x < 0x8000
code_small nan = lit< tt
code_small (inf s) = lit< tt
code_small (fin s m e) = magnitude_small (m * up e * 2 ^ 24) (down e) (code_of (fin s m e)) (code_of_is (fin s m e))

-- THE LAW
pub half_of_is : (bits : ℕ) → HalfOf bits (half_of bits)
unfolding half_of
half_of_is bits =
    let x = of_bits binary32 bits in
    record {
      sign = digits_div (bits / 0x80000000) (code_small x);
      code = subst (CodeOf x) (sym (digits_mod (bits / 0x80000000) (code_small x))) (code_of_is x);
    }

-- ---- and there is no other: two odd codes that are equally far have a nearer one between them
between : (X Y Z n : ℕ) → X < Z → Z < Y → apart X n ≡ apart Y n → apart Z n < apart X n
between X Y Z n h l e = omega arith

no_two : (n d k j : ℕ) → 0 < d → NearestHalf n d k → j ≤ largest → k < j → apart (half_units k * d) n ≡ apart (half_units j * d) n → k % 2 ≡ 1 → j % 2 ≡ 1 → ⊥
no_two n d k j D R J h e p q = no (R.others (suc k) (le_trans h J) (λ (z : suc k ≡ k). lt_irrefl k (le_of_eq z)))
  where
    rises : (a b : ℕ) → a < b → half_units a * d < half_units b * d
    rises a b l = mul-lt-mul_of_pos_right (units_lt 1024 a b (lit< tt) l) D

    nearer : apart (half_units (suc k) * d) n < apart (half_units k * d) n
    nearer = between (half_units k * d) (half_units j * d) (half_units (suc k) * d) n (rises k (suc k) (omega arith)) (rises (suc k) j (apart_two k j h p q)) e

    no : GivesWay n d k (suc k) → ⊥
    no (inl l) = lt_irrefl (apart (half_units k * d) n) (lt_trans l nearer)
    no (inr w) = lt_irrefl (apart (half_units k * d) n) (subst (λ (z : ℕ). z < apart (half_units k * d) n) (sym w.0) nearer)

lower_wins : (n d k j : ℕ) → 0 < d → NearestHalf n d k → NearestHalf n d j → k < j → ⊥
lower_wins n d k j D R S h =
    clash (R.others j S.finite (λ (e : j ≡ k). lt_irrefl k (subst (λ (z : ℕ). k < z) e h)))
    (S.others k R.finite (λ (e : k ≡ j). lt_irrefl j (subst (λ (z : ℕ). z < j) e h)))
  where
    clash : GivesWay n d k j → GivesWay n d j k → ⊥
    clash (inl l) (inl m) = omega arith
    clash (inl l) (inr m) = omega (arith, m.0)
    clash (inr l) (inl m) = omega (arith, l.0)
    clash (inr l) (inr m) = no_two n d k j D R S.finite h l.0 m.1 l.1

pub one_half : (n d k j : ℕ) → 0 < d → NearestHalf n d k → NearestHalf n d j → k ≡ j
one_half n d k j D R S = elim (cases_lt k j) [
  | inl h ↦ absurd (lower_wins n d k j D R S h)
  | inr h ↦ elim (cases_lt j k) [
    | inl g ↦ absurd (lower_wins n d j k D S R g)
    | inr g ↦ omega arith
  ]
]

one_magnitude : (n d k j : ℕ) → 0 < d → OfMagnitude n d k → OfMagnitude n d j → k ≡ j
one_magnitude n d k j D R S = elim (cases_lt n (overflow * d)) [
  | inr h ↦ R.overflows h ∙ sym (S.overflows h)
  | inl h ↦ one_half n d k j D (R.nearest h) (S.nearest h)
]

pub one_code : (x : Float) (k j : ℕ) → CodeOf x k → CodeOf x j → k ≡ j
one_code nan k j R S = R ∙ sym S
one_code (inf s) k j R S = R ∙ sym S
one_code (fin s m e) k j R S = one_magnitude (m * up e * 2 ^ 24) (down e) k j (down_pos e) R S

-- what a pattern's binary16 pattern is, can be computed
pub half_is : (bits r : ℕ) → HalfOf bits r → r ≡ half_of bits
unfolding half_of
half_is bits r H =
    sym (div-add-mod' r 0x8000)
    ∙ ap₂ (λ (x y : ℕ). x * 0x8000 + y) H.sign (one_code (of_bits binary32 bits) (r % 0x8000) (code_of (of_bits binary32 bits)) H.code (code_of_is (of_bits binary32 bits)))
