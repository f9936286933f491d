-- A fraction n / d rounded to the nearest whole number, a tie to the even one: `closest` of the library on IEEE 754 in inequalities, as the one
-- number that the predicate NearestEven has, and as a shift computes it; and where `rounded`, a half up, is the same number.
-- Assumes nothing.
use Rattle.std.specs.Prelude.{◌≡◌, refl, ◌⊎◌, not, T, eqb}
use Rattle.std.proofs.Common.{sym, ap, ◌∙◌, subst, inl, inr, le_of_eq, le_of_lt, lt_irrefl, lt_trans, mod-lt, div-add-mod', suc-mul, mul_assoc, mul_left_comm, add-one, arith, leb→le, eqb→eq, pow_pos}
use Prim.Native.Nat.{ℕ, zero, suc, ◌+◌, ◌-◌, ◌*◌, ◌/◌, ◌%◌, ◌^◌, ◌≤◌, ◌<◌, compare, Ordering}
use Rattle.std.proofs.Math.Nat.{mul-mod_right, pow-succ'}
use Rattle.std.proofs.Math.Dec.{is_le, compare_is_eq, nleb→lt, eqb_refl}
use Rattle.std.proofs.Math.Arith.{lt_of_le-ne, digits_div}
use Rattle.std.specs.Float.Ieee.{nearest}
use Rattle.std.specs.Float.Ieee.Nearest.{closest}
use Rattle.std.proofs.lemmas.Bool.{cases_lt}
use Rattle.channels.specs.Nearest.{apart, NearestEven, rounded}
use Rattle.channels.proofs.Nearest.{step, nearest_within_half, rounded_below, rounded_above}

-- ---- what `compare` says
abbrev Cmp : Ordering → ℕ → ℕ → Type 0
Cmp Ordering.lt a b = a < b
Cmp Ordering.eq a b = a ≡ b
Cmp Ordering.gt a b = b < a

cmp : (a b : ℕ) → Cmp (compare a b) a b
cmp a b = go (compare a b) (leb→le a b) (nleb→lt a b) (eqb→eq a b) (λ (e : a ≡ b). subst (λ (x : ℕ). T (eqb a x)) e (eqb_refl a))
  where
    go : (o : Ordering) → (T (is_le o) → a ≤ b) → (T (not (is_le o)) → b < a) → (T (compare_is_eq o) → a ≡ b) → (a ≡ b → T (compare_is_eq o)) → Cmp o a b
    go Ordering.lt h k e n = lt_of_le-ne (h tt) n
    go Ordering.eq h k e n = e tt
    go Ordering.gt h k e n = k tt

-- ---- `closest` in inequalities: p stands for k * d
pub record Rounds (n d k p : ℕ) : Type 0 where
  pub below : 2 * p ≤ 2 * n + d
  pub above : 2 * n ≤ 2 * p + d
  pub tie_up : 2 * p ≡ 2 * n + d → k % 2 ≡ 0
  pub tie_down : 2 * n ≡ 2 * p + d → k % 2 ≡ 0

pub rounds : (n d : ℕ) → 0 < d → Rounds n d (closest n d) (closest n d * d)
rounds n d D = go (n / d) (n % d) (compare (n % d * 2) d) (cmp (n % d * 2) d) (div-add-mod' n d) (mod-lt n D)
  where
    tied : (q r t : ℕ) → q % 2 ≡ t → q * d + r ≡ n → r * 2 ≡ d → Rounds n d (q + t) ((q + t) * d)
    tied q r zero t e c = record { below = omega arith; above = omega arith; tie_up = λ u. omega arith; tie_down = λ u. omega arith }
    tied q r (suc t) u e c =
        let z : t ≡ 0 = omega arith in
        let s : (q + suc t) * d ≡ q * d + d = ap (λ (x : ℕ). (q + suc x) * d) z ∙ ap (λ (x : ℕ). x * d) (add-one q) ∙ suc-mul q d in
        record { below = omega arith; above = omega arith; tie_up = λ v. omega arith; tie_down = λ v. omega arith }

    go : (q r : ℕ) (o : Ordering) → Cmp o (r * 2) d → q * d + r ≡ n → r < d → Rounds n d (nearest q o) (nearest q o * d)
    go q r Ordering.lt c e l = record { below = omega arith; above = omega arith; tie_up = λ u. omega arith; tie_down = λ u. omega arith }
    go q r Ordering.eq c e l = tied q r (q % 2) refl e c
    go q r Ordering.gt c e l =
        let s : suc q * d ≡ q * d + d = suc-mul q d in
        record { below = omega arith; above = omega arith; tie_up = λ u. omega arith; tie_down = λ u. omega arith }

-- ---- the nearest
odd_before : (j k : ℕ) → suc j ≡ k → k % 2 ≡ 0 → j % 2 ≡ 1
odd_before j k e h = omega arith

odd_after : (j k : ℕ) → suc k ≡ j → k % 2 ≡ 0 → j % 2 ≡ 1
odd_after j k e h = omega arith

pub closest_even : (n d : ℕ) → 0 < d → NearestEven n d (closest n d)
closest_even n d D =
    let r = rounds n d D in
    nearest_within_half (λ j q. j % 2 ≡ 1) n d (closest n d) D r.below r.above
    (λ j e t. odd_before j (closest n d) e (r.tie_up t)) (λ j e t. odd_after j (closest n d) e (r.tie_down t))

-- two odd numbers at one distance: the number after the lower one lies nearer
between : (X Y Z n d : ℕ) → 0 < d → Z ≡ X + d → Z + d ≤ Y → apart X n ≡ apart Y n → apart Z n < apart X n
between X Y Z n d D e h l = omega arith

-- and there is such a number
pub apart_two : (q r : ℕ) → q < r → q % 2 ≡ 1 → r % 2 ≡ 1 → suc q < r
apart_two q r h p o = omega arith

no_two : (n d q r : ℕ) → 0 < d → NearestEven n d q → NearestEven n d r → q < r → ⊥
no_two n d q r D Q R h = clash (Q.others r (λ e. lt_irrefl q (subst (λ z. q < z) e h))) (R.others q (λ e. lt_irrefl r (subst (λ z. z < r) e h)))
  where
    nearer : apart (q * d) n ≡ apart (r * d) n → q % 2 ≡ 1 → r % 2 ≡ 1 → apart (suc q * d) n < apart (q * d) n
    nearer e p o = between (q * d) (r * d) (suc q * d) n d D (suc-mul q d) (step (suc q) r d (apart_two q r h p o)) e

    next : (apart (q * d) n < apart (suc q * d) n) ⊎ ((apart (q * d) n ≡ apart (suc q * d) n) × (suc q % 2 ≡ 1)) → apart (suc q * d) n < apart (q * d) n → ⊥
    next (inl l) s = lt_irrefl (apart (q * d) n) (lt_trans l s)
    next (inr w) s = lt_irrefl (apart (q * d) n) (subst (λ z. z < apart (q * d) n) (sym w.0) s)

    clash : (apart (q * d) n < apart (r * d) n) ⊎ ((apart (q * d) n ≡ apart (r * d) n) × (r % 2 ≡ 1))
        → (apart (r * d) n < apart (q * d) n) ⊎ ((apart (r * d) n ≡ apart (q * d) n) × (q % 2 ≡ 1)) → ⊥
    clash (inl l) (inl m) = omega arith
    clash (inl l) (inr m) = omega (arith, m.0)
    clash (inr l) (inl m) = omega (arith, l.0)
    clash (inr l) (inr m) = next (Q.others (suc q) (λ z. lt_irrefl q (le_of_eq z))) (nearer l.0 m.1 l.1)

-- THE LAW THAT JOINS THE TWO: the predicate has one number, which `closest` computes
pub only_closest : (n d q : ℕ) → 0 < d → NearestEven n d q → q ≡ closest n d
only_closest n d q D Q = elim (cases_lt q (closest n d)) [
  | inl h ↦ absurd (no_two n d q (closest n d) D Q (closest_even n d D) h)
  | inr h ↦ elim (cases_lt (closest n d) q) [
    | inl g ↦ absurd (no_two n d (closest n d) q D (closest_even n d D) Q g)
    | inr g ↦ omega arith
  ]
]

-- a number that lies within less than half a step
pub closest_near : (n d k : ℕ) → 2 * apart (k * d) n < d → closest n d ≡ k
closest_near n d k h =
    let D : 0 < d = omega arith in
    sym (only_closest n d k D (nearest_within_half (λ j q. j % 2 ≡ 1) n d k D (omega arith) (omega arith) (λ j e t. omega arith) (λ j e t. omega arith)))

pub closest_le : (n d k : ℕ) → 0 < d → n ≤ k * d → closest n d ≤ k
closest_le n d k D h = elim (cases_lt k (closest n d)) [
  | inl l ↦ absurd (omega (arith, (rounds n d D).below, step k (closest n d) d l))
  | inr l ↦ l
]

-- the divisor d is 2 * h, the quotient q and the remainder r, and t is q's parity
module _ (q r d h t : ℕ) (D : d ≡ 2 * h) (H : 0 < h) (R : r < d) (P : q % 2 ≡ t) where
  -- ---- by an even divisor: just less than a half is added where the quotient is even, and a half where it is odd
  stays : r + (h - 1) + t < d → (q * d + r + (h - 1) + t) / d ≡ q
  stays l = ap (λ x. x / d) (omega arith) ∙ digits_div q {m = d} {r = r + (h - 1) + t} l

  steps : d ≤ r + (h - 1) + t → (q * d + r + (h - 1) + t) / d ≡ suc q
  steps l =
      let e : q * d + r + (h - 1) + t ≡ suc q * d + (r + (h - 1) + t - d) = omega (arith, suc-mul q d) in
      ap (λ x. x / d) e ∙ digits_div (suc q) {m = d} {r = r + (h - 1) + t - d} (omega arith)

  parity : (t ≡ 0) ⊎ (t ≡ 1)
  parity = elim (cases_lt t 1) [
    | inl l ↦ inl (omega arith)
    | inr l ↦ inr (omega arith)
  ]

  by_order : (o : Ordering) → Cmp o (r * 2) d → (q * d + r + (h - 1) + t) / d ≡ nearest q o
  by_order Ordering.lt c = stays (omega arith)
  by_order Ordering.gt c = steps (omega arith)
  by_order Ordering.eq c = elim parity [
    | inl e ↦ stays (omega arith) ∙ omega arith
    | inr e ↦ steps (omega arith) ∙ omega arith
  ]

pub closest_added : (n h : ℕ) → 0 < h → (n + (h - 1) + n / (2 * h) % 2) / (2 * h) ≡ closest n (2 * h)
closest_added n h H =
    let d = 2 * h in
    ap (λ x. (x + (h - 1) + n / d % 2) / d) (sym (div-add-mod' n d))
    ∙ by_order (n / d) (n % d) d h (n / d % 2) refl H (mod-lt n {m = d} (omega arith)) refl (compare (n % d * 2) d) (cmp (n % d * 2) d)

-- ---- a half up is the same where it goes to an even number
pub closest_up : (n d : ℕ) → 0 < d → (2 * (rounded n d * d) ≡ 2 * n + d → rounded n d % 2 ≡ 0) → rounded n d ≡ closest n d
closest_up n d D even =
    only_closest n d (rounded n d) D
    (nearest_within_half (λ j q. j % 2 ≡ 1) n d (rounded n d) D (rounded_below n d) (le_of_lt (rounded_above n d D))
    (λ j e t. odd_before j (rounded n d) e (even t)) (λ j e t. absurd (omega (arith, rounded_above n d D))))

-- where a product is even and one factor odd, the other is even
half_left : (m a x : ℕ) → a % 2 ≡ 1 → m * a ≡ 2 * x → m / 2 * a ≡ x
half_left m a x o e = elim (cases_lt (m % 2) 1) [
  | inl l ↦
      let p : m ≡ 2 * (m / 2) = omega arith in
      omega (arith, ap (λ z. z * a) p ∙ mul_assoc 2 (m / 2) a)
  | inr l ↦
      let p : m ≡ suc (2 * (m / 2)) = omega arith in
      absurd (omega (arith, ap (λ z. z * a) p ∙ suc-mul (2 * (m / 2)) a, mul_assoc 2 (m / 2) a))
]

doubled : (q k : ℕ) → q * 2 ^ suc k ≡ 2 * (q * 2 ^ k)
doubled q k = ap (λ z. q * z) (pow-succ' 2 k) ∙ mul_left_comm q 2 (2 ^ k)

-- where m / 2 ^ (k + 1), at most one, times max is q less a half, m / 2 ^ (k + 1) is a half and q is half of max + 1
tie_even : (k m max q : ℕ) → max % 4 ≡ 3 → m ≤ 2 ^ suc k → m * max + 2 ^ k ≡ 2 * (q * 2 ^ k) → q % 2 ≡ 0
tie_even zero zero max q o l e = absurd (omega arith)
tie_even zero (suc zero) max q o l e = let p : q ≡ 2 * (max / 4 + 1) = omega arith in ap (λ z. z % 2) p ∙ mul-mod_right 2 (max / 4 + 1)
tie_even zero (suc (suc zero)) max q o l e = absurd (omega arith)
tie_even zero (suc (suc (suc m))) max q o l e = absurd (omega arith)
tie_even (suc k) m max q o l e =
    tie_even k (m / 2) max q o (omega (arith, pow-succ' 2 (suc k)))
    (omega (arith, half_left m max (2 * (q * 2 ^ k) - 2 ^ k) (omega arith) (omega (arith, pow-succ' 2 k, doubled q k)), pow_pos k, doubled q k, pow-succ' 2 k))

-- THE LAW OF THE TIES: on a scale with max % 4 ≡ 3, m / 2 ^ s of at most one has one code, whether a half goes up or to the even number
pub alike : (m s max : ℕ) → m ≤ 2 ^ s → max % 4 ≡ 3 → rounded (m * max) (2 ^ s) ≡ closest (m * max) (2 ^ s)
alike m zero max l o = closest_up (m * max) 1 (omega arith) (λ t. absurd (omega arith))
alike m (suc k) max l o =
    let q = rounded (m * max) (2 ^ suc k) in
    closest_up (m * max) (2 ^ suc k) (pow_pos (suc k))
    (λ t. tie_even k m max q o l (omega (arith, t, pow-succ' 2 k, doubled q k)))
