-- Laws on what specs/Nearest defines. Assumes nothing.
use Rattle.std.specs.Prelude.{◌≡◌, ◌⊎◌, ℕ, suc, ◌+◌, ◌*◌, ◌/◌, ◌%◌, ◌≤◌, ◌<◌}
use Rattle.std.proofs.Common.{sym, ap, ◌∙◌, subst, inl, inr, le_trans, le_of_eq, le_of_lt, lt_irrefl, suc-mul, mul_comm, mul_assoc, mul_left_comm, mul_right_comm, mul-add, add-mul, mul-le-mul_right, div-mul-le_self, arith}
use Rattle.std.proofs.Math.Nat.{eq_of_mul-eq-mul_right, lt-div-mul-add, div-div-eq-div-mul, div-eq_of_lt, add-div_right, mul-div-mul_left, mul-div-mul_right, mul-add-div_right}
use Rattle.std.proofs.Math.Arith.{lt_of_le-ne}
use Rattle.std.proofs.lemmas.Bool.{cases_lt}
use Rattle.channels.specs.Nearest.{apart, NearestBy, Nearest, NearestUp, rounded}

-- ---- what lies within half a step is nearest
-- a number below q lies a step lower at least
pub step : (j q d : ℕ) → j < q → j * d + d ≤ q * d
step j q d h = le_trans (le_of_eq (sym (suc-mul j d))) (mul-le-mul_right d h)

adjacent : (j q d : ℕ) → 0 < d → j * d + d ≡ q * d → suc j ≡ q
adjacent j q d D e = eq_of_mul-eq-mul_right d D (suc j) q (suc-mul j d ∙ e)

-- X is q * d and Y is j * d: where j is no further off than q, it is the neighbour across a tie
lower : (X Y n d : ℕ) → 0 < d → Y + d ≤ X → 2 * X ≤ 2 * n + d → apart Y n ≤ apart X n → (apart X n ≡ apart Y n) × (Y + d ≡ X) × (2 * X ≡ 2 * n + d)
lower X Y n d D h r l = (omega arith, omega arith, omega arith)

upper : (X Y n d : ℕ) → 0 < d → X + d ≤ Y → 2 * n ≤ 2 * X + d → apart Y n ≤ apart X n → (apart X n ≡ apart Y n) × (X + d ≡ Y) × (2 * n ≡ 2 * X + d)
upper X Y n d D h r l = (omega arith, omega arith, omega arith)

-- a number within half a step is nearest, if its neighbour gives way across a tie
module _ (gives-way : ℕ → ℕ → Type 0) (n d q : ℕ) (D : 0 < d) (below : 2 * (q * d) ≤ 2 * n + d) (above : 2 * n ≤ 2 * (q * d) + d) where
  pub nearest_within_half : ((j : ℕ) → suc j ≡ q → 2 * (q * d) ≡ 2 * n + d → gives-way j q) → ((j : ℕ) → suc q ≡ j → 2 * n ≡ 2 * (q * d) + d → gives-way j q)
      → NearestBy gives-way n d q
  nearest_within_half tie-below tie-above = record {
    others = λ j ne. elim (cases_lt (apart (q * d) n) (apart (j * d) n)) [
      | inl l ↦ inl l
      | inr l ↦ elim (cases_lt j q) [
        | inl h ↦
            let w = lower (q * d) (j * d) n d D (step j q d h) below l in
            inr (w.0, tie-below j (adjacent j q d D w.1) w.2)
        | inr h ↦
            let w = upper (q * d) (j * d) n d D (step q j d (lt_of_le-ne h (λ (e : q ≡ j). ne (sym e)))) above l in
            inr (w.0, tie-above j (adjacent q j d D w.1) w.2)
      ]
    ];
  }

-- where no two numbers give way to each other, there is one nearest
pub one_nearest : (gives-way : ℕ → ℕ → Type 0) (n d q r : ℕ) → (gives-way q r → gives-way r q → ⊥) → NearestBy gives-way n d q → NearestBy gives-way n d r → q ≡ r
one_nearest gives-way n d q r once Q R = elim (cases_lt q r) [
  | inl h ↦ absurd (clash (Q.others r (λ e. lt_irrefl q (subst (λ z. q < z) e h))) (R.others q (λ e. lt_irrefl r (subst (λ z. z < r) e h))))
  | inr h ↦ elim (cases_lt r q) [
    | inl g ↦ absurd (clash (Q.others r (λ e. lt_irrefl q (subst (λ z. z < q) e g))) (R.others q (λ e. lt_irrefl r (subst (λ z. r < z) e g))))
    | inr g ↦ omega arith
  ]
]
  where
    clash : (apart (q * d) n < apart (r * d) n) ⊎ ((apart (q * d) n ≡ apart (r * d) n) × gives-way r q)
        → (apart (r * d) n < apart (q * d) n) ⊎ ((apart (r * d) n ≡ apart (q * d) n) × gives-way q r) → ⊥
    clash (inl l) (inl m) = omega arith
    clash (inl l) (inr m) = omega (arith, m.0)
    clash (inr l) (inl m) = omega (arith, l.0)
    clash (inr l) (inr m) = once m.1 l.1

-- ---- `rounded` in inequalities
twice : (q d : ℕ) → q * (2 * d) ≡ 2 * (q * d)
twice q d = mul_left_comm q 2 d

pub rounded_below : (n d : ℕ) → 2 * (rounded n d * d) ≤ 2 * n + d
unfolding rounded
rounded_below n d = omega (arith, twice ((2 * n + d) / (2 * d)) d, div-mul-le_self (2 * n + d) (2 * d))

pub rounded_above : (n d : ℕ) → 0 < d → 2 * n < 2 * (rounded n d * d) + d
unfolding rounded
rounded_above n d D =
    let p : 0 < 2 * d = omega arith in
    omega (arith, twice ((2 * n + d) / (2 * d)) d, lt-div-mul-add {a = 2 * n + d} {b = 2 * d} p)

-- THE NEAREST LAW: a half goes up
pub rounded_up : (n d : ℕ) → 0 < d → NearestUp n d (rounded n d)
rounded_up n d D =
    nearest_within_half (λ j q. j < q) n d (rounded n d) D (rounded_below n d) (le_of_lt (rounded_above n d D))
    (λ j e t. omega arith) (λ j e t. absurd (omega (arith, rounded_above n d D)))

-- where d is odd there is no tie
pub rounded_odd : (n d : ℕ) → d % 2 ≡ 1 → Nearest n d (rounded n d)
rounded_odd n d odd =
    let D : 0 < d = omega arith in
    nearest_within_half (λ j q. ⊥) n d (rounded n d) D (rounded_below n d) (le_of_lt (rounded_above n d D))
    (λ j e t. omega arith) (λ j e t. omega arith)

-- ---- how it is computed
-- an odd divisor: its lower half is added
pub rounded_by_half : (n h : ℕ) → (n + h) / (2 * h + 1) ≡ rounded n (2 * h + 1)
unfolding rounded
rounded_by_half n h =
    let e : (2 * n + (2 * h + 1)) / 2 ≡ n + h = omega arith in
    ap (λ x. x / (2 * h + 1)) (sym e) ∙ div-div-eq-div-mul (2 * n + (2 * h + 1)) 2 (2 * h + 1)

-- an even divisor: one is added to the quotient by its half
pub rounded_halved : (n h : ℕ) → 0 < h → (n / h + 1) / 2 ≡ rounded n (2 * h)
unfolding rounded
rounded_halved n h H =
    let p : 0 < 2 = omega arith in
    ap (λ x. x / 2) (sym (add-div_right n H))
    ∙ div-div-eq-div-mul (n + h) h 2
    ∙ ap (λ x. (n + h) / x) (mul_comm h 2)
    ∙ sym (mul-div-mul_left (n + h) (2 * h) p)
    ∙ ap (λ x. x / (2 * (2 * h))) (mul-add 2 n h)

-- two names of one fraction round alike
pub rounded_same : (n d m c : ℕ) → 0 < d → 0 < c → n * c ≡ m * d → rounded n d ≡ rounded m c
unfolding rounded
rounded_same n d m c D C e =
    sym (mul-div-mul_right (2 * n + d) (2 * d) C)
    ∙ (λ i. tops i / bottoms i)
    ∙ mul-div-mul_right (2 * m + c) (2 * c) D
  where
    tops : (2 * n + d) * c ≡ (2 * m + c) * d
    tops = omega (arith, e, add-mul (2 * n) d c, mul_assoc 2 n c, add-mul (2 * m) c d, mul_assoc 2 m d, mul_comm d c)

    bottoms : 2 * d * c ≡ 2 * c * d
    bottoms = mul_right_comm 2 d c

pub rounded_whole : (k d : ℕ) → 0 < d → rounded (k * d) d ≡ k
unfolding rounded
rounded_whole k d D =
    let p : 0 < 2 * d = omega arith in
    let z : d / (2 * d) ≡ 0 = div-eq_of_lt {n = d} {m = 2 * d} (omega arith) in
    ap (λ x. (x + d) / (2 * d)) (sym (twice k d)) ∙ mul-add-div_right p k d ∙ omega arith

pub rounded_none : (n d : ℕ) → 2 * n < d → rounded n d ≡ 0
unfolding rounded
rounded_none n d h = div-eq_of_lt {n = 2 * n + d} {m = 2 * d} (omega arith)

-- a fraction of at most k rounds to at most k
pub rounded_le : (n d k : ℕ) → 0 < d → n ≤ k * d → rounded n d ≤ k
rounded_le n d k D h = elim (cases_lt k (rounded n d)) [
  | inl l ↦ absurd (omega (arith, rounded_below n d, step k (rounded n d) d l))
  | inr l ↦ l
]

pub is_odd : (n d r : ℕ) → d % 2 ≡ 1 → r ≡ rounded n d → (r ≡ rounded n d) × Nearest n d r
is_odd n d r odd e = (e, subst (Nearest n d) (sym e) (rounded_odd n d odd))
