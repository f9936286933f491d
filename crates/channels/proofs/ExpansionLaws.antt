-- Laws on what specs/Expansion.antt defines, which rest on laws there. Assumes nothing.
use Rattle.std.specs.Prelude.{◌≡◌, Bool, ℕ, zero, suc, ◌+◌, ◌*◌, ◌-◌, ◌/◌, ◌%◌, ◌^◌, ◌≤◌, ◌<◌, T, eqb, ltb}
use Rattle.std.proofs.Common.{sym, ap, ap₂, ◌∙◌, subst, arith, not-suc-le-zero, add-mul, mul-add, mul-one, mul_assoc, mul_comm, mul-le-mul_left, mul-le-mul_right, mod-lt, div-add-mod', pow-add, pow_pos, shr_lt, eqb→eq, ltb→lt, inl, inr, mul_right_comm}
use Rattle.std.proofs.lemmas.Bool.{cases_lt}
use Rattle.words.proofs.ComputedLaws.{every_below, below_at}
use Rattle.channels.specs.Expansion.{expanded, truncated, Expands, Truncates}
use Rattle.channels.proofs.Nearest.{step}

-- a statement about each width from 1 to 8
pub by_width : (P : ℕ → Type 0) → P 1 → P 2 → P 3 → P 4 → P 5 → P 6 → P 7 → P 8 → (n : ℕ) → 1 ≤ n → n ≤ 8 → P n
by_width P p1 p2 p3 p4 p5 p6 p7 p8 zero h k = absurd (not-suc-le-zero h)
by_width P p1 p2 p3 p4 p5 p6 p7 p8 (suc zero) h k = p1
by_width P p1 p2 p3 p4 p5 p6 p7 p8 (suc (suc zero)) h k = p2
by_width P p1 p2 p3 p4 p5 p6 p7 p8 (suc (suc (suc zero))) h k = p3
by_width P p1 p2 p3 p4 p5 p6 p7 p8 (suc (suc (suc (suc zero)))) h k = p4
by_width P p1 p2 p3 p4 p5 p6 p7 p8 (suc (suc (suc (suc (suc zero))))) h k = p5
by_width P p1 p2 p3 p4 p5 p6 p7 p8 (suc (suc (suc (suc (suc (suc zero)))))) h k = p6
by_width P p1 p2 p3 p4 p5 p6 p7 p8 (suc (suc (suc (suc (suc (suc (suc zero))))))) h k = p7
by_width P p1 p2 p3 p4 p5 p6 p7 p8 (suc (suc (suc (suc (suc (suc (suc (suc zero)))))))) h k = p8
by_width P p1 p2 p3 p4 p5 p6 p7 p8 (suc (suc (suc (suc (suc (suc (suc (suc (suc n))))))))) h k = absurd (omega arith)

abbrev AllExpand : ℕ → Type 0
AllExpand n = (k : ℕ) → k < 2 ^ n → Expands n k

-- the same as four tests of one code, which are computed for every code of every width
abbrev restores : ℕ → ℕ → Bool
restores n k = eqb (truncated n (expanded n k)) k

abbrev fits : ℕ → ℕ → Bool
fits n k = ltb (expanded n k) 256

abbrev low_enough : ℕ → ℕ → Bool
low_enough n k = ltb (4 * (expanded n k * (2 ^ n - 1))) (4 * (255 * k) + 3 * (2 ^ n - 1))

abbrev high_enough : ℕ → ℕ → Bool
high_enough n k = ltb (4 * (255 * k)) (4 * (expanded n k * (2 ^ n - 1)) + 3 * (2 ^ n - 1))

abbrev EachCode : (ℕ → ℕ → Bool) → ℕ → Type 0
EachCode t n = T (every_below (t n) (2 ^ n))

pub expands : (n : ℕ) → 1 ≤ n → n ≤ 8 → AllExpand n
unfolding expanded truncated
expands n l u k h = record {
  restored = eqb→eq _ _ (below_at (restores n) (2 ^ n) (by_width (EachCode restores) tt tt tt tt tt tt tt tt n l u) k h);
  byte = ltb→lt _ _ (below_at (fits n) (2 ^ n) (by_width (EachCode fits) tt tt tt tt tt tt tt tt n l u) k h);
  not_above = ltb→lt _ _ (below_at (low_enough n) (2 ^ n) (by_width (EachCode low_enough) tt tt tt tt tt tt tt tt n l u) k h);
  not_below = ltb→lt _ _ (below_at (high_enough n) (2 ^ n) (by_width (EachCode high_enough) tt tt tt tt tt tt tt tt n l u) k h);
}

abbrev AllTruncate : ℕ → Type 0
AllTruncate n = (v : ℕ) → v < 256 → Truncates n v

-- the algebra of dropping low bits, where M + 1 is 2^n and U + 1 is 2^(8-n): 255 q - M (q (U + 1) + r) is U q - M r
module _ (M U q r : ℕ) (e : (M + 1) * (U + 1) ≡ 256) (hq : q ≤ M) (hr : r ≤ U) where
  full : 255 ≡ M * U + M + U
  full = omega (arith, e, add-mul M 1 (U + 1), mul-add M U 1)

  scaled : 255 * q ≡ M * U * q + M * q + U * q
  scaled = ap (λ x. x * q) full ∙ add-mul (M * U + M) U q ∙ ap (λ x. x + U * q) (add-mul (M * U) M q)

  spread : (q * (U + 1) + r) * M ≡ M * U * q + M * q + r * M
  spread =
      add-mul (q * (U + 1)) r M
      ∙ ap (λ x. x + r * M) (ap (λ x. x * M) (mul-add q U 1 ∙ ap (λ x. q * U + x) (mul-one q)) ∙ add-mul (q * U) q M
      ∙ ap₂ (λ x y. x + y) (mul_assoc q U M ∙ mul_comm q (U * M) ∙ ap (λ x. x * q) (mul_comm U M)) (mul_comm q M))

  dropped_up : 255 * q ≤ (q * (U + 1) + r) * M + U * M
  dropped_up = omega (arith, scaled, spread, mul-le-mul_left U hq)

  dropped_down : (q * (U + 1) + r) * M ≤ 255 * q + U * M
  dropped_down = omega (arith, scaled, spread, mul-le-mul_right M hr)

pub truncates : (n : ℕ) → n ≤ 8 → AllTruncate n
unfolding truncated
truncates n u v h =
    let e : n + (8 - n) ≡ 8 = omega arith in
    let p : 2 ^ n * 2 ^ (8 - n) ≡ 256 = sym (pow-add 2 n (8 - n)) ∙ ap (λ x. 2 ^ x) e in
    let N : 2 ^ n - 1 + 1 ≡ 2 ^ n = omega (arith, pow_pos n) in
    let S : 2 ^ (8 - n) - 1 + 1 ≡ 2 ^ (8 - n) = omega (arith, pow_pos (8 - n)) in
    let c : v / 2 ^ (8 - n) < 2 ^ n = shr_lt n (8 - n) (subst (λ x. v < 2 ^ x) (sym e) h) in
    let r : v % 2 ^ (8 - n) < 2 ^ (8 - n) = mod-lt v (pow_pos (8 - n)) in
    let w : v / 2 ^ (8 - n) * (2 ^ (8 - n) - 1 + 1) + v % 2 ^ (8 - n) ≡ v = ap (λ x. v / 2 ^ (8 - n) * x + v % 2 ^ (8 - n)) S ∙ div-add-mod' v (2 ^ (8 - n)) in
    let q : (2 ^ n - 1 + 1) * (2 ^ (8 - n) - 1 + 1) ≡ 256 = ap₂ (λ x y. x * y) N S ∙ p in
    record {
      code = c;
      not_above = subst (λ x. 255 * (v / 2 ^ (8 - n)) ≤ x * (2 ^ n - 1) + (2 ^ (8 - n) - 1) * (2 ^ n - 1)) w
          (dropped_up (2 ^ n - 1) (2 ^ (8 - n) - 1) (v / 2 ^ (8 - n)) (v % 2 ^ (8 - n)) q (omega arith) (omega arith));
      not_below = subst (λ x. x * (2 ^ n - 1) ≤ 255 * (v / 2 ^ (8 - n)) + (2 ^ (8 - n) - 1) * (2 ^ n - 1)) w
          (dropped_down (2 ^ n - 1) (2 ^ (8 - n) - 1) (v / 2 ^ (8 - n)) (v % 2 ^ (8 - n)) q (omega arith) (omega arith));
    }

-- an alpha bit is 1 where the byte is 128 or more
pub alpha_bit : (v : ℕ) → v < 256 → (128 ≤ v → truncated 1 v ≡ 1) × (v < 128 → truncated 1 v ≡ 0)
unfolding truncated
alpha_bit v h = omega arith

-- two copies are enough from four bits on
abbrev two_test : ℕ → ℕ → Bool
two_test n k = eqb (expanded n k) (k * 2 ^ (8 - n) + k / 2 ^ (2 * n - 8))

abbrev Two : ℕ → Type 0
Two n = 4 ≤ n → T (every_below (two_test n) (2 ^ n))

two_tested : (n : ℕ) → 1 ≤ n → n ≤ 8 → Two n
unfolding expanded
two_tested = by_width Two (λ h. absurd (omega arith)) (λ h. absurd (omega arith)) (λ h. absurd (omega arith)) (λ h. tt) (λ h. tt) (λ h. tt) (λ h. tt) (λ h. tt)

pub two_copies : (n : ℕ) → 4 ≤ n → n ≤ 8 → (k : ℕ) → k < 2 ^ n → expanded n k ≡ k * 2 ^ (8 - n) + k / 2 ^ (2 * n - 8)
two_copies n l u k h = eqb→eq _ _ (below_at (two_test n) (2 ^ n) (two_tested n (omega arith) u l) k h)

-- where 2^n - 1 divides 255, to expand is to multiply
pub expanded_whole : (n k q : ℕ) → 1 ≤ n → n ≤ 8 → k < 2 ^ n → q * (2 ^ n - 1) ≡ 255 → expanded n k ≡ q * k
expanded_whole n k q l u h e =
    let m = 2 ^ n - 1 in
    let o = expands n l u k h in
    let f : 255 * k ≡ q * k * m = ap (λ x. x * k) (sym e) ∙ mul_right_comm q m k in
    elim (cases_lt (expanded n k) (q * k)) [
      | inl a ↦ absurd (omega (arith, o.not_below, f, step (expanded n k) (q * k) m a))
      | inr a ↦ elim (cases_lt (q * k) (expanded n k)) [
        | inl b ↦ absurd (omega (arith, o.not_above, f, step (q * k) (expanded n k) m b))
        | inr b ↦ omega arith
      ]
    ]
