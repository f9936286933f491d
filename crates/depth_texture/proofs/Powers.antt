-- Powers of two, by a test and by counting set bits.
-- Assumes nothing.
use Rattle.std.specs.Prelude.{◌≡◌, refl, Bool, true, false, not, ℕ, zero, suc, ◌+◌, ◌*◌, ◌/◌, ◌%◌, ◌^◌, ◌<◌, eqb}
use Rattle.std.proofs.Common.{sym, ap, ◌∙◌, subst, inl, inr, pow-suc, arith, pow_pos, eq-eqb, eqb-true, ne_eqb}
use Rattle.std.proofs.Math.Arith.{bin_ind}
use Rattle.std.specs.Int.Count.{ones, ones_in, ones_step}
use Rattle.std.proofs.lemmas.Nat.{ones_cat}
use Rattle.std.proofs.lemmas.Bool.{eqb-false, cases_lt}
use Rattle.words.proofs.IterateLaws.{all_true, all_false}
use Rattle.depth_texture.specs.Layouts.{PowerOfTwo, is_power_of_two}

-- ---- the test
below_power : (k : ℕ) → k < 2 ^ k
below_power zero = omega arith
below_power (suc k) = omega (arith, below_power k, pow-suc 2 k)

pub power_tested : (a : ℕ) → PowerOfTwo a → is_power_of_two a ≡ true
unfolding is_power_of_two
power_tested a p =
    let k = p.0 in
    ap not (all_false (λ k. not (eqb a (2 ^ k))) a k (subst (λ n. k < n) (sym p.1) (below_power k)) (ap not (eq-eqb a (2 ^ k) p.1)))

not_power_tested : (a : ℕ) → (PowerOfTwo a → ⊥) → is_power_of_two a ≡ false
unfolding is_power_of_two
not_power_tested a none = ap not (all_true (λ k. not (eqb a (2 ^ k))) a (λ k l. ap not (ne_eqb a (2 ^ k) (λ e. none (k, e)))))

-- ---- a power of two has one set bit
one_one : ones 1 ≡ 1
unfolding ones ones_in
one_one = refl

none_zero : ones 0 ≡ 0
unfolding ones ones_in
none_zero = refl

power_counted : (a : ℕ) → PowerOfTwo a → ones a ≡ 1
power_counted a p =
    let e : 2 ^ p.0 ≡ 1 * 2 ^ p.0 + 0 = omega arith in
    ap ones (p.1 ∙ e) ∙ ones_cat p.0 1 0 (pow_pos p.0) ∙ omega (arith, one_one, none_zero)

no_bits : (n : ℕ) → ones n ≡ 0 → n ≡ 0
no_bits = bin_ind (λ n. ones n ≡ 0 → n ≡ 0) (λ h. refl) (λ n r h. let e : n / 2 ≡ 0 = r (omega (arith, ones_step n)) in omega (arith, ones_step n))

counted_power : (n : ℕ) → ones n ≡ 1 → PowerOfTwo n
counted_power = bin_ind (λ n. ones n ≡ 1 → PowerOfTwo n) (λ h. absurd (omega (arith, none_zero))) (λ n r h. elim (cases_lt (n % 2) 1) [
  | inl l ↦
      let p = r (omega (arith, ones_step n)) in
      (suc p.0, omega (arith, p.1, pow-suc 2 p.0))
  | inr l ↦
      let z : n / 2 ≡ 0 = no_bits (n / 2) (omega (arith, ones_step n)) in
      (0, omega arith)
])

-- the code's test
pub counted : (a : ℕ) → eqb (ones a) 1 ≡ is_power_of_two a
counted a = go (eqb (ones a) 1) refl
  where
    go : (t : Bool) → eqb (ones a) 1 ≡ t → t ≡ is_power_of_two a
    go true e = sym (power_tested a (counted_power a (eqb-true (ones a) 1 e)))
    go false e = sym (not_power_tested a (λ p. eqb-false (ones a) 1 e (power_counted a p)))

-- what passes the test is a power of two, as `power_tested` says that each of these passes it
pub tested_power : (a : ℕ) → is_power_of_two a ≡ true → PowerOfTwo a
tested_power a h = counted_power a (eqb-true (ones a) 1 (counted a ∙ h))
