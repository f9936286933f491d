-- Laws on what specs/Computed defines. Assumes nothing.
use Rattle.std.specs.Prelude.{◌≡◌, Bool, true, false, List, [], ◌∷◌, ℕ, zero, suc, ◌+◌, ◌<◌, T, length, get_or}
use Rattle.std.proofs.Common.{sym, subst, ◌∙◌, not-suc-le-zero, le_of_suc-le-suc, add-zero, zero-add, add-suc, suc-add, arith}
use Rattle.std.proofs.Math.Decide.{dec_lt}
use Rattle.words.specs.Computed.{both, every_entry}

pub both_left : (a b : Bool) → T (both a b) → T a
both_left true b t = tt
both_left false b t = t

pub both_right : (a b : Bool) → T (both a b) → T b
both_right true b t = t
both_right false b t = absurd t

-- the test passes at every number below m. Iterate's `all` says it too, and stays folded, since definitions cite it; this is an
-- abbreviation, so that the checker computes it wherever a proof says `tt`
abbrev pub every_below : (ℕ → Bool) → ℕ → Bool
every_below t zero = true
every_below t (suc m) = both (t m) (every_below t m)

pub below_at : (t : ℕ → Bool) (m : ℕ) → T (every_below t m) → (k : ℕ) → k < m → T (t k)
below_at t zero h k l = absurd (not-suc-le-zero l)
below_at t (suc m) h k l = go (dec_lt k m) (below_at t m (both_right (t m) (every_below t m) h) k)
  where
    go : Dec (k < m) → (k < m → T (t k)) → T (t k)
    go (yes g) r = r g
    go (no f) r = let e : k ≡ m = omega arith in subst (λ i. T (t i)) (sym e) (both_left (t m) (every_below t m) h)

entry_from : {A : Type 0} (t : ℕ → A → Bool) (xs : List A) (d : A) (i : ℕ) → T (every_entry t i xs) → (k : ℕ) → k < length xs → T (t (i + k) (get_or xs k d))
entry_from t [] d i h k l = absurd (not-suc-le-zero l)
entry_from t (x ∷ xs) d i h zero l = subst (λ m. T (t m x)) (sym (add-zero i)) (both_left (t i x) (every_entry t (suc i) xs) h)
entry_from t (x ∷ xs) d i h (suc k) l =
    subst (λ m. T (t m (get_or xs k d))) (suc-add i k ∙ sym (add-suc i k))
    (entry_from t xs d (suc i) (both_right (t i x) (every_entry t (suc i) xs) h) k (le_of_suc-le-suc l))

pub entry_of : {A : Type 0} (t : ℕ → A → Bool) (xs : List A) (d : A) → T (every_entry t 0 xs) → (k : ℕ) → k < length xs → T (t k (get_or xs k d))
entry_of t xs d h k l = subst (λ m. T (t m (get_or xs k d))) (zero-add k) (entry_from t xs d 0 h k l)

-- of numbers
pub entry_at : (t : ℕ → ℕ → Bool) (xs : List ℕ) → T (every_entry t 0 xs) → (k : ℕ) → k < length xs → T (t k (get_or xs k 0))
entry_at t xs h k l = entry_of t xs 0 h k l
