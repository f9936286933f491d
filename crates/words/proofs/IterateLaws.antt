-- Laws on what specs/Iterate.antt defines, which rest on laws there. Assumes nothing.
use Rattle.std.specs.Prelude.{◌≡◌, refl, Bool, true, false, ℕ, zero, suc, ◌+◌, ◌*◌, ◌/◌, ◌%◌, ◌<◌}
use Rattle.std.proofs.Common.{ap, ◌∙◌, ⊎_elim, arith, not-suc-le-zero, add-suc, add-zero, add-one, zero-mul, suc-mul, List, length, sym, subst}
use Rattle.std.proofs.Math.Arith.{digits_div, digits_mod}
use Rattle.std.proofs.lemmas.Bool.{and_parts, and_right}
use Rattle.words.proofs.TestsLaws.{lt_or_eq}
use Rattle.words.specs.Iterate.{iterate, all}

-- ---- steps
pub iterate_zero : {A : Type 0} (f : ℕ → A → A) (a : A) → iterate f 0 a ≡ a
unfolding iterate
iterate_zero f a = refl

pub iterate_more : {A : Type 0} (f : ℕ → A → A) (n : ℕ) (a : A) → iterate f (n + 1) a ≡ f n (iterate f n a)
unfolding iterate
iterate_more f n a = rw add-one refl

-- what every step keeps, the whole keeps
pub iterate_keeps : {A : Type 0} (P : A → Type 0) (f : ℕ → A → A) (n : ℕ) → ((k : ℕ) → k < n → (a : A) → P a → P (f k a)) → (a : A) → P a → P (iterate f n a)
unfolding iterate
iterate_keeps P f zero h a p = p
iterate_keeps P f (suc n) h a p = h n (omega arith) (iterate f n a) (iterate_keeps P f n (λ k l. h k (omega arith)) a p)

-- the first a steps, and then the b others
pub iterate_add : {A : Type 0} (f : ℕ → A → A) (a b : ℕ) (x : A) → iterate f (a + b) x ≡ iterate (λ k. f (a + k)) b (iterate f a x)
unfolding iterate
iterate_add f a zero x = rw add-zero refl
iterate_add f a (suc b) x = rw add-suc (ap (f (a + b)) (iterate_add f a b x))

-- steps that agree below n
pub iterate_same : {A : Type 0} (f g : ℕ → A → A) (n : ℕ) (a : A) → ((k : ℕ) → k < n → (b : A) → f k b ≡ g k b) → iterate f n a ≡ iterate g n a
unfolding iterate
iterate_same f g zero a h = refl
iterate_same f g (suc n) a h = h n (omega arith) (iterate f n a) ∙ ap (g n) (iterate_same f g n a (λ k l. h k (omega arith)))

-- ---- tests
pub all_true : (p : ℕ → Bool) (n : ℕ) → ((k : ℕ) → k < n → p k ≡ true) → all p n ≡ true
unfolding all
all_true p zero h = refl
all_true p (suc n) h = rw (all_true p n (λ k lt. h k (omega arith)), h n (omega arith)) refl

pub all_at : (p : ℕ → Bool) (n : ℕ) → all p n ≡ true → (k : ℕ) → k < n → p k ≡ true
unfolding all
all_at p zero h k lt = absurd (not-suc-le-zero lt)
all_at p (suc n) h k lt =
    ⊎_elim (λ less. all_at p n (and_parts (all p n) (p n) h).0 k less)
    (λ same. rw same (and_parts (all p n) (p n) h).1)
    (lt_or_eq k n lt)

pub all_false : (p : ℕ → Bool) (n k : ℕ) → k < n → p k ≡ false → all p n ≡ false
unfolding all
all_false p zero k lt h = absurd (not-suc-le-zero lt)
all_false p (suc n) k lt h =
    ⊎_elim (λ less. rw (all_false p n k less h) refl)
    (λ same. and_right (all p n) (p n) (rw same at h))
    (lt_or_eq k n lt)

-- two runs of tests where each test of one is a test of the other
pub all_onto : (p q : ℕ → Bool) (n m : ℕ) → ((k : ℕ) → k < n → (j : ℕ) × (j < m) × (p k ≡ q j)) → ((j : ℕ) → j < m → (k : ℕ) × (k < n) × (q j ≡ p k)) → all p n ≡ all q m
all_onto p q n m onto back = go (all p n) (all q m) refl refl
  where
    go : (a b : Bool) → all p n ≡ a → all q m ≡ b → a ≡ b
    go true b e g = sym (all_true q m (λ j jl. let h = back j jl in h.2 ∙ all_at p n e h.0 h.1)) ∙ g
    go false true e g = sym e ∙ all_true p n (λ k kl. let h = onto k kl in h.2 ∙ all_at q m g h.0 h.1)
    go false false e g = refl

pub all_same : (p q : ℕ → Bool) (n : ℕ) → ((k : ℕ) → k < n → p k ≡ q k) → all p n ≡ all q n
all_same p q n same = all_onto p q n n (λ k kl. (k, kl, same k kl)) (λ k kl. (k, kl, sym (same k kl)))

-- one turn of a loop
pub iterate_step : {A : Type 0} (f : ℕ → A → A) (i : ℕ) (a₀ a a' : A) → a ≡ iterate f i a₀ → a' ≡ f i a → a' ≡ iterate f (i + 1) a₀
iterate_step f i a₀ a a' e e' = e' ∙ ap (f i) e ∙ sym (iterate_more f i a₀)

-- what one step makes and the others keep, the whole makes
pub iterate_makes : {A : Type 0} (I P : A → Type 0) (f : ℕ → A → A) (n m : ℕ) → m < n
    → ((k : ℕ) (b : A) → I b → I (f k b))
    → ((b : A) → I b → P (f m b))
    → ((k : ℕ) → k < n → (k ≡ m → ⊥) → (b : A) → P b → P (f k b))
    → (a : A) → I a → P (iterate f n a)
unfolding iterate
iterate_makes I P f zero m lt inv make keep a i = absurd (not-suc-le-zero lt)
iterate_makes I P f (suc n) m lt inv make keep a i =
    ⊎_elim
    (λ less. keep n (omega arith) (λ e. omega arith) (iterate f n a) (iterate_makes I P f n m less inv make (λ k l. keep k (omega arith)) a i))
    (λ same. subst (λ k. P (f k (iterate f n a))) same (make (iterate f n a) (iterate_keeps I f n (λ k l. inv k) a i)))
    (lt_or_eq m n lt)

pub iterate_length : {A : Type 0} (f : ℕ → List A → List A) → ((k : ℕ) (l : List A) → length (f k l) ≡ length l) → (n : ℕ) (l : List A) → length (iterate f n l) ≡ length l
iterate_length f same n l = iterate_keeps (λ m. length m ≡ length l) f n (λ k lt m e. same k m ∙ e) l refl

-- a loop in a loop as one run, whose step n is step n % h of turn n / h
pub iterate_flat : {A : Type 0} (g : ℕ → ℕ → A → A) (h d : ℕ) (a : A) → iterate (λ z. iterate (g z) h) d a ≡ iterate (λ n. g (n / h) (n % h)) (d * h) a
unfolding iterate
iterate_flat g h zero a = rw zero-mul refl
iterate_flat g h (suc d) a =
    ap (iterate (g d) h) (iterate_flat g h d a)
    ∙ sym
    (ap (λ (n : ℕ). iterate (λ n. g (n / h) (n % h)) n a) (suc-mul d h)
    ∙ iterate_add (λ n. g (n / h) (n % h)) (d * h) h a
    ∙ iterate_same (λ k. g ((d * h + k) / h) ((d * h + k) % h)) (g d) h (iterate (λ n. g (n / h) (n % h)) (d * h) a)
    (λ k l b. rw (digits_div d l, digits_mod d l) refl))
