-- A loop's meaning: steps 0 to n - 1 applied in order, and a test of each number below n.
-- Assumes nothing.
use Rattle.std.specs.Prelude.{Bool, true, ◌&&◌, ℕ, zero, suc}

-- from a, step 0, then step 1, up to step n - 1
unfoldable pub iterate : {A : Type 0} → (ℕ → A → A) → ℕ → A → A
iterate f zero a = a
iterate f (suc n) a = f n (iterate f n a)

-- p holds of each number below n
unfoldable pub all : (ℕ → Bool) → ℕ → Bool
all p zero = true
all p (suc n) = all p n && p n
