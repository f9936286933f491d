-- Raising a number to a multiple of another: what that is, and the quotient that computes it. Assumes nothing.
use Rattle.std.specs.Prelude.{◌≡◌, ℕ, ◌+◌, ◌-◌, ◌*◌, ◌/◌, ◌≤◌}

-- m is n raised to a multiple of a: the least one that is not below n
pub record Raised (n a m : ℕ) : Type 0 where
  pub multiple : (k : ℕ) × (m ≡ k * a)
  pub enough : n ≤ m
  pub least : (k : ℕ) → n ≤ k * a → m ≤ k * a

-- the same as a number
unfoldable pub raised : (n a : ℕ) → ℕ
raised n a = (n + (a - 1)) / a * a
