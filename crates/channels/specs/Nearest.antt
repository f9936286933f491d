-- The whole number nearest to a fraction n / d: as a predicate, and as the quotient that computes it.
-- Assumes nothing.
use Rattle.std.specs.Prelude.{◌≡◌, ◌⊎◌, ℕ, ◌+◌, ◌-◌, ◌*◌, ◌/◌, ◌%◌, ◌<◌}

-- how far apart two numbers are
abbrev pub apart : ℕ → ℕ → ℕ
apart x y = (x - y) + (y - x)

-- q is nearest to n / d: in parts of d its distance is apart (q * d) n, and every other number lies further off, or equally far and gives way
pub record NearestBy (gives-way : (other q : ℕ) → Type 0) (n d q : ℕ) : Type 0 where
  pub others : (j : ℕ) → (j ≡ q → ⊥) → (apart (q * d) n < apart (j * d) n) ⊎ ((apart (q * d) n ≡ apart (j * d) n) × gives-way j q)

-- no other number is equally near
abbrev pub Nearest : (n d q : ℕ) → Type 0
Nearest = NearestBy (λ j q. ⊥)

-- of two that are equally near, the upper one
abbrev pub NearestUp : (n d q : ℕ) → Type 0
NearestUp = NearestBy (λ j q. j < q)

-- of two that are equally near, the even one
abbrev pub NearestEven : (n d q : ℕ) → Type 0
NearestEven = NearestBy (λ j q. j % 2 ≡ 1)

-- n / d and a half, rounded down
unfoldable pub rounded : (n d : ℕ) → ℕ
rounded n d = (2 * n + d) / (2 * d)
