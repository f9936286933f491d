-- Exact values as fractions of whole numbers, and how far two lie apart, in quarters.
-- Assumes nothing.
use Rattle.std.specs.Prelude.{ℕ, ◌+◌, ◌*◌, ◌≤◌, ◌<◌}

-- top / bottom
pub record Fraction : Type 0 where
  pub top : ℕ
  pub bottom : ℕ

infixl 10 ◌over◌
abbrev pub ◌over◌ : ℕ → ℕ → Fraction
◌over◌ a b = record { top = a; bottom = b }

-- a/b is at most c/d and q quarters: both sides are multiplied by 4bd
abbrev pub AtMost : ℕ → Fraction → Fraction → Type 0
AtMost q x y = 4 * (x.top * y.bottom) ≤ 4 * (y.top * x.bottom) + q * (x.bottom * y.bottom)

-- two fractions lie at most q quarters apart, and neither divides by 0
pub record Near (q : ℕ) (x y : Fraction) : Type 0 where
  pub left_real : 0 < x.bottom
  pub right_real : 0 < y.bottom
  pub not_above : AtMost q x y
  pub not_below : AtMost q y x

-- the mean of three fractions, with the weights 2125, 7154 and 721 in 10000
abbrev pub mean : Fraction → Fraction → Fraction → Fraction
mean x y z =
    (2125 * (x.top * (y.bottom * z.bottom)) + 7154 * (y.top * (x.bottom * z.bottom)) + 721 * (z.top * (x.bottom * y.bottom)))
    over (10000 * (x.bottom * (y.bottom * z.bottom)))
