-- The two numbers of a line, which are all that contracts see of it. Here they are of any size. Assumes nothing.
use Rattle.std.specs.Prelude.{ℕ}

-- a gain, and the base that is taken from the product
pub record LineNumbers : Type 0 where
  pub gain : ℕ
  pub base : ℕ
