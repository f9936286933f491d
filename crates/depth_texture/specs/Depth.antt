-- Depths and their codes: a code k of 0 .. max stands for exactly k / max.
-- Assumes nothing.
use Rattle.std.specs.Prelude.{ℕ, ◌*◌, ◌≤◌, pos, Float}
use Rattle.std.specs.Float.{binary32}
use Rattle.std.specs.Float.Ieee.{div, of_int}
use Rattle.std.specs.Float.Ieee.Nearest.{closest}
use Rattle.channels.specs.Nearest.{NearestEven}
use Rattle.channels.specs.Floats.{clamped}

-- the depth of the code k: the quotient of two whole numbers that binary32 holds exactly, so k / max rounded once
abbrev pub depth_of : (max k : ℕ) → Float
depth_of max k = div binary32 (of_int binary32 (pos k)) (of_int binary32 (pos max))

-- k is the code of the depth x: the whole number nearest to x * max, where x is clamped to 0..1 and a NaN is 0; of two that are equally near, the even one
pub record CodeFor (max : ℕ) (x : Float) (k : ℕ) : Type 0 where
  pub is_code : k ≤ max
  pub nearest : NearestEven ((clamped x).top * max) (clamped x).bottom k

-- that code, computed (Restoration joins the two)
unfoldable pub code_for : (max : ℕ) → Float → ℕ
code_for max x = closest ((clamped x).top * max) (clamped x).bottom
