-- The predicates of rounding and the numbers that compute them.
use Rattle.std.specs.Prelude.{◌≡◌, ◌↔◌, ℕ, ◌%◌, ◌<◌, Float}
use Rattle.std.specs.Float.Ieee.Nearest.{closest}
use Rattle.channels.specs.Nearest.{Nearest, NearestUp, NearestEven, rounded}
use Rattle.depth_texture.specs.Depth.{CodeFor, code_for}
use Rattle.convert.specs.Half.{HalfOf, half_of}

-- each rounding has one nearest number, and it is the one that is computed
pub record OneNearest : Type 0 where
  -- of two that are equally near the upper one: bytes of codes and of binary32 channels
  pub up : (n d q : ℕ) → 0 < d → NearestUp n d q ↔ (q ≡ rounded n d)
  -- an odd divisor leaves no tie: bytes of ten-bit, sixteen-bit and signed codes, codes of a fill, decimals of a set
  pub odd : (n d q : ℕ) → d % 2 ≡ 1 → Nearest n d q ↔ (q ≡ rounded n d)
  -- of two that are equally near the even one
  pub even : (n d q : ℕ) → 0 < d → NearestEven n d q ↔ (q ≡ closest n d)
  -- the code of a depth
  pub depth : (max : ℕ) (x : Float) (k : ℕ) → CodeFor max x k ↔ (k ≡ code_for max x)
  -- the binary16 pattern of a binary32 pattern
  pub binary16 : (bits k : ℕ) → HalfOf bits k ↔ (k ≡ half_of bits)
