-- A channel of n bits as a byte, and back, for every width from 1 to 8 at once: expanding repeats its bits, truncating drops low bits
-- (docs/RULES.md, Channels).
-- Assumes nothing.
use Rattle.std.specs.Prelude.{◌≡◌, ℕ, zero, suc, ◌+◌, ◌*◌, ◌-◌, ◌/◌, ◌^◌, ◌≤◌, ◌<◌}

-- v, again n bits lower, and so on, m times over
abbrev pub repeated : ℕ → ℕ → ℕ → ℕ
repeated n v zero = 0
repeated n v (suc m) = v + repeated n (v / 2 ^ n) m

-- the n bits of k at the top of a byte, repeated to its end (eight times are enough for one bit)
unfoldable pub expanded : ℕ → ℕ → ℕ
expanded n k = repeated n (k * 2 ^ (8 - n)) 8

-- the n top bits of the byte v
unfoldable pub truncated : ℕ → ℕ → ℕ
truncated n v = v / 2 ^ (8 - n)

-- what was expanded truncates to itself, is a byte, and lies within 3/4 of 255 k / (2^n - 1)
pub record Expands (n k : ℕ) : Type 0 where
  pub restored : truncated n (expanded n k) ≡ k
  pub byte : expanded n k < 256
  pub not_above : 4 * (expanded n k * (2 ^ n - 1)) < 4 * (255 * k) + 3 * (2 ^ n - 1)
  pub not_below : 4 * (255 * k) < 4 * (expanded n k * (2 ^ n - 1)) + 3 * (2 ^ n - 1)

-- a byte truncates to n bits, which stand for a number that lies within 2^(8-n) - 1 of it
pub record Truncates (n v : ℕ) : Type 0 where
  pub code : truncated n v < 2 ^ n
  pub not_above : 255 * truncated n v ≤ v * (2 ^ n - 1) + (2 ^ (8 - n) - 1) * (2 ^ n - 1)
  pub not_below : v * (2 ^ n - 1) ≤ 255 * truncated n v + (2 ^ (8 - n) - 1) * (2 ^ n - 1)
