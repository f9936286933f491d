-- A pattern repeated over a slice.
-- Assumes nothing.
use Rattle.std.specs.Prelude.{◌≡◌, List, ℕ, ◌+◌, ◌%◌, ◌≤◌, ◌<◌, length, get_or}

-- byte i is the pattern's byte i mod n, for a pattern of n bytes; an empty one changes nothing
pub record Splat (pattern before after : List ℕ) : Type 0 where
  pub same_length : length after ≡ length before
  pub repeated : 0 < length pattern → (i : ℕ) → i < length before → get_or after i 0 ≡ get_or pattern (i % length pattern) 0
  pub empty : length pattern ≡ 0 → after ≡ before

-- r is a whole number of patterns of n bytes, at least a block of 48 bytes and at most a pattern more than 512
pub record WholePatterns (n r : ℕ) : Type 0 where
  pub whole : r % n ≡ 0
  pub block : 48 ≤ r
  pub near : r ≤ n + 512
