-- The lane table, and channels on their way to a byte and back.
use Rattle.std.specs.Prelude.{◌≡◌, true, ℕ, ◌+◌, ◌-◌, ◌*◌, ◌/◌, ◌^◌, ◌≤◌, ◌<◌}
use Rattle.formats.specs.Lanes.{Channel, red, green, alpha, luminance}
use Rattle.formats.specs.Table.{formats, parts_of, lane_of, Filled}
use Rattle.formats.specs.Numbers.{rows_of, numbered}
use Rattle.formats.specs.Classes.{is_convertible_rgb}
use Rattle.channels.specs.Expansion.{expanded, truncated, Expands, Truncates}
use Rattle.texels.specs.Texels.{decoded_of, encoded_of, is_colour, quarters}
use Rattle.texels.specs.Restored.{SameLane}

-- the lanes of every format share no bit and fill its bytes
pub record LanesFill : Type 0 where
  pub filled : (f : ℕ) → Filled (parts_of f)

-- the table that the letters of D3DFORMAT's names make is the one in numbers: lowest bit, width and kind of each lane
abbrev pub LanesNumbered : Type 0
LanesNumbered = rows_of formats ≡ numbered

-- how far a channel of at most eight bits moves when it is expanded to a byte or truncated from one
pub record ChannelErrors : Type 0 where
  -- a code that was repeated to a byte truncates to itself, and its byte lies within 3/4 of 255 k / (2^n - 1)
  pub expanding : (n : ℕ) → 1 ≤ n → n ≤ 8 → (k : ℕ) → k < 2 ^ n → Expands n k
  -- a byte's top n bits stand for a number within 2^(8-n) - 1 of it
  pub truncating : (n : ℕ) → n ≤ 8 → (v : ℕ) → v < 256 → Truncates n v

-- what docs/RULES.md says of single widths (Channels, Error steps)
pub record ChannelRules : Type 0 where
  -- from four bits on a code has its top bits repeated below it once, as (v << 3) | (v >> 2) of five bits
  pub repeated : (n : ℕ) → 4 ≤ n → n ≤ 8 → (k : ℕ) → k < 2 ^ n
      → expanded n k ≡ k * 2 ^ (8 - n) + k / 2 ^ (2 * n - 8)
  -- where 2^n - 1 divides 255, to expand is to multiply: by 255, 85, 17 and 1 for one, two, four and eight bits
  pub multiplied : (n k q : ℕ) → 1 ≤ n → n ≤ 8 → k < 2 ^ n → q * (2 ^ n - 1) ≡ 255 → expanded n k ≡ q * k
  -- one bit is set just where the byte is at least 128
  pub one_bit : (v : ℕ) → v < 256 → (128 ≤ v → truncated 1 v ≡ 1) × (v < 128 → truncated 1 v ≡ 0)
  -- four times a step and 3: steps 0, 1/2 for luminance, 3, 7, 15 and 127
  pub steps : (quarters red 8 ≡ 3) × (quarters luminance 8 ≡ 5) × (quarters green 6 ≡ 15)
      × (quarters red 5 ≡ 31) × (quarters alpha 4 ≡ 63) × (quarters alpha 1 ≡ 511)

-- a texel that is decoded and encoded again in its own RGB format has the same code in every lane but X
abbrev pub LanesRestored : Type 0
LanesRestored =
    (f word : ℕ) → is_convertible_rgb f ≡ true → (c : Channel) → is_colour c ≡ true
    → SameLane (lane_of f c) (encoded_of f (decoded_of f word)) word
