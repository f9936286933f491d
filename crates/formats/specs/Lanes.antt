-- Lanes: a texel is the little-endian number of its bytes, its word, and each channel is a run of the word's bits.
-- Assumes nothing.
use Rattle.std.specs.Prelude.{List, [], ◌∷◌, ℕ, ◌+◌, ◌*◌, ◌/◌, ◌%◌, ◌^◌}

-- what a lane holds; padding is the X of a format's name
pub data Channel : Type 0 where
  red : Channel
  green : Channel
  blue : Channel
  alpha : Channel
  luminance : Channel
  depth : Channel
  stencil : Channel
  padding : Channel
  deriving Discrete as Channel-discrete

-- how a lane's bits are read: as a whole number, in two's complement, as IEEE 754's binary16 or binary32, or not at all
pub data Kind : Type 0 where
  unsigned : Kind
  signed : Kind
  float16 : Kind
  float32 : Kind
  ignored : Kind

-- one letter of a format's name with the number of bits behind it
pub record Part : Type 0 where
  pub channel : Channel
  pub kind : Kind
  pub width : ℕ

-- where a channel stands in a word: its lowest bit, its width and its kind, or nowhere
pub data Lane : Type 0 where
  nowhere : Lane
  at : (low width : ℕ) → Kind → Lane

-- how many bits a list of parts has
abbrev pub bits : List Part → ℕ
bits [] = 0
bits (p ∷ ps) = p.width + bits ps

-- a name lists its parts from the top bit down, so the parts to the right of a part lie below it
abbrev pub find : Channel → List Part → Lane
find c [] = nowhere
find c (p ∷ ps) = elim (Channel-discrete c p.channel) [ yes e ↦ at (bits ps) p.width p.kind | no u ↦ find c ps ]

-- the code that a word holds in the n bits from bit low on
abbrev pub code_at : (low n word : ℕ) → ℕ
code_at low n word = word / 2 ^ low % 2 ^ n

-- the word whose parts hold the codes given, each part above those to its right
abbrev pub packed : (Part → ℕ) → List Part → ℕ
packed code [] = 0
packed code (p ∷ ps) = code p * 2 ^ bits ps + packed code ps
