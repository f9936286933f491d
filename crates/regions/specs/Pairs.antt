-- Pairs of formats that two codes stand for. Assumes nothing.
use Rattle.std.specs.Prelude.{◌≡◌, true, false, ℕ, Option, Some, None}
use Rattle.formats.specs.Formats.{rgb_code, source_code}
use Rattle.regions.specs.declared.reply.pair.Pair.{Pair}
use Rattle.regions.specs.declared.reply.conversion.Conversion.{Conversion}
use Rattle.regions.specs.Replies.{can_convert}
use Rattle.regions.specs.Sources.{code_of}

-- the pair is that of two codes
pub record Codes (p : Pair) (s d : ℕ) : Type 0 where
  pub source : source_code p.source ≡ s
  pub target : rgb_code p.target ≡ d

-- a conversion is that of two codes
pub record Converts (c : Conversion) (s d : ℕ) : Type 0 where
  pub source : code_of c.source ≡ s
  pub target : rgb_code c.target.format ≡ d

-- a pair was found for two codes, or they do not convert
abbrev pub FoundPair : (s d : ℕ) → Option Pair → Type 0
FoundPair s d (Some p) = Codes p s d × (can_convert s d ≡ true)
FoundPair s d None = can_convert s d ≡ false
