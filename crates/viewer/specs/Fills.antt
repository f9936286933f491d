-- Fills beside the original's, and splats.
use Rattle.std.specs.Prelude.{◌≡◌, List, ℕ}
use Rattle.formats.specs.Lanes.{packed}
use Rattle.formats.specs.Table.{parts_of}
use Rattle.convert.specs.Color.{byte_of}
use Rattle.convert.specs.Fill.{word_of}
use Rattle.convert.specs.Splat.{Splat}
use Rattle.convert.specs.Unmoved.{original_lane}

-- every fill's word is the one with the original's binary16 patterns
abbrev pub FillsUnmoved : Type 0
FillsUnmoved =
    (color f : ℕ) → word_of color f ≡ packed (λ p. original_lane p.kind p.width (byte_of color p.channel)) (parts_of f)

-- a splat settles every byte: two outcomes of one destination and pattern are equal
abbrev pub OneSplat : Type 0
OneSplat = (pattern before x y : List ℕ) → Splat pattern before x → Splat pattern before y → x ≡ y
