-- Bytes as a little-endian number, and a number's bytes. Assumes nothing.
use Rattle.std.specs.Prelude.{List, [], ◌∷◌, ℕ, zero, suc, ◌+◌, ◌*◌, ◌/◌, ◌%◌}

-- the little-endian number of a list of bytes
abbrev pub number : List ℕ → ℕ
number [] = 0
number (b ∷ bs) = number bs * 256 + b

-- the n bytes of a number, the lowest first; its higher bits are dropped
abbrev pub bytes : ℕ → ℕ → List ℕ
bytes zero w = []
bytes (suc n) w = w % 256 ∷ bytes n (w / 256)
