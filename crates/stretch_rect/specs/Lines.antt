-- Each part of a colour lies on a line: it is the product of its sample and its gain, less a base that does not depend on the sample. So
-- 32 bits have room for it.
-- Assumes nothing.
use Rattle.std.specs.Prelude.{ℕ, ◌+◌, ◌*◌, ◌/◌, ℤ, pos, ◌-ℤ◌}

-- the base of luma: offset times gain, rounded up to 65536ths
unfoldable pub luma_base_of : (offset gain : ℕ) → ℕ
luma_base_of o g = (o * g + 65535) / 65536

-- the base of chroma: half of centre times gain, rounded up
unfoldable pub chroma_base_of : (centre gain : ℕ) → ℕ
chroma_base_of n g = (n * g + 1) / 2

-- a sample on the line of a gain and a base
abbrev pub on_line : (gain base sample : ℕ) → ℤ
on_line g b c = pos (c * g) -ℤ pos b
