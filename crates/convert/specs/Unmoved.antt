-- A lane with the original's binary16 pattern. Assumes nothing.
use Rattle.std.specs.Prelude.{ℕ}
use Rattle.std.specs.Float.{binary32}
use Rattle.std.specs.Float.Ieee.{to_bits}
use Rattle.formats.specs.Lanes.{Kind, unsigned, signed, float16, float32, ignored}
use Rattle.convert.specs.FaintNumbers.{original_half}
use Rattle.convert.specs.Color.{unorm_of}
use Rattle.convert.specs.LaneCodes.{lane_code}

-- the byte v in a lane of n bits of each kind, with the original's binary16 pattern
abbrev pub original_lane : Kind → (n v : ℕ) → ℕ
original_lane unsigned n v = lane_code unsigned n v
original_lane signed n v = lane_code signed n v
original_lane float16 n v = original_half (to_bits binary32 (unorm_of v))
original_lane float32 n v = lane_code float32 n v
original_lane ignored n v = lane_code ignored n v
