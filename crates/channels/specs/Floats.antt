-- A binary32 number clamped to 0..1 as a fraction, and what its bit pattern says of that fraction.
-- Assumes nothing.
use Rattle.std.specs.Prelude.{◌*◌, min, true, false, cond, Float}
use Rattle.std.specs.Float.{nan, inf, fin}
use Rattle.std.specs.Float.Ieee.{up, down}
use Rattle.channels.specs.Fractions.{Fraction, ◌over◌}

-- the number clamped to 0..1: a NaN and what is negative are 0, what is above one is 1
abbrev pub clamped : Float → Fraction
clamped nan = 0 over 1
clamped (inf s) = cond s 0 1 over 1
clamped (fin true m e) = 0 over 1
clamped (fin false m e) = min (m * up e) (down e) over down e
