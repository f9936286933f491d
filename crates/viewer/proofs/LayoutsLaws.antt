-- A layout that stands passes its test, and the test of an alignment. Assumes nothing.
use Rattle.std.specs.Prelude.{◌≢◌, Bool, true, false, not, ℕ}
use Rattle.std.proofs.Common.{arith}
use Rattle.words.specs.Tests.{pick}
use Rattle.depth_texture.specs.Pixels.{is_packed_depth}
use Rattle.depth_texture.proofs.Powers.{power_tested, tested_power}
use Rattle.depth_texture.proofs.Refusals.{stands_tested}
use Rattle.depth_texture.specs.Replies.{packed_holds, plane_holds, stencil_holds, refusal_of}
use Rattle.viewer.specs.Layouts.{StandingAccepted, PowersTested}

-- the checks of a layout that passed its own
abbrev checked : (known packed depth stencil : Bool) → ℕ
checked k p d s = pick (not k) 9 (pick (not p) 11 (pick (not d) 12 (pick (not s) 13 0)))

other_number : (known packed depth stencil : Bool) → checked known packed depth stencil ≢ 10
other_number false p d s e = omega (arith, e)
other_number true false d s e = omega (arith, e)
other_number true true false s e = omega (arith, e)
other_number true true true false e = omega (arith, e)
other_number true true true true e = omega (arith, e)

pub standing_accepted : StandingAccepted
unfolding refusal_of
standing_accepted l h f packed pitch depth stencil =
    rw (stands_tested l h) (other_number (is_packed_depth f) (packed_holds f l packed pitch) (plane_holds l.depth_pitch l.height depth) (stencil_holds f l stencil))

pub powers_tested : PowersTested
powers_tested a = (tested_power a, power_tested a)
