-- `formats::linear_row_pitch` meets its contract: of the multiples of 4 one alone is less than 4 above the width. Assumes nothing.
use Rattle.std.proofs.Common.{◌≡◌, sym, subst, arith}
use Rattle.words.specs.Multiples.{Raised, raised}
use Rattle.words.proofs.MultiplesLaws.{raised_is}
use Rattle.formats.specs.Classes.{linear_row_pitch}
use Rattle.formats.proofs.linear_row_pitch.Goals as goal

pub returns : goal.returns
unfolding linear_row_pitch raised
returns c =
    let w = c.args.width in
    let r = c.next_multiple_of.result in
    let e : r ≡ raised w 4 = omega (arith, c.next_multiple_of.ensures) in
    record { is = e; raised = subst (Raised w 4) (sym e) (raised_is w 4 (omega arith)) }
