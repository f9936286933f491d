use Rattle.pixel_convert.specs.Gathering.{GathersBytes}
use Rattle.pixel_convert.proofs.pairs.gather_planes.Given as goal

abbrev pub invariant-loop-i : goal.invariant-loop-i
invariant-loop-i l = GathersBytes l.src l.first l.second 1 l.i l.out
