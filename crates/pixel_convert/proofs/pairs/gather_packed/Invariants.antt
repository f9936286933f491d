use Rattle.std.specs.Prelude.{◌+◌}
use Rattle.pixel_convert.specs.Gathering.{GathersBytes}
use Rattle.pixel_convert.proofs.pairs.gather_packed.Given as goal

abbrev pub invariant-loop-i : goal.invariant-loop-i
invariant-loop-i l = GathersBytes l.src (l.from + l.p) (l.from + l.p + 2) 4 l.i l.out
