use Rattle.std.specs.Prelude.{◌≤◌}
use Rattle.convert.proofs.Splats.{Done}
use Rattle.convert.proofs.splat.splat_copies.Given as goal

abbrev pub invariant-loop-at : goal.invariant-loop-at
invariant-loop-at l = Done l.pixel l.dst l.at × (l.back ≤ l.at)
