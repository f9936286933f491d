use Rattle.std.specs.Prelude.{◌*◌}
use Rattle.convert.proofs.Splats.{Done}
use Rattle.convert.proofs.splat.splat_blocks.Given as goal

abbrev pub invariant-loop-turn : goal.invariant-loop-turn
invariant-loop-turn l = Done l.pixel l.dst (l.turn * 48)
