use Rattle.std.specs.Prelude.{◌≡◌, ◌%◌, length}
use Rattle.convert.proofs.Splats.{Done}
use Rattle.convert.proofs.splat.splat_bytes.Given as goal

abbrev pub invariant-loop-byte : goal.invariant-loop-byte
invariant-loop-byte l = (l.phase ≡ l.byte-index % length l.pixel) × Done l.pixel l.dst l.byte-index
