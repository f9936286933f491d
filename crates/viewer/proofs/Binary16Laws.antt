-- Binary16 between 2^-25 and 2^-24. Assumes nothing.
use Rattle.convert.proofs.FaintNumbersLaws.{ends, tie_with_zero, inside, elsewhere}
use Rattle.viewer.specs.Binary16.{FaintHalves}

pub faint_halves : FaintHalves
faint_halves = record {
  inside = inside;
  elsewhere = elsewhere;
  from_exclusive = (ends.0, ends.1);
  to_exclusive = (ends.2, ends.3);
  tie = tie_with_zero;
}
