-- `lines::lines_of` meets its contract: each line is that of the definitions. Assumes nothing.
use Rattle.std.proofs.Common.{ap, ◌∙◌, arith}
use Rattle.pixel_convert.specs.Pairs.{lines_of, rgb_on}
use Rattle.pixel_convert.proofs.PairsLaws.{chroma_is, set_lines}
use Rattle.pixel_convert.proofs.lines.lines_of.Goals as goal

pub returns-clause-is : goal.returns-clause-is
unfolding lines_of
returns-clause-is c = grind (arith, chroma_is)

pub returns-clause-colours : goal.returns-clause-colours
returns-clause-colours c y u v = ap (λ l. rgb_on l y u v) (returns-clause-is c) ∙ set_lines c.args.set.numbers y u v
