-- `parts::Parts::colour` meets its contract: each byte is that of the definition. Assumes nothing.
use Rattle.std.proofs.Common.{arith}
use Rattle.std.proofs.lemmas.Int.{ints}
use Rattle.stretch_rect.proofs.Bytes.{rgb_bytes}
use Rattle.stretch_rect.specs.Parts.{joined}
use Rattle.stretch_rect.proofs.parts.Parts.colour.Goals as goal

pub returns : goal.returns
unfolding joined
returns c = rgb_bytes c.to8-r.ensures c.to8-g.ensures c.to8-b.ensures (omega (arith, ints)) (omega (arith, ints)) (omega (arith, ints))
