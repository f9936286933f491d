-- `blocks::read_block` meets its contract: texel by texel, with the offset carried. Assumes nothing.
use Rattle.std.proofs.Common.{arith}
use Rattle.texels.proofs.BlockLaws.{read_none, read_next}
use Rattle.texels.proofs.blocks.read_block.Goals as goal

pub loop-word-init : goal.loop-word-init
loop-word-init c = read_none _ _ _ _ _

pub loop-word-preserved : goal.loop-word-preserved
loop-word-preserved c = read_next _ _ _ _ _ _ _ _ c.loop-word.invariant (omega arith) c.read_word.ensures
