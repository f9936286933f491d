-- `blocks::read_r8g8b8` meets its contract: what is read with the byte after it is read as three, and the last texel is one more. Assumes nothing.
use Rattle.texels.proofs.BlockLaws.{read_none, read_last}
use Rattle.texels.proofs.blocks.read_r8g8b8.Goals as goal

pub returns : goal.returns
returns c = let read = c.read_block-off in read_last _ _ _ _ _ _ _ c.requires c.in-Some.ensures.cases.1 read.auto.block read.ensures c.read_word.ensures

pub returns-in_default : goal.returns-in_default
returns-in_default c = rw c.in_default.ensures.cases (read_none _ _ _ _ _)
