-- `blocks::write_texels` meets its contract: the words are those of the block. Assumes nothing.
use Rattle.std.proofs.Common.{rules}
use Rattle.texels.specs.Blocks.{word_of}
use Rattle.texels.proofs.blocks.write_texels.Goals as goal

pub returns : goal.returns
returns c = c.write_words.ensures.by (word_of c.args.block.now) (λ k w h p. search rules)
