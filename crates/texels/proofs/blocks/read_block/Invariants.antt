use Rattle.formats.specs.Formats.{lane_source_code}
use Rattle.texels.specs.Blocks.{BlockRead}
use Rattle.texels.proofs.blocks.read_block.Given as goal

abbrev pub invariant-loop-word : goal.invariant-loop-word
invariant-loop-word l = BlockRead l.src (lane_source_code l.format) l.step l.from l.word-index l.word-items l.off
