-- `tables::v_green_part` meets its contract: the test of its table, computed. Assumes nothing.
use Rattle.std.proofs.Common.{lit≤}
use Rattle.stretch_rect.specs.Sets.{bt601}
use Rattle.stretch_rect.specs.Yuv.{chroma_exact, chroma_part}
use Rattle.stretch_rect.proofs.TableSizes.{taken_rule, taken_size, read_back}
use Rattle.stretch_rect.proofs.tables.v_green_part.Goals as goal

pub returns : goal.returns
unfolding chroma_exact chroma_part
returns c = read_back (c.entry.ensures (taken_rule bt601.v_to_green) tt) (taken_size _ c.args.cr (lit≤ tt) c.ranges.cr.fits)
