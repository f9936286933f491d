-- `tables::v_red_part` meets its contract: the test of its table, computed. Assumes nothing.
use Rattle.std.proofs.Common.{lit≤}
use Rattle.stretch_rect.specs.Sets.{bt601}
use Rattle.stretch_rect.specs.Yuv.{chroma_exact, chroma_part}
use Rattle.stretch_rect.proofs.TableSizes.{chroma_rule, chroma_size, read_back}
use Rattle.stretch_rect.proofs.tables.v_red_part.Goals as goal

pub returns : goal.returns
unfolding chroma_exact chroma_part
returns c = read_back (c.entry.ensures (chroma_rule bt601.v_to_red) tt) (chroma_size _ c.args.cr (lit≤ tt) c.ranges.cr.fits)
