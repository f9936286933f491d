-- `tables::u_blue_part` meets its contract: the test of its table, computed. Assumes nothing.
use Rattle.std.proofs.Common.{lit≤}
use Rattle.stretch_rect.specs.Sets.{bt601}
use Rattle.stretch_rect.specs.Yuv.{chroma_exact, chroma_part}
use Rattle.stretch_rect.proofs.TableSizes.{chroma_rule, chroma_size, read_back}
use Rattle.stretch_rect.proofs.tables.u_blue_part.Goals as goal

pub returns : goal.returns
unfolding chroma_exact chroma_part
returns c = read_back (c.entry.ensures (chroma_rule bt601.u_to_blue) tt) (chroma_size _ c.args.cb (lit≤ tt) c.ranges.cb.fits)
