-- `tables::luma_part` meets its contract: the test of its table, computed. Assumes nothing.
use Rattle.stretch_rect.specs.Yuv.{luma_exact, luma_part}
use Rattle.stretch_rect.proofs.TableSizes.{luma_rule, luma_size, read_back}
use Rattle.stretch_rect.proofs.tables.luma_part.Goals as goal

pub returns : goal.returns
unfolding luma_exact luma_part
returns c = read_back (c.entry.ensures luma_rule tt) (luma_size c.args.luma c.ranges.luma.fits)
