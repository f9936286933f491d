-- `yuv_rows::pair_run` meets its contract: the words of the pairs are those of the run's texels. Assumes nothing.
use Rattle.std.proofs.Common.{◌*◌, ap, ◌∙◌, arith, length}
use Rattle.words.specs.Iterate.{iterate}
use Rattle.formats.specs.Formats.{rgb_code, yuv_code}
use Rattle.formats.proofs.Classified.{yuv_is}
use Rattle.texels.specs.Blocks.{word_written}
use Rattle.pixel_convert.proofs.Steps.{run_starts, run_ends}
use Rattle.pixel_convert.specs.PairWords.{run_from}
use Rattle.pixel_convert.proofs.PairWordsLaws.{run_inside, run_whole}
use Rattle.pixel_convert.proofs.Places.{same_pair}
use Rattle.pixel_convert.proofs.yuv_rows.pair_run.Goals as goal

pub run_start-to-requires : goal.run_start-to-requires
run_start-to-requires c = run_starts _ _ _ _ _ _ _ _ c.requires.0 (omega arith) (omega arith)

pub write_pairs-requires : goal.write_pairs-requires
write_pairs-requires c =
    let g = c.args in
    let spot = c.spot.ensures in
    let there = same_pair g.at.now.region.source c.pair_places-places.ensures spot.z spot.y spot.x in (
      run_inside g.source.set.numbers g.src.now (length g.dst.now) (yuv_code g.source.format) (rgb_code g.dst_format) g.at.now.region g.at.now.z g.at.now.row g.first g.pairs c.requires.0 (yuv_is g.source.format) c.requires.2 c.requires.1 (omega arith) _ there,
      run_ends _ g.at.now.region g.at.now.z g.at.now.row _ _ _ g.first (2 * g.pairs) _ c.requires.0 c.requires.1 c.run_start-to.ensures,
    )

pub returns : goal.returns
returns c =
    let g = c.args in
    let spot = c.spot.ensures in
    let there = same_pair g.at.now.region.source c.pair_places-places.ensures spot.z spot.y spot.x in
    run_whole g.source.set.numbers g.src.now (length g.dst.now) (yuv_code g.source.format) (rgb_code g.dst_format) g.at.now.region g.at.now.z g.at.now.row g.first g.pairs c.requires.0 (yuv_is g.source.format) c.requires.2 c.requires.1 (omega arith) _ there
    c.run_start-to.result g.dst.now _ c.run_start-to.ensures
    (c.write_pairs.ensures ∙ ap (λ l. iterate (word_written (run_from l g.src.now c.pair_places-places.result) (rgb_code g.dst_format) c.run_start-to.result) (2 * g.pairs) g.dst.now) c.requires.3)
