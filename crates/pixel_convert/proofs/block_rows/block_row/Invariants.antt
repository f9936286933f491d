use Rattle.std.specs.Prelude.{◌≡◌, ◌-◌, ◌≤◌, length}
use Rattle.formats.specs.Formats.{rgb_code, lane_source_code}
use Rattle.pixel_convert.proofs.RowProgress.{ReachesColumn}
use Rattle.pixel_convert.proofs.block_rows.block_row.Given as goal

abbrev pub invariant-loop-done : goal.invariant-loop-done
invariant-loop-done l = record {
  reached : ReachesColumn l.src (lane_source_code l.source.format) (rgb_code l.target.format) l.fn.at.region l.fn.at.z l.fn.at.row l.done l.from l.to l.initial.dst l.dst;
  kept : length l.dst ≡ length l.initial.dst;
  block : 64 ≤ length l.block;
  within : l.done ≤ l.texels;
}

abbrev pub decreases-loop-done : goal.decreases-loop-done
decreases-loop-done l = l.texels - l.done
