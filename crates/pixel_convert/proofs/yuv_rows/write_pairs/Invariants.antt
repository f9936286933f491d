use Rattle.std.specs.Prelude.{◌≡◌, ◌-◌, ◌≤◌, length}
use Rattle.formats.specs.Formats.{rgb_code}
use Rattle.pixel_convert.proofs.PairWordsLaws.{WritesPairs}
use Rattle.pixel_convert.proofs.yuv_rows.write_pairs.Given as goal

abbrev pub invariant-loop-done : goal.invariant-loop-done
invariant-loop-done l = WritesPairs l.lines l.src l.initial.at (rgb_code l.dst_format) l.first_to l.initial.dst l.done l.at l.dst l.to × (length l.dst ≡ length l.initial.dst) × (l.done ≤ l.pairs) × (length l.block ≡ 64)

abbrev pub decreases-loop-done : goal.decreases-loop-done
decreases-loop-done l = l.pairs - l.done
