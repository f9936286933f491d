use Rattle.std.specs.Prelude.{ℕ, ◌≡◌, ◌+◌, ◌*◌, length}
use Rattle.formats.specs.Table.{bytes_of}
use Rattle.formats.specs.Formats.{rgb_code}
use Rattle.texels.specs.Blocks.{WordsWritten, Gives}
use Rattle.texels.proofs.blocks.write_block.Given as goal

-- both carried offsets are the ones worked out afresh
abbrev pub invariant-loop-k : goal.invariant-loop-k
invariant-loop-k g l = record {
  source : l.from ≡ l.fn.first.from + l._k * l.step;
  destination : l.to ≡ l.fn.first.to + l._k * bytes_of (rgb_code l.format);
  written : (given : ℕ → ℕ) → Gives (goal.W-post g l.word) l.fn.first.from l.step l.n given
      → WordsWritten given (rgb_code l.format) l.fn.first.to l._k l.initial.dst l.dst l.to;
  kept : length l.dst ≡ length l.initial.dst;
}
