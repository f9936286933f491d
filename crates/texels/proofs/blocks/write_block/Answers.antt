-- `blocks::write_block` meets its contract: texel by texel, with both offsets carried. Assumes nothing.
use Rattle.std.proofs.Common.{◌≡◌, ◌+◌, ◌*◌, length, refl, sym, ap, ◌∙◌, subst, arith}
use Rattle.std.proofs.lemmas.List.Edits.{sets}
use Rattle.std.proofs.Math.Seq.{length-sets}
use Rattle.words.proofs.IterateLaws.{iterate_zero}
use Rattle.formats.specs.Codes.{A8R8G8B8}
use Rattle.formats.specs.Table.{bytes_of}
use Rattle.texels.specs.Texels.{decoded_of, encoded_bytes}
use Rattle.texels.proofs.Words.{texel_back}
use Rattle.formats.specs.Formats.{rgb_code}
use Rattle.texels.specs.Blocks.{WordsWritten}
use Rattle.texels.proofs.BlockLaws.{room, write_more, once_more, step_fits}
use Rattle.texels.proofs.StepsLaws.{steps_along}
use Rattle.texels.proofs.blocks.write_block.Goals as goal

pub loop-k-init : goal.loop-k-init
loop-k-init g c = record {
  source = omega arith;
  destination = omega arith;
  written = λ given gives. record { bytes = sym (iterate_zero _ _); along = steps_along _ _ 0; carried = omega arith };
  kept = refl;
}

pub overflow_add-from : goal.overflow_add-from
overflow_add-from g c = let next = step_fits _ _ _ _ _ _ c.requires.reach c.loop-k-test.true c.loop-k.invariant.source in omega (arith, next)

pub loop-k-preserved : goal.loop-k-preserved
loop-k-preserved g c =
    let a = c.args in
    let l = c.loop-k in
    let e = texel_back l.dst (rgb_code a.format) l.to (decoded_of A8R8G8B8 c.word.result) _ (room _ _ _ _ _ _ _ l.invariant.kept c.requires.room c.loop-k-test.true l.invariant.destination) c.write_word.ensures in
    record {
      source = once_more a.first.from a.step l._k l.from l.invariant.source;
      destination = ap (λ n. l.to + n) c.requires.sized ∙ once_more a.first.to (bytes_of (rgb_code a.format)) l._k l.to l.invariant.destination;
      written = λ given gives.
          write_more given (rgb_code a.format) a.size a.first.to l._k a.dst.now l.dst _ l.to c.requires.sized (l.invariant.written given gives)
          (e ∙ ap (λ w. sets l.dst l.to (encoded_bytes (rgb_code a.format) (decoded_of A8R8G8B8 w))) (gives l._k c.word.result c.loop-k-test.true (subst (λ at. g.W.Fn.post a.word (at, tt) c.word.result) l.invariant.source c.word.ensures)));
      kept = ap length e ∙ length-sets l.dst l.to (encoded_bytes (rgb_code a.format) (decoded_of A8R8G8B8 c.word.result)) ∙ l.invariant.kept;
    }

pub returns : goal.returns
returns g c =
    let a = c.args in
    let l = c.loop-k in
    let all : l._k ≡ a.n = omega arith in
    record {
      by = λ given gives.
          subst (λ k. WordsWritten given (rgb_code a.format) a.first.to k a.dst.now l.dst l.to) all (l.invariant.written given gives);
      carried = l.invariant.source ∙ ap (λ k. a.first.from + k * a.step) all;
    }
