-- `blocks::rewrite_texels` meets its contract: the words are those of the source's bytes, each at its own carried offset. Assumes nothing.
use Rattle.std.proofs.Common.{◌≡◌, ◌+◌, ◌*◌, ◌-◌, ℕ, length, take, drop, ◌∙◌, rules}
use Rattle.words.specs.Little.{number}
use Rattle.words.proofs.LittleLaws.{number_rest}
use Rattle.texels.specs.Blocks.{word_in}
use Rattle.texels.proofs.StepsLaws.{steps_along}
use Rattle.texels.proofs.blocks.rewrite_texels.Goals as goal

pub returns : goal.returns
returns c = record {
  written = c.write_words.ensures.by (word_in c.args.src.now c.args.first.from)
      (λ k w h p.
      let at : ℕ = c.args.first.from + k * 4 in
      let read : w ≡ number (take 4 (take (length c.args.src.now - at) (drop at c.args.src.now))) = search rules in
      read ∙ number_rest 4 at c.args.src.now);
  along = steps_along _ _ _;
  carried = c.write_words.ensures.carried;
}
