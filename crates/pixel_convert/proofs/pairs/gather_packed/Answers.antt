-- `pairs::gather_packed` meets its contract: macropixel by macropixel. Assumes nothing.
use Rattle.std.proofs.Common.{◌+◌, ◌*◌, ap, ◌∙◌, arith}
use Rattle.words.proofs.LittleLaws.{number_rest, small_list}
use Rattle.pixel_convert.specs.Gathering.{two_bytes}
use Rattle.pixel_convert.proofs.GatheringLaws.{gather_next, packed_read}
use Rattle.pixel_convert.proofs.pairs.gather_packed.Goals as goal

pub loop-i-preserved : goal.loop-i-preserved
loop-i-preserved c =
    let p = c.args.p in
    let l = c.loop-i in
    let at = c.args.from + 4 * l.i in
    let src = c.args.src.now in
    let small = small_list src (λ k h. omega (arith, c.type_inv.src k)) in
    let e = c.packed_word.ensures
    ∙ ap (λ m. two_bytes m p) (c.le32.ensures ∙ number_rest 4 at src)
    ∙ packed_read at p src small c.requires.0 in
    gather_next l.invariant (omega (arith, l.auto.out, c.loop-i-test.true)) (omega arith) (omega arith) e
