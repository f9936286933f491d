-- `splat::splat_copies` meets its contract: the blocks so far are the pattern's, and a whole number of patterns before a byte stands the same one. Assumes nothing.
use Rattle.std.proofs.Common.{◌≡◌, List, ℕ, sym, ap, ◌∙◌, subst, ◌+◌, ◌-◌, ◌%◌, ◌≤◌, le_refl, arith, length, take, drop}
use Rattle.std.proofs.lemmas.List.Edits.{sets}
use Rattle.std.proofs.Math.Seq.{length-sets}
use Rattle.convert.proofs.Splats.{Done, all_done, done_copy, front}
use Rattle.convert.proofs.splat.splat_copies.Goals as goal
use Rattle.convert.proofs.splat.splat_copies.Goals.{else-loop-at-test, then-loop-at-test+else-at-end-at-gt48}

-- a block more
block_on : (pixel dst out : List ℕ) (at back : ℕ) → back ≤ at → 48 ≤ back → at + 48 ≤ length dst → back % length pixel ≡ 0 → out ≡ sets dst at (take 48 (drop (at - back) dst))
    → Done pixel dst at → Done pixel out (at + 48)
block_on pixel dst out at back h k r whole e d = subst (λ x. Done pixel x (at + 48)) (sym e) (done_copy pixel dst at at back 48 (le_refl at) h k r whole d)

pub loop-at-init : goal.loop-at-init
loop-at-init c = ((front c.args.pixel.now c.args.dst.now c.splat_bytes-2.new.dst _ c.requires (omega arith) c.splat_bytes-2.ensures).done, omega arith)

pub loop-at-preserved : goal.loop-at-preserved
loop-at-preserved c =
    let o = c.loop-at in
    let w = c.whole_patterns-back.ensures in
    (block_on c.args.pixel.now o.dst _ o.at _ o.invariant.1 w.block (omega arith) w.whole c.copy_block.ensures o.invariant.0, omega arith)

pub returns : goal.returns
returns c =
    let o = c.loop-at in
    let t = c.loop-at-test in
    let w = c.whole_patterns-back.ensures in
    let p = c.args.pixel.now in
    let len = length c.args.dst.now in
    let e = c.copy_block-2.ensures in
    let so : Done p t.dst (len - 48) = elim t.branch [
      | else-loop-at-test b ↦ λ k l. subst (λ x. Done p x o.at) (sym b.dst-is) o.invariant.0 k (omega arith)
      | then-loop-at-test+else-at-end-at-gt48 b ↦ λ k l. block_on p o.dst _ o.at _ o.invariant.1 w.block (omega arith) w.whole (b.dst-is ∙ b.copy_block.ensures) o.invariant.0 k (omega arith)
    ] in
    all_done p c.args.dst.now c.copy_block-2.new.dst c.requires
    (ap length e ∙ simp length-sets (t.auto.dst ∙ o.auto.dst ∙ (front p c.args.dst.now c.splat_bytes-2.new.dst _ c.requires (omega arith) c.splat_bytes-2.ensures).same_length))
    (λ k l. block_on p t.dst _ (len - 48) _ (omega arith) w.block (omega arith) w.whole e so k (omega arith))
