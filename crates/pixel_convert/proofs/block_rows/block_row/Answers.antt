-- `block_rows::block_row` meets its contract: block by block, with both offsets carried. Assumes nothing.
use Rattle.std.proofs.Common.{◌≡◌, refl, sym, ◌∙◌, le_antisymm, arith, length-append, length-drop, rules}
use Rattle.words.proofs.IterateLaws.{iterate_zero}
use Rattle.formats.specs.Formats.{lane_source_code}
use Rattle.formats.proofs.FormatsLaws.{lane_source_is}
use Rattle.pixel_convert.proofs.Along.{offsets_fit, at_first}
use Rattle.pixel_convert.proofs.RowProgress.{part_of, whole, lies, rewritten, reads, writes, further}
use Rattle.pixel_convert.proofs.block_rows.block_row.Goals as goal

pub first_offsets-first-requires : goal.first_offsets-first-requires
first_offsets-first-requires c =
    offsets_fit c.args.src.now _ _ _ _ _ _ c.requires.0 (lane_source_is c.args.source.format) (omega arith) (omega arith)

pub rewrite_texels-requires : goal.rewrite_texels-requires
rewrite_texels-requires c =
    let lying : lane_source_code c.args.source.format ≡ 21 = search rules in
    let p = lies c.args.src.now c.requires.0 (lane_source_is c.args.source.format) _ _ (at_first _ _ _ _ _ _ _ c.first_offsets-first.ensures) lying in
    record { source = p.0; destination = p.1 }

pub returns-then-eq : goal.returns-then-eq
returns-then-eq c =
    let lying : lane_source_code c.args.source.format ≡ 21 = search rules in
    rewritten c.args.src.now c.requires.0 (lane_source_is c.args.source.format) _ _ _ _ _ (at_first _ _ _ _ _ _ _ c.first_offsets-first.ensures) lying c.rewrite_texels.ensures.written

pub loop-done-init : goal.loop-done-init
loop-done-init c = record {
  reached = record { carried = at_first _ _ _ _ _ _ _ c.first_offsets-first.ensures; written = sym (iterate_zero _ _) };
  kept = refl;
  block = search rules;
  within = omega arith;
}

pub read_texels-from-requires : goal.read_texels-from-requires
read_texels-from-requires c =
    let l = c.loop-done in
    let p = part_of l.block c.loop-done-test.true c.min-n.ensures l.invariant.block in
    reads c.args.src.now c.requires.0 (lane_source_is c.args.source.format) l.invariant.reached _ p.0 p.1

pub write_texels-to-requires : goal.write_texels-to-requires
write_texels-to-requires c =
    let l = c.loop-done in
    let p = part_of l.block c.loop-done-test.true c.min-n.ensures l.invariant.block in
    rw (c.read_texels-from.auto.block, l.invariant.kept) (writes c.args.src.now c.requires.0 (lane_source_is c.args.source.format) l.invariant.reached _ p.0 p.1)

pub loop-done-preserved : goal.loop-done-preserved
loop-done-preserved c =
    let l = c.loop-done in
    let p = part_of l.block c.loop-done-test.true c.min-n.ensures l.invariant.block in
    let read = c.read_texels-from in
    record {
      reached = further c.args.src.now c.requires.0 (lane_source_is c.args.source.format) l.invariant.reached _ p.0 p.1 read.ensures c.write_texels-to.ensures read.auto.block _ (omega (arith, p.2));
      kept = c.write_texels-to.auto.dst ∙ l.invariant.kept;
      block = simp (length-append, length-drop) (omega (arith, read.auto.block, p.2));
      within = omega arith;
    }

pub returns-else-eq : goal.returns-else-eq
returns-else-eq c =
    whole c.args.src.now c.requires.0 (lane_source_is c.args.source.format) _ _ _ _ _ c.loop-done.invariant.reached (le_antisymm c.loop-done.invariant.within c.loop-done-test.false)

pub returns-else-eq-2 : goal.returns-else-eq-2
returns-else-eq-2 c =
    let l = c.loop-done in
    let p = part_of l.block c.loop-done-test.true c.min-n.ensures l.invariant.block in
    let read = c.read_texels-from in
    let done = further c.args.src.now c.requires.0 (lane_source_is c.args.source.format) l.invariant.reached _ p.0 p.1 read.ensures c.write_texels-to.ensures read.auto.block _ refl in
    whole c.args.src.now c.requires.0 (lane_source_is c.args.source.format) _ _ _ _ _ done (omega (arith, p.2))
