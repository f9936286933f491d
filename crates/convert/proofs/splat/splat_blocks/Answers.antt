-- `splat::splat_blocks` meets its contract: the blocks so far, a whole number of patterns, are the pattern's. Assumes nothing.
use Rattle.std.proofs.Common.{refl, ◌*◌, arith, length}
use Rattle.convert.proofs.Splats.{turn_of, done_rest, whole_turns}
use Rattle.convert.proofs.splat.splat_blocks.Goals as goal

pub loop-turn-preserved : goal.loop-turn-preserved
loop-turn-preserved c =
    let o = c.loop-turn in
    let b = c.splat_bytes in
    let p = c.args.pixel.now in
    λ k l. turn_of p o.dst b.new.dst c.put_block.new.out _ (o.turn * 48) _ refl (omega (arith, o.auto.dst)) c.requires.0
    (whole_turns o.turn 48 (length p) c.requires.1) refl b.ensures c.put_block.ensures o.invariant k (omega arith)

pub returns : goal.returns
returns c =
    let o = c.loop-turn in
    done_rest c.args.pixel.now c.args.dst.now o.dst c.splat_bytes-2.new.dst _ _ o.auto.dst (omega arith) refl (whole_turns _ 48 (length c.args.pixel.now) c.requires.1) c.requires.0
    c.splat_bytes-2.ensures (λ k l. o.invariant k (omega arith))
