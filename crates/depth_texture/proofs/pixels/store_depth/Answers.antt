-- `pixels::store_depth` meets its contract: the part that was lent comes back with four bytes at its front. Assumes nothing.
use Rattle.std.proofs.Common.{refl, ap, ◌∙◌, arith, ◌-◌, length, to_bits}
use borrow.Rule.Slice.PartMut.{put_mid}
use Rattle.std.specs.Float.{binary32}
use Rattle.words.specs.Little.{bytes}
use Rattle.words.proofs.LittleLaws.{length_bytes}
use Rattle.words.proofs.Slices.{part_back}
use Rattle.depth_texture.proofs.pixels.store_depth.Goals as goal

pub returns : goal.returns
returns c =
    let g = c.args in
    let l = g.plane.now in
    let b = bytes 4 (to_bits binary32 g.pixel.value.depth) in
    ap (λ w. put_mid g.at (length l - g.at) l w) c.put32.ensures
    ∙ part_back l g.at (length l - g.at) b refl (omega (arith, c.requires, length_bytes 4 (to_bits binary32 g.pixel.value.depth)))
