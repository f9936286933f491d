-- `pictures::PictureRows::unpack` meets its contract: row by row, in both planes. Assumes nothing.
use Rattle.std.proofs.Common.{◌≡◌, subst}
use Rattle.depth_texture.specs.Pixels.{format_code}
use Rattle.depth_texture.specs.PixelBytes.{depth_row, stencil_row}
use Rattle.depth_texture.proofs.RowLaws.{stencils_more, depths_more}
use Rattle.depth_texture.proofs.pictures.PictureRows.unpack.Goals as goal

pub loop-y-preserved : goal.loop-y-preserved
loop-y-preserved c =
    let g = c.args in
    let l = g.self.layout in
    let f = format_code g.self.kind in
    let v = c.loop-y.invariant in
    let row = c.row_at-row.ensures in
    let r = c.unpack_row in (
      depths_more f g.packed.now g.self.packed_pitch l.depth_pitch l.width c.loop-y.y g.depth.now _ _ v.0 (subst (λ r. c.unpack_row.new.depth ≡ depth_row f g.packed.now r.packed r.depth r.width c.loop-y.depth) row r.ensures.depth),
      stencils_more f g.packed.now g.self.packed_pitch l.stencil_pitch l.width g.stencil.now c.loop-y.y _ _ v.1 (subst (λ r. c.unpack_row.new.stencil ≡ stencil_row f g.packed.now r.packed r.stencil r.width c.loop-y.stencil) row r.ensures.stencil),
    )
