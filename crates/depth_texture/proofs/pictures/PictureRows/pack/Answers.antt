-- `pictures::PictureRows::pack` meets its contract: row by row. Assumes nothing.
use Rattle.std.proofs.Common.{◌≡◌, subst}
use Rattle.depth_texture.specs.Pixels.{format_code}
use Rattle.depth_texture.specs.PixelBytes.{packed_row}
use Rattle.depth_texture.proofs.RowLaws.{packed_more}
use Rattle.depth_texture.proofs.pictures.PictureRows.pack.Goals as goal

pub loop-y-preserved : goal.loop-y-preserved
loop-y-preserved c =
    let g = c.args in
    let l = g.self.layout in
    packed_more (format_code g.self.kind) g.depth.now g.stencil.now g.self.packed_pitch l.depth_pitch l.stencil_pitch l.width c.loop-y.y g.packed.now _ _
    c.loop-y.invariant
    (subst (λ r. c.pack_row.new.packed ≡ packed_row (format_code g.self.kind) g.depth.now g.stencil.now r.depth r.stencil r.packed r.width c.loop-y.packed) c.row_at-row.ensures c.pack_row.ensures)
