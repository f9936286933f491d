use Rattle.std.specs.Prelude.{◌≡◌}
use Rattle.depth_texture.specs.Pixels.{format_code}
use Rattle.depth_texture.specs.PixelBytes.{depth_row, stencil_row}
use Rattle.depth_texture.proofs.rows.unpack_pixels.Given as goal

abbrev pub invariant-loop-x : goal.invariant-loop-x
invariant-loop-x g l =
    let f = format_code g.P.PackedPixel.kind in
    (l.depth ≡ depth_row f l.packed l.row.packed l.row.depth l.x l.initial.depth) × (l.stencil ≡ stencil_row f l.packed l.row.packed l.row.stencil l.x l.initial.stencil)
