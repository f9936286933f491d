use Rattle.std.specs.Prelude.{◌≡◌}
use Rattle.depth_texture.specs.Pixels.{format_code}
use Rattle.depth_texture.specs.PixelBytes.{packed_row}
use Rattle.depth_texture.proofs.rows.pack_pixels.Given as goal

abbrev pub invariant-loop-x : goal.invariant-loop-x
invariant-loop-x g l = l.packed ≡ packed_row (format_code g.P.PackedPixel.kind) l.depth l.stencil l.row.depth l.row.stencil l.row.packed l.x l.initial.packed
