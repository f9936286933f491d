use Rattle.std.specs.Prelude.{◌≡◌}
use Rattle.formats.specs.Table.{bytes_of}
use Rattle.depth_texture.specs.Pixels.{format_code}
use Rattle.depth_texture.specs.Pictures.{place, written}
use Rattle.depth_texture.specs.PixelBytes.{depth_bytes}
use Rattle.depth_texture.proofs.RowLaws.{stencil_rows}
use Rattle.depth_texture.proofs.pictures.PictureRows.unpack.Given as goal

abbrev pub invariant-loop-y : goal.invariant-loop-y
invariant-loop-y l =
    let f = format_code l.self.kind in
    (l.depth ≡ written l.self.layout.depth_pitch 4 l.self.layout.width l.y (λ x y. depth_bytes f l.packed (place l.self.packed_pitch (bytes_of f) x y)) l.initial.depth)
    × (l.stencil ≡ stencil_rows f l.packed l.self.packed_pitch l.self.layout.stencil_pitch l.self.layout.width l.initial.stencil l.y)
