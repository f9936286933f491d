use Rattle.std.specs.Prelude.{◌≡◌}
use Rattle.formats.specs.Table.{bytes_of}
use Rattle.depth_texture.specs.Pixels.{format_code}
use Rattle.depth_texture.specs.Pictures.{place, written}
use Rattle.depth_texture.specs.PixelBytes.{packed_bytes}
use Rattle.depth_texture.proofs.pictures.PictureRows.pack.Given as goal

abbrev pub invariant-loop-y : goal.invariant-loop-y
invariant-loop-y l =
    let f = format_code l.self.kind in
    l.packed ≡ written l.self.packed_pitch (bytes_of f) l.self.layout.width l.y (λ x y. packed_bytes f l.depth l.stencil (place l.self.layout.depth_pitch 4 x y) (place l.self.layout.stencil_pitch 1 x y)) l.initial.packed
