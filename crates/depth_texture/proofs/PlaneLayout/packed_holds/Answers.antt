-- `depth_texture::PlaneLayout::packed_holds` meets its contract: what is left past one row holds the others. Assumes nothing.
use Rattle.std.proofs.Common.{◌-◌, ◌*◌, arith}
use Rattle.depth_texture.proofs.Library.{fits_is, other_rows}
use Rattle.depth_texture.proofs.PlaneLayout.packed_holds.Goals as goal

pub returns-then-row-len : goal.returns-then-row-len
returns-then-row-len c =
    let l = c.args.self in
    let rows = fits_is c.fits.result ((l.height - 1) * c.args.pitch) (c.args.len - l.width * c.bytes_per_pixel.result) c.fits.ensures in
    grind (arith, rows, other_rows)
