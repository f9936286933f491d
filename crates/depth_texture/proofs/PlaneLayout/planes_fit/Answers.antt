-- `depth_texture::PlaneLayout::planes_fit` meets its contract: the limit is one more than the largest number of 64 bits. Assumes nothing.
use Rattle.std.proofs.Common.{sym, ap, ◌∙◌, ◌&&◌, leb, ◌*◌}
use Rattle.depth_texture.proofs.Library.{fits_is, both_fit}
use Rattle.depth_texture.proofs.PlaneLayout.planes_fit.Goals as goal

pub returns-then-fits : goal.returns-then-fits
returns-then-fits c =
    let l = c.args.self in
    let depth = fits_is c.fits.result (l.depth_pitch * l.height) 18446744073709551615 c.fits.ensures in
    let stencil = fits_is c.fits-then-fits.result (l.stencil_pitch * l.height) 18446744073709551615 c.fits-then-fits.ensures in
    stencil ∙ ap (λ t. t && leb (l.stencil_pitch * l.height) 18446744073709551615) (sym c.if-fits.true ∙ depth) ∙ both_fit l

pub returns-else-fits : goal.returns-else-fits
returns-else-fits c =
    let l = c.args.self in
    let depth = fits_is c.fits.result (l.depth_pitch * l.height) 18446744073709551615 c.fits.ensures in
    c.if-fits.false ∙ ap (λ t. t && leb (l.stencil_pitch * l.height) 18446744073709551615) (sym c.if-fits.false ∙ depth) ∙ both_fit l
