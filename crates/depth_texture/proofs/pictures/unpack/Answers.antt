-- `pictures::unpack` meets its contract where the tests refuse. Assumes nothing.
use Rattle.depth_texture.proofs.RoundTrip.{unpacked_refused}
use Rattle.depth_texture.proofs.pictures.unpack.Goals as goal

pub returns-in_err-kind-clause-depth : goal.returns-in_err-kind-clause-depth
returns-in_err-kind-clause-depth c =
    let g = c.args in
    (unpacked_refused g.format g.layout g.packed.now g.packed_pitch g.depth.now g.stencil.now c.in_err-kind.ensures.1).0

pub returns-in_err-kind-clause-stencil : goal.returns-in_err-kind-clause-stencil
returns-in_err-kind-clause-stencil c =
    let g = c.args in
    (unpacked_refused g.format g.layout g.packed.now g.packed_pitch g.depth.now g.stencil.now c.in_err-kind.ensures.1).1
