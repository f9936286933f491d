-- `depth_texture::PlaneLayout::check_buffers` meets its contract: the first test that fails gives the number. Assumes nothing.
use Rattle.std.proofs.Common.{◌≡◌, sym, ◌∙◌, true}
use Rattle.depth_texture.specs.Layouts.{stands}
use Rattle.depth_texture.proofs.Refusals.{stands_holds}
use Rattle.depth_texture.proofs.PlaneLayout.check_buffers.Goals as goal

pub packed_holds-requires : goal.packed_holds-requires
packed_holds-requires c =
    let sound : stands c.args.self ≡ true = sym c.is_sound.ensures ∙ c.if-not-is_sound.false in
    stands_holds c.args.self sound
