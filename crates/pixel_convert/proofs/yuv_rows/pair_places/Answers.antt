-- `yuv_rows::pair_places` meets its contract: by the kind of the picture. Assumes nothing.
use Rattle.std.proofs.Common.{rules, sym, ap, ◌∙◌, length}
use Rattle.planar_yuv.specs.Answers.{reply_of}
use Rattle.pixel_convert.proofs.Places.{packed_there, planar_texel, planar_fits, planar_there}
use Rattle.pixel_convert.proofs.Fetched.{packed_fits}
use Rattle.pixel_convert.proofs.yuv_rows.pair_places.Goals as goal

pub start_of-requires : goal.start_of-requires
start_of-requires c =
    let g = c.args in
    (packed_fits g.src.now g.format g.side.now g.at.z g.at.y g.at.x c.requires.1 c.in-Packed.packed c.in-Packed.is (search rules), c.requires.2)

pub returns-in-Packed : goal.returns-in-Packed
returns-in-Packed c =
    let g = c.args in
    packed_there g.format c.in-Packed.packed _ g.side.now g.at.z g.at.y g.at.x _ c.in-Packed.is c.requires.0 c.start_of.ensures c.packed_places.ensures

pub invariant_of-texel : goal.invariant_of-texel
invariant_of-texel c =
    let g = c.args in
    record { of = planar_texel (length g.src.now) g.format g.side.now g.at.z g.at.y g.at.x c.requires.1 c.in-Planar.planar c.in-Planar.is _ (sym (ap reply_of c.unwrap-layout.ensures) ∙ c.layout_in_slice.ensures) }

pub planar_places-requires : goal.planar_places-requires
planar_places-requires c =
    let g = c.args in
    planar_fits (length g.src.now) g.format g.side.now g.at.z g.at.y g.at.x c.requires.1 c.in-Planar.planar c.in-Planar.is _ (sym (ap reply_of c.unwrap-layout.ensures) ∙ c.layout_in_slice.ensures) (search rules)

pub returns-in-Planar : goal.returns-in-Planar
returns-in-Planar c =
    let g = c.args in
    planar_there (length g.src.now) g.format g.side.now g.at.z g.at.y g.at.x c.requires.1 c.in-Planar.planar c.in-Planar.is _ (sym (ap reply_of c.unwrap-layout.ensures) ∙ c.layout_in_slice.ensures) _ c.planar_places.ensures
