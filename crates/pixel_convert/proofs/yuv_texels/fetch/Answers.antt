-- `yuv_texels::fetch` meets its contract: by the kind of the source. Assumes nothing.
use Rattle.std.specs.Prelude.{eqb, ◌%◌}
use Rattle.std.proofs.Common.{rules, sym, ap, ◌∙◌, arith, length-drop}
use Rattle.std.proofs.lemmas.List.{take_rest}
use Rattle.formats.specs.Formats.{planar_yuv_code}
use Rattle.planar_yuv.specs.Answers.{reply_of}
use Rattle.places.proofs.Planar.{layout_legal}
use Rattle.places.specs.Places.{layout_places, bytes_at}
use Rattle.regions.specs.Regions.{texel_of}
use Rattle.pixel_convert.proofs.Fetched.{packed_fits, packed_at, packed_fetched, frame_has, planar_fetched}
use Rattle.pixel_convert.proofs.yuv_texels.fetch.Goals as goal

pub start_of-macropixel-requires : goal.start_of-macropixel-requires
start_of-macropixel-requires c =
    let g = c.args in
    (packed_fits g.src.now g.source.now.format g.side.now g.at.z g.at.y g.at.x c.requires.0 c.in-Packed.packed c.in-Packed.is (search rules), c.requires.1)

pub slice_bounds-fetch_packed-count : goal.slice_bounds-fetch_packed-count
slice_bounds-fetch_packed-count c =
    let g = c.args in
    omega (arith, (packed_at g.src.now g.source.now.format g.side.now g.at.z g.at.y g.at.x c.requires.0 c.in-Packed.packed c.in-Packed.is _ c.start_of-macropixel.ensures).end)

pub slice_bounds-fetch_packed-start : goal.slice_bounds-fetch_packed-start
slice_bounds-fetch_packed-start c =
    let g = c.args in
    omega (arith, (packed_at g.src.now g.source.now.format g.side.now g.at.z g.at.y g.at.x c.requires.0 c.in-Packed.packed c.in-Packed.is _ c.start_of-macropixel.ensures).end)

pub fetch_packed-requires : goal.fetch_packed-requires
fetch_packed-requires c =
    let g = c.args in
    let i = packed_at g.src.now g.source.now.format g.side.now g.at.z g.at.y g.at.x c.requires.0 c.in-Packed.packed c.in-Packed.is _ c.start_of-macropixel.ensures in
    rw (take_rest g.src.now c.start_of-macropixel.result) (omega (arith, length-drop c.start_of-macropixel.result g.src.now, i.end))

pub fetch_planar-requires : goal.fetch_planar-requires
fetch_planar-requires c =
    let g = c.args in
    let is = sym (ap reply_of c.unwrap-layout.ensures) ∙ c.layout_in_slice.ensures in (
      layout_legal 0 _ _ _ 0 0 _ is,
      rw (take_rest g.src.now g.side.now.start, length-drop g.side.now.start g.src.now) (frame_has g.src.now g.source.now.format g.side.now g.at.z g.at.y g.at.x c.in-Planar.planar c.in-Planar.is _ is c.requires.0),
    )

pub returns-in-Packed : goal.returns-in-Packed
returns-in-Packed c =
    let g = c.args in
    c.fetch_packed.ensures ∙ packed_fetched g.src.now g.source.now.format g.side.now g.at.z g.at.y g.at.x c.requires.0 c.in-Packed.packed c.in-Packed.is _ _ c.start_of-macropixel.ensures

pub returns-in-Planar : goal.returns-in-Planar
returns-in-Planar c =
    let g = c.args in
    let l = c.unwrap-layout.result in
    let is = sym (ap reply_of c.unwrap-layout.ensures) ∙ c.layout_in_slice.ensures in
    let code = planar_yuv_code c.in-Planar.planar in
    c.fetch_planar.ensures
    ∙ ap (λ m. texel_of g.source.now.set.numbers code (eqb (g.at.x % 2) 1) (bytes_at m (layout_places code l.pitch l.luma_rows g.at.y g.at.x))) (take_rest g.src.now g.side.now.start)
    ∙ planar_fetched g.src.now g.source.now.format g.side.now g.at.z g.at.y g.at.x c.in-Planar.planar c.in-Planar.is l is g.source.now.set.numbers
