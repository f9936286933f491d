-- `pairs::read_pairs` meets its contract: what is gathered and coloured is read. Assumes nothing.
use Rattle.std.proofs.Common.{arith, ◌∙◌, length, ◌/◌, subst, length-take-le}
use Rattle.pixel_convert.proofs.GatheringLaws.{read_all}
use Rattle.pixel_convert.specs.Gathering.{ColoursPairs}
use Rattle.pixel_convert.specs.Places.{format_of, luma_at, u_at, v_at, GathersLumas, GathersChromas}
use Rattle.pixel_convert.proofs.pairs.read_pairs.Goals as goal

pub returns : goal.returns
returns c =
    let g = c.args in
    let at = g.at in
    let n = length g.block.now / 2 in
    let full = length-take-le n _ c.requires.0 in
    let lumas = c.gather_lumas.new.lumas in
    let chromas = c.gather_chromas.new.chromas in
    read_all g.lines.now g.src.now (format_of at) (luma_at at) (u_at at) (v_at at) n lumas chromas _ _
    (λ i. omega (arith, c.type_inv.src i))
    (subst (λ k. GathersLumas g.src.now at k lumas) full c.gather_lumas.ensures)
    (subst (λ k. GathersChromas g.src.now at k chromas) full c.gather_chromas.ensures)
    (subst (λ k. ColoursPairs g.lines.now lumas chromas k g.block.now c.colour_pairs.new.block) (c.gather_lumas.auto.lumas ∙ full) c.colour_pairs.ensures)
