-- `tables::yuv_to_rgb8_by_tables` meets its contract: the five parts make bt601's colour, and Decimals bounds the distance from the decimals. Assumes nothing.
use Rattle.std.proofs.Common.{sym, ◌∙◌, subst}
use Rattle.stretch_rect.specs.Sets.{bt601}
use Rattle.stretch_rect.specs.Yuv.{RgbNear, decimal_unit, decimal_slack, red_decimal, green_decimal, blue_decimal}
use Rattle.stretch_rect.proofs.Decimals.{bt601_near}
use Rattle.stretch_rect.specs.Parts.{joined}
use Rattle.stretch_rect.proofs.PartsLaws.{joined_set}
use Rattle.stretch_rect.proofs.TableSizes.{part_read}
use Rattle.stretch_rect.proofs.tables.yuv_to_rgb8_by_tables.Goals as goal

pub returns-clause-is : goal.returns-clause-is
returns-clause-is c =
    let luma = part_read c.luma_part.ensures in
    let v_red = part_read c.v_red_part.ensures in
    let u_green = part_read c.u_green_part.ensures in
    let v_green = part_read c.v_green_part.ensures in
    let u_blue = part_read c.u_blue_part.ensures in
    c.colour.ensures ∙ (λ i. joined (luma i) (v_red i) (u_green i) (v_green i) (u_blue i)) ∙ joined_set bt601 c.args.luma c.args.cb c.args.cr

pub returns-clause-near : goal.returns-clause-near
returns-clause-near c =
    let g = c.args in
    subst (RgbNear decimal_unit decimal_slack (red_decimal g.luma g.cb g.cr) (green_decimal g.luma g.cb g.cr) (blue_decimal g.luma g.cb g.cr))
    (sym (returns-clause-is c)) (bt601_near g.luma g.cb g.cr c.ranges.luma.fits c.ranges.cb.fits c.ranges.cr.fits)
