-- `stretch_rect::convert_with_set` meets its contract: each byte is that of the definitions, and near its exact value. Assumes nothing.
use Rattle.std.proofs.Common.{sym, subst, arith}
use Rattle.std.proofs.lemmas.Int.{ints}
use Rattle.stretch_rect.specs.Yuv.{rgb_of, red_rounded, green_rounded, blue_rounded, red_exact, green_exact, blue_exact, RgbNear, set_unit, set_slack}
use Rattle.stretch_rect.proofs.Bytes.{rgb_bytes}
use Rattle.stretch_rect.proofs.NearnessLaws.{set_near}
use Rattle.stretch_rect.proofs.PartLaws.{chroma_part_is}
use Rattle.stretch_rect.proofs.convert_with_set.Goals as goal

pub returns-clause-is : goal.returns-clause-is
unfolding rgb_of red_rounded green_rounded blue_rounded
returns-clause-is c =
    let s = c.args in
    let k = s.set.numbers in
    let n = k.chroma_centre in
    rgb_bytes c.to8-r.ensures c.to8-g.ensures c.to8-b.ensures (omega (arith, ints, chroma_part_is n k.v_to_red s.cr))
    (omega (arith, ints, chroma_part_is n k.u_to_green s.cb, chroma_part_is n k.v_to_green s.cr)) (omega (arith, ints, chroma_part_is n k.u_to_blue s.cb))

pub returns-clause-near : goal.returns-clause-near
returns-clause-near c =
    let s = c.args in
    subst (RgbNear set_unit set_slack (red_exact s.set.numbers s.luma s.cb s.cr) (green_exact s.set.numbers s.luma s.cb s.cr) (blue_exact s.set.numbers s.luma s.cb s.cr))
    (sym (returns-clause-is c)) (set_near s.set.numbers s.luma s.cb s.cr)
