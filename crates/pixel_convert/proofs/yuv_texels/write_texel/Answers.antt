-- `yuv_texels::write_texel` meets its contract: the column's texel, where it is to be. Assumes nothing.
use Rattle.std.proofs.Common.{◌∙◌, arith}
use Rattle.formats.specs.Formats.{rgb_code}
use Rattle.texels.proofs.Words.{texel_back}
use Rattle.pixel_convert.proofs.Steps.{column_put}
use Rattle.pixel_convert.proofs.yuv_texels.write_texel.Goals as goal

pub returns : goal.returns
returns c =
    let g = c.args in
    let spot = c.spot.ensures in
    texel_back g.dst.now (rgb_code g.dst_format) c.run_start-to.result c.fetch-texel.result _ (omega (arith, (c.requires.0.destination g.column c.requires.1).end, c.run_start-to.ensures)) c.encode_rgb_pixel.ensures
    ∙ column_put g.src.now (rgb_code g.dst_format) g.source.now.format g.at.now.region g.at.now.z g.at.now.row _ _ spot.z spot.y _ _ g.column _ _ g.dst.now spot.x c.fetch-texel.ensures c.run_start-to.ensures
