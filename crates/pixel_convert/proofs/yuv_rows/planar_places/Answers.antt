-- `yuv_rows::planar_places` meets its contract: V of NV12 is the byte behind U. Assumes nothing.
use Rattle.std.proofs.Common.{◌+◌, ap}
use Rattle.pixel_convert.proofs.Places.{nv12_pair}
use Rattle.pixel_convert.proofs.yuv_rows.planar_places.Goals as goal

pub returns-in-NV12 : goal.returns-in-NV12
returns-in-NV12 c =
    let t = c.args.texel in
    nv12_pair c.args.start t.layout.pitch t.layout.luma_rows t.y t.x (ap (λ k. c.args.start + k) c.luma_offset.ensures) c.in-NV12.is (ap (λ k. c.args.start + k) c.u_offset.ensures)
