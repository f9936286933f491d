-- `pairs::gather_chromas` meets its contract: each arm gathers from where its format has U and V. Assumes nothing.
use Rattle.std.proofs.Common.{arith}
use Rattle.pixel_convert.proofs.Variants.{yuy2_in, uyvy_in, u_plane_in, v_plane_in, nv12_chromas_in}
use Rattle.pixel_convert.proofs.pairs.gather_chromas.Goals as goal

pub gather_packed-requires : goal.gather_packed-requires
gather_packed-requires c = (omega arith, yuy2_in c.requires c.in-Yuy2.is)

pub gather_packed-requires-in-Uyvy : goal.gather_packed-requires-in-Uyvy
gather_packed-requires-in-Uyvy c = (omega arith, uyvy_in c.requires c.in-Uyvy.is)

pub gather_planes-requires : goal.gather_planes-requires
gather_planes-requires c = (u_plane_in c.requires c.in-Yv12.is, v_plane_in c.requires c.in-Yv12.is)

pub gather_words-requires : goal.gather_words-requires
gather_words-requires c = nv12_chromas_in c.requires c.in-Nv12.is
