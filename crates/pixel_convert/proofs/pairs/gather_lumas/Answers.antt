-- `pairs::gather_lumas` meets its contract: each arm gathers from where its format has the lumas. Assumes nothing.
use Rattle.std.proofs.Common.{arith}
use Rattle.pixel_convert.proofs.Variants.{yuy2_in, uyvy_in, yv12_lumas_in, nv12_lumas_in}
use Rattle.pixel_convert.proofs.pairs.gather_lumas.Goals as goal

pub gather_packed-requires : goal.gather_packed-requires
gather_packed-requires c = (omega arith, yuy2_in c.requires c.in-Yuy2.is)

pub gather_packed-requires-in-Uyvy : goal.gather_packed-requires-in-Uyvy
gather_packed-requires-in-Uyvy c = (omega arith, uyvy_in c.requires c.in-Uyvy.is)

pub gather_words-requires : goal.gather_words-requires
gather_words-requires c = yv12_lumas_in c.requires c.in-Yv12.is

pub gather_words-requires-in-Nv12 : goal.gather_words-requires-in-Nv12
gather_words-requires-in-Nv12 c = nv12_lumas_in c.requires c.in-Nv12.is
