-- `pixels::D16::decode` meets its contract: the whole word is the code. Assumes nothing.
use Rattle.std.proofs.Common.{sym, ap, ◌∙◌, arith}
use Rattle.formats.specs.Codes as codes
use Rattle.depth_texture.proofs.PackedFormats.{size_d16, stencil_d16, max_d16, code_d16, no_stencil}
use Rattle.depth_texture.specs.Pixels.{decoded}
use Rattle.depth_texture.specs.declared.pixels.PackedDepth.TheVariants.{D16}
use Rattle.depth_texture.proofs.Coding.{literal_16, word_read, decodes}
use Rattle.depth_texture.proofs.pixels.D16PackedPixel.decode.Goals as goal

pub returns : goal.returns
returns c =
    let w = c.le16.result in
    let pixel = c.args.packed.now in
    decodes codes.D16 65535 0x477f_ff00 w w 0 literal_16 max_d16 (code_d16 w (omega arith)) (no_stencil D16 stencil_d16 w)
    ∙ ap (decoded codes.D16) (sym (word_read codes.D16 2 pixel w size_d16 c.le16.ensures))
