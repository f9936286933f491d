-- `pixels::D24X8::decode` meets its contract: the code is the low 24 bits of the word. Assumes nothing.
use Rattle.std.proofs.Common.{sym, ap, ◌∙◌, ◌%◌}
use Rattle.formats.specs.Codes as codes
use Rattle.depth_texture.proofs.PackedFormats.{size_d24x8, stencil_d24x8, max_d24x8, code_d24x8, no_stencil}
use Rattle.depth_texture.specs.Pixels.{decoded}
use Rattle.depth_texture.specs.declared.pixels.PackedDepth.TheVariants.{D24X8}
use Rattle.depth_texture.proofs.Coding.{literal_24, word_read, decodes}
use Rattle.depth_texture.proofs.pixels.D24X8PackedPixel.decode.Goals as goal

pub returns : goal.returns
returns c =
    let w = c.le32-word.result in
    let pixel = c.args.packed.now in
    decodes codes.D24X8 16777215 0x4b7f_ffff w (w % 16777216) 0 literal_24 max_d24x8 (code_d24x8 w) (no_stencil D24X8 stencil_d24x8 w)
    ∙ ap (decoded codes.D24X8) (sym (word_read codes.D24X8 4 pixel w size_d24x8 c.le32-word.ensures))
