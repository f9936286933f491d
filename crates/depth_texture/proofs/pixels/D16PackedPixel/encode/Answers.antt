-- `pixels::D16::encode` meets its contract: the word is the code. Assumes nothing.
use Rattle.formats.specs.Codes as codes
use Rattle.depth_texture.proofs.PackedFormats.{size_d16, max_d16, word_d16}
use Rattle.depth_texture.proofs.Coding.{encodes}
use Rattle.depth_texture.proofs.pixels.D16PackedPixel.encode.Goals as goal

pub returns : goal.returns
returns c =
    let g = c.args in
    let code = c.code_of in
    encodes codes.D16 65535 2 g.pixel.value code.result g.packed.now c.put16.ensures size_d16 max_d16 code.ensures (word_d16 code.result g.pixel.value.stencil)
