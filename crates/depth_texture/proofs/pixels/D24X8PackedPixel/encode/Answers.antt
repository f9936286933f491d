-- `pixels::D24X8::encode` meets its contract: the word is the code, below the unused byte. Assumes nothing.
use Rattle.std.proofs.Common.{◌≡◌, ◌∙◌, ℕ, ◌+◌, ◌*◌, arith}
use Rattle.formats.specs.Codes as codes
use Rattle.depth_texture.proofs.PackedFormats.{size_d24x8, max_d24x8, word_d24x8}
use Rattle.depth_texture.proofs.Coding.{encodes}
use Rattle.depth_texture.proofs.pixels.D24X8PackedPixel.encode.Goals as goal

below_unused : (c : ℕ) → c ≡ 0 * 16777216 + c
below_unused c = omega arith

pub returns : goal.returns
returns c =
    let g = c.args in
    let code = c.code_of-code in
    encodes codes.D24X8 16777215 4 g.pixel.value code.result g.packed.now c.put32.ensures size_d24x8 max_d24x8 code.ensures (word_d24x8 code.result g.pixel.value.stencil ∙ below_unused code.result)
