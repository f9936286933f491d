-- `pixels::D24S8::encode` meets its contract: the stencil byte, and above it the code's bytes. Assumes nothing.
use Rattle.std.proofs.Common.{◌≡◌, ap, ◌∙◌, List, get_or, ℕ, ◌+◌, ◌*◌, ◌≤◌, w32, arith}
use Rattle.std.specs.Int.{to_le_bytes}
use Rattle.formats.specs.Codes as codes
use Rattle.depth_texture.proofs.PackedFormats.{size_d24s8, max_d24s8, word_d24s8}
use Rattle.depth_texture.proofs.Restoration.{code_for_is}
use Rattle.depth_texture.proofs.Coding.{encodes}
use Rattle.depth_texture.proofs.pixels.D24S8PackedPixel.encode.Goals as goal

by_bytes : (c s w : ℕ) (l : List ℕ) → c ≤ 16777215 → l ≡ to_le_bytes w32 c → w ≡ s + get_or l 0 0 * 256 + get_or l 1 0 * 65536 + get_or l 2 0 * 16777216 → c * 256 + s ≡ w
by_bytes c s w l h e q = omega (arith, h, q, ap (λ m. get_or m 0 0) e, ap (λ m. get_or m 1 0) e, ap (λ m. get_or m 2 0) e)

pub returns : goal.returns
returns c =
    let g = c.args in
    let code = c.code_of in
    let small : code.result ≤ 16777215 = omega (arith, code.ensures, (code_for_is 16777215 g.pixel.value.depth).is_code) in
    encodes codes.D24S8 16777215 4 g.pixel.value code.result g.packed.now c.put32.ensures size_d24s8 max_d24s8 code.ensures
    (word_d24s8 code.result g.pixel.value.stencil ∙ by_bytes code.result g.pixel.value.stencil _ _ small c.to_le_bytes.ensures c.from_le_bytes.ensures)
