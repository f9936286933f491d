-- `texels::decode_a16b16g16r16` meets its contract: each half of a word of four bytes is the lane of the table. Assumes nothing.
use Rattle.std.proofs.Common.{◌≡◌, ap, ◌∙◌, subst, ℕ, ◌+◌, ◌*◌, ◌/◌, ◌%◌, ◌^◌, ◌<◌, arith, take, drop, length-take-le}
use Rattle.words.proofs.LittleLaws.{Small, number_rest, number_split, number_lt, small_list, small_take}
use Rattle.words.specs.Little.{number}
use Rattle.formats.specs.Table.{lane_of, parts_of}
use Rattle.channels.specs.Nearest.{rounded}
use Rattle.texels.specs.Texels.{decoded_of, colour_of}
use Rattle.texels.proofs.decode_a16b16g16r16.Goals as goal

lanes : (low high w : ℕ) → low < 4294967296 → w ≡ low + 4294967296 * high
    → (low % 65536 ≡ w / 1 % 65536) × (low / 65536 % 65536 ≡ w / 65536 % 65536) × (high % 65536 ≡ w / 4294967296 % 65536) × (high / 65536 % 65536 ≡ w / 281474976710656 % 65536)
lanes low high w h e = (omega arith, omega arith, omega arith, omega arith)

pub returns : goal.returns
unfolding colour_of decoded_of lane_of parts_of
returns c =
    let l = c.args.px.now in
    let small : Small l = small_list l (λ i h. omega (arith, c.type_inv.px i)) in
    let room = c.requires in
    let low = number (take 4 l) in
    let high = number (take 4 (drop 4 l)) in
    let below : low < 4294967296 = subst (λ n. low < 2 ^ (n * 8)) (length-take-le 4 l (omega (arith, room))) (number_lt (take 4 l) (small_take 4 l small)) in
    let each = lanes low high (number (take 8 l)) below (number_split 4 4 l (omega (arith, room))) in
    let byte : ℕ → ℕ = λ n. rounded (255 * n) 65535 in
    let first = c.le32-low.ensures in
    let second = c.le32-high.ensures ∙ number_rest 4 4 l in
    cc (
      c.nearest16.ensures ∙ ap (λ n. byte (n % 65536)) first ∙ ap byte each.0,
      c.nearest16-2.ensures ∙ ap (λ n. byte (n / 65536 % 65536)) first ∙ ap byte each.1,
      c.nearest16-3.ensures ∙ ap (λ n. byte (n % 65536)) second ∙ ap byte each.2,
      c.nearest16-4.ensures ∙ ap (λ n. byte (n / 65536 % 65536)) second ∙ ap byte each.3,
    )
