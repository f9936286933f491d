-- `texels::decode_a32b32g32r32f` meets its contract: each word of four bytes is the lane of the table. Assumes nothing.
use Rattle.std.proofs.Common.{sym, ap, ◌∙◌, ℕ, arith}
use Rattle.words.proofs.LittleLaws.{Small, number_rest, small_list}
use Rattle.std.specs.Float.{binary32}
use Rattle.std.specs.Float.Ieee.{of_bits}
use Rattle.channels.specs.Exact.{float_value}
use Rattle.formats.specs.Table.{lane_of, parts_of}
use Rattle.texels.specs.Texels.{decoded_of, colour_of, nearest_byte}
use Rattle.texels.proofs.Words.{byte_lane}
use Rattle.texels.proofs.decode_a32b32g32r32f.Goals as goal

pub returns : goal.returns
unfolding colour_of decoded_of lane_of parts_of
returns c =
    let l = c.args.px.now in
    let small : Small l = small_list l (λ i h. omega (arith, c.type_inv.px i)) in
    let h = c.requires in
    let float : ℕ → ℕ = λ k. nearest_byte (float_value (of_bits binary32 k)) in
    cc (
      c.f32_to_unorm8.ensures.is
          ∙ ap float (c.le32.ensures ∙ sym (byte_lane 0 4 12 l small (omega arith))),
      c.f32_to_unorm8-2.ensures.is
          ∙ ap float (c.le32-2.ensures ∙ number_rest 4 4 l ∙ sym (byte_lane 4 4 8 l small (omega arith))),
      c.f32_to_unorm8-3.ensures.is
          ∙ ap float (c.le32-3.ensures ∙ number_rest 4 8 l ∙ sym (byte_lane 8 4 4 l small (omega arith))),
      c.f32_to_unorm8-4.ensures.is
          ∙ ap float (c.le32-4.ensures ∙ number_rest 4 12 l ∙ sym (byte_lane 12 4 0 l small (omega arith))),
    )
