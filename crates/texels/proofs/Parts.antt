-- The parts of a word of 16 bits, each shifted onto bits that are clear. Assumes nothing.
use Rattle.std.proofs.Common.{◌≡◌, ap, ◌∙◌, subst, ℕ, ◌+◌, ◌*◌, ◌%◌, ◌^◌, ◌≤◌, ◌<◌, bit_or, arith}
use Rattle.formats.proofs.Packing.{join_lt}
use Rattle.channels.specs.Expansion.{truncated}
use Rattle.channels.proofs.ExpansionLaws.{truncates}
use Rattle.texels.proofs.Words.{part_onto}

-- five, six and five bits
pub parts_565 : (r g b : ℕ) → r < 32 → g < 64 → b < 32 → bit_or (r * 2048 % 65536) (bit_or (g * 32 % 65536) b) ≡ r * 2048 + (g * 32 + b)
parts_565 r g b h i j =
    ap (λ x. bit_or (r * 2048 % 65536) x) (part_onto g 6 5 b i (omega arith) j) ∙ part_onto r 5 11 (g * 32 + b) h (omega arith) (omega arith)

-- n bits, and three times k
parts_of_widths : (n k a r g b : ℕ) → n + 3 * k ≤ 16 → a < 2 ^ n → r < 2 ^ k → g < 2 ^ k → b < 2 ^ k
    → bit_or (a * 2 ^ (3 * k) % 65536) (bit_or (r * 2 ^ (2 * k) % 65536) (bit_or (g * 2 ^ k % 65536) b)) ≡ a * 2 ^ (3 * k) + (r * 2 ^ (2 * k) + (g * 2 ^ k + b))
parts_of_widths n k a r g b f ha hr hg hb =
    let two : g * 2 ^ k + b < 2 ^ (2 * k) = subst (λ i. g * 2 ^ k + b < 2 ^ i) (omega arith) (join_lt g b k k hg hb) in
    let three : r * 2 ^ (2 * k) + (g * 2 ^ k + b) < 2 ^ (3 * k) =
    subst (λ i. r * 2 ^ (2 * k) + (g * 2 ^ k + b) < 2 ^ i) (omega arith) (join_lt r (g * 2 ^ k + b) k (2 * k) hr two) in
    ap (λ x. bit_or (a * 2 ^ (3 * k) % 65536) (bit_or (r * 2 ^ (2 * k) % 65536) x)) (part_onto g k k b hg (omega arith) hb)
    ∙ ap (λ x. bit_or (a * 2 ^ (3 * k) % 65536) x) (part_onto r k (2 * k) (g * 2 ^ k + b) hr (omega arith) two)
    ∙ part_onto a n (3 * k) (r * 2 ^ (2 * k) + (g * 2 ^ k + b)) ha f three

-- the top n bits of a byte, and three times the top k bits
pub parts_argb : (n k a r g b : ℕ) → n ≤ 8 → k ≤ 8 → n + 3 * k ≤ 16 → a < 256 → r < 256 → g < 256 → b < 256
    → bit_or (truncated n a * 2 ^ (3 * k) % 65536) (bit_or (truncated k r * 2 ^ (2 * k) % 65536) (bit_or (truncated k g * 2 ^ k % 65536) (truncated k b)))
    ≡ truncated n a * 2 ^ (3 * k) + (truncated k r * 2 ^ (2 * k) + (truncated k g * 2 ^ k + truncated k b))
parts_argb n k a r g b n8 k8 f ha hr hg hb =
    parts_of_widths n k (truncated n a) (truncated k r) (truncated k g) (truncated k b) f
    (truncates n n8 a ha).code (truncates k k8 r hr).code (truncates k k8 g hg).code (truncates k k8 b hb).code
