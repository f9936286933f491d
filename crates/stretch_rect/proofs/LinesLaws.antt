-- Laws on what specs/Lines defines. Assumes nothing.
use Rattle.std.specs.Prelude.{◌≡◌, ℕ, ◌+◌, ◌*◌, ◌/◌, ◌≤◌, ◌<◌, ℤ, pos, negsuc, ◌-ℤ◌, ◌*ℤ◌}
use Rattle.std.proofs.Common.{sym, ap, ◌∙◌, ⊎_elim, arith, mul_assoc, mul_comm, mul-le-mul, lit<}
use Rattle.std.proofs.lemmas.Int.{ints}
use Rattle.words.specs.Integers.{floor_div, up}
use Rattle.words.proofs.IntegersLaws.{dn, up_pos, dn_pos, one_zero, difference, floor_low, floor_high, scaled_difference}
use Rattle.stretch_rect.specs.Yuv.{luma_part, chroma_part, luma_exact}
use Rattle.stretch_rect.proofs.PartLaws.{chroma_part_is}
use Rattle.stretch_rect.specs.Parts.{PartSize}
use Rattle.stretch_rect.specs.Lines.{luma_base_of, chroma_base_of, on_line}

-- ---- integers by their parts
same_parts : (a b : ℤ) → up a ≡ up b → dn a ≡ dn b → a ≡ b
unfolding up dn
same_parts (pos m) (pos n) e f = ap pos e
same_parts (pos m) (negsuc n) e f = absurd (omega (arith, f))
same_parts (negsuc m) (pos n) e f = absurd (omega (arith, f))
same_parts (negsuc m) (negsuc n) e f = ap negsuc (omega (arith, f))

same_difference : (a b : ℤ) → up a + dn b ≡ up b + dn a → a ≡ b
same_difference a b e =
    ⊎_elim (λ p. ⊎_elim (λ q. same_parts a b (omega (arith, e, p, q)) (omega (arith, e, p, q))) (λ q. same_parts a b (omega (arith, e, p, q)) (omega (arith, e, p, q))) (one_zero b))
    (λ p. ⊎_elim (λ q. same_parts a b (omega (arith, e, p, q)) (omega (arith, e, p, q))) (λ q. same_parts a b (omega (arith, e, p, q)) (omega (arith, e, p, q))) (one_zero b)) (one_zero a)

-- p 65536ths less s, rounded down, is p less s rounded up
floor_line : (z : ℤ) (p s b : ℕ) → up z + s ≡ dn z + p * 65536 → s ≤ b * 65536 → b * 65536 < s + 65536 → floor_div z 65536 ≡ pos p -ℤ pos b
floor_line z p s b e l h =
    same_difference (floor_div z 65536) (pos p -ℤ pos b)
    (omega (arith, e, l, h, floor_low z 65536 (lit< tt), floor_high z 65536 (lit< tt), difference (pos p) (pos b), up_pos p, dn_pos p, up_pos b, dn_pos b))

-- ---- the lines
pub luma_line : (o g y : ℕ) → luma_part o g y ≡ on_line g (luma_base_of o g) y
unfolding luma_part luma_exact luma_base_of
luma_line o g y =
    let swap : y * 65536 * g ≡ y * g * 65536 = mul_assoc y 65536 g ∙ ap (λ n. y * n) (mul_comm 65536 g) ∙ sym (mul_assoc y g 65536) in
    floor_line ((pos (y * 65536) -ℤ pos o) *ℤ pos g) (y * g) (o * g) ((o * g + 65535) / 65536) (omega (arith, scaled_difference (y * 65536) o g, swap)) (omega arith) (omega arith)

-- the base of chroma is that of luma whose offset is the centre in 65536ths
pub chroma_base_is : (n g : ℕ) → chroma_base_of n g ≡ luma_base_of (n * 32768) g
unfolding chroma_base_of luma_base_of
chroma_base_is n g =
    let e : n * 32768 * g ≡ n * g * 32768 = mul_assoc n 32768 g ∙ ap (λ k. n * k) (mul_comm 32768 g) ∙ sym (mul_assoc n g 32768) in
    omega (arith, e)

pub chroma_line : (n g c : ℕ) → chroma_part n g c ≡ on_line g (chroma_base_of n g) c
chroma_line n g c = chroma_part_is n g c ∙ luma_line (n * 32768) g c ∙ ap (λ b. on_line g b c) (sym (chroma_base_is n g))

-- ---- how large they are, for bytes and every legal set
-- a base, at every offset that luma and chroma have: at most 256 * 32768
pub base_small : (o g : ℕ) → o ≤ 8388608 → g ≤ 262143 → luma_base_of o g ≤ 67108864
unfolding luma_base_of
base_small o g ho hg = omega (arith, mul-le-mul ho hg)

pub luma_base_small : (o g : ℕ) → o ≤ 4194303 → g ≤ 262143 → luma_base_of o g ≤ 67108864
luma_base_small o g ho hg = base_small o g (omega (arith, ho)) hg

pub chroma_base_small : (n g : ℕ) → n ≤ 256 → g ≤ 262143 → chroma_base_of n g ≤ 67108864
chroma_base_small n g hn hg = omega (arith, chroma_base_is n g, base_small (n * 32768) g (omega (arith, hn)) hg)

pub line_small : (g b c : ℕ) → c < 256 → g ≤ 262143 → b ≤ 67108864 → PartSize (on_line g b c)
line_small g b c hc hg hb = let l : c ≤ 255 = omega (arith, hc) in omega (arith, ints, mul-le-mul l hg)
