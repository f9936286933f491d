-- Chroma is scaled as luma is: its offset is its centre in 65536ths, which are 32768 to a half. Assumes nothing.
use Rattle.std.proofs.Common.{◌≡◌, ℕ, ◌*◌, pos, ◌-ℤ◌, ◌*ℤ◌, ap, arith}
use Rattle.std.proofs.lemmas.Int.{ints}
use Rattle.words.specs.Integers.{floor_div}
use Rattle.stretch_rect.specs.Yuv.{luma_exact, chroma_exact, luma_part, chroma_part}

chroma_exact_is : (centre gain c : ℕ) → chroma_exact centre gain c ≡ luma_exact (centre * 32768) gain c
unfolding chroma_exact luma_exact
chroma_exact_is n g c =
    let e : (pos (c * 2) -ℤ pos n) *ℤ pos 32768 ≡ pos (c * 65536) -ℤ pos (n * 32768) = omega (arith, ints) in
    ap (λ z. z *ℤ pos g) e

pub chroma_part_is : (centre gain c : ℕ) → chroma_part centre gain c ≡ luma_part (centre * 32768) gain c
unfolding chroma_part luma_part
chroma_part_is n g c = ap (λ z. floor_div z 65536) (chroma_exact_is n g c)
