-- Blocks of A8R8G8B8 words, texel by texel: one texel more read or written, R8G8B8 read with the byte after it, and the arm of a format. Assumes nothing.
use Rattle.std.specs.Prelude.{◌≡◌, refl, List, [], ◌∷◌, ◌++◌, ℕ, ◌+◌, ◌*◌, ◌-◌, ◌≤◌, ◌<◌, length, get_or, set, take, drop}
use Rattle.std.proofs.Common.{sym, ap, ◌∙◌, subst, ⊎_elim, add-mul, mul-le-mul_right, arith, length-drop, length-append, get_or-set_same, get_or-set_other}
use Rattle.std.proofs.lemmas.List.{get_or_append_left, set-get_or}
use Rattle.std.proofs.Math.Seq.{get_or-append_seam}
use Rattle.std.proofs.lemmas.List.Edits.{sets}
use Rattle.words.specs.Little.{number}
use Rattle.words.proofs.LittleLaws.{number_rest, number_split}
use Rattle.words.proofs.IterateLaws.{iterate_step}
use Rattle.words.proofs.TestsLaws.{lt_or_eq}
use Rattle.formats.specs.Codes.{R8G8B8, A8R8G8B8, X8R8G8B8}
use Rattle.formats.specs.Table.{parts_of, bytes_of}
use Rattle.texels.specs.Texels.{decoded_of, encoded_of, encoded_bytes}
use Rattle.texels.proofs.RestoredLaws.{with_fourth}
use Rattle.texels.specs.Blocks.{TexelsIn, BlockRead, WordsWritten, word_from, word_written}
use Rattle.texels.proofs.StepsLaws.{steps_along}

-- ---- one texel more
-- the step is added once more
pub once_more : (from step i off : ℕ) → off ≡ from + i * step → off + step ≡ from + (i + 1) * step
once_more from step i off e = let m : (i + 1) * step ≡ i * step + 1 * step = add-mul i 1 step in omega (arith, e, m)

-- where there is room for n texels, each of them ends within it
pub each_in : (len from step n : ℕ) → from + n * step ≤ len → TexelsIn len from step step n
each_in len from step n r k h =
    let l : (k + 1) * step ≤ n * step = mul-le-mul_right step (omega (arith, h)) in
    omega (arith, once_more from step k (from + k * step) refl, l, r)

-- and so does the k-th from where it starts, however long the whole is called
pub room : (len now to size n k off : ℕ) → now ≡ len → to + n * size ≤ len → k < n → off ≡ to + k * size → off + size ≤ now
room len now to size n k off s r l e = omega (arith, s, e, each_in len to size n r k l)

-- where n steps stay below a bound, so does the k-th with one step more
pub step_fits : (from step n k off bound : ℕ) → from + n * step < bound → k < n → off ≡ from + k * step → off + step < bound
step_fits from step n k off bound r l e =
    let m : (k + 1) * step ≤ n * step = mul-le-mul_right step (omega (arith, l)) in
    omega (arith, once_more from step k off e, m, r)

-- the word that is read from the part of the source that starts at a byte
word_read : (src : List ℕ) (f off : ℕ) → encoded_of A8R8G8B8 (decoded_of f (number (take (bytes_of f) (take (length src - off) (drop off src))))) ≡ word_from src f off
unfolding word_from
word_read src f off = ap (λ w. encoded_of A8R8G8B8 (decoded_of f w)) (number_rest (bytes_of f) off src)

pub read_none : (src : List ℕ) (f step from : ℕ) (block : List ℕ) → BlockRead src f step from 0 block from
read_none src f step from block = record { words = λ k h. omega arith; along = steps_along from step 0; carried = omega arith }

pub read_more : (src : List ℕ) (f step from i : ℕ) (block : List ℕ) (off w : ℕ) → BlockRead src f step from i block off → i < length block → w ≡ word_from src f off
    → BlockRead src f step from (i + 1) (set block i w) (off + step)
read_more src f step from i block off w b h e = record {
  words = λ k l.
      ⊎_elim (λ less. get_or-set_other block i k w 0 (λ q. omega (arith, less, q)) ∙ b.words k less)
      (λ same. ap (λ j. get_or (set block i w) j 0) same ∙ get_or-set_same block i w 0 h ∙ e ∙ ap (word_from src f) (b.carried ∙ ap (λ j. from + j * step) (sym same)))
      (lt_or_eq k i (omega (arith, l)));
  along = steps_along from step (i + 1);
  carried = once_more from step i off b.carried;
}

-- the same by the word that is read from the part of the source that starts at a byte
pub read_next : (src : List ℕ) (f step from i : ℕ) (block : List ℕ) (off w : ℕ) → BlockRead src f step from i block off → i < length block
    → w ≡ encoded_of A8R8G8B8 (decoded_of f (number (take (bytes_of f) (take (length src - off) (drop off src)))))
    → BlockRead src f step from (i + 1) (set block i w) (off + step)
read_next src f step from i block off w b h e = read_more src f step from i block off w b h (e ∙ word_read src f off)

pub write_more : (word : ℕ → ℕ) (f size to i : ℕ) (dst₀ dst out : List ℕ) (off : ℕ) → size ≡ bytes_of f → WordsWritten word f to i dst₀ dst off
    → out ≡ sets dst off (encoded_bytes f (decoded_of A8R8G8B8 (word i))) → WordsWritten word f to (i + 1) dst₀ out (off + size)
unfolding word_written
write_more word f size to i dst₀ dst out off z b e = record {
  bytes = iterate_step (word_written word f to) i dst₀ dst out b.bytes (e ∙ ap (λ p. sets dst p (encoded_bytes f (decoded_of A8R8G8B8 (word i)))) b.carried);
  along = steps_along to (bytes_of f) (i + 1);
  carried = ap (λ n. off + n) z ∙ once_more to (bytes_of f) i off b.carried;
}

-- ---- R8G8B8, whose texels may be read with the byte after them
three_of_four : (src : List ℕ) (at : ℕ) → at + 4 ≤ length src → word_from src X8R8G8B8 at ≡ word_from src R8G8B8 at
unfolding word_from bytes_of parts_of
three_of_four src at h =
    let l = drop at src in
    let e : number (take 4 l) ≡ number (take 3 l) + 16777216 * number (take 1 (drop 3 l)) = number_split 3 1 l (omega (arith, length-drop at src, h)) in
    ap (encoded_of A8R8G8B8) (ap (decoded_of X8R8G8B8) e ∙ with_fourth (number (take 3 l)) (number (take 1 (drop 3 l))))

three_before : (src : List ℕ) (from n : ℕ) (block rest : List ℕ) (off : ℕ) → from + (n + 1) * 3 ≤ length src → n ≡ length block
    → BlockRead src X8R8G8B8 3 from n block off → BlockRead src R8G8B8 3 from n (block ++ rest) off
three_before src from n block rest off r e b = record {
  words = λ k h. get_or_append_left block rest 0 k (subst (λ m. k < m) e h) ∙ b.words k h ∙ three_of_four src (from + k * 3) (omega (arith, r, h));
  along = b.along;
  carried = b.carried;
}

-- all but the last of n texels as X8R8G8B8, and the last as it is
pub read_last : (src : List ℕ) (from n : ℕ) (others block : List ℕ) (off w : ℕ) → from + n * 3 ≤ length src → length others + 1 ≡ n → length block ≡ length others
    → BlockRead src X8R8G8B8 3 from (length others) block off
    → w ≡ encoded_of A8R8G8B8 (decoded_of R8G8B8 (number (take (bytes_of R8G8B8) (take (length src - off) (drop off src)))))
    → BlockRead src R8G8B8 3 from n (block ++ w ∷ []) (off + 3)
read_last src from n others block off w r e l b read =
    let m = length others in
    let all = block ++ w ∷ [] in
    let held : m < length all = simp length-append (omega arith) in
    let seam : get_or all m 0 ≡ w = ap (λ k. get_or all k 0) (sym l) ∙ get_or-append_seam block w [] 0 in
    let same : set all m w ≡ all = ap (set all m) (sym seam) ∙ set-get_or all m 0 in
    subst (λ k. BlockRead src R8G8B8 3 from k all (off + 3)) e
    (subst (λ x. BlockRead src R8G8B8 3 from (m + 1) x (off + 3)) same
    (read_next src R8G8B8 3 from m all off w (three_before src from m block (w ∷ []) off (omega (arith, r, e)) (sym l) b) held read))
