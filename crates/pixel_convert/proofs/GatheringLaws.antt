-- Laws on what specs/Gathering defines. Assumes nothing.
use Rattle.std.specs.Prelude.{◌≡◌, List, ℕ, ◌+◌, ◌*◌, ◌/◌, ◌%◌, ◌≤◌, ◌<◌, length, get_or, set, take, drop}
use Rattle.std.proofs.Common.{sym, ap, ap₂, ◌∙◌, ⊎_elim, arith, length-set, get_or-set_same, get_or-set_other, get_or-take, get_or-drop}
use Rattle.words.proofs.TestsLaws.{lt_or_eq}
use Rattle.words.proofs.LittleLaws.{Small, number_byte, small_take, small_drop}
use Rattle.words.specs.Little.{number}
use Rattle.pixel_convert.specs.declared.lines.Lines.{Lines}
use Rattle.pixel_convert.specs.Gathering.{luma_step, luma_gap, chroma_step, byte_at, two_bytes, GathersBytes, word_on, ColoursPairs, ReadsPairs}

-- ---- one more
pub gather_more : (src : List ℕ) (a b step i : ℕ) (out : List ℕ) (w : ℕ) → GathersBytes src a b step i out → i < length out
    → w ≡ get_or src (a + i * step) 0 + get_or src (b + i * step) 0 * 256 → GathersBytes src a b step (i + 1) (set out i w)
gather_more src a b step i out w g h e = record {
  words = λ k l.
      ⊎_elim (λ less. get_or-set_other out i k w 0 (λ q. omega (arith, less, q)) ∙ g.words k less)
      (λ same. ap (λ j. get_or (set out i w) j 0) same ∙ get_or-set_same out i w 0 h ∙ e ∙ ap (λ j. get_or src (a + j * step) 0 + get_or src (b + j * step) 0 * 256) (sym same))
      (lt_or_eq k i (omega (arith, l)));
}

-- the same by the places that are read
pub gather_next : {src out : List ℕ} {a b step i w x y : ℕ} → GathersBytes src a b step i out → i < length out → x ≡ a + i * step → y ≡ b + i * step
    → w ≡ get_or src x 0 + get_or src y 0 * 256 → GathersBytes src a b step (i + 1) (set out i w)
gather_next {src} {out} {a} {b} {step} {i} {w} g h e f q = gather_more src a b step i out w g h (q ∙ ap₂ (λ m n. get_or src m 0 + get_or src n 0 * 256) e f)

-- what stands at the other places of a block, and at the two that are set
module _ (block : List ℕ) (i x y : ℕ) (h : 2 * i + 1 < length block) where
  abbrev pub two_set : List ℕ
  two_set = set (set block (2 * i) x) (2 * i + 1) y

  kept_two : (j : ℕ) → (j ≡ 2 * i → ⊥) → (j ≡ 2 * i + 1 → ⊥) → get_or two_set j 0 ≡ get_or block j 0
  kept_two j p q = get_or-set_other (set block (2 * i) x) (2 * i + 1) j y 0 q ∙ get_or-set_other block (2 * i) j x 0 p

  first_two : get_or two_set (2 * i) 0 ≡ x
  first_two = get_or-set_other (set block (2 * i) x) (2 * i + 1) (2 * i) y 0 (λ q. omega (arith, q)) ∙ get_or-set_same block (2 * i) x 0 (omega (arith, h))

  second_two : get_or two_set (2 * i + 1) 0 ≡ y
  second_two = get_or-set_same (set block (2 * i) x) (2 * i + 1) y 0 (omega (arith, h, length-set block (2 * i) x))

  pub colour_more : (l : Lines) (lumas chromas was : List ℕ) → ColoursPairs l lumas chromas i was block
      → x ≡ word_on l (get_or lumas i 0 % 256) (get_or chromas i 0 % 256) (get_or chromas i 0 / 256)
      → y ≡ word_on l (get_or lumas i 0 / 256) (get_or chromas i 0 % 256) (get_or chromas i 0 / 256)
      → ColoursPairs l lumas chromas (i + 1) was two_set
  colour_more l lumas chromas was c e f = record {
    firsts = λ k b.
        ⊎_elim (λ less. kept_two (2 * k) (λ q. omega (arith, less, q)) (λ q. omega (arith, less, q)) ∙ c.firsts k less)
        (λ same. ap (λ j. get_or two_set (2 * j) 0) same ∙ first_two ∙ e ∙ ap (λ j. word_on l (get_or lumas j 0 % 256) (get_or chromas j 0 % 256) (get_or chromas j 0 / 256)) (sym same))
        (lt_or_eq k i (omega (arith, b)));
    seconds = λ k b.
        ⊎_elim (λ less. kept_two (2 * k + 1) (λ q. omega (arith, less, q)) (λ q. omega (arith, less, q)) ∙ c.seconds k less)
        (λ same. ap (λ j. get_or two_set (2 * j + 1) 0) same ∙ second_two ∙ f ∙ ap (λ j. word_on l (get_or lumas j 0 / 256) (get_or chromas j 0 % 256) (get_or chromas j 0 / 256)) (sym same))
        (lt_or_eq k i (omega (arith, b)));
    others = λ j b. kept_two j (λ q. omega (arith, b, q)) (λ q. omega (arith, b, q)) ∙ c.others j (omega (arith, b));
  }

-- ---- gathered and coloured is read
low_byte : (w a b : ℕ) → w ≡ a + b * 256 → a < 256 → w % 256 ≡ a
low_byte w a b e h = omega (arith, e, h)

high_byte : (w a b : ℕ) → w ≡ a + b * 256 → a < 256 → w / 256 ≡ b
high_byte w a b e h = omega (arith, e, h)

pub read_all : (l : Lines) (src : List ℕ) (f luma u v n : ℕ) (lumas chromas was block : List ℕ) → ((i : ℕ) → get_or src i 0 < 256)
    → GathersBytes src luma (luma + luma_gap f) (luma_step f) n lumas → GathersBytes src u v (chroma_step f) n chromas → ColoursPairs l lumas chromas n was block
    → ReadsPairs l src f luma u v n was block
read_all l src f luma u v n lumas chromas was block small g h c = record {
  firsts = λ k b. c.firsts k b ∙ (λ i. word_on l (low_byte _ _ _ (g.words k b) (small (luma + k * luma_step f)) i) ((uv k b).0 i) ((uv k b).1 i));
  seconds = λ k b. c.seconds k b ∙ (λ i. word_on l (high_byte _ _ _ (g.words k b) (small (luma + k * luma_step f)) i) ((uv k b).0 i) ((uv k b).1 i));
  others = c.others;
}
  where
    uv : (k : ℕ) → k < n → (get_or chromas k 0 % 256 ≡ get_or src (u + k * chroma_step f) 0) × (get_or chromas k 0 / 256 ≡ get_or src (v + k * chroma_step f) 0)
    uv k b = (low_byte _ _ _ (h.words k b) (small (u + k * chroma_step f)), high_byte _ _ _ (h.words k b) (small (u + k * chroma_step f)))

-- ---- the bytes of a word that was read
-- a number of at most m bytes
-- byte i of the number of m bytes from place at on
pub byte_read : (m at i : ℕ) (src : List ℕ) → Small src → i < m → byte_at (number (take m (drop at src))) i ≡ get_or src (at + i) 0
byte_read m at i src s h = number_byte (take m (drop at src)) (small_take m (drop at src) (small_drop at src s)) i ∙ get_or-take m (drop at src) i 0 h ∙ get_or-drop at src i 0

-- bytes p and p + 2 of a macropixel
pub packed_read : (at p : ℕ) (src : List ℕ) → Small src → p ≤ 1 → two_bytes (number (take 4 (drop at src))) p ≡ get_or src (at + p) 0 + get_or src (at + p + 2) 0 * 256
unfolding two_bytes
packed_read at p src s h =
    ap₂ (λ x y. x + y * 256) (byte_read 4 at p src s (omega (arith, h)))
    (byte_read 4 at (p + 2) src s (omega (arith, h)) ∙ ap (λ k. get_or src k 0) (omega arith))

-- ---- what an arm gathers
pub gathered_at : {src out : List ℕ} {a b s a' b' s' n : ℕ} → a ≡ a' → b ≡ b' → s ≡ s' → GathersBytes src a b s n out → GathersBytes src a' b' s' n out
gathered_at {src = src} e f g h = record { words = λ k l. h.words k l ∙ (λ i. get_or src (e i + k * g i) 0 + get_or src (f i + k * g i) 0 * 256) }
