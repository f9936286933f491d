-- A pattern written from the front of a slice on, by a byte, by a block, and to the end. Assumes nothing.
use Rattle.std.proofs.Common.{◌≡◌, refl, sym, ap, ◌∙◌, subst, List, [], ◌∷◌, ◌++◌, inl, inr, ⊎_elim, ℕ, ◌+◌, ◌*◌, ◌-◌, ◌/◌, ◌%◌, ◌≤◌, ◌<◌, mod-lt, div-add-mod', add-zero, mul_assoc, arith, length, get_or, set, take, drop, length-drop, length-append, get_or-set_same, get_or-set_other, take-suc, get_or-take, get_or-append-add, length-take-le, get_or-drop, add-one}
use Rattle.std.proofs.lemmas.Bool.{cases_lt}
use Rattle.std.proofs.lemmas.List.{take_rest}
use native.Mathlib.Nat.{mul-add-mod_self_right, mul-mod_left}
use lib.Arith.{digits_mod, lt_of_le-ne}
use lib.ListN.{get_or-append}
use Rattle.std.proofs.lemmas.List.Edits.{sets}
use Rattle.words.proofs.Slices.{sets_append, sets_before, sets_inside, part_back}
use Rattle.words.proofs.TestsLaws.{lt_or_eq}
use Rattle.convert.specs.Splat.{Splat}

-- the bytes below place `at` are the pattern's
abbrev pub Done : (pixel dst : List ℕ) (at : ℕ) → Type 0
Done pixel dst at = (k : ℕ) → k < at → get_or dst k 0 ≡ get_or pixel (k % length pixel) 0

-- all of them
pub all_done : (pixel before after : List ℕ) → 0 < length pixel → length after ≡ length before → Done pixel after (length before) → Splat pixel before after
all_done pixel before after N e d = record { same_length = e; repeated = λ p i l. d i l; empty = λ z. absurd (omega arith) }

-- ---- a byte
pub done_byte : (pixel dst : List ℕ) (at v : ℕ) → at < length dst → v ≡ get_or pixel (at % length pixel) 0 → Done pixel dst at → Done pixel (set dst at v) (at + 1)
done_byte pixel dst at v h e d k l = ⊎_elim
    (λ below. get_or-set_other dst at k v 0 (λ z. omega arith) ∙ d k below)
    (λ same. ap (λ i. get_or (set dst at v) i 0) same ∙ get_or-set_same dst at v 0 h ∙ e ∙ ap (λ i. get_or pixel (i % length pixel) 0) (sym same))
    (lt_or_eq k at (omega arith))

-- the place in the pattern starts anew at its end
pub phase_starts : (at n : ℕ) → 0 < n → at % n + 1 ≡ n → 0 ≡ (at + 1) % n
phase_starts at n N e =
    sym (ap (λ x. x % n) whole ∙ digits_mod (at / n + 1) N)
  where
    whole : at + 1 ≡ (at / n + 1) * n + 0
    whole = omega (arith, div-add-mod' at n, one_more (at / n))
      where
        one_more : (q : ℕ) → (q + 1) * n ≡ q * n + n
        one_more q = omega arith

pub phase_goes_on : (at n : ℕ) → 0 < n → (at % n + 1 ≡ n → ⊥) → at % n + 1 ≡ (at + 1) % n
phase_goes_on at n N ne =
    let small : at % n + 1 < n = lt_of_le-ne (omega (arith, mod-lt at N)) ne in
    sym (ap (λ x. x % n) (omega (arith, div-add-mod' at n)) ∙ digits_mod (at / n) small)

-- ---- a place that is a whole number of patterns further on
pub same_place : (at i n : ℕ) → at % n ≡ 0 → (at + i) % n ≡ i % n
same_place at i n e =
    ap (λ x. x % n) (ap (λ x. x + i) (sym (div-add-mod' at n) ∙ ap (λ x. at / n * n + x) e ∙ add-zero (at / n * n)))
    ∙ mul-add-mod_self_right (at / n) n i

-- ---- a block
pub block_turn : (l b : List ℕ) (i : ℕ) → i < length b → set (sets l 0 (take i b)) i (get_or b i 0) ≡ sets l 0 (take (i + 1) b)
block_turn l b i h =
    let count : 0 + length (take i b) ≡ i = omega (arith, length-take-le i b (omega arith)) in
    sym
    (ap (sets l 0) (ap (λ n. take n b) (add-one i) ∙ take-suc b i 0 h)
    ∙ sets_append l 0 (take i b) (get_or b i 0 ∷ [])
    ∙ ap (λ n. set (sets l 0 (take i b)) n (get_or b i 0)) count)

pub done_block : (pixel dst block : List ℕ) (at : ℕ) → at + length block ≤ length dst → at % length pixel ≡ 0 → Done pixel block (length block) → Done pixel dst at
    → Done pixel (sets dst at block) (at + length block)
done_block pixel dst block at h e b d k l = elim (cases_lt k at) [
  | inl below ↦ sets_before dst at block k below ∙ d k below
  | inr inside ↦
      let i = k - at in
      let whole : at + i ≡ k = omega arith in
      ap (λ x. get_or (sets dst at block) x 0) (sym whole)
      ∙ sets_inside dst at block i (omega arith) h
      ∙ b i (omega arith)
      ∙ ap (λ x. get_or pixel x 0) (sym (same_place at i (length pixel) e) ∙ ap (λ x. x % length pixel) whole)
]

-- ---- to the end: the part of k bytes from `at` on was lent, and came back as w
pub done_rest : (pixel before dst w : List ℕ) (at k : ℕ) → length dst ≡ length before → at ≤ length dst → k ≡ length dst - at → at % length pixel ≡ 0 → 0 < length pixel
    → Splat pixel (take k (drop at dst)) w → Done pixel dst at → Splat pixel before (take at dst ++ (w ++ drop k (drop at dst)))
done_rest pixel before dst w at k z h q e N s d = record {
  same_length = omega (arith, length-append (take at dst) (w ++ drop k (drop at dst)), length-append w (drop k (drop at dst)), length-drop k (drop at dst), length-drop at dst, front, back);
  repeated = λ p i l. elim (cases_lt i at) [
    | inl below ↦ get_or-append (take at dst) (w ++ drop k (drop at dst)) 0 i (omega (arith, front)) ∙ get_or-take at dst i 0 below ∙ d i below
    | inr after ↦
        let j = i - at in
        let whole : length (take at dst) + j ≡ i = omega (arith, front) in
        let place : at + j ≡ i = omega arith in
        ap (λ x. get_or (take at dst ++ (w ++ drop k (drop at dst))) x 0) (sym whole)
        ∙ get_or-append-add (take at dst) (w ++ drop k (drop at dst)) j 0
        ∙ get_or-append w (drop k (drop at dst)) 0 j (omega (arith, back))
        ∙ s.repeated N j (omega (arith, lent))
        ∙ ap (λ x. get_or pixel x 0) (sym (same_place at j (length pixel) e) ∙ ap (λ x. x % length pixel) place)
  ];
  empty = λ z. absurd (omega arith);
}
  where
    front : length (take at dst) ≡ at
    front = length-take-le at dst h

    lent : length (take k (drop at dst)) ≡ k
    lent = length-take-le k (drop at dst) (omega (arith, length-drop at dst))

    back : length w ≡ k
    back = s.same_length ∙ lent

-- ---- a whole number of patterns at each turn
pub whole_turns : (i m n : ℕ) → m % n ≡ 0 → i * m % n ≡ 0
whole_turns i m n e =
    let part : m / n * n ≡ m = omega (arith, div-add-mod' m n) in
    ap (λ x. x % n) (ap (λ x. i * x) (sym part) ∙ sym (mul_assoc i (m / n) n)) ∙ mul-mod_left (i * (m / n)) n

-- ---- one turn: the part of k bytes from `at` on was lent, and came back with the block, which is the pattern's, at its front
pub turn_of : (pixel dst block w before : List ℕ) (at k : ℕ) → k ≡ length dst - at → at + 48 ≤ length dst → 0 < length pixel → at % length pixel ≡ 0 → length before ≡ 48
    → Splat pixel before block → w ≡ sets (take k (drop at dst)) 0 block → Done pixel dst at → Done pixel (take at dst ++ (w ++ drop k (drop at dst))) (at + 48)
turn_of pixel dst block w before at k q h N e n s p d =
    subst (λ x. Done pixel x (at + 48)) (sym back)
    (subst (λ x. Done pixel (sets dst at block) (at + x)) size (done_block pixel dst block at (omega arith) e (λ i l. s.repeated N i (omega arith)) d))
  where
    size : length block ≡ 48
    size = s.same_length ∙ n

    back : take at dst ++ (w ++ drop k (drop at dst)) ≡ sets dst at block
    back = ap (λ x. take at dst ++ (x ++ drop k (drop at dst))) p ∙ part_back dst at k block q (omega arith)

-- ---- a block from `back` bytes before, a whole number of patterns, at a place up to which all is done
pub done_copy : (pixel dst : List ℕ) (m p back n : ℕ) → p ≤ m → back ≤ p → n ≤ back → p + n ≤ length dst → back % length pixel ≡ 0 → Done pixel dst m
    → Done pixel (sets dst p (take n (drop (p - back) dst))) (p + n)
done_copy pixel dst m p back n h g f u e d k l = elim (cases_lt k p) [
  | inl below ↦ sets_before dst p part k below ∙ d k (omega arith)
  | inr inside ↦
      let i = k - p in
      let whole : p + i ≡ k = omega arith in
      let place : back + (p - back + i) ≡ k = omega arith in
      ap (λ x. get_or (sets dst p part) x 0) (sym whole)
      ∙ sets_inside dst p part i (omega (arith, count)) (omega (arith, count))
      ∙ get_or-take n (drop (p - back) dst) i 0 (omega arith)
      ∙ get_or-drop (p - back) dst i 0
      ∙ d (p - back + i) (omega arith)
      ∙ ap (λ x. get_or pixel x 0) (sym (same_place back (p - back + i) (length pixel) e) ∙ ap (λ x. x % length pixel) place)
]
  where
    part : List ℕ
    part = take n (drop (p - back) dst)

    count : length (take n (drop (p - back) dst)) ≡ n
    count = length-take-le n (drop (p - back) dst) (omega (arith, length-drop (p - back) dst))

-- ---- a block copied out of a slice, and put at another place of it
pub copied : (dst block w : List ℕ) (at from : ℕ) → from + 48 ≤ length dst → at + 48 ≤ length dst → block ≡ take 48 (take (length dst - from) (drop from dst))
    → w ≡ sets (take (length dst - at) (drop at dst)) 0 block
    → take at dst ++ (w ++ drop (length dst - at) (drop at dst)) ≡ sets dst at (take 48 (drop from dst))
copied dst block w at from f h e p =
    ap (λ x. take at dst ++ (x ++ drop (length dst - at) (drop at dst))) (p ∙ ap (sets (take (length dst - at) (drop at dst)) 0) (e ∙ ap (take 48) (take_rest dst from)))
    ∙ part_back dst at (length dst - at) part refl (omega (arith, count))
  where
    part : List ℕ
    part = take 48 (drop from dst)

    count : length (take 48 (drop from dst)) ≡ 48
    count = length-take-le 48 (drop from dst) (omega (arith, length-drop from dst))

-- ---- the front of a slice, done
pub record Front (pixel dst dst' : List ℕ) (n : ℕ) : Type 0 where
  pub same_length : length dst' ≡ length dst
  pub done : Done pixel dst' n

pub front : (pixel dst w : List ℕ) (n : ℕ) → 0 < length pixel → n ≤ length dst → Splat pixel (take n dst) w → Front pixel dst (w ++ drop n dst) n
front pixel dst w n N h s = record {
  same_length = length-append w (drop n dst) ∙ omega (arith, count, length-drop n dst);
  done = λ k l. get_or-append w (drop n dst) 0 k (omega (arith, count)) ∙ s.repeated N k (omega (arith, length-take-le n dst h));
}
  where
    count : length w ≡ n
    count = s.same_length ∙ length-take-le n dst h
