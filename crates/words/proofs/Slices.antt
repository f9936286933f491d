-- A part of a slice that is lent, written at its front, and comes back; and what `sets` keeps and changes.
-- Assumes nothing.
use Rattle.std.specs.Prelude.{◌≡◌, refl, List, [], ◌∷◌, ◌++◌, ◌⊎◌, ℕ, suc, ◌+◌, ◌-◌, ◌≤◌, ◌<◌, length, get_or, take, drop, set}
use Rattle.std.proofs.Common.{sym, ap, ◌∙◌, append_assoc, append-nil, ⊎_elim, arith, zero-add, add-zero, add-sub_of_le, length-drop, drop_of_length-le, take_all, take_at, drop_at, drop-drop, get_or-take, get_or-drop, get_or-set_other, drop-set-lt, length-take-le}
use Rattle.std.proofs.lemmas.List.Edits.{sets, sets-eq}
use Rattle.std.proofs.lemmas.List.{take-set-le, drop-set-add}

-- the part from a on, lent, with vs written at its front
pub part_back : (l : List ℕ) (a k : ℕ) (vs : List ℕ) → k ≡ length l - a → a + length vs ≤ length l
    → take a l ++ (sets (take k (drop a l)) 0 vs ++ drop k (drop a l)) ≡ sets l a vs
part_back l a k vs e h =
    let short : length (drop a l) ≤ k = omega (arith, length-drop a l) in
    let fits : 0 + length vs ≤ length (drop a l) = omega (arith, length-drop a l) in
    rw (take_all k (drop a l) short, drop_of_length-le (drop a l) short, append-nil, sets-eq vs (drop a l) 0 fits, sets-eq vs l a h)
    (simp (append_assoc, drop-drop, zero-add))

-- two writes, the second where the first ends
pub sets_append : (l : List ℕ) (a : ℕ) (xs ys : List ℕ) → sets l a (xs ++ ys) ≡ sets (sets l a xs) (a + length xs) ys
sets_append l a [] ys = rw add-zero refl
sets_append l a (x ∷ xs) ys = sets_append (set l a x) (suc a) xs ys ∙ ap (λ n. sets (sets (set l a x) (suc a) xs) n ys) (omega arith)

-- a byte before the write
pub sets_before : (l : List ℕ) (a : ℕ) (vs : List ℕ) (k : ℕ) → k < a → get_or (sets l a vs) k 0 ≡ get_or l k 0
sets_before l a [] k h = refl
sets_before l a (v ∷ vs) k h = sets_before (set l a v) (suc a) vs k (omega arith) ∙ get_or-set_other l a k v 0 (λ e. omega arith)

-- a byte after the write
pub sets_after : (l : List ℕ) (a : ℕ) (vs : List ℕ) (k : ℕ) → a + length vs ≤ k → get_or (sets l a vs) k 0 ≡ get_or l k 0
sets_after l a [] k h = refl
sets_after l a (v ∷ vs) k h = sets_after (set l a v) (suc a) vs k (omega arith) ∙ get_or-set_other l a k v 0 (λ e. omega arith)

-- what was written, read as a part
pub sets_read : (l : List ℕ) (a : ℕ) (vs : List ℕ) → a + length vs ≤ length l → take (length vs) (drop a (sets l a vs)) ≡ vs
sets_read l a vs h =
    rw (sets-eq vs l a h, append_assoc, drop_at (take a l) (vs ++ drop (a + length vs) l) a (length-take-le a l (omega arith)))
    (take_at vs (drop (a + length vs) l) (length vs) refl)

-- what was written, read byte by byte
pub sets_inside : (l : List ℕ) (a : ℕ) (vs : List ℕ) (i : ℕ) → i < length vs → a + length vs ≤ length l → get_or (sets l a vs) (a + i) 0 ≡ get_or vs i 0
sets_inside l a vs i h f =
    sym (get_or-drop a (sets l a vs) i 0) ∙ sym (get_or-take (length vs) (drop a (sets l a vs)) i 0 h) ∙ ap (λ m. get_or m i 0) (sets_read l a vs f)

-- the part of n bytes from b on, all before the write
pub part_before : (l : List ℕ) (a : ℕ) (vs : List ℕ) (b n : ℕ) → b + n ≤ a → take n (drop b (sets l a vs)) ≡ take n (drop b l)
part_before l a [] b n h = refl
part_before l a (v ∷ vs) b n h =
    part_before (set l a v) (suc a) vs b n (omega arith)
    ∙ ap (λ i. take n (drop b (set l i v))) (sym (add-sub_of_le {n = a} {m = b} (omega arith)))
    ∙ ap (take n) (drop-set-add b l (a - b) v)
    ∙ take-set-le n (drop b l) (a - b) v (omega arith)

-- the part of n bytes from b on, all after the write
pub part_after : (l : List ℕ) (a : ℕ) (vs : List ℕ) (b n : ℕ) → a + length vs ≤ b → take n (drop b (sets l a vs)) ≡ take n (drop b l)
part_after l a [] b n h = refl
part_after l a (v ∷ vs) b n h = part_after (set l a v) (suc a) vs b n (omega arith) ∙ ap (take n) (drop-set-lt b l a v (omega arith))

-- a part that shares no byte with the write
pub part_apart : (l : List ℕ) (a : ℕ) (vs : List ℕ) (b n : ℕ) → (b + n ≤ a) ⊎ (a + length vs ≤ b) → take n (drop b (sets l a vs)) ≡ take n (drop b l)
part_apart l a vs b n h = ⊎_elim (part_before l a vs b n) (part_after l a vs b n) h
