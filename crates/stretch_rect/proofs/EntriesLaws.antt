-- Laws on what specs/Entries defines. Assumes nothing.
use Rattle.std.specs.Prelude.{◌≡◌, List, ℕ, ◌<◌, T, ℤ, pos, negsuc, length, get_or}
use Rattle.std.proofs.Common.{ap, eqb→eq}
use Rattle.words.proofs.ComputedLaws.{entry_of}
use Rattle.stretch_rect.specs.Entries.{same_number, follows}

-- ---- integers
pub same_number_is : (a b : ℤ) → T (same_number a b) → a ≡ b
same_number_is (pos m) (pos n) t = ap pos (eqb→eq m n t)
same_number_is (pos m) (negsuc n) t = absurd t
same_number_is (negsuc m) (pos n) t = absurd t
same_number_is (negsuc m) (negsuc n) t = ap negsuc (eqb→eq m n t)

-- ---- tables
pub entry_is : (rule : ℕ → ℤ) (xs : List ℤ) → T (follows rule xs) → (k : ℕ) → k < length xs → get_or xs k (pos 0) ≡ rule k
entry_is rule xs t k h = same_number_is (get_or xs k (pos 0)) (rule k) (entry_of (λ j x. same_number x (rule j)) xs (pos 0) t k h)
