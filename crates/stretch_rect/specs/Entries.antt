-- A rule of a table of integers: a test that the checker computes at every entry. Assumes nothing.
use Rattle.std.specs.Prelude.{Bool, false, List, ℕ, eqb, ℤ, pos, negsuc}
use Rattle.words.specs.Computed.{every_entry}

-- ---- integers
-- whether two are equal
abbrev pub same_number : ℤ → ℤ → Bool
same_number (pos m) (pos n) = eqb m n
same_number (pos m) (negsuc n) = false
same_number (negsuc m) (pos n) = false
same_number (negsuc m) (negsuc n) = eqb m n

-- ---- tables
-- every entry is the rule's number at its place
abbrev pub follows : (ℕ → ℤ) → List ℤ → Bool
follows rule xs = every_entry (λ k x. same_number x (rule k)) 0 xs
