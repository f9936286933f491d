-- A test that the checker computes at every entry of a table. Assumes nothing.
use Rattle.std.specs.Prelude.{Bool, true, false, List, [], ◌∷◌, ℕ, suc}

-- both tests pass (it computes by its first argument alone)
abbrev pub both : Bool → Bool → Bool
both true b = b
both false b = false

-- the test passes at every entry of a table and its place, counted from i
abbrev pub every_entry : {A : Type 0} → (ℕ → A → Bool) → ℕ → List A → Bool
every_entry t i [] = true
every_entry t i (x ∷ xs) = both (t i x) (every_entry t (suc i) xs)
