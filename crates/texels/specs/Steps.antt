-- An offset that is carried along a row, by adding what a texel takes. Assumes nothing.
use Rattle.std.specs.Prelude.{◌≡◌, ℕ, ◌+◌, ◌*◌, ◌≤◌}
use Rattle.words.specs.Iterate.{iterate}

-- the offset that is carried to texel k: the first one, to which the step was added k times
unfoldable pub carried_to : (first step k : ℕ) → ℕ
carried_to first step k = iterate (λ i off. off + step) k first

-- at each of n texels, and past the last one, an offset to which the step was added for each texel before is the one worked out afresh
abbrev pub StepsAlong : (first step n : ℕ) → Type 0
StepsAlong first step n = (k : ℕ) → k ≤ n → carried_to first step k ≡ first + k * step
