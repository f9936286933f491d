-- Adding the step k times adds k times the step. Assumes nothing.
use Rattle.std.proofs.Common.{◌≡◌, ℕ, zero, suc, ◌+◌, ◌*◌, ap, ◌∙◌, suc-mul, zero-mul, arith}
use Rattle.words.specs.Iterate.{iterate}
use Rattle.texels.specs.Steps.{carried_to, StepsAlong}

pub carried_is : (first step k : ℕ) → carried_to first step k ≡ first + k * step
unfolding carried_to iterate
carried_is first step zero = omega (arith, zero-mul step)
carried_is first step (suc k) =
    let m : suc k * step ≡ k * step + step = suc-mul k step in
    ap (λ off. off + step) (carried_is first step k) ∙ omega (arith, m)

pub steps_along : (first step n : ℕ) → StepsAlong first step n
steps_along first step n k h = carried_is first step k
