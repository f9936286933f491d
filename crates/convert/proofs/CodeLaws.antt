-- A pattern's code by the range in which it lies, and the sign above it. Assumes nothing.
use Rattle.std.proofs.Common.{◌≡◌, refl, sym, ◌∙◌, subst, ℕ, ◌+◌, ◌*◌, ◌-◌, ◌/◌, ◌%◌, ◌^◌, ◌≤◌, ◌<◌, arith}
use Rattle.std.specs.Float.{binary32}
use Rattle.std.specs.Float.Ieee.{of_bits}
use Rattle.std.specs.Float.Ieee.Nearest.{closest}
use Rattle.convert.specs.Half.{code_of, half_of, HalfOf, nearest_half}
use Rattle.convert.proofs.Patterns.{code_nearest, float_units, rounded_code}
use Rattle.convert.proofs.HalfLaws.{half_of_is}

-- ---- the sign above the code
pub half_sum : (b : ℕ) → half_of b ≡ b / 2147483648 * 32768 + code_of (of_bits binary32 b)
unfolding half_of
half_sum b = refl

-- what is computed so is the pattern that is meant
pub is_half : (b r : ℕ) → r ≡ half_of b → (r ≡ half_of b) × HalfOf b r
is_half b r e = (e, subst (HalfOf b) (sym e) (half_of_is b))

-- ---- the code
-- a sign changes no code
pub signless : (b : ℕ) → b % 2147483648 < 0x477ff000 → code_of (of_bits binary32 (b % 2147483648)) ≡ code_of (of_bits binary32 b)
signless b l =
    let e : b % 2147483648 % 2147483648 ≡ b % 2147483648 = omega arith in
    subst (λ (a : ℕ). code_of (of_bits binary32 (b % 2147483648)) ≡ nearest_half (float_units a) (2 ^ 125)) e (code_nearest (b % 2147483648) (omega arith))
    ∙ sym (code_nearest b l)

-- a normal number drops 13 digits
pub normal_code : (a : ℕ) → 0x33800000 ≤ a → a < 0x477ff000 → 113 ≤ a / 8388608
    → code_of (of_bits binary32 a) ≡ (a / 8388608 - 113) * 1024 + closest (8388608 + a % 8388608) (2 ^ 13)
normal_code a h l n = rounded_code a 13 h l (omega arith)
