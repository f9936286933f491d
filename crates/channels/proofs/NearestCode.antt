-- The code nearest to a binary32 number: a pattern counts as one from 0 to one, which stands for a significand over a power of two. Assumes nothing.
use Rattle.std.proofs.Common.{◌≡◌, sym, ap, ◌∙◌, inl, inr, ⊎_elim, ℕ, suc, ◌+◌, ◌-◌, ◌*◌, ◌/◌, ◌%◌, ◌^◌, ◌≤◌, ◌<◌, min, le_of_lt, mul_comm, mul_assoc, mul-le-mul, mul-le-mul_right, arith, pow_pos, shr-shr}
use Rattle.std.proofs.lemmas.Bool.{cases_lt}
use Rattle.std.proofs.Math.Nat.{div-eq_of_lt, min-eq_left, min-eq_right, pow-succ'}
use Rattle.std.specs.Float.{binary32}
use Rattle.std.specs.Float.Ieee.{of_bits}
use Rattle.channels.specs.Nearest.{rounded}
use Rattle.channels.proofs.Nearest.{rounded_none, rounded_whole, rounded_same, rounded_halved}
use Rattle.channels.specs.Floats.{clamped}
use Rattle.channels.proofs.FloatsLaws.{bottom_pos, as_zero, high_pattern, small_pattern, normal_pattern}

product : (u max : ℕ) → max < 16777216 → (8388608 + u % 8388608) * max ≤ 281474976710656
product u max h = let l : 8388608 + u % 8388608 ≤ 16777216 = omega arith in mul-le-mul l (le_of_lt h)

abbrev shifted : (max u s : ℕ) → ℕ
shifted max u s = ((8388608 + u % 8388608) * max / 4194304 / 2 ^ s + 1) / 2

module _ (max : ℕ) where
  abbrev code : ℕ → ℕ
  code b = rounded (max * (clamped (of_bits binary32 b)).top) (clamped (of_bits binary32 b)).bottom

  code_full : (b : ℕ) → 1065353216 ≤ b → b ≤ 2139095040 → code b ≡ max
  code_full b h k =
      let x = clamped (of_bits binary32 b) in
      ap (λ n. rounded (max * n) x.bottom) (high_pattern b h k) ∙ rounded_whole max x.bottom (bottom_pos (of_bits binary32 b))

  code_unit : (b : ℕ) → b ≤ 2139095040 → code (min b 1065353216) ≡ code b
  code_unit b h = elim (cases_lt b 1065353216) [
    | inl l ↦ ap code (min-eq_left (le_of_lt l))
    | inr l ↦ ap code (min-eq_right l) ∙ code_full 1065353216 (omega arith) (omega arith) ∙ sym (code_full b l h)
  ]

  code_number : (b r : ℕ) → (b ≤ 2139095040 → r ≡ b) → (2139095040 < b → r ≡ 0) → code (min r 1065353216) ≡ code b
  code_number b r number none = elim (cases_lt 2139095040 b) [
    | inl l ↦ ap (λ z. code (min z 1065353216)) (none l) ∙ ap (λ x. rounded (max * x.top) x.bottom) (as_zero b l)
    | inr l ↦ ap (λ z. code (min z 1065353216)) (number l) ∙ code_unit b l
  ]

  module _ (u : ℕ) (M : max < 16777216) (U : u ≤ 1065353216) where
    code_small : u < 805306368 → shifted max u (min (127 - u / 8388608) 31) ≡ code u
    code_small h =
        let x = clamped (of_bits binary32 u) in
        let none : (8388608 + u % 8388608) * max / 4194304 / 2 ^ 31 ≡ 0 = div-eq_of_lt (omega (arith, product u max M)) in
        ap (shifted max u) (min-eq_right (omega arith))
        ∙ ap (λ n. (n + 1) / 2) none
        ∙ sym (rounded_none (max * x.top) x.bottom (omega (arith, small_pattern 96 u (omega arith) (omega arith) (omega arith), mul_comm x.top 16777216, mul-le-mul_right x.top (le_of_lt M))))

    code_normal : 805306368 ≤ u → shifted max u (min (127 - u / 8388608) 31) ≡ code u
    code_normal h =
        let x = clamped (of_bits binary32 u) in
        let n = (8388608 + u % 8388608) * max in
        let s = 150 - u / 8388608 in
        let k = 22 + (127 - u / 8388608) in
        let e : s ≡ suc k = omega arith in
        ap (shifted max u) (min-eq_left (omega arith))
        ∙ ap (λ z. (z + 1) / 2) (shr-shr n 22 (127 - u / 8388608))
        ∙ rounded_halved n (2 ^ k) (pow_pos k)
        ∙ ap (rounded n) (sym (ap (λ z. 2 ^ z) e ∙ pow-succ' 2 k))
        ∙ rounded_same n (2 ^ s) (max * x.top) x.bottom (pow_pos s) (bottom_pos (of_bits binary32 u))
        (ap (λ z. z * x.bottom) (mul_comm (8388608 + u % 8388608) max) ∙ mul_assoc max (8388608 + u % 8388608) x.bottom
        ∙ ap (λ z. max * z) (sym (normal_pattern u (omega arith) U)) ∙ sym (mul_assoc max x.top (2 ^ s)))

    computed : shifted max u (min (127 - u / 8388608) 31) ≡ code u
    computed = ⊎_elim code_small code_normal (cases_lt u 805306368)

-- r is the pattern that counts: 0 for a NaN's and for that of what is negative
pub nearest_shifted : (max b r : ℕ) → max < 16777216 → (b ≤ 2139095040 → r ≡ b) → (2139095040 < b → r ≡ 0)
    → rounded (max * (clamped (of_bits binary32 b)).top) (clamped (of_bits binary32 b)).bottom
    ≡ ((8388608 + min r 1065353216 % 8388608) * max / 4194304 / 2 ^ min (127 - min r 1065353216 / 8388608) 31 + 1) / 2
nearest_shifted max b r h number none = sym (computed max (min r 1065353216) h (omega arith) ∙ code_number max b r number none)
