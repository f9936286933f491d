-- Inside the interval the code is that of the smallest subnormal, with the sign, where the original has zero; elsewhere it is the original's. Assumes nothing.
use Rattle.std.specs.Prelude.{◌≡◌, refl, true, false}
use Rattle.std.specs.Float.{binary32, nan, inf, fin}
use Rattle.std.specs.Float.Ieee.{size, of_bits, up, down}
use Rattle.std.proofs.Common.{Bool, ◌&&◌, ℕ, ◌+◌, ◌*◌, ◌/◌, ◌^◌, ◌<◌, T, ltb, Float, sym, ap, ◌∙◌, subst, add-zero, arith, ltb-true, ltb-false}
use Rattle.std.proofs.lemmas.Bool.{and_parts}
use Rattle.words.specs.Tests.{pick}
use Rattle.convert.specs.Half.{nearest_half, magnitude_code, half_of, code_of}
use Rattle.convert.specs.FaintNumbers.{faint, below_unit, above_half, original_half}
use Rattle.convert.proofs.Patterns.{magnitude_zero, magnitude_one}

-- the ends of the interval: 2^-25 lies outside, the pattern after it and the one before 2^-24 inside, 2^-24 outside
pub ends :
    (faint (of_bits binary32 0x33000000) ≡ false) × (faint (of_bits binary32 0x33000001) ≡ true) × (faint (of_bits binary32 0x337fffff) ≡ true) × (faint (of_bits binary32 0x33800000) ≡ false)
unfolding of_bits
ends = (refl, refl, refl, refl)

-- 2^-25 gives the zero of its sign
pub tie_with_zero : (half_of 0x33000000 ≡ 0) × (half_of 0xb3000000 ≡ 0x8000)
unfolding half_of magnitude_code nearest_half of_bits size
tie_with_zero = (refl, refl)

-- the code of a magnitude below 2^-24: 1 above half of it, and else 0
below_code : (x : Float) → below_unit x ≡ true → code_of x ≡ pick (above_half x) 1 0
below_code nan h = absurd (subst T (sym h) tt)
below_code (inf s) h = absurd (subst T (sym h) tt)
below_code (fin s m e) h = go (m * up e * 2 ^ 24) (down e) (ltb-true (m * up e * 2 ^ 24) (down e) h) (ltb (down e) (2 * (m * up e * 2 ^ 24))) refl
  where
    go : (n d : ℕ) → n < d → (b : Bool) → ltb d (2 * n) ≡ b → magnitude_code n d ≡ pick b 1 0
    go n d l true f = magnitude_one n d (omega arith) l (ltb-true d (2 * n) f)
    go n d l false f = magnitude_zero n d (omega arith) l (ltb-false d (2 * n) f)

-- THE LAW: outside the interval the pattern is the original's
pub elsewhere : (bits : ℕ) → faint (of_bits binary32 bits) ≡ false → half_of bits ≡ original_half bits
unfolding half_of original_half
elsewhere bits = go (bits / 0x80000000 * 0x8000) (of_bits binary32 bits) (below_unit (of_bits binary32 bits)) refl
  where
    go : (z : ℕ) (x : Float) (a : Bool) → below_unit x ≡ a → (a && above_half x) ≡ false → z + code_of x ≡ pick a z (z + code_of x)
    go z x true e h = ap (λ (y : ℕ). z + y) (below_code x e ∙ ap (λ (b : Bool). pick b 1 0) h) ∙ add-zero z
    go z x false e h = refl

-- and inside it is the smallest subnormal with the sign, where the original has the zero
pub inside : (bits : ℕ) → faint (of_bits binary32 bits) ≡ true → (half_of bits ≡ bits / 0x80000000 * 0x8000 + 1) × (original_half bits ≡ bits / 0x80000000 * 0x8000)
unfolding half_of original_half
inside bits h =
    let x = of_bits binary32 bits in
    let z = bits / 0x80000000 * 0x8000 in
    let e = (and_parts (below_unit x) (above_half x) h).0 in
    (ap (λ (y : ℕ). z + y) (below_code x e ∙ ap (λ (b : Bool). pick b 1 0) (and_parts (below_unit x) (above_half x) h).1), ap (λ (a : Bool). pick a z (z + code_of x)) e)
