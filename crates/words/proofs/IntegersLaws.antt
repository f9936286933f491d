-- Laws on what specs/Integers defines. Assumes nothing.
use Rattle.std.specs.Prelude.{◌≡◌, refl, Bool, true, false, cond, ◌⊎◌, ℕ, zero, suc, ◌+◌, ◌*◌, ◌-◌, ◌/◌, ◌≤◌, ◌<◌, ltb, ℤ, pos, negsuc, neg_ℤ, ◌+ℤ◌, ◌-ℤ◌, ◌*ℤ◌}
use Rattle.std.proofs.Common.{◌∙◌, ap, inl, inr, arith, add-mul, zero-mul, suc-mul, div-mul-le_self, ltb-true, ltb-false}
use Rattle.std.proofs.Math.Nat.{lt-div-mul-add}
use Rattle.std.proofs.Math.IntN.{sub_ℕ}
use Rattle.words.specs.Integers.{floor_div, clamp_to, up}

-- how far z lies below 0
unfoldable pub dn : ℤ → ℕ
dn (pos n) = 0
dn (negsuc n) = suc n

-- what is clamped to a byte is one
pub clamp_byte : (z : ℤ) → clamp_to 255 z < 256
unfolding clamp_to
clamp_byte (pos n) = omega arith
clamp_byte (negsuc n) = omega arith

pub up_pos : (n : ℕ) → up (pos n) ≡ n
unfolding up
up_pos n = refl

pub dn_pos : (n : ℕ) → dn (pos n) ≡ 0
unfolding dn
dn_pos n = refl

pub one_zero : (z : ℤ) → (up z ≡ 0) ⊎ (dn z ≡ 0)
unfolding up dn
one_zero (pos n) = inr refl
one_zero (negsuc n) = inl refl

sub_by : (t : Bool) (a b : ℕ) → ltb a b ≡ t → up (cond t (negsuc (b - suc a)) (pos (a - b))) + b ≡ dn (cond t (negsuc (b - suc a)) (pos (a - b))) + a
unfolding up dn
sub_by true a b e = let h : a < b = ltb-true a b e in omega arith
sub_by false a b e = let h : b ≤ a = ltb-false a b e in omega arith

sub_parts : (a b : ℕ) → up (sub_ℕ a b) + b ≡ dn (sub_ℕ a b) + a
sub_parts a b = sub_by (ltb a b) a b refl

pub sum : (a b : ℤ) → up (a +ℤ b) + dn a + dn b ≡ dn (a +ℤ b) + up a + up b
unfolding up dn
sum (pos a) (pos b) = omega arith
sum (pos a) (negsuc b) = omega (arith, sub_parts a (suc b))
sum (negsuc a) (pos b) = omega (arith, sub_parts b (suc a))
sum (negsuc a) (negsuc b) = omega arith

pub neg_up : (z : ℤ) → up (neg_ℤ z) ≡ dn z
unfolding up dn
neg_up (pos zero) = refl
neg_up (pos (suc n)) = refl
neg_up (negsuc n) = refl

pub neg_dn : (z : ℤ) → dn (neg_ℤ z) ≡ up z
unfolding up dn
neg_dn (pos zero) = refl
neg_dn (pos (suc n)) = refl
neg_dn (negsuc n) = refl

pub difference : (a b : ℤ) → up (a -ℤ b) + dn a + up b ≡ dn (a -ℤ b) + up a + dn b
difference a b = omega (arith, sum a (neg_ℤ b), neg_up b, neg_dn b)

pub times_up : (z : ℤ) (k : ℕ) → up (z *ℤ pos k) ≡ up z * k
unfolding up
times_up (pos n) k = refl
times_up (negsuc n) k = neg_up (pos (suc n * k)) ∙ dn_pos (suc n * k) ∙ omega arith

pub times_dn : (z : ℤ) (k : ℕ) → dn (z *ℤ pos k) ≡ dn z * k
unfolding dn
times_dn (pos n) k = omega arith
times_dn (negsuc n) k = neg_dn (pos (suc n * k)) ∙ up_pos (suc n * k)

-- a quotient q rounded down: q * m ≤ z < q * m + m
pub floor_low : (z : ℤ) (m : ℕ) → 0 < m → up (floor_div z m) * m + dn z ≤ up z + dn (floor_div z m) * m
unfolding up dn
floor_low (pos n) m h = omega (arith, zero-mul m, div-mul-le_self n m)
floor_low (negsuc n) m h = omega (arith, zero-mul m, suc-mul (n / m) m, lt-div-mul-add {a = n} h)

pub floor_high : (z : ℤ) (m : ℕ) → 0 < m → up z + dn (floor_div z m) * m < up (floor_div z m) * m + m + dn z
unfolding up dn
floor_high (pos n) m h = omega (arith, zero-mul m, lt-div-mul-add {a = n} h)
floor_high (negsuc n) m h = omega (arith, zero-mul m, suc-mul (n / m) m, div-mul-le_self n m)

-- a difference of two numbers times g
pub scaled_difference : (a b g : ℕ) → up ((pos a -ℤ pos b) *ℤ pos g) + b * g ≡ dn ((pos a -ℤ pos b) *ℤ pos g) + a * g
scaled_difference a b g =
    let i = pos a -ℤ pos b in
    let e : up i + b ≡ dn i + a = omega (arith, difference (pos a) (pos b), up_pos a, dn_pos a, up_pos b, dn_pos b) in
    let m : (up i + b) * g ≡ (dn i + a) * g = ap (λ n. n * g) e in
    omega (arith, m, add-mul (up i) b g, add-mul (dn i) a g, times_up i g, times_dn i g)
