-- How near each way of reading or writing a channel comes to its exact value. Assumes nothing.
use Rattle.std.specs.Prelude.{ℕ, ◌-◌, ◌^◌, ◌≤◌, ◌<◌}
use Rattle.std.proofs.Common.{arith, pow_mono, ◌≡◌, ◌*◌, inl, inr, le_of_lt, mul_assoc, lt-ltb, le-ltb}
use Rattle.std.proofs.Math.Path.{refl}
use Rattle.std.proofs.lemmas.Bool.{cases_lt}
use Rattle.channels.specs.Fractions.{◌over◌, Near}
use Rattle.channels.proofs.FractionsLaws.{whole_near, near_sym}
use Rattle.channels.specs.Nearest.{rounded}
use Rattle.channels.proofs.Nearest.{rounded_below, rounded_above}
use Rattle.channels.specs.Expansion.{expanded, truncated}
use Rattle.channels.proofs.ExpansionLaws.{expands, truncates}
use Rattle.channels.specs.Exact.{code_value, not_negative}

pub ones_pos : (n : ℕ) → 1 ≤ n → 0 < 2 ^ n - 1
ones_pos n h = omega (arith, pow_mono {i = 1} {j = n} h)

-- a rounded fraction lies within 1/2 of it
pub rounded_near : (n d : ℕ) → 0 < d → Near 2 (rounded n d over 1) (n over d)
rounded_near n d D = whole_near 2 (rounded n d) n d D (omega (arith, rounded_below n d)) (omega (arith, rounded_above n d D))

-- a code with a sign is at most 2^(n-1) - 1
module _ (n k : ℕ) where
  pub positive : k < 2 ^ (n - 1) → not_negative n k ≡ k
  unfolding not_negative
  positive h = rw (lt-ltb k (2 ^ (n - 1)) h) refl

  pub negative : 2 ^ (n - 1) ≤ k → not_negative n k ≡ 0
  unfolding not_negative
  negative h = rw (le-ltb k (2 ^ (n - 1)) h) refl

  pub signed_le : not_negative n k ≤ 2 ^ (n - 1) - 1
  signed_le = elim (cases_lt k (2 ^ (n - 1))) [ inl h ↦ omega (arith, positive h) | inr h ↦ omega (arith, negative h) ]

-- an expanded code lies within 3/4 of its value
pub expanded_near : (n k : ℕ) → 1 ≤ n → n ≤ 8 → k < 2 ^ n → Near 3 (expanded n k over 1) (code_value n k)
expanded_near n k l u h =
    let o = expands n l u k h in
    whole_near 3 (expanded n k) (255 * k) (2 ^ n - 1) (ones_pos n l) (le_of_lt o.not_above) (le_of_lt o.not_below)

-- a truncated byte means a number within 2^(8-n) - 1 of it
pub truncated_near : (n v : ℕ) → 1 ≤ n → n ≤ 8 → v < 256 → Near (4 * (2 ^ (8 - n) - 1)) (code_value n (truncated n v)) (v over 1)
truncated_near n v l u h =
    let k = truncates n u v h in
    let e = mul_assoc 4 (2 ^ (8 - n) - 1) (2 ^ n - 1) in
    near_sym
    (whole_near (4 * (2 ^ (8 - n) - 1)) v (255 * truncated n v) (2 ^ n - 1) (ones_pos n l) (omega (arith, k.not_below)) (omega (arith, k.not_above)))
