-- Laws on what specs/Nearest.antt and proofs/Even.antt define, which rest on laws there. Assumes nothing.
use Rattle.std.proofs.Common.{◌≡◌, ℕ, suc, ◌+◌, ◌-◌, ◌*◌, ◌/◌, ◌%◌, ◌^◌, ◌<◌, sym, ap, ◌∙◌, subst, pow-suc, pow_pos, mul_comm, arith}
use Rattle.std.proofs.lemmas.Nat.{one_shl}
use Rattle.std.specs.Float.Ieee.Nearest.{closest}
use Rattle.channels.proofs.Even.{closest_added}
use Rattle.channels.specs.Nearest.{NearestUp, rounded}
use Rattle.channels.proofs.Nearest.{rounded_up, rounded_by_half}

-- ---- a number that is computed so is nearest
pub is_up : (n d r : ℕ) → 0 < d → r ≡ rounded n d → (r ≡ rounded n d) × NearestUp n d r
is_up n d r D e = (e, subst (NearestUp n d) (sym e) (rounded_up n d D))

-- 255 / 65536 falls short of 1 / 257 by too little to change the quotient of a sixteen-bit code
product : (v : ℕ) → v < 65536 → (v + 128) / 257 ≡ (v * 255 + 32895) / 65536
product v h = omega arith

pub by_product : (v : ℕ) → v < 65536 → rounded v 257 ≡ (v * 255 + 32895) / 65536
by_product v h = sym (rounded_by_half v 128) ∙ product v h

-- ---- a tie to the even one, by shifts: 2 ^ (s - 1) is below 2 ^ 64, so nothing is shifted out, and twice it is 2 ^ s
half_shifted : (s : ℕ) → s < 62 → 1 * 2 ^ (s - 1) % 18446744073709551616 ≡ 2 ^ (s - 1)
half_shifted s h = one_shl (s - 1) 64 (omega arith)

doubled : (s : ℕ) → 0 < s → 2 ^ s ≡ 2 * 2 ^ (s - 1)
doubled s h =
    let e : s ≡ suc (s - 1) = omega arith in
    ap (λ (n : ℕ). 2 ^ n) e ∙ pow-suc 2 (s - 1) ∙ mul_comm (2 ^ (s - 1)) 2

pub even_by_shifts : (n s : ℕ) → 0 < s → s < 62 → closest n (2 ^ s) ≡ (n + (1 * 2 ^ (s - 1) % 18446744073709551616 - 1) + n / 2 ^ s % 2) / 2 ^ s
even_by_shifts n s p h =
    sym
    (ap (λ (x : ℕ). (n + (x - 1) + n / 2 ^ s % 2) / 2 ^ s) (half_shifted s h)
    ∙ subst (λ (d : ℕ). (n + (2 ^ (s - 1) - 1) + n / d % 2) / d ≡ closest n d) (sym (doubled s p)) (closest_added n (2 ^ (s - 1)) (pow_pos (s - 1))))
