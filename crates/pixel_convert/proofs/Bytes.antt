-- Bytes of words. Assumes nothing.
use Rattle.std.proofs.Common.{◌≡◌, ℕ, ap, ◌%◌, ◌<◌, get_or, w16, ◌∙◌, ◌+◌, ◌*◌, ◌/◌, ◌^◌, arith, mul_comm, shr-shr}
use Rattle.std.specs.Int.{to_le_bytes}

-- shifted by whole bytes
pub shifted : (m p : ℕ) → (m / 2 ^ (8 * p) ≡ m / 2 ^ (p * 8)) × (m / 2 ^ (8 * p) / 65536 ≡ m / 2 ^ ((p + 2) * 8))
shifted m p = (ap (λ k. m / 2 ^ k) (mul_comm 8 p), shr-shr m (8 * p) 16 ∙ ap (λ k. m / 2 ^ k) (omega arith))

-- the two bytes of a word of 16 bits
pub low : (n : ℕ) → get_or (to_le_bytes w16 n) 0 0 ≡ n % 256
low n = omega arith

pub high : (n : ℕ) → n < 65536 → get_or (to_le_bytes w16 n) 1 0 ≡ n / 256
high n h = omega (arith, h)
