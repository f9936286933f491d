-- A word made by shifts and ors, for any widths of its lanes: no two lanes share a bit, so an or is a sum.
-- Assumes nothing.
use Rattle.std.proofs.Common.{◌≡◌, refl, sym, ap, ap₂, ◌∙◌, subst, ℕ, pos, ◌+◌, ◌*◌, ◌%◌, ◌^◌, ◌≤◌, ◌<◌, arith, add-mul, mul_assoc, mul_comm, mul-le-mul_right, le_trans, le_of_eq, bit_or, pow-add, shl_lt, shl_exact}
use Rattle.std.specs.Float.{binary32}
use Rattle.std.specs.Float.Ieee.{of_int, of_bits}
use Rattle.std.proofs.lemmas.Nat.{or_shifted}
use Rattle.channels.specs.Nearest.{rounded}
use Rattle.channels.proofs.Nearest.{rounded_le}

-- a lane of i bits from bit k on, beside what stands above it
above : (h l i k : ℕ) → l < 2 ^ i → bit_or (h * 2 ^ (i + k)) (l * 2 ^ k) ≡ (h * 2 ^ i + l) * 2 ^ k
above h l i k u =
    or_shifted h (i + k) (l * 2 ^ k) (shl_lt i k u)
    ∙ ap (λ x. x + l * 2 ^ k) (ap (λ x. h * x) (pow-add 2 i k) ∙ sym (mul_assoc h (2 ^ i) (2 ^ k)))
    ∙ sym (add-mul (h * 2 ^ i) l (2 ^ k))

-- the same, taken apart
spread : (h l i k : ℕ) → (h * 2 ^ i + l) * 2 ^ k ≡ h * 2 ^ (i + k) + l * 2 ^ k
spread h l i k =
    add-mul (h * 2 ^ i) l (2 ^ k) ∙ ap (λ x. x + l * 2 ^ k) (mul_assoc h (2 ^ i) (2 ^ k) ∙ ap (λ x. h * x) (sym (pow-add 2 i k)))

four : (w n i j k a r g b : ℕ) → n + (i + (j + k)) ≤ w → a < 2 ^ n → r < 2 ^ i → g < 2 ^ j → b < 2 ^ k
    → bit_or (bit_or (bit_or (a * 2 ^ (i + (j + k)) % 2 ^ w) (r * 2 ^ (j + k) % 2 ^ w)) (g * 2 ^ k % 2 ^ w)) b
    ≡ a * 2 ^ (i + (j + k)) + r * 2 ^ (j + k) + g * 2 ^ k + b
four w n i j k a r g b f A R G B =
    ap₂ (λ x y. bit_or (bit_or (bit_or x y) (g * 2 ^ k % 2 ^ w)) b) (shl_exact n (i + (j + k)) w A f) (shl_exact i (j + k) w R (omega arith))
    ∙ ap₂ (λ x y. bit_or (bit_or x y) b) (above a r i (j + k) R) (shl_exact j k w G (omega arith))
    ∙ ap (λ x. bit_or x b) (above (a * 2 ^ i + r) g j k G)
    ∙ or_shifted ((a * 2 ^ i + r) * 2 ^ j + g) k b B
    ∙ ap (λ x. x + b) (spread (a * 2 ^ i + r) g j k ∙ ap (λ x. x + g * 2 ^ k) (spread a r i (j + k)))

-- two bits, and three times ten
pub parts_2_10 : (a h m l : ℕ) → a < 4 → h < 1024 → m < 1024 → l < 1024
    → bit_or (bit_or (bit_or (a * 1073741824 % 4294967296) (h * 1048576 % 4294967296)) (m * 1024 % 4294967296)) l ≡ a * 1073741824 + h * 1048576 + m * 1024 + l
parts_2_10 a h m l A H M L = four 32 2 10 10 10 a h m l (omega arith) A H M L

-- a channel's code fits its lane
pub nearest_bits : (max v r : ℕ) → v < 256 → r ≡ rounded (v * max) 255 → r ≤ max
nearest_bits max v r h e =
    subst (λ x. x ≤ max) (sym e) (rounded_le (v * max) 255 max (omega arith) (le_trans (mul-le-mul_right max (under v h)) (le_of_eq (mul_comm 255 max))))
  where
    under : (v : ℕ) → v < 256 → v ≤ 255
    under v h = omega arith

-- ---- binary32's literal 255 is the whole number
pub literal_255 : of_bits binary32 0x437f_0000 ≡ of_int binary32 (pos 255)
unfolding of_bits of_int
literal_255 = refl
