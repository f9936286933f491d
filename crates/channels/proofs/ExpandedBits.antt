-- A channel's bits repeated to the end of a byte, as it is computed: by two shifts from four bits on, and below as the product's top byte. Assumes nothing.
use Rattle.std.proofs.Common.{◌≡◌, sym, ap, ◌∙◌, subst, Bool, ℕ, ◌+◌, ◌-◌, ◌*◌, ◌/◌, ◌%◌, ◌^◌, ◌≤◌, ◌<◌, mod-lt, arith, T, eqb, eqb→eq, bit_and, bit_or, pow_pos, shl_exact, shr_lt}
use Rattle.std.proofs.lemmas.Nat.{or_shifted, one_shl, and_mask}
use Rattle.words.proofs.ComputedLaws.{every_below, below_at}
use Rattle.channels.specs.Expansion.{expanded}
use Rattle.channels.proofs.ExpansionLaws.{expands, by_width, two_copies}

repeats : ℕ → ℕ → Bool
repeats n k = eqb (k * (65535 / (2 ^ n - 1)) / 256) (expanded n k)

abbrev Repeats : ℕ → Type 0
Repeats n = T (every_below (repeats n) (2 ^ n))

repeated_by : (n : ℕ) → 1 ≤ n → n ≤ 8 → (k : ℕ) → k < 2 ^ n → k * (65535 / (2 ^ n - 1)) / 256 ≡ expanded n k
unfolding expanded repeats
repeated_by n l u k h = eqb→eq _ _ (below_at (repeats n) (2 ^ n) (by_width Repeats tt tt tt tt tt tt tt tt n l u) k h)

-- two copies, the second shifted down to where the first ends
two_shifts : (n k : ℕ) → 4 ≤ n → n ≤ 8 → k < 2 ^ n → bit_or (k * 2 ^ (8 - n) % 2 ^ 16) (k / 2 ^ (2 * n - 8)) ≡ expanded n k
two_shifts n k l u h =
    let e : n ≡ (8 - n) + (2 * n - 8) = omega arith in
    ap (λ x. bit_or x (k / 2 ^ (2 * n - 8))) (shl_exact n (8 - n) 16 h (omega arith))
    ∙ or_shifted k (8 - n) (k / 2 ^ (2 * n - 8)) (shr_lt (8 - n) (2 * n - 8) (subst (λ x. k < 2 ^ x) e h))
    ∙ sym (two_copies n l u k h)

pub codes : (n : ℕ) → n ≤ 8 → 1 * 2 ^ n % 65536 ≡ 2 ^ n
codes n u = one_shl n 16 (omega arith)

-- A MASK IS THE REMAINDER: at every width n, the number whose n low bits are ones takes the n low bits of a word
pub masked : (n v : ℕ) → n ≤ 8 → bit_and v (1 * 2 ^ n % 65536 - 1) ≡ v % 2 ^ n
masked n v u = ap (λ m. bit_and v (m - 1)) (codes n u) ∙ and_mask v n

pub by_shifts : (n v : ℕ) → 4 ≤ n → n ≤ 8
    → expanded n (v % 2 ^ n) ≡ bit_or (bit_and v (1 * 2 ^ n % 65536 - 1) * 2 ^ (8 - n) % 65536) (bit_and v (1 * 2 ^ n % 65536 - 1) / 2 ^ (2 * n - 8))
by_shifts n v l u =
    sym (ap (λ (c : ℕ). bit_or (c * 2 ^ (8 - n) % 65536) (c / 2 ^ (2 * n - 8))) (masked n v u) ∙ two_shifts n (v % 2 ^ n) l u (mod-lt v (pow_pos n)))

pub by_product : (n v : ℕ) → 1 ≤ n → n ≤ 8
    → expanded n (v % 2 ^ n) ≡ bit_and v (1 * 2 ^ n % 65536 - 1) * (65535 / (1 * 2 ^ n % 65536 - 1)) / 256
by_product n v l u =
    sym (ap (λ (c : ℕ). c * (65535 / (1 * 2 ^ n % 65536 - 1)) / 256) (masked n v u)
    ∙ ap (λ (m : ℕ). v % 2 ^ n * (65535 / (m - 1)) / 256) (codes n u)
    ∙ repeated_by n l u (v % 2 ^ n) (mod-lt v (pow_pos n)))

-- two shifted copies are a byte
pub copies_fit : (n v : ℕ) → 4 ≤ n → n ≤ 8
    → bit_or (bit_and v (1 * 2 ^ n % 65536 - 1) * 2 ^ (8 - n) % 65536) (bit_and v (1 * 2 ^ n % 65536 - 1) / 2 ^ (2 * n - 8)) < 256
copies_fit n v l u = subst (λ x. x < 256) (by_shifts n v l u) (expands n (omega arith) u (v % 2 ^ n) (mod-lt v (pow_pos n))).byte
