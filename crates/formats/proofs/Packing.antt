-- Reading a lane of a packed word gives back the code that was packed into it, for any list of parts.
-- Assumes nothing.
use Rattle.std.specs.Prelude.{◌≡◌, List, [], ◌∷◌, ℕ, ◌+◌, ◌*◌, ◌-◌, ◌/◌, ◌%◌, ◌^◌, ◌≤◌, ◌<◌}
use Rattle.std.proofs.Common.{sym, ap, ◌∙◌, subst, arith, mod-eq_of_lt, mul_assoc, mul-le-mul_right, suc-mul, pow-add, pow_pos}
use Rattle.std.proofs.Math.Nat.{mul-add-div_right, mul-add-mod_self_right}
use Rattle.std.proofs.Math.Pow.{high}
use Rattle.formats.specs.Lanes.{Channel, Channel-discrete, Kind, Part, Lane, nowhere, at, bits, find, code_at, packed}

-- each part's code fits its width
abbrev pub Fit : (Part → ℕ) → List Part → Type 0
Fit code [] = Unit {0}
Fit code (p ∷ ps) = (code p < 2 ^ p.width) × Fit code ps

-- a lane of m bits above one of k
pub join_lt : (h l m k : ℕ) → h < 2 ^ m → l < 2 ^ k → h * 2 ^ k + l < 2 ^ (m + k)
join_lt h l m k p q = subst (λ n. h * 2 ^ k + l < n) (sym (pow-add 2 m k)) (omega (arith, suc-mul h (2 ^ k), mul-le-mul_right (2 ^ k) p))

pub packed_lt : (code : Part → ℕ) (ps : List Part) → Fit code ps → packed code ps < 2 ^ bits ps
packed_lt code [] h = omega arith
packed_lt code (p ∷ ps) h = join_lt (code p) (packed code ps) p.width (bits ps) h.0 (packed_lt code ps h.1)

-- what stands above a lane is not read
pub above : (h l k i n j : ℕ) → k ≡ j + n + i → code_at i n (h * 2 ^ k + l) ≡ code_at i n l
above h l k i n j e =
    ap (λ x. (x + l) / 2 ^ i % 2 ^ n) apart
    ∙ ap (λ x. x % 2 ^ n) (mul-add-div_right (pow_pos i) (h * 2 ^ j * 2 ^ n) l)
    ∙ mul-add-mod_self_right (h * 2 ^ j) (2 ^ n) (l / 2 ^ i)
  where
    apart : h * 2 ^ k ≡ h * 2 ^ j * 2 ^ n * 2 ^ i
    apart =
        ap (λ x. h * x) (ap (λ x. 2 ^ x) e ∙ pow-add 2 (j + n) i ∙ ap (λ x. x * 2 ^ i) (pow-add 2 j n))
        ∙ sym (mul_assoc h (2 ^ j * 2 ^ n) (2 ^ i)) ∙ ap (λ x. x * 2 ^ i) (sym (mul_assoc h (2 ^ j) (2 ^ n)))

-- the part that a lane was found as
abbrev pub part_at : Channel → Kind → ℕ → Part
part_at c k n = record { channel = c; kind = k; width = n }

-- the lane lies within m bits, and the word w holds the part's code there
abbrev pub Held : (Part → ℕ) → Channel → Lane → (m w : ℕ) → Type 0
Held code c nowhere m w = Unit {0}
Held code c (at i n k) m w = (code_at i n w ≡ code (part_at c k n)) × (i + n ≤ m)

lift : (code : Part → ℕ) (c : Channel) (l : Lane) (h w m k : ℕ) → Held code c l k w → Held code c l (m + k) (h * 2 ^ k + w)
lift code c nowhere h w m k x = tt
lift code c (at i n d) h w m k x = (above h w k i n (k - (i + n)) (omega arith) ∙ x.0, omega arith)

first : (code : Part → ℕ) (c : Channel) (p : Part) (k w : ℕ) → c ≡ p.channel → code p < 2 ^ p.width → w < 2 ^ k
    → Held code c (at k p.width p.kind) (p.width + k) (code p * 2 ^ k + w)
first code c p k w e h u = (
  ap (λ x. x % 2 ^ p.width) (high (code p) k u) ∙ mod-eq_of_lt h ∙ ap (λ x. code (part_at x p.kind p.width)) (sym e),
  omega arith,
)

-- THE READING LAW
pub reads : (code : Part → ℕ) (c : Channel) (ps : List Part) → Fit code ps → Held code c (find c ps) (bits ps) (packed code ps)
reads code c [] h = tt
reads code c (p ∷ ps) h = go (Channel-discrete c p.channel) (reads code c ps h.1)
  where
    go : (x : Dec (c ≡ p.channel)) → Held code c (find c ps) (bits ps) (packed code ps)
        → Held code c (elim x [ yes e ↦ at (bits ps) p.width p.kind | no u ↦ find c ps ]) (p.width + bits ps) (code p * 2 ^ bits ps + packed code ps)
    go (yes e) r = first code c p (bits ps) (packed code ps) e h.0 (packed_lt code ps h.1)
    go (no u) r = lift code c (find c ps) (code p) (packed code ps) p.width (bits ps) r
