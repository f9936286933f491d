-- A depth's code, and that a code survives: the nearest code of the float nearest to k / max is k, for every max below 2 ^ 24. Half a unit in the last
-- place of a float below one is at most 2 ^ -25, and times max it is less than half a step of the codes.
-- Assumes nothing.
use Rattle.std.specs.Prelude.{◌≡◌, refl, Bool, true, false, not, cond, ℤ, pos, T, ltb, eqb, Float, ℕ, zero, suc, ◌+◌, ◌-◌, ◌*◌, ◌/◌, ◌%◌, ◌^◌, ◌≤◌, ◌<◌}
use Rattle.std.proofs.Common.{sym, ap, ◌∙◌, subst, inl, inr, le_trans, le_of_eq, le_of_lt, lt_of_lt_of_le, lt_of_le_of_lt, lt_irrefl, eq-or-lt_of_le, zero-mul, mul-one, mul_comm, mul_assoc, mul_left_comm, mul_right_comm, add-mul, mul-le-mul, mul-le-mul_right, mul-lt-mul_of_pos_right, lt_of_mul-lt-mul_right, mul-pos, div-lt_iff_lt-mul, arith, true≢false, eqb→eq, lit≤, lit<, pow_pos, pow_mono, shl_lt, zero-le}
use Prim.Native.Nat.{compare}
use Rattle.std.proofs.Math.Nat.{div-div-eq-div-mul}
use Rattle.std.proofs.Math.Dec.{not_T}
use Rattle.std.specs.Float.{nan, inf, fin, Format, binary32}
use Rattle.std.specs.Float.Ieee.{prec, emax, low, up, down, size, odd, units, round, div, of_int, is_nan}
use Rattle.std.specs.Float.Ieee.Digits.{size-le}
use Rattle.std.specs.Float.Ieee.Fits.{down_pos, kept-lt, nearest-le, round_is}
use Rattle.std.specs.Float.Ieee.Bits.{cond_no}
use Rattle.std.specs.Float.Ieee.Exact.{HasValue, round_exact}
use Rattle.std.specs.Float.Ieee.Back.{round_whole}
use Rattle.std.specs.Float.Ieee.Order.{drop, kept}
use Rattle.std.specs.Float.Ieee.Scale.{round_val, round_same}
use Rattle.channels.specs.Nearest.{apart}
use Rattle.channels.specs.Floats.{clamped}
use Rattle.channels.proofs.FloatsLaws.{bottom_pos, top_le, below_one, from_one}
use Rattle.channels.proofs.Even.{Rounds, rounds, closest_even, only_closest, closest_near, closest_le}
use Rattle.depth_texture.specs.Depth.{depth_of, CodeFor, code_for}

-- ---- a quotient of whole numbers is one rounding of their fraction
not_zero : (n : ℕ) (d : ℤ) (b : ℕ) → 0 < b → n * up d * 1 ≡ b * down d → n ≡ 0 → ⊥
not_zero n d b B h z =
    lt_irrefl 0 (subst (λ (x : ℕ). 0 < x) (sym h ∙ mul-one (n * up d) ∙ ap (λ (y : ℕ). y * up d) z ∙ zero-mul (up d)) (mul-pos B (down_pos d)))

shuffle : (a b p q : ℕ) → a * p * q * b ≡ a * (b * q * p)
shuffle a b p q = simp (mul_assoc, mul_comm, mul_left_comm)

div_whole : (f : Format) (x y : Float) (a b : ℕ) → 0 < b → HasValue x false a 1 → HasValue y false b 1 → div f x y ≡ round f false a b
unfolding div
div_whole f nan y a b B p q = absurd p
div_whole f (inf s) y a b B p q = absurd p
div_whole f (fin true m e) y a b B p q = absurd (true≢false p.0)
div_whole f (fin false m e) nan a b B p q = absurd q
div_whole f (fin false m e) (inf t) a b B p q = absurd q
div_whole f (fin false m e) (fin true n d) a b B p q = absurd (true≢false q.0)
div_whole f (fin false m e) (fin false n d) a b B p q =
    let P : m * up e ≡ a * down e = sym (mul-one (m * up e)) ∙ p.1 in
    let Q : n * up d ≡ b * down d = sym (mul-one (n * up d)) ∙ q.1 in
    let D : 0 < n * up d * down e = mul-pos (subst (λ (z : ℕ). 0 < z) (sym Q) (mul-pos B (down_pos d))) (down_pos e) in
    let E : m * up e * down d * b ≡ a * (n * up d * down e) =
    ap (λ (z : ℕ). z * down d * b) P
    ∙ shuffle a b (down e) (down d)
    ∙ ap (λ (z : ℕ). a * (z * down e)) (sym Q) in
    cond_no (eqb n 0) (cond (eqb m 0) nan (inf false)) (round f false (m * up e * down d) (n * up d * down e)) (not_T (eqb n 0) (λ (t : T (eqb n 0)). not_zero n d b B q.1 (eqb→eq n 0 t)))
    ∙ round_same f false (m * up e * down d) (n * up d * down e) a b D B E

of_int_is : (f : Format) (n : ℕ) → of_int f (pos n) ≡ round f false n 1
unfolding of_int
of_int_is f n = refl

pub div_is : (k max : ℕ) → 0 < max → k ≤ 2 ^ 24 → max ≤ 2 ^ 24 → depth_of max k ≡ round binary32 false k max
div_is k max M K L =
    ap (λ (x : Float). div binary32 x (of_int binary32 (pos max))) (of_int_is binary32 k)
    ∙ ap (λ (y : Float). div binary32 (round binary32 false k 1) y) (of_int_is binary32 max)
    ∙ div_whole binary32 (round binary32 false k 1) (round binary32 false max 1) k max M (round_whole binary32 false k K) (round_whole binary32 false max L)

module _ (o u g k max L : ℕ) (E : o * L ≡ g * u) (U : 0 < u) where
  -- ---- from units of 2 ^ -149 to the float's own fraction: L is 2 ^ 149, and g units are o / u
  left : 2 * (o * max) * L ≡ 2 * (g * max) * u
  left =
      mul_assoc 2 (o * max) L
      ∙ ap (λ (z : ℕ). 2 * z) (mul_right_comm o max L ∙ ap (λ (z : ℕ). z * max) E ∙ mul_right_comm g u max)
      ∙ sym (mul_assoc 2 (g * max) u)

  side : 2 * (k * u) * L ≡ 2 * (k * L) * u
  side = mul_assoc 2 (k * u) L ∙ ap (λ (z : ℕ). 2 * z) (mul_right_comm k u L) ∙ sym (mul_assoc 2 (k * L) u)

  not_above : 2 * (g * max) < 2 * (k * L) + L → 2 * (o * max) < 2 * (k * u) + u
  not_above h =
      lt_of_mul-lt-mul_right L
      (subst (λ (z : ℕ). z < (2 * (k * u) + u) * L) (sym left)
      (subst (λ (z : ℕ). 2 * (g * max) * u < z) (add-mul (2 * (k * L)) L u ∙ ap (λ (z : ℕ). z + L * u) (sym side) ∙ ap (λ (z : ℕ). 2 * (k * u) * L + z) (mul_comm L u) ∙ sym (add-mul (2 * (k * u)) u L))
      (mul-lt-mul_of_pos_right h U)))

  not_below : 2 * (k * L) < 2 * (g * max) + L → 2 * (k * u) < 2 * (o * max) + u
  not_below h =
      lt_of_mul-lt-mul_right L
      (subst (λ (z : ℕ). z < (2 * (o * max) + u) * L) (sym side)
      (subst (λ (z : ℕ). 2 * (k * L) * u < z) (add-mul (2 * (g * max)) L u ∙ ap (λ (z : ℕ). z + L * u) (sym left) ∙ ap (λ (z : ℕ). 2 * (o * max) * L + z) (mul_comm L u) ∙ sym (add-mul (2 * (o * max)) u L))
      (mul-lt-mul_of_pos_right h U)))

close : (X N b : ℕ) → 2 * N < 2 * X + b → 2 * X < 2 * N + b → 2 * apart X N < b
close X N b h k = omega arith

-- ---- the float of a code below max
tight : (n d p q L : ℕ) → 2 * p ≤ 2 * n + d → 2 * n ≤ 2 * p + d → p ≡ q → d < L → (2 * q < 2 * n + L) × (2 * n < 2 * q + L)
tight n d p q L a b e h = (omega arith, omega arith)

dropped : (z : ℕ) → z ≤ 149 → z - 24 ≤ 125
dropped z h = omega arith

room : (d : ℕ) → d ≤ 125 → 24 + d ≤ 149
room d h = omega arith

near_below : (k max : ℕ) → k < max → max < 2 ^ 24 → 2 * apart (k * (clamped (round binary32 false k max)).bottom) ((clamped (round binary32 false k max)).top * max) < (clamped (round binary32 false k max)).bottom
near_below k max h M =
    let P : 0 < max = lt_of_le_of_lt zero-le h in
    let x = round binary32 false k max in
    let n = k * 2 ^ 149 in
    let D = drop 24 n max in
    let u = max * 2 ^ D in
    let K = kept 24 n max in
    let g = K * 2 ^ D in
    let small : n < 2 ^ 149 * max = subst (λ (z : ℕ). n < z) (mul_comm max (2 ^ 149)) (mul-lt-mul_of_pos_right h (pow_pos 149)) in
    let D-le : D ≤ 125 = dropped (size (n / max)) (size-le (n / max) 149 ((div-lt_iff_lt-mul P).1 small)) in
    let u-lt : u < 2 ^ 149 = lt_of_lt_of_le (shl_lt 24 D M) (pow_mono (room D D-le)) in
    let K-le : K ≤ 2 ^ 24 = le_trans (nearest-le (n / u) (compare (n % u * 2) u)) (subst (λ (z : ℕ). z < 2 ^ 24) (div-div-eq-div-mul n max (2 ^ D)) (kept-lt 24 (n / max))) in
    let g-le : g ≤ 2 ^ 149 = le_trans (mul-le-mul K-le (pow_mono D-le)) (lit≤ tt) in
    let R : Rounds n u K (K * u) = rounds n u (mul-pos P (pow_pos D)) in
    let G : K * u ≡ g * max = ap (λ (z : ℕ). K * z) (mul_comm max (2 ^ D)) ∙ sym (mul_assoc K (2 ^ D) max) in
    let t = tight n u (K * u) (g * max) (2 ^ 149) R.below R.above G u-lt in
    let H : HasValue x false g (2 ^ 149) = round_val binary32 k max (lt_of_le_of_lt g-le (lit< tt)) in
    let E : (clamped x).top * 2 ^ 149 ≡ g * (clamped x).bottom = below_one x g (2 ^ 149) H (pow_pos 149) g-le in
    close (k * (clamped x).bottom) ((clamped x).top * max) (clamped x).bottom
    (not_above (clamped x).top (clamped x).bottom g k max (2 ^ 149) E (bottom_pos x) t.0)
    (not_below (clamped x).top (clamped x).bottom g k max (2 ^ 149) E (bottom_pos x) t.1)

-- the largest code is exactly one
level : (X N u : ℕ) → N ≡ X → 0 < u → 2 * apart X N < u
level X N u e h = omega arith

at_one : (k : ℕ) → 0 < k → 2 * apart (k * (clamped (round binary32 false k k)).bottom) ((clamped (round binary32 false k k)).top * k) < (clamped (round binary32 false k k)).bottom
at_one k K =
    let x = round binary32 false k k in
    let H : HasValue x false k k = round_exact binary32 false k k 1 149 K (lit< tt) (lit< tt) (mul_comm k (2 ^ 149)) in
    level (k * (clamped x).bottom) ((clamped x).top * k) (clamped x).bottom (ap (λ (z : ℕ). z * k) (from_one x k k H K (le_of_eq refl)) ∙ mul_comm (clamped x).bottom k) (bottom_pos x)

pub near_code : (k max : ℕ) → 0 < max → max < 2 ^ 24 → k ≤ max → 2 * apart (k * (clamped (round binary32 false k max)).bottom) ((clamped (round binary32 false k max)).top * max) < (clamped (round binary32 false k max)).bottom
near_code k max P M h = elim (eq-or-lt_of_le h) [
  | inl e ↦ subst (λ (m : ℕ). 2 * apart (k * (clamped (round binary32 false k m)).bottom) ((clamped (round binary32 false k m)).top * m) < (clamped (round binary32 false k m)).bottom) e (at_one k (subst (λ (m : ℕ). 0 < m) (sym e) P))
  | inr l ↦ near_below k max l M
]

-- ---- a depth has one code, which is computed
pub code_for_is : (max : ℕ) (x : Float) → CodeFor max x (code_for max x)
unfolding code_for
code_for_is max x = record {
  is_code = closest_le ((clamped x).top * max) (clamped x).bottom max (bottom_pos x) (le_trans (mul-le-mul_right max (top_le x)) (le_of_eq (mul_comm (clamped x).bottom max)));
  nearest = closest_even ((clamped x).top * max) (clamped x).bottom (bottom_pos x);
}

pub one_code : (max : ℕ) (x : Float) (k : ℕ) → CodeFor max x k → k ≡ code_for max x
unfolding code_for
one_code max x k c = only_closest ((clamped x).top * max) (clamped x).bottom k (bottom_pos x) c.nearest

-- THE THEOREM: the code of a code's depth is that code
pub restored : (max k : ℕ) → 0 < max → max < 2 ^ 24 → k ≤ max → code_for max (depth_of max k) ≡ k
unfolding code_for
restored max k P M h =
    let x = round binary32 false k max in
    ap (code_for max) (div_is k max P (le_trans h (le_of_lt M)) (le_of_lt M))
    ∙ closest_near ((clamped x).top * max) (clamped x).bottom k (near_code k max P M h)

-- ---- a depth is no NaN, so it has bits
odd_no_nan : (d : ℕ) (s : Bool) (q k l : ℕ) → T (not (is_nan (odd d s q k l)))
unfolding odd is_nan
odd_no_nan d s zero k l = tt
odd_no_nan d s (suc q) k l = tt

units_no_nan : (f : Format) (s : Bool) (q k : ℕ) → T (not (is_nan (units f s q k)))
unfolding units is_nan
units_no_nan f s q k = go (ltb (q * 2 ^ k) (2 ^ (low f + suc (emax f))))
  where
    go : (b : Bool) → T (not (is_nan (cond b (odd (suc (prec f)) s q k (low f)) (inf s))))
    go true = odd_no_nan (suc (prec f)) s q k (low f)
    go false = tt

pub depth_no_nan : (max k : ℕ) → 0 < max → k ≤ 2 ^ 24 → max ≤ 2 ^ 24 → T (not (is_nan (depth_of max k)))
depth_no_nan max k P K M =
    subst (λ (v : Float). T (not (is_nan v))) (sym (div_is k max P K M ∙ round_is binary32 false k max)) (units_no_nan binary32 false (kept 24 (k * 2 ^ 149) max) (drop 24 (k * 2 ^ 149) max))
