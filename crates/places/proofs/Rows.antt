-- The units of a part lie within a length where those of its first and of its last row do: rows lie equally far apart. Assumes nothing.
use Rattle.std.specs.Prelude.{◌≡◌, refl, Bool, true, false, ℕ, ◌+◌, ◌*◌, ◌-◌, ◌≤◌, ◌<◌, ◌^◌, max, leb, ℤ, pos, negsuc, ◌*ℤ◌, unsigned_abs}
use Rattle.std.specs.Int.{w64, FitsUnsigned}
use Rattle.std.proofs.Common.{rules, sym, ap, ◌∙◌, ⊎_elim, arith, add-mul, mul-le-mul, mul-le-mul_right, leb-true, le-leb}
use Rattle.std.proofs.Math.Nat.{le-max_left, le-max_right, max-le}
use Rattle.std.proofs.lemmas.Bool.{false≢true, lt-leb, cases_lt}
use Rattle.std.proofs.lemmas.Int.{unsigned_abs-mul}
use Rattle.words.specs.Integers.{up}
use Rattle.words.proofs.IntegersLaws.{dn, up_pos, dn_pos, one_zero, sum, times_up, times_dn}
use Rattle.words.proofs.IterateLaws.{all_true, all_at, all_false}
use Rattle.places.specs.declared.Side.{Side}
use Rattle.places.specs.Places.{place_of}
use Rattle.places.specs.Inside.{bytes_in, units_in}

-- ---- a pitch times a row
pub rows_small : (p : ℤ) (y : ℕ) → unsigned_abs p ≤ 2 ^ 63 → y < 2 ^ 32 → unsigned_abs (p *ℤ pos y) ≤ 2 ^ 95
rows_small p y h i =
    let m : unsigned_abs p * y ≤ 2 ^ 63 * 2 ^ 32 = mul-le-mul {m₂ = 2 ^ 32} h (omega (arith, i)) in
    omega (arith, unsigned_abs-mul p (pos y), m)

pub columns_small : (x size : ℕ) → x < 2 ^ 32 → size < 2 ^ 64 → x * size < 2 ^ 96
columns_small x size h i =
    let a : x ≤ 2 ^ 32 = omega (arith, h) in
    let b : size ≤ 2 ^ 64 - 1 = omega (arith, i) in
    omega (arith, mul-le-mul a b)

-- ---- a place by its parts
pub parts : (side : Side) (size z y x : ℕ) → up (place_of side size z y x) + y * dn side.pitch ≡ dn (place_of side size z y x) + (side.start + z * side.slice_pitch + x * size) + y * up side.pitch
unfolding place_of
parts side size z y x =
    let a = side.start + z * side.slice_pitch + x * size in
    omega (arith, sum (pos a) (side.pitch *ℤ pos y), up_pos a, dn_pos a, times_up side.pitch y, times_dn side.pitch y)

pub in_yes : (len size : ℕ) (z : ℤ) → dn z ≡ 0 → up z + size ≤ len → bytes_in len size z ≡ true
unfolding up dn
in_yes len size (pos a) h i = le-leb (a + size) len i
in_yes len size (negsuc a) h i = absurd (omega (arith, h))

pub in_parts : (len size : ℕ) (z : ℤ) → bytes_in len size z ≡ true → (dn z ≡ 0) × (up z + size ≤ len)
unfolding up dn
in_parts len size (pos a) h = (refl, leb-true (a + size) len h)
in_parts len size (negsuc a) h = absurd (false≢true h)

-- a place that is a number of 64 bits, and one that is not
pub number_is : (z : ℤ) (a : ℕ) → FitsUnsigned w64 z → unsigned_abs z ≡ a → z ≡ pos a
number_is (pos b) a f e = ap pos e
number_is (negsuc b) a f e = absurd (search rules)

no_number : (len size : ℕ) (z : ℤ) → len < 2 ^ 64 → 0 < size → (FitsUnsigned w64 z → ⊥) → bytes_in len size z ≡ false
no_number len size (pos a) l s m = lt-leb (a + size) len (⊎_elim (λ h. absurd (m (search rules))) (λ h. omega (arith, h, l, s)) (cases_lt a (2 ^ 64)))
no_number len size (negsuc a) l s m = refl

times_zero : (m k : ℕ) → k ≡ 0 → m * k ≡ 0
times_zero m k e = rw e (omega arith)

-- ---- the units of a part: n behind the first of each row
module _ (len size : ℕ) (side : Side) (x n height depth : ℕ) (ph : 0 < height) (pd : 0 < depth) where
  abbrev whole : Bool
  whole = units_in len size side x (n + 1) height depth

  abbrev place : (z row col : ℕ) → ℤ
  place z row col = place_of side size z (side.y + row) (x + col)

  at_unit : whole ≡ true → (z row col : ℕ) → z < depth → row < height → col < n + 1 → bytes_in len size (place z row col) ≡ true
  unfolding units_in
  at_unit h z row col zl rl cl = all_at _ (n + 1) (all_at _ height (all_at _ depth h z zl) row rl) col cl

  -- a row of the first slice whose first unit does not lie there
  pub row_out : (y : ℕ) → side.y ≤ y → y ≤ side.y + (height - 1) → len < 2 ^ 64 → 0 < size → (FitsUnsigned w64 (place_of side size 0 y x) → ⊥) → false ≡ whole
  unfolding units_in
  row_out y low high l s m =
      let e : side.y + (y - side.y) ≡ y = omega (arith, low) in
      let g : x + 0 ≡ x = omega arith in
      let b : bytes_in len size (place 0 (y - side.y) 0) ≡ false = rw (e, g) (no_number len size (place_of side size 0 y x) l s m) in
      sym (all_false _ depth 0 pd (all_false _ height (y - side.y) (omega (arith, ph, low, high)) (all_false _ (n + 1) 0 (omega arith) b)))

  module _ (a b : ℕ) (first : place_of side size 0 side.y x ≡ pos a) (last : place_of side size 0 (side.y + (height - 1)) x ≡ pos b) where
    first_parts : a + side.y * dn side.pitch ≡ side.start + x * size + side.y * up side.pitch
    first_parts =
        let u : up (place_of side size 0 side.y x) ≡ a = ap up first ∙ up_pos a in
        let d : dn (place_of side size 0 side.y x) ≡ 0 = ap dn first ∙ dn_pos a in
        omega (arith, parts side size 0 side.y x, u, d)

    -- the last row by the first
    last_parts : b + (height - 1) * dn side.pitch ≡ a + (height - 1) * up side.pitch
    last_parts =
        let y = side.y + (height - 1) in
        let u : up (place_of side size 0 y x) ≡ b = ap up last ∙ up_pos b in
        let d : dn (place_of side size 0 y x) ≡ 0 = ap dn last ∙ dn_pos b in
        omega (arith, parts side size 0 y x, u, d, first_parts, add-mul side.y (height - 1) (dn side.pitch), add-mul side.y (height - 1) (up side.pitch))

    -- and every unit by the first
    unit_parts : (z row k : ℕ) → up (place z row k) + row * dn side.pitch ≡ dn (place z row k) + (a + z * side.slice_pitch + k * size) + row * up side.pitch
    unit_parts z row k =
        omega (arith, parts side size z (side.y + row) (x + k), first_parts, add-mul x k size, add-mul side.y row (dn side.pitch), add-mul side.y row (up side.pitch))

    abbrev end : ℕ
    end = max a b + (depth - 1) * side.slice_pitch + n * size + size

    unit_in : (z row k : ℕ) → z ≤ depth - 1 → row ≤ height - 1 → k ≤ n → end ≤ len → bytes_in len size (place z row k) ≡ true
    unit_in z row k zl rl kl t =
        let hz : z * side.slice_pitch ≤ (depth - 1) * side.slice_pitch = mul-le-mul_right side.slice_pitch zl in
        let hk : k * size ≤ n * size = mul-le-mul_right size kl in
        let hd : row * dn side.pitch ≤ (height - 1) * dn side.pitch = mul-le-mul_right (dn side.pitch) rl in
        let hu : row * up side.pitch ≤ (height - 1) * up side.pitch = mul-le-mul_right (up side.pitch) rl in
        let f = unit_parts z row k in
        let l = last_parts in
        let ma = le-max_left a b in
        let mb = le-max_right a b in
        let both = ⊎_elim
        (λ (e : up side.pitch ≡ 0).
        let r = times_zero row (up side.pitch) e in
        let h = times_zero (height - 1) (up side.pitch) e in
        let back : row * dn side.pitch ≤ a = omega (arith, l, h, hd) in
        let d : dn (place z row k) ≡ 0 = ⊎_elim (λ j. omega (arith, f, back, j)) (λ j. j) (one_zero (place z row k)) in
        in_yes len size (place z row k) d (omega (arith, f, d, r, hz, hk, ma, t)))
        (λ (e : dn side.pitch ≡ 0).
        let r = times_zero row (dn side.pitch) e in
        let h = times_zero (height - 1) (dn side.pitch) e in
        let d : dn (place z row k) ≡ 0 = ⊎_elim (λ j. omega (arith, f, r, j)) (λ j. j) (one_zero (place z row k)) in
        in_yes len size (place z row k) d (omega (arith, f, d, r, h, l, hu, hz, hk, mb, t))) in
        both (one_zero side.pitch)

    every : end ≤ len → whole ≡ true
    unfolding units_in
    every t =
        all_true _ depth λ z zl. all_true _ height λ row rl. all_true _ (n + 1) λ k kl.
        unit_in z row k (omega (arith, zl)) (omega (arith, rl)) (omega (arith, kl)) t

    some : whole ≡ true → end ≤ len
    some h =
        let g = in_parts len size (place (depth - 1) 0 n) (at_unit h (depth - 1) 0 n (omega (arith, pd)) ph (omega arith)) in
        let i = in_parts len size (place (depth - 1) (height - 1) n) (at_unit h (depth - 1) (height - 1) n (omega (arith, pd)) (omega (arith, ph)) (omega arith)) in
        let rest = (depth - 1) * side.slice_pitch + n * size + size in
        let ea : a + rest ≤ len = omega (arith, g.0, g.1, unit_parts (depth - 1) 0 n) in
        let eb : b + rest ≤ len = omega (arith, i.0, i.1, unit_parts (depth - 1) (height - 1) n, last_parts) in
        let m : max a b ≤ len - rest = max-le (omega (arith, ea)) (omega (arith, eb)) in
        omega (arith, m, ea)

    -- THE LAW: the units lie within a length just where the higher of both rows does, in the last slice
    pub rows_decide : leb end len ≡ whole
    rows_decide = go (leb end len) whole refl refl
      where
        go : (t w : Bool) → leb end len ≡ t → whole ≡ w → t ≡ w
        go true w e g = sym (every (leb-true end len e)) ∙ g
        go false true e g = absurd (false≢true (sym e ∙ le-leb end len (some g)))
        go false false e g = refl

  -- ---- by what the code finds of both rows
  module _ (a b y d : ℕ) (fa : FitsUnsigned w64 (place_of side size 0 side.y x)) (a_is : unsigned_abs (place_of side size 0 side.y x) ≡ a)
      (fb : FitsUnsigned w64 (place_of side size 0 y x)) (b_is : unsigned_abs (place_of side size 0 y x) ≡ b)
      (y_is : y ≡ side.y + (height - 1)) (d_is : d ≡ depth - 1) where
    decides : leb (max a b + d * side.slice_pitch + n * size + size) len ≡ whole
    decides =
        ap (λ k. leb (max a b + k * side.slice_pitch + n * size + size) len) d_is
        ∙ rows_decide a b (number_is _ a fa a_is) (ap (λ k. place_of side size 0 k x) (sym y_is) ∙ number_is _ b fb b_is)

    pub end_decides : (e : ℕ) → e ≡ max a b + d * side.slice_pitch + n * size + size → leb e len ≡ whole
    end_decides e h = ap (λ k. leb k len) h ∙ decides

    pub end_out : len < 2 ^ 64 → (max a b + d * side.slice_pitch + n * size + size < 2 ^ 64 → ⊥) → false ≡ whole
    end_out l h =
        let e = max a b + d * side.slice_pitch + n * size + size in
        sym (lt-leb e len (⊎_elim (λ j. absurd (h j)) (λ j. omega (arith, j, l)) (cases_lt e (2 ^ 64)))) ∙ decides
