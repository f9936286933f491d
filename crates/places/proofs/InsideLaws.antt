-- Where a texel's bytes lie, by the kind of its picture, and which of them lie within a length. Assumes nothing.
use Rattle.std.specs.Prelude.{◌≡◌, Bool, ◌&&◌, ◌||◌, leb, ltb, length, get_or, take, drop, refl, true, false, List, ◌∷◌, ℕ, zero, suc, ◌+◌, ◌-◌, ◌*◌, ◌/◌, ◌^◌, ◌≤◌, ◌<◌, ℤ, pos, negsuc, ◌+ℤ◌}
use Rattle.std.specs.Int.{w64, FitsUnsigned}
use Rattle.std.specs.List.{Contains}
use Rattle.std.proofs.Common.{rules, sym, ap, subst, ◌∙◌, not-suc-le-zero, drop-cons, arith, add-mul, leb-true, le-leb, ltb-true, ltb-false}
use Rattle.std.proofs.lemmas.Bool.{false≢true, and_parts, and_right, lt-leb}
use Rattle.std.proofs.lemmas.Int.{ints}
use Rattle.std.proofs.lemmas.List.Elements.{Contains-get_or}
use Rattle.words.specs.Integers.{up}
use Rattle.words.proofs.IterateLaws.{all_at, all_false}
use Rattle.formats.specs.Table.{bytes_of}
use Rattle.formats.specs.Classes.{is_packed_yuv, is_planar_yuv, is_lane_source}
use Rattle.formats.specs.Formats.{is_source}
use Rattle.formats.proofs.Listed.{lane_some, lane_only}
use Rattle.places.specs.declared.Side.{Side}
use Rattle.places.specs.Places.{run, place_of, Upright, from_place, started, planar_places, places_at, all_below, places_in, HasByte, bytes_from, texel_in, inside_all}
use Rattle.places.specs.Inside.{TexelFits, EndsWithin, bytes_in}

-- ---- offsets in a row
pub run_in : (len start n : ℕ) → 0 < n → all_below len (run start n) ≡ leb (start + n) len
run_in len start zero h = absurd (not-suc-le-zero h)
run_in len start (suc zero) h = go (ltb start len) refl
  where
    go : (t : Bool) → ltb start len ≡ t → (t && true) ≡ leb (start + 1) len
    go true e = sym (le-leb (start + 1) len (omega (arith, ltb-true start len e)))
    go false e = sym (lt-leb (start + 1) len (omega (arith, ltb-false start len e)))
run_in len start (suc (suc n)) h = go (ltb start len) refl (run_in len (suc start) (suc n) (omega arith))
  where
    next : leb (suc start + suc n) len ≡ leb (start + suc (suc n)) len
    next = ap (λ k. leb k len) (omega arith)

    go : (t : Bool) → ltb start len ≡ t → all_below len (run (suc start) (suc n)) ≡ leb (suc start + suc n) len → (t && all_below len (run (suc start) (suc n))) ≡ leb (start + suc (suc n)) len
    go true e r = r ∙ next
    go false e r = sym (lt-leb (start + suc (suc n)) len (omega (arith, ltb-false start len e)))

-- the bytes there
pub bytes_run : (n start : ℕ) (l : List ℕ) → start + n ≤ length l → bytes_from l (run start n) ≡ take n (drop start l)
bytes_run zero start l h = refl
bytes_run (suc n) start l h =
    ap (λ bs. get_or l start 0 ∷ bs) (bytes_run n (suc start) l (omega arith))
    ∙ sym (ap (take (suc n)) (drop-cons l start 0 (omega arith)))

-- they are all there
pub length_run : (n start : ℕ) → length (run start n) ≡ n
length_run zero start = refl
length_run (suc n) start = ap suc (length_run n (suc start))

pub run_at : (n start i d : ℕ) → i < n → get_or (run start n) i d ≡ start + i
run_at zero start i d h = absurd (not-suc-le-zero h)
run_at (suc n) start zero d h = omega arith
run_at (suc n) start (suc i) d h = run_at n (suc start) i d (omega (arith, h)) ∙ omega arith

pub run_contains : (start n k : ℕ) → start ≤ k → k < start + n → Contains (run start n) k
run_contains start n k low high =
    subst (Contains (run start n)) (run_at n start (k - start) k (omega (arith, low, high)) ∙ omega (arith, low))
    (Contains-get_or (run start n) (k - start) k (omega (arith, low, high, length_run n start)))

-- ---- a place and the bytes behind it
pub from_place_in : (len n : ℕ) (z : ℤ) → 0 < n → places_in len (from_place z n) ≡ bytes_in len n z
unfolding places_in
from_place_in len n (pos a) h = run_in len a n h
from_place_in len n (negsuc a) h = refl

pub ends_within : (len n : ℕ) (z : ℤ) → bytes_in len n z ≡ true → EndsWithin len n z (up z)
unfolding up
ends_within len n (pos a) h = record { place = refl; end = leb-true (a + n) len h }
ends_within len n (negsuc a) h = absurd (false≢true h)

-- which is a number of 64 bits, as the length is
number_fits : (n : ℕ) → n < 2 ^ 64 → FitsUnsigned w64 (pos n)
number_fits n h = search rules

pub ends_fit : (len n : ℕ) (z : ℤ) (at : ℕ) → len < 2 ^ 64 → EndsWithin len n z at → FitsUnsigned w64 z
ends_fit len n z at l h = rw h.place (number_fits at (omega (arith, l, h.end)))

-- its bytes are those from there on
pub from_place_has : (z : ℤ) (at n k : ℕ) → z ≡ pos at → at ≤ k → k < at + n → HasByte (from_place z n) k
from_place_has z at n k e low high = rw e (run_contains at n k low high)

-- a slice further on
pub slices_on : (side : Side) (size z y x : ℕ) → place_of side size z y x ≡ place_of side size 0 y x +ℤ pos (z * side.slice_pitch)
unfolding place_of
slices_on side size z y x = omega (arith, ints)

-- units further along a row
pub along : (side : Side) (size z y x k : ℕ) → place_of side size z y (x + k) ≡ place_of side size z y x +ℤ pos (k * size)
unfolding place_of
along side size z y x k = omega (arith, ints, add-mul x k size)

pub upright : (side : Side) (pitch : ℕ) → Upright side pitch
unfolding place_of
upright side pitch s p size z y x = rw (s, p) (omega (arith, ints))

module _ (len f : ℕ) (side : Side) (z y x : ℕ) where
  -- ---- columns and rows
  pub texel_fits : texel_in len f side z y x ≡ true → TexelFits len f side z y x
  unfolding texel_in
  texel_fits h =
      let xs = leb x 4294967295 in
      let ys = leb y 4294967295 in
      let ps = places_in len (places_at f side z y x) in
      let small = (and_parts (xs && ys) ps h).0 in
      record {
        column = leb-true x 4294967295 (and_parts xs ys small).0;
        row = leb-true y 4294967295 (and_parts xs ys small).1;
        places = (and_parts (xs && ys) ps h).1;
      }

  -- a column or a row beyond 32 bits
  pub texel_out_x : 4294967295 < x → texel_in len f side z y x ≡ false
  unfolding texel_in
  texel_out_x h = rw (lt-leb x 4294967295 h) refl

  pub texel_out_y : 4294967295 < y → texel_in len f side z y x ≡ false
  unfolding texel_in
  texel_out_y h = rw (and_right (leb x 4294967295) (leb y 4294967295) (lt-leb y 4294967295 h)) refl

  pub texel_in_places : x ≤ 4294967295 → y ≤ 4294967295 → texel_in len f side z y x ≡ places_in len (places_at f side z y x)
  unfolding texel_in
  texel_in_places hx hy = rw (le-leb x 4294967295 hx, le-leb y 4294967295 hy) refl

module _ (f : ℕ) (side : Side) (z y x : ℕ) where
  -- ---- the places of each kind of picture
  pub places_at_lanes : is_planar_yuv f ≡ false → is_packed_yuv f ≡ false → places_at f side z y x ≡ from_place (place_of side (bytes_of f) z y x) (bytes_of f)
  unfolding places_at
  places_at_lanes p q = rw (p, q) refl

  pub places_at_packed : is_planar_yuv f ≡ false → is_packed_yuv f ≡ true → places_at f side z y x ≡ from_place (place_of side 4 z y (x / 2)) 4
  unfolding places_at
  places_at_packed p q = rw (p, q) refl

  pub places_at_planar : is_planar_yuv f ≡ true → places_at f side z y x ≡ started side.start (planar_places f (up side.pitch) (side.slice_pitch / up side.pitch) y x)
  unfolding places_at
  places_at_planar p = rw p refl

module _ (len f : ℕ) (side : Side) (z y x : ℕ) where
  -- ---- which lie within a length
  pub lanes_in : is_planar_yuv f ≡ false → is_packed_yuv f ≡ false → 0 < bytes_of f → places_in len (places_at f side z y x) ≡ bytes_in len (bytes_of f) (place_of side (bytes_of f) z y x)
  lanes_in p q s = ap (places_in len) (places_at_lanes f side z y x p q) ∙ from_place_in len (bytes_of f) (place_of side (bytes_of f) z y x) s

  pub packed_in : is_planar_yuv f ≡ false → is_packed_yuv f ≡ true → places_in len (places_at f side z y x) ≡ bytes_in len 4 (place_of side 4 z y (x / 2))
  packed_in p q = ap (places_in len) (places_at_packed f side z y x p q) ∙ from_place_in len 4 (place_of side 4 z y (x / 2)) (omega arith)

  -- and where these end
  pub lane_ends : places_in len (places_at f side z y x) ≡ true → is_planar_yuv f ≡ false → is_packed_yuv f ≡ false → 0 < bytes_of f
      → EndsWithin len (bytes_of f) (place_of side (bytes_of f) z y x) (up (place_of side (bytes_of f) z y x))
  lane_ends h p q s = ends_within len (bytes_of f) _ (sym (lanes_in p q s) ∙ h)

  pub packed_ends : places_in len (places_at f side z y x) ≡ true → is_planar_yuv f ≡ false → is_packed_yuv f ≡ true
      → EndsWithin len 4 (place_of side 4 z y (x / 2)) (up (place_of side 4 z y (x / 2)))
  packed_ends h p q = ends_within len 4 _ (sym (packed_in p q) ∙ h)

-- a slice whose texel lies within a length, as does that of the first slice, lies no further than that from it
ends_apart : (len n : ℕ) (a b : ℤ) (k : ℕ) → a ≡ b +ℤ pos k → bytes_in len n b ≡ true → bytes_in len n a ≡ true → k ≤ len
ends_apart len n a (pos b) k e h i =
    let l : b + k + n ≤ len = leb-true (b + k + n) len (sym (ap (bytes_in len n) e) ∙ i) in
    omega (arith, l)
ends_apart len n a (negsuc b) k e h i = absurd (false≢true h)

pub slice_within : (len f : ℕ) (side : Side) (z y x : ℕ) → is_source f ≡ true → (is_planar_yuv f ≡ true → z ≡ 0)
    → places_in len (places_at f side 0 y x) ≡ true → places_in len (places_at f side z y x) ≡ true → z * side.slice_pitch ≤ len
slice_within len f side z y x source one h i = go (is_lane_source f) (is_packed_yuv f) (is_planar_yuv f) refl refl refl source
  where
    go : (l q p : Bool) → is_lane_source f ≡ l → is_packed_yuv f ≡ q → is_planar_yuv f ≡ p → (l || (q || p)) ≡ true → z * side.slice_pitch ≤ len
    go true q p e g k o =
        let kind = lane_only f e in
        let place = place_of side (bytes_of f) in
        ends_apart len (bytes_of f) (place z y x) (place 0 y x) _ (slices_on side (bytes_of f) z y x)
        (sym (lanes_in len f side 0 y x kind.0 kind.1 (lane_some f e)) ∙ h) (sym (lanes_in len f side z y x kind.0 kind.1 (lane_some f e)) ∙ i)
    go false q true e g k o = rw (one k) (omega arith)
    go false true false e g k o =
        ends_apart len 4 (place_of side 4 z y (x / 2)) (place_of side 4 0 y (x / 2)) _ (slices_on side 4 z y (x / 2))
        (sym (packed_in len f side 0 y x k g) ∙ h) (sym (packed_in len f side z y x k g) ∙ i)
    go false false false e g k o = absurd (false≢true o)

module _ (len f : ℕ) (side : Side) (width height depth : ℕ) where
  -- ---- a region
  pub outside_x : 0 < width → 0 < height → 0 < depth → 4294967295 < side.x + (width - 1) → false ≡ inside_all len f side width height depth
  unfolding inside_all
  outside_x pw ph pd h =
      sym (all_false _ depth 0 pd (all_false _ height 0 ph (all_false _ width (width - 1) (omega (arith, pw)) (texel_out_x len f side 0 (side.y + 0) (side.x + (width - 1)) h))))

  pub outside_y : 0 < width → 0 < height → 0 < depth → 4294967295 < side.y + (height - 1) → false ≡ inside_all len f side width height depth
  unfolding inside_all
  outside_y pw ph pd h =
      sym (all_false _ depth 0 pd (all_false _ height (height - 1) (omega (arith, ph)) (all_false _ width 0 pw (texel_out_y len f side 0 (side.y + (height - 1)) (side.x + 0) h))))

  pub inside_at : inside_all len f side width height depth ≡ true
      → (z row col : ℕ) → z < depth → row < height → col < width → texel_in len f side z (side.y + row) (side.x + col) ≡ true
  unfolding inside_all
  inside_at h z row col zl rl cl = all_at _ width (all_at _ height (all_at _ depth h z zl) row rl) col cl
