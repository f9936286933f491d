-- Laws on what specs/Table defines. Assumes nothing.
use Rattle.std.specs.Prelude.{◌≡◌, Bool, true, false, List, [], ◌∷◌, ◌⊎◌, ℕ, ◌+◌, ◌%◌, ◌≤◌, T, eqb, leb}
use Rattle.std.proofs.Common.{inl, inr, arith, eqb→eq, leb→le}
use Rattle.words.specs.Computed.{both}
use Rattle.words.proofs.ComputedLaws.{both_left, both_right}
use Rattle.formats.specs.Lanes.{Channel, Channel-discrete, red, green, blue, alpha, luminance, depth, stencil, padding, Part, Lane, nowhere, at, bits, find}
use Rattle.formats.specs.Table.{Format, formats, lookup, parts_of, end_of, Apart, lane_bits, Filled}

-- ---- the whole table: a test of every row holds of every code
abbrev every_row : (Format → Bool) → List Format → Bool
every_row t [] = true
every_row t (n ∷ ns) = both (t n) (every_row t ns)

looked_up : (t : List Part → Bool) → T (t []) → (f : ℕ) (ns : List Format) → T (every_row (λ n. t n.parts) ns) → T (t (lookup f ns))
looked_up t e f [] h = e
looked_up t e f (n ∷ ns) h = go (eqb f n.code) (looked_up t e f ns (both_right (t n.parts) (every_row (λ m. t m.parts) ns) h))
  where
    go : (b : Bool) → T (t (lookup f ns)) → T (t (elim b [ true ↦ n.parts | false ↦ lookup f ns ]))
    go true r = both_left (t n.parts) (every_row (λ m. t m.parts) ns) h
    go false r = r

pub by_table : (t : List Part → Bool) → T (t []) → T (every_row (λ n. t n.parts) formats) → (f : ℕ) → T (t (parts_of f))
unfolding parts_of
by_table t e h f = looked_up t e f formats h

abbrev apart_test : Lane → Lane → Bool
apart_test nowhere m = true
apart_test (at low n k) nowhere = true
apart_test (at low n k) (at low' n' k') = elim (leb (low + n) low') [ true ↦ true | false ↦ leb (low' + n') low ]

apart_tested : (l m : Lane) → T (apart_test l m) → Apart l m
apart_tested nowhere m t = tt
apart_tested (at low n k) nowhere t = tt
apart_tested (at low n k) (at low' n' k') t = go (leb (low + n) low') (leb→le (low + n) low') t
  where
    go : (b : Bool) → (T b → low + n ≤ low') → T (elim b [ true ↦ true | false ↦ leb (low' + n') low ]) → (low + n ≤ low') ⊎ (low' + n' ≤ low)
    go true h u = inl (h tt)
    go false h u = inr (leb→le (low' + n') low u)

abbrev every_channel : (Channel → Bool) → Bool
every_channel t = both (t red) (both (t green) (both (t blue) (both (t alpha) (both (t luminance) (both (t depth) (both (t stencil) (t padding)))))))

channel_at : (t : Channel → Bool) → T (every_channel t) → (c : Channel) → T (t c)
channel_at t h c = go c
  where
    h1 : T (both (t green) (both (t blue) (both (t alpha) (both (t luminance) (both (t depth) (both (t stencil) (t padding)))))))
    h1 = both_right (t red) _ h

    h2 : T (both (t blue) (both (t alpha) (both (t luminance) (both (t depth) (both (t stencil) (t padding))))))
    h2 = both_right (t green) _ h1

    h3 : T (both (t alpha) (both (t luminance) (both (t depth) (both (t stencil) (t padding)))))
    h3 = both_right (t blue) _ h2

    h4 : T (both (t luminance) (both (t depth) (both (t stencil) (t padding))))
    h4 = both_right (t alpha) _ h3

    h5 : T (both (t depth) (both (t stencil) (t padding)))
    h5 = both_right (t luminance) _ h4

    h6 : T (both (t stencil) (t padding))
    h6 = both_right (t depth) _ h5

    go : (c : Channel) → T (t c)
    go red = both_left (t red) _ h
    go green = both_left (t green) _ h1
    go blue = both_left (t blue) _ h2
    go alpha = both_left (t alpha) _ h3
    go luminance = both_left (t luminance) _ h4
    go depth = both_left (t depth) _ h5
    go stencil = both_left (t stencil) _ h6
    go padding = both_right (t stencil) (t padding) h6

abbrev inside_test : List Part → Bool
inside_test ps = every_channel (λ c. leb (end_of (find c ps)) (bits ps))

abbrev other_test : List Part → Channel → Channel → Bool
other_test ps c d = elim (Channel-discrete c d) [ yes e ↦ true | no u ↦ apart_test (find c ps) (find d ps) ]

abbrev others_test : List Part → Bool
others_test ps = every_channel (λ c. every_channel (other_test ps c))

others_tested : (ps : List Part) (c d : Channel) → (c ≡ d → ⊥) → T (other_test ps c d) → Apart (find c ps) (find d ps)
others_tested ps c d ne t = go (Channel-discrete c d) t
  where
    go : (x : Dec (c ≡ d)) → T (elim x [ yes e ↦ true | no u ↦ apart_test (find c ps) (find d ps) ]) → Apart (find c ps) (find d ps)
    go (yes e) u = absurd (ne e)
    go (no n) u = apart_tested (find c ps) (find d ps) u

-- THE TABLE'S TEST, computed over every row and carried to every code
pub lanes_filled : (f : ℕ) → Filled (parts_of f)
lanes_filled f = record {
  whole_bytes = omega (arith, eqb→eq (bits (parts_of f) % 8) 0 (by_table (λ ps. eqb (bits ps % 8) 0) tt tt f));
  inside = λ c. leb→le _ _ (channel_at (λ d. leb (end_of (find d (parts_of f))) (bits (parts_of f))) (by_table inside_test tt tt f) c);
  apart = λ c d ne. others_tested (parts_of f) c d ne (channel_at (other_test (parts_of f) c) (channel_at (λ b. every_channel (other_test (parts_of f) b)) (by_table others_test tt tt f) c) d);
  all_bits = eqb→eq _ _ (by_table (λ ps. eqb (lane_bits ps) (bits ps)) tt tt f);
}
