-- Where rows go on, a texel's bytes lie no higher than those of one further on, so a part of a picture lies inside where its last texel does.
-- Assumes nothing.
use Rattle.std.specs.Prelude.{◌≡◌, refl, Bool, true, false, ℕ, zero, suc, ◌+◌, ◌*◌, ◌-◌, ◌/◌, ◌≤◌, ◌<◌, pos}
use Rattle.std.proofs.Common.{sym, ap, ◌∙◌, arith, mul-le-mul_right, leb-true, le-leb}
use Rattle.std.proofs.lemmas.Int.{ints}
use Rattle.words.specs.Tests.{pick}
use Rattle.words.specs.Integers.{up}
use Rattle.words.specs.Iterate.{all}
use Rattle.words.proofs.IterateLaws.{all_true, all_false}
use Rattle.formats.specs.Table.{bytes_of}
use Rattle.formats.specs.Classes.{is_packed_yuv, is_planar_yuv}
use Rattle.places.specs.declared.Side.{Side}
use Rattle.places.specs.Places.{place_of, from_place, started, planar_places, places_at, places_in, texel_in, inside_all}
use Rattle.places.proofs.InsideLaws.{from_place_in, texel_fits, texel_in_places}
use Rattle.places.proofs.PlanarRegions.{started_in, planar_lower}

-- ---- units
-- n bytes that end no higher than others within a length
bytes_lower : (len n a b : ℕ) → a ≤ b → places_in len (from_place (pos b) n) ≡ true → places_in len (from_place (pos a) n) ≡ true
unfolding places_in
bytes_lower len zero a b h t = refl
bytes_lower len (suc n) a b h t =
    let some : 0 < suc n = omega arith in
    from_place_in len (suc n) (pos a) some
    ∙ le-leb (a + suc n) len (omega (arith, h, leb-true (b + suc n) len (sym (from_place_in len (suc n) (pos b) some) ∙ t)))

module _ (side : Side) (pitch : ℕ) (on : side.pitch ≡ pos pitch) where
  place_on : (size z y x : ℕ) → place_of side size z y x ≡ pos (side.start + z * side.slice_pitch + x * size + pitch * y)
  unfolding place_of
  place_on size z y x = rw on (omega (arith, ints))

  module _ (z y x z' y' x' : ℕ) (hz : z ≤ z') (hy : y ≤ y') (hx : x ≤ x') where
    unit_lower : (len size u u' : ℕ) → u ≤ u' → places_in len (from_place (place_of side size z' y' u') size) ≡ true → places_in len (from_place (place_of side size z y u) size) ≡ true
    unit_lower len size u u' hu t =
        ap (λ k. places_in len (from_place k size)) (place_on size z y u)
        ∙ bytes_lower len size _ _ (omega (arith, mul-le-mul_right side.slice_pitch hz, mul-le-mul_right size hu, mul-le-mul_right pitch hy))
        (sym (ap (λ k. places_in len (from_place k size)) (place_on size z' y' u')) ∙ t)

    -- ---- texels
    pub places_lower : (len f : ℕ) → places_in len (places_at f side z' y' x') ≡ true → places_in len (places_at f side z y x) ≡ true
    unfolding places_at
    places_lower len f h = go (is_planar_yuv f) (is_packed_yuv f) h
      where
        rows : ℕ
        rows = side.slice_pitch / up side.pitch

        go : (p q : Bool)
            → places_in len (pick p (started side.start (planar_places f (up side.pitch) rows y' x')) (pick q (from_place (place_of side 4 z' y' (x' / 2)) 4) (from_place (place_of side (bytes_of f) z' y' x') (bytes_of f)))) ≡ true
            → places_in len (pick p (started side.start (planar_places f (up side.pitch) rows y x)) (pick q (from_place (place_of side 4 z y (x / 2)) 4) (from_place (place_of side (bytes_of f) z y x) (bytes_of f)))) ≡ true
        go true q k =
            started_in len side.start (planar_places f (up side.pitch) rows y x)
            ∙ planar_lower y x y' x' hy hx (up side.pitch) rows (len - side.start) f (sym (started_in len side.start (planar_places f (up side.pitch) rows y' x')) ∙ k)
        go false true k = unit_lower len 4 (x / 2) (x' / 2) (omega arith) k
        go false false k = unit_lower len (bytes_of f) x x' hx k

    pub texel_lower : (len f : ℕ) → texel_in len f side z' y' x' ≡ true → texel_in len f side z y x ≡ true
    texel_lower len f h =
        let t = texel_fits len f side z' y' x' h in
        texel_in_places len f side z y x (omega (arith, hx, t.column)) (omega (arith, hy, t.row)) ∙ places_lower len f t.places

-- ---- parts
pub last_inside : (len f pitch : ℕ) (side : Side) (width height depth : ℕ) → side.pitch ≡ pos pitch → 0 < width → 0 < height → 0 < depth
    → texel_in len f side (depth - 1) (side.y + (height - 1)) (side.x + (width - 1)) ≡ inside_all len f side width height depth
unfolding inside_all
last_inside len f pitch side width height depth on pw ph pd = go (texel_in len f side (depth - 1) (side.y + (height - 1)) (side.x + (width - 1))) refl
  where
    go : (t : Bool) → texel_in len f side (depth - 1) (side.y + (height - 1)) (side.x + (width - 1)) ≡ t
        → t ≡ all (λ z. all (λ row. all (λ col. texel_in len f side z (side.y + row) (side.x + col)) width) height) depth
    go true e =
        sym (all_true _ depth λ z zl. all_true _ height λ row rl. all_true _ width λ col cl.
        texel_lower side pitch on z (side.y + row) (side.x + col) (depth - 1) (side.y + (height - 1)) (side.x + (width - 1)) (omega (arith, zl)) (omega (arith, rl)) (omega (arith, cl)) len f e)
    go false e =
        sym (all_false _ depth (depth - 1) (omega (arith, pd)) (all_false _ height (height - 1) (omega (arith, ph)) (all_false _ width (width - 1) (omega (arith, pw)) e)))
