-- A part of a planar picture lies inside where its last texel does. Assumes nothing.
use Rattle.std.specs.Prelude.{◌≡◌, refl, Bool, true, false, ◌&&◌, List, [], ◌∷◌, map, ℕ, ◌+◌, ◌-◌, ◌/◌, ◌≤◌, ◌<◌, ltb, eqb}
use Rattle.std.proofs.Common.{sym, ap, ap₂, ◌∙◌, arith, mul-le-mul_right, ltb-true, ltb-false, lt-ltb, le-ltb}
use Rattle.std.proofs.lemmas.Bool.{false≢true, and_parts}
use Rattle.words.specs.Tests.{pick}
use Rattle.words.specs.Integers.{up}
use Rattle.words.specs.Iterate.{all}
use Rattle.words.proofs.IterateLaws.{all_true, all_false}
use Rattle.formats.specs.Codes.{YV12}
use Rattle.formats.specs.Classes.{is_planar_yuv}
use Rattle.planar_yuv.specs.Rules.{allowed}
use Rattle.planar_yuv.specs.Offsets.{contains, luma_offset_at, nv12_u, nv12_v, yv12_u, yv12_v, u_offset_at, v_offset_at}
use Rattle.planar_yuv.proofs.OffsetsLaws.{contains_is, contains_yes}
use Rattle.places.specs.declared.Side.{Side}
use Rattle.places.specs.Places.{Places, absent, offsets, started, planar_places, all_below, places_in, texel_in, inside_all}
use Rattle.places.proofs.InsideLaws.{places_at_planar, texel_in_places}

-- ---- a layout that starts at a byte: what is left of the length behind it is asked of the offsets
ltb_started : (len start o : ℕ) → ltb (start + o) len ≡ ltb o (len - start)
ltb_started len start o = go (ltb o (len - start)) refl
  where
    go : (t : Bool) → ltb o (len - start) ≡ t → ltb (start + o) len ≡ t
    go true e = lt-ltb (start + o) len (omega (arith, ltb-true o (len - start) e))
    go false e = le-ltb (start + o) len (omega (arith, ltb-false o (len - start) e))

below_started : (len start : ℕ) (os : List ℕ) → all_below len (map (λ o. start + o) os) ≡ all_below (len - start) os
below_started len start [] = refl
below_started len start (o ∷ os) = ap₂ (λ a b. a && b) (ltb_started len start o) (below_started len start os)

pub started_in : (len start : ℕ) (p : Places) → places_in len (started start p) ≡ places_in (len - start) p
unfolding places_in
started_in len start absent = refl
started_in len start (offsets os) = below_started len start os

-- ---- offsets of a texel further on are no lower
abbrev NoLower : List ℕ → List ℕ → Type 0
NoLower [] [] = Unit {0}
NoLower [] (b ∷ bs) = ⊥
NoLower (a ∷ as') [] = ⊥
NoLower (a ∷ as') (b ∷ bs) = (a ≤ b) × NoLower as' bs

below_lower : (len : ℕ) (as' bs : List ℕ) → NoLower as' bs → all_below len bs ≡ true → all_below len as' ≡ true
below_lower len [] [] h t = refl
below_lower len [] (b ∷ bs) h t = absurd h
below_lower len (a ∷ as') [] h t = absurd h
below_lower len (a ∷ as') (b ∷ bs) h t =
    let l = ltb-true b len (and_parts (ltb b len) (all_below len bs) t).0 in
    rw (lt-ltb a len (omega (arith, h.0)), below_lower len as' bs h.1 (and_parts (ltb b len) (all_below len bs) t).1) refl

module _ (y x y' x' : ℕ) (hy : y ≤ y') (hx : x ≤ x') where
  half_y : y / 2 ≤ y' / 2
  half_y = omega arith

  module _ (pitch rows : ℕ) where
    luma_lower : luma_offset_at pitch x y ≤ luma_offset_at pitch x' y'
    unfolding luma_offset_at
    luma_lower = omega (arith, mul-le-mul_right pitch hy)

    nv12_lower : nv12_u pitch rows x y ≤ nv12_u pitch rows x' y'
    unfolding nv12_u
    nv12_lower = omega (arith, mul-le-mul_right pitch half_y)

    yv12_lower : yv12_v pitch rows x y ≤ yv12_v pitch rows x' y'
    unfolding yv12_v
    yv12_lower = omega (arith, mul-le-mul_right (pitch / 2) half_y)

    u_by : (t : Bool) → pick t yv12_u nv12_u pitch rows x y ≤ pick t yv12_u nv12_u pitch rows x' y'
    unfolding yv12_u
    u_by true = omega (arith, yv12_lower)
    u_by false = nv12_lower

    v_by : (t : Bool) → pick t yv12_v nv12_v pitch rows x y ≤ pick t yv12_v nv12_v pitch rows x' y'
    unfolding nv12_v
    v_by true = yv12_lower
    v_by false = omega (arith, nv12_lower)

    u_lower : (f : ℕ) → u_offset_at f pitch rows x y ≤ u_offset_at f pitch rows x' y'
    unfolding u_offset_at
    u_lower f = u_by (eqb f YV12)

    v_lower : (f : ℕ) → v_offset_at f pitch rows x y ≤ v_offset_at f pitch rows x' y'
    unfolding v_offset_at
    v_lower f = v_by (eqb f YV12)

    pub planar_lower : (len f : ℕ) → places_in len (planar_places f pitch rows y' x') ≡ true → places_in len (planar_places f pitch rows y x) ≡ true
    unfolding places_in
    planar_lower len f h = go (allowed f pitch rows) (contains pitch rows x' y') refl refl h
      where
        os : List ℕ
        os = luma_offset_at pitch x y ∷ u_offset_at f pitch rows x y ∷ v_offset_at f pitch rows x y ∷ []

        os' : List ℕ
        os' = luma_offset_at pitch x' y' ∷ u_offset_at f pitch rows x' y' ∷ v_offset_at f pitch rows x' y' ∷ []

        go : (a c : Bool) → allowed f pitch rows ≡ a → contains pitch rows x' y' ≡ c → places_in len (pick a (pick c (offsets os') absent) absent) ≡ true → places_in len (planar_places f pitch rows y x) ≡ true
        go true true e e' k =
            let i = contains_is pitch rows x' y' e' in
            rw (e, contains_yes pitch rows x y (omega (arith, i.0), omega (arith, i.1)))
            (below_lower len os os' (luma_lower, (u_lower f, (v_lower f, tt))) k)
        go true false e e' k = absurd (false≢true k)
        go false c e e' k = absurd (false≢true k)

-- ---- the part
module _ (len f : ℕ) (side : Side) (width height depth : ℕ) (planar : is_planar_yuv f ≡ true) (pw : 0 < width) (ph : 0 < height) (pd : 0 < depth)
    (xs : side.x + (width - 1) ≤ 4294967295) (ys : side.y + (height - 1) ≤ 4294967295) where
  abbrev lies : (y x : ℕ) → Bool
  lies y x = places_in (len - side.start) (planar_places f (up side.pitch) (side.slice_pitch / up side.pitch) y x)

  texel_lies : (z y x : ℕ) → x ≤ 4294967295 → y ≤ 4294967295 → texel_in len f side z y x ≡ lies y x
  texel_lies z y x hx hy =
      texel_in_places len f side z y x hx hy ∙ ap (places_in len) (places_at_planar f side z y x planar)
      ∙ started_in len side.start (planar_places f (up side.pitch) (side.slice_pitch / up side.pitch) y x)

  pub last_decides : lies (side.y + (height - 1)) (side.x + (width - 1)) ≡ inside_all len f side width height depth
  unfolding inside_all
  last_decides = go (lies (side.y + (height - 1)) (side.x + (width - 1))) refl
    where
      go : (t : Bool) → lies (side.y + (height - 1)) (side.x + (width - 1)) ≡ t → t ≡ all (λ z. all (λ row. all (λ col. texel_in len f side z (side.y + row) (side.x + col)) width) height) depth
      go true e =
          sym (all_true _ depth λ z zl. all_true _ height λ row rl. all_true _ width λ col cl.
          texel_lies z (side.y + row) (side.x + col) (omega arith) (omega arith)
          ∙ planar_lower (side.y + row) (side.x + col) (side.y + (height - 1)) (side.x + (width - 1)) (omega (arith, rl)) (omega (arith, cl)) (up side.pitch) (side.slice_pitch / up side.pitch) (len - side.start) f e)
      go false e =
          sym (all_false _ depth 0 pd (all_false _ height (height - 1) (omega (arith, ph)) (all_false _ width (width - 1) (omega (arith, pw))
          (texel_lies 0 (side.y + (height - 1)) (side.x + (width - 1)) xs ys ∙ e))))
