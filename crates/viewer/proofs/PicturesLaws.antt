-- Where texels lie, and that the corners of a region decide, or its last texel. Assumes nothing.
use Rattle.std.specs.Prelude.{◌≡◌, refl, Bool, true, false, ◌||◌, ℕ, ◌+◌, ◌*◌, ◌-◌, ◌/◌, ◌≤◌, ◌<◌}
use Rattle.std.proofs.Common.{sym, ap, ◌∙◌, ⊎_elim, arith, mul-le-mul_right}
use Rattle.std.proofs.lemmas.Bool.{false≢true}
use Rattle.words.specs.Integers.{up}
use Rattle.words.proofs.IntegersLaws.{dn, one_zero}
use Rattle.words.proofs.IterateLaws.{all_true}
use Rattle.formats.specs.Table.{bytes_of}
use Rattle.formats.specs.Classes.{is_yuv, is_lane_source}
use Rattle.formats.specs.Formats.{is_source}
use Rattle.formats.proofs.Listed.{lane_some, lane_only}
use Rattle.places.specs.declared.Side.{Side}
use Rattle.places.specs.Places.{place_of, places_in, texel_in, inside_all}
use Rattle.places.specs.Inside.{bytes_in}
use Rattle.places.proofs.InsideLaws.{upright, texel_fits, texel_in_places, places_at_planar, lanes_in, packed_in, inside_at}
use Rattle.places.proofs.LastTexel.{places_lower, texel_lower, last_inside}
use Rattle.places.proofs.PlanarRegions.{started_in, last_decides}
use Rattle.places.proofs.Rows.{parts, in_yes, in_parts}
use Rattle.regions.proofs.Fetch.{kind}
use Rattle.viewer.specs.Pictures.{UprightByRows, CornersIn, CornersDecide, LastDecides}

pub upright_by_rows : UprightByRows
upright_by_rows = upright

-- ---- a unit between three that lie within a length
module _ (len n : ℕ) (side : Side) (first last rows slices : ℕ)
    (b : bytes_in len n (place_of side n 0 (side.y + rows) first) ≡ true)
    (c : bytes_in len n (place_of side n slices side.y last) ≡ true)
    (d : bytes_in len n (place_of side n slices (side.y + rows) last) ≡ true) where
  between : (z y k : ℕ) → z ≤ slices → side.y ≤ y → y ≤ side.y + rows → first ≤ k → k ≤ last → bytes_in len n (place_of side n z y k) ≡ true
  between z y k zl yl yh kl kh =
      let p = place_of side n z y k in
      let g = parts side n z y k in
      let gb = parts side n 0 (side.y + rows) first in
      let gc = parts side n slices side.y last in
      let gd = parts side n slices (side.y + rows) last in
      let ib = in_parts len n (place_of side n 0 (side.y + rows) first) b in
      let ic = in_parts len n (place_of side n slices side.y last) c in
      let id = in_parts len n (place_of side n slices (side.y + rows) last) d in
      let hz : z * side.slice_pitch ≤ slices * side.slice_pitch = mul-le-mul_right side.slice_pitch zl in
      let lo : first * n ≤ k * n = mul-le-mul_right n kl in
      let hi : k * n ≤ last * n = mul-le-mul_right n kh in
      let dl : side.y * dn side.pitch ≤ y * dn side.pitch = mul-le-mul_right (dn side.pitch) yl in
      let dh : y * dn side.pitch ≤ (side.y + rows) * dn side.pitch = mul-le-mul_right (dn side.pitch) yh in
      let uh : y * up side.pitch ≤ (side.y + rows) * up side.pitch = mul-le-mul_right (up side.pitch) yh in
      ⊎_elim
      (λ (e : up side.pitch ≡ 0).
      let u : y * up side.pitch ≡ y * 0 = ap (λ k. y * k) e in
      let u0 : side.y * up side.pitch ≡ side.y * 0 = ap (λ k. side.y * k) e in
      let u1 : (side.y + rows) * up side.pitch ≡ (side.y + rows) * 0 = ap (λ k. (side.y + rows) * k) e in
      let q : dn p ≡ 0 = ⊎_elim (λ j. omega (arith, g, gb, ib.0, u, u1, dh, lo, j)) (λ j. j) (one_zero p) in
      in_yes len n p q (omega (arith, g, gc, ic.0, ic.1, q, u, u0, dl, hz, hi)))
      (λ (e : dn side.pitch ≡ 0).
      let v : y * dn side.pitch ≡ y * 0 = ap (λ k. y * k) e in
      let v1 : (side.y + rows) * dn side.pitch ≡ (side.y + rows) * 0 = ap (λ k. (side.y + rows) * k) e in
      let q : dn p ≡ 0 = ⊎_elim (λ j. omega (arith, g, v, j)) (λ j. j) (one_zero p) in
      in_yes len n p q (omega (arith, g, gd, id.0, id.1, q, v, v1, uh, hz, hi)))
      (one_zero side.pitch)

-- ---- regions
module _ (len f : ℕ) (side : Side) (width height depth : ℕ) (pw : 0 < width) (ph : 0 < height) (pd : 0 < depth) where
  all_corners : inside_all len f side width height depth ≡ true → CornersIn len f side width height depth
  all_corners h =
      let at = inside_at len f side width height depth h in
      let row : side.y + 0 ≡ side.y = omega arith in
      let column : side.x + 0 ≡ side.x = omega arith in
      record {
        first_below = ap (texel_in len f side 0 (side.y + (height - 1))) (sym column) ∙ at 0 (height - 1) 0 pd (omega (arith, ph)) pw;
        last_above = ap (λ y. texel_in len f side (depth - 1) y (side.x + (width - 1))) (sym row) ∙ at (depth - 1) 0 (width - 1) (omega (arith, pd)) ph (omega (arith, pw));
        last = at (depth - 1) (height - 1) (width - 1) (omega (arith, pd)) (omega (arith, ph)) (omega (arith, pw));
      }

  module _ (k : CornersIn len f side width height depth) where
    xs : side.x + (width - 1) ≤ 4294967295
    xs = (texel_fits len f side (depth - 1) (side.y + (height - 1)) (side.x + (width - 1)) k.last).column

    ys : side.y + (height - 1) ≤ 4294967295
    ys = (texel_fits len f side (depth - 1) (side.y + (height - 1)) (side.x + (width - 1)) k.last).row

    -- by units of n bytes, of which column x has number u x
    by_units : (n : ℕ) (u : ℕ → ℕ) → ((x x' : ℕ) → x ≤ x' → u x ≤ u x')
        → ((z y x : ℕ) → y ≤ 4294967295 → x ≤ 4294967295 → texel_in len f side z y x ≡ bytes_in len n (place_of side n z y (u x)))
        → inside_all len f side width height depth ≡ true
    unfolding inside_all
    by_units n u on same =
        let b = sym (same 0 (side.y + (height - 1)) side.x ys (omega (arith, xs))) ∙ k.first_below in
        let c = sym (same (depth - 1) side.y (side.x + (width - 1)) (omega (arith, ys)) xs) ∙ k.last_above in
        let d = sym (same (depth - 1) (side.y + (height - 1)) (side.x + (width - 1)) ys xs) ∙ k.last in
        all_true _ depth λ z zl. all_true _ height λ row rl. all_true _ width λ col cl.
        same z (side.y + row) (side.x + col) (omega (arith, ys, rl)) (omega (arith, xs, cl))
        ∙ between len n side (u side.x) (u (side.x + (width - 1))) (height - 1) (depth - 1) b c d z (side.y + row) (u (side.x + col))
        (omega (arith, zl)) (omega arith) (omega (arith, rl)) (on side.x (side.x + col) (omega arith)) (on (side.x + col) (side.x + (width - 1)) (omega (arith, cl)))

    lanes_all : is_lane_source f ≡ true → inside_all len f side width height depth ≡ true
    lanes_all h =
        let o = lane_only f h in
        by_units (bytes_of f) (λ x. x) (λ x x' l. l) (λ z y x yl xl. texel_in_places len f side z y x xl yl ∙ lanes_in len f side z y x o.0 o.1 (lane_some f h))

    yuv_all : is_yuv f ≡ true → inside_all len f side width height depth ≡ true
    yuv_all h =
        kind f h
        (λ p q. by_units 4 (λ x. x / 2) (λ x x' l. omega arith) (λ z y x yl xl. texel_in_places len f side z y x xl yl ∙ packed_in len f side z y x p q))
        (λ p q. sym (last_decides len f side width height depth p pw ph pd xs ys) ∙ sym (started_in len side.start _) ∙ sym (ap (places_in len) (places_at_planar f side (depth - 1) (side.y + (height - 1)) (side.x + (width - 1)) p))
        ∙ (texel_fits len f side (depth - 1) (side.y + (height - 1)) (side.x + (width - 1)) k.last).places)

    corners_all : is_source f ≡ true → inside_all len f side width height depth ≡ true
    corners_all h = go (is_lane_source f) (is_yuv f) refl refl h
      where
        go : (l y : Bool) → is_lane_source f ≡ l → is_yuv f ≡ y → (l || y) ≡ true → inside_all len f side width height depth ≡ true
        go true y e g i = lanes_all e
        go false true e g i = yuv_all g
        go false false e g i = absurd (false≢true i)

pub corners_decide : CornersDecide
corners_decide len f side width height depth s pw ph pd = (all_corners len f side width height depth pw ph pd, λ k. corners_all len f side width height depth pw ph pd k s)

-- ---- where rows go on
pub last_decides_all : LastDecides
last_decides_all = record {
  places = λ len f pitch side on z y x z' y' x' hz hy hx h. places_lower side pitch on z y x z' y' x' hz hy hx len f h;
  texel = λ len f pitch side on z y x z' y' x' hz hy hx h. texel_lower side pitch on z y x z' y' x' hz hy hx len f h;
  region = last_inside;
}
