-- The bound of every set of numbers. Assumes nothing.
use Rattle.std.specs.Prelude.{◌≡◌, refl, ℕ, ◌+◌, ◌*◌, ◌<◌, ◌≤◌, min, ℤ, pos, negsuc, ◌+ℤ◌, ◌-ℤ◌}
use Rattle.std.proofs.Common.{sym, ap, ◌∙◌, ⊎_elim, arith, mul-le-mul_right, lit<}
use Rattle.std.proofs.Math.Nat.{min-eq_left, min-eq_right}
use Rattle.std.proofs.Math.Decide.{dec_le}
use Rattle.words.specs.Integers.{floor_div, clamp_to, up}
use Rattle.words.proofs.IntegersLaws.{dn, up_pos, dn_pos, one_zero, sum, difference, floor_low, floor_high}
use Rattle.stretch_rect.specs.Yuv.{set_unit, set_slack, nearest_whole, ByteNear, RgbNear, rgb_of, red_rounded, green_rounded, blue_rounded, red_exact, green_exact, blue_exact, luma_part, chroma_part, luma_exact, chroma_exact}
use Rattle.stretch_rect.specs.declared.sets.YuvSet.{YuvSet}

pub clamp_is : (top : ℕ) (z : ℤ) → clamp_to top z ≡ min (up z) top
unfolding clamp_to up
clamp_is top (pos n) = refl
clamp_is top (negsuc n) = omega arith

-- a clamp, times a number
min_times : (a b k : ℕ) → min a b * k ≡ min (a * k) (b * k)
min_times a b k = by (dec_le a b)
  where
    by : Dec (a ≤ b) → min a b * k ≡ min (a * k) (b * k)
    by (yes h) = ap (λ n. n * k) (min-eq_left h) ∙ sym (min-eq_left (mul-le-mul_right k h))
    by (no f) = let h : b ≤ a = omega arith in ap (λ n. n * k) (min-eq_right h) ∙ sym (min-eq_right (mul-le-mul_right k h))

-- clamping brings two numbers no further apart
pub near_of : (unit slack : ℕ) (q x : ℤ) →
    up q * unit + dn x ≤ up x + dn q * unit + slack →
    up x + dn q * unit ≤ up q * unit + dn x + slack →
    ByteNear unit slack x (clamp_to 255 q)
near_of unit slack q x h i = ⊎_elim no_up no_dn (one_zero q)
  where
    cq : clamp_to 255 q * unit ≡ min (up q * unit) (255 * unit)
    cq = ap (λ n. n * unit) (clamp_is 255 q) ∙ min_times (up q) 255 unit

    cx : clamp_to (255 * unit) x ≡ min (up x) (255 * unit)
    cx = clamp_is (255 * unit) x

    below : min (up x) (255 * unit) ≤ min (up q * unit) (255 * unit) + slack
    below = ⊎_elim (λ e. omega arith) (λ e. omega arith) (one_zero x)

    no_up : up q ≡ 0 → ByteNear unit slack x (clamp_to 255 q)
    no_up e = let z : up q * unit ≡ 0 * unit = ap (λ n. n * unit) e in record { not_above = omega (arith, cq, cx, below); not_below = omega (arith, cq, cx, below) }

    no_dn : dn q ≡ 0 → ByteNear unit slack x (clamp_to 255 q)
    no_dn e = let z : dn q * unit ≡ 0 * unit = ap (λ n. n * unit) e in record { not_above = omega (arith, cq, cx, below); not_below = omega (arith, cq, cx, below) }

-- the quotient by 65536, rounded down, in parts
low : (z : ℤ) → up (floor_div z 65536) * 65536 + dn z ≤ up z + dn (floor_div z 65536) * 65536
low z = floor_low z 65536 (lit< tt)

high : (z : ℤ) → up z + dn (floor_div z 65536) * 65536 < up (floor_div z 65536) * 65536 + 65536 + dn z
high z = floor_high z 65536 (lit< tt)

-- the nearest whole number to z 65536ths
nearest_low : (z : ℤ) → up (nearest_whole z) * 65536 + dn z ≤ up z + 32768 + dn (nearest_whole z) * 65536
unfolding nearest_whole
nearest_low z = omega (arith, sum z (pos 32768), up_pos 32768, dn_pos 32768, low (z +ℤ pos 32768))

nearest_high : (z : ℤ) → up z + dn (nearest_whole z) * 65536 < up (nearest_whole z) * 65536 + 32768 + dn z
unfolding nearest_whole
nearest_high z = omega (arith, sum z (pos 32768), up_pos 32768, dn_pos 32768, high (z +ℤ pos 32768))

-- two parts are added, as for red and blue
pub added_near : (l r : ℤ) → ByteNear set_unit set_slack (l +ℤ r) (clamp_to 255 (nearest_whole (floor_div l 65536 +ℤ floor_div r 65536)))
added_near l r = near_of set_unit set_slack (nearest_whole (floor_div l 65536 +ℤ floor_div r 65536)) (l +ℤ r)
    (omega (arith, nearest_low (floor_div l 65536 +ℤ floor_div r 65536), sum (floor_div l 65536) (floor_div r 65536), sum l r, low l, low r))
    (omega (arith, nearest_high (floor_div l 65536 +ℤ floor_div r 65536), sum (floor_div l 65536) (floor_div r 65536), sum l r, high l, high r))

-- two parts are taken away, as for green
pub taken_near : (l a b : ℤ) → ByteNear set_unit set_slack (l -ℤ a -ℤ b) (clamp_to 255 (nearest_whole (floor_div l 65536 -ℤ floor_div a 65536 -ℤ floor_div b 65536)))
taken_near l a b = near_of set_unit set_slack (nearest_whole (floor_div l 65536 -ℤ floor_div a 65536 -ℤ floor_div b 65536)) (l -ℤ a -ℤ b)
    (omega (arith, nearest_low (floor_div l 65536 -ℤ floor_div a 65536 -ℤ floor_div b 65536), difference (floor_div l 65536 -ℤ floor_div a 65536) (floor_div b 65536), difference (floor_div l 65536) (floor_div a 65536), difference (l -ℤ a) b, difference l a, low l, high a, high b))
    (omega (arith, nearest_high (floor_div l 65536 -ℤ floor_div a 65536 -ℤ floor_div b 65536), difference (floor_div l 65536 -ℤ floor_div a 65536) (floor_div b 65536), difference (floor_div l 65536) (floor_div a 65536), difference (l -ℤ a) b, difference l a, high l, low a, low b))

-- THE GENERAL BOUND: at every set of numbers and all samples, each byte is within 1/2 + 1/16384 of what the set's own numbers define, clamped
pub set_near : (s : YuvSet) (y u v : ℕ) → RgbNear set_unit set_slack (red_exact s y u v) (green_exact s y u v) (blue_exact s y u v) (rgb_of s y u v)
unfolding rgb_of red_exact green_exact blue_exact red_rounded green_rounded blue_rounded luma_part chroma_part
set_near s y u v =
    let l = luma_exact s.luma_offset s.luma_gain y in
    let n = s.chroma_centre in
    record {
      red_near = added_near l (chroma_exact n s.v_to_red v);
      green_near = taken_near l (chroma_exact n s.u_to_green u) (chroma_exact n s.v_to_green v);
      blue_near = added_near l (chroma_exact n s.u_to_blue u);
    }
