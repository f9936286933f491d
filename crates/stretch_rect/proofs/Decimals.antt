-- The numbers of bt601 are its decimals, rounded to 65536ths: so near that each byte is within 1/2 + 1/500 of what the
-- decimals define, clamped. Assumes nothing.
use Rattle.std.proofs.Common.{◌≡◌, ℕ, ◌+◌, ◌*◌, ◌<◌, ◌≤◌, ℤ, pos, ◌-ℤ◌, ◌*ℤ◌, ap, ⊎_elim, arith}
use Rattle.words.specs.Integers.{up}
use Rattle.words.proofs.IntegersLaws.{dn, one_zero, sum, difference, times_up, times_dn, scaled_difference}
use Rattle.stretch_rect.specs.Sets.{bt601}
use Rattle.stretch_rect.specs.Yuv.{set_unit, set_slack, decimal_unit, decimal_slack, ByteNear, RgbNear, rgb_of, red_exact, green_exact, blue_exact, luma_exact, chroma_exact, luma_decimal, chroma_decimal, red_decimal, green_decimal, blue_decimal}
use Rattle.stretch_rect.proofs.NearnessLaws.{clamp_is, set_near}

-- x, in units of 1 / 65536², and d, in units of 1 / 2000000, are less than 1/500 - 1/16384 apart
record Close (x d : ℤ) : Type 0 where
  over : up x * decimal_unit + dn d * set_unit ≤ up d * set_unit + dn x * decimal_unit + 16655581184000
  under : up d * set_unit + dn x * decimal_unit ≤ up x * decimal_unit + dn d * set_unit + 16655581184000

-- from a set's own numbers to the decimals
moved : (x d : ℤ) (b : ℕ) → Close x d → ByteNear set_unit set_slack x b → ByteNear decimal_unit decimal_slack d b
moved x d b c n = record {
  not_above = ⊎_elim (λ e. omega (arith, clamp_is 510000000 d, clamp_is 1095216660480 x)) (λ e. omega (arith, clamp_is 510000000 d, clamp_is 1095216660480 x)) (one_zero x);
  not_below = ⊎_elim (λ e. omega (arith, clamp_is 510000000 d, clamp_is 1095216660480 x)) (λ e. omega (arith, clamp_is 510000000 d, clamp_is 1095216660480 x)) (one_zero d);
}

luma_line : (y : ℕ) → up (luma_exact 1052836 76284 y) + 80314541424 ≡ dn (luma_exact 1052836 76284 y) + y * 4999348224
unfolding luma_exact
luma_line y = omega (arith, scaled_difference (y * 65536) 1052836 76284)

luma_decimal_line : (y : ℕ) → up (luma_decimal y) + 37399320 ≡ dn (luma_decimal y) + y * 2328000
unfolding luma_decimal
luma_decimal_line y = omega (arith, scaled_difference (y * 1000) 16065 2328)

chroma_line : (g c : ℕ) → up (chroma_exact 255 g c) + 8355840 * g ≡ dn (chroma_exact 255 g c) + 65536 * (c * g)
unfolding chroma_exact
chroma_line g c = omega (arith, times_up ((pos (c * 2) -ℤ pos 255) *ℤ pos 32768) g, times_dn ((pos (c * 2) -ℤ pos 255) *ℤ pos 32768) g, ap (λ n. n * g) (scaled_difference (c * 2) 255 32768))

chroma_decimal_line : (g c : ℕ) → up (chroma_decimal g c) + 255000 * g ≡ dn (chroma_decimal g c) + 2000 * (c * g)
unfolding chroma_decimal
chroma_decimal_line g c = omega (arith, scaled_difference (c * 2) 255 (g * 1000))

module _ (y u v : ℕ) (hy : y < 256) (hu : u < 256) (hv : v < 256) where
  red_close : Close (red_exact bt601 y u v) (red_decimal y u v)
  unfolding red_exact red_decimal
  red_close = omega (arith, sum (luma_exact 1052836 76284 y) (chroma_exact 255 104595 v), sum (luma_decimal y) (chroma_decimal 1596 v), luma_line y, luma_decimal_line y, chroma_line 104595 v, chroma_decimal_line 1596 v)

  green_close : Close (green_exact bt601 y u v) (green_decimal y u v)
  unfolding green_exact green_decimal
  green_close = omega (arith, difference (luma_exact 1052836 76284 y -ℤ chroma_exact 255 25690 u) (chroma_exact 255 53281 v), difference (luma_exact 1052836 76284 y) (chroma_exact 255 25690 u), difference (luma_decimal y -ℤ chroma_decimal 392 u) (chroma_decimal 813 v), difference (luma_decimal y) (chroma_decimal 392 u), luma_line y, luma_decimal_line y, chroma_line 25690 u, chroma_decimal_line 392 u, chroma_line 53281 v, chroma_decimal_line 813 v)

  blue_close : Close (blue_exact bt601 y u v) (blue_decimal y u v)
  unfolding blue_exact blue_decimal
  blue_close = omega (arith, sum (luma_exact 1052836 76284 y) (chroma_exact 255 132186 u), sum (luma_decimal y) (chroma_decimal 2017 u), luma_line y, luma_decimal_line y, chroma_line 132186 u, chroma_decimal_line 2017 u)

  -- every sample of three bytes
  pub bt601_near : RgbNear decimal_unit decimal_slack (red_decimal y u v) (green_decimal y u v) (blue_decimal y u v) (rgb_of bt601 y u v)
  bt601_near =
      let n = set_near bt601 y u v in
      record {
        red_near = moved (red_exact bt601 y u v) (red_decimal y u v) (rgb_of bt601 y u v).r red_close n.red_near;
        green_near = moved (green_exact bt601 y u v) (green_decimal y u v) (rgb_of bt601 y u v).g green_close n.green_near;
        blue_near = moved (blue_exact bt601 y u v) (blue_decimal y u v) (rgb_of bt601 y u v).b blue_close n.blue_near;
      }
