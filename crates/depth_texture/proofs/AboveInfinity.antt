-- Four bytes above infinity's pattern hold a NaN or a negative number, which count as 0; others hold no NaN. Assumes nothing.
use Rattle.std.proofs.Common.{◌≡◌, ℕ, ◌-◌, ◌%◌, ◌≤◌, ◌<◌, List, length, take, drop, ap, ◌∙◌, subst, not, arith, T, ltb→lt}
use lib.Dec.{not_T}
use lib.Ieee.{nan_bits}
use lib.Ieee.Bits.{nan_bits_above}
use Rattle.std.specs.Float.{binary32}
use Rattle.std.specs.Float.Ieee.{of_bits}
use Rattle.words.specs.Little.{number}
use Rattle.words.proofs.LittleLaws.{number_rest}
use Rattle.channels.specs.Floats.{clamped}
use Rattle.channels.proofs.FloatsLaws.{as_zero}
use Rattle.depth_texture.specs.PixelBytes.{depth_at}

pub above_infinity : (plane : List ℕ) (at bits : ℕ) → bits ≡ number (take 4 (take (length plane - at) (drop at plane))) → 2139095040 < bits → clamped (of_bits binary32 0) ≡ clamped (depth_at plane at)
unfolding depth_at
above_infinity plane at bits e h = as_zero bits h ∙ ap clamped (ap (of_bits binary32) (e ∙ number_rest 4 at plane))

pub no_nan_bits : (b : ℕ) → b ≤ 2139095040 → T (not (nan_bits binary32 b))
no_nan_bits b h = not_T (nan_bits binary32 b) (λ t. above b h (ltb→lt 2139095040 (b % 2147483648) (subst T (nan_bits_above binary32 b) t)))
  where
    above : (n : ℕ) → n ≤ 2139095040 → 2139095040 < n % 2147483648 → ⊥
    above n h k = omega arith
