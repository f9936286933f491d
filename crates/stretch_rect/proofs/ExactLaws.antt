-- How near the colour of a YUV texel lies to its exact values, in quarters. Assumes nothing.
use Rattle.std.specs.Prelude.{ℕ, ℤ}
use Rattle.std.proofs.Common.{◌*◌, ◌≤◌, ◌<◌, arith, lit<, lit≤}
use Rattle.words.specs.Integers.{clamp_to}
use Rattle.channels.specs.Fractions.{◌over◌, Near}
use Rattle.channels.proofs.FractionsLaws.{whole_near}
use Rattle.stretch_rect.specs.declared.Rgb.{Rgb}
use Rattle.stretch_rect.specs.Exact.{clamped_value}
use Rattle.stretch_rect.specs.declared.sets.YuvSet.{YuvSet}
use Rattle.stretch_rect.specs.Sets.{bt601}
use Rattle.stretch_rect.specs.Yuv.{set_unit, decimal_unit, ByteNear, RgbNear, rgb_of, red_exact, green_exact, blue_exact, red_decimal, green_decimal, blue_decimal}
use Rattle.stretch_rect.proofs.NearnessLaws.{set_near}
use Rattle.stretch_rect.proofs.Decimals.{bt601_near}

-- a colour lies within 3/4 of three exact values, clamped
pub record RgbStands (unit : ℕ) (red green blue : ℤ) (p : Rgb) : Type 0 where
  pub red_stands : Near 3 (p.r over 1) (clamped_value unit red)
  pub green_stands : Near 3 (p.g over 1) (clamped_value unit green)
  pub blue_stands : Near 3 (p.b over 1) (clamped_value unit blue)

byte_stands : {unit slack b : ℕ} {z : ℤ} → 0 < unit → 4 * slack ≤ 3 * unit → ByteNear unit slack z b → Near 3 (b over 1) (clamped_value unit z)
byte_stands {unit} {slack} {b} {z} U h n =
    whole_near 3 b (clamp_to (255 * unit) z) unit U (omega (arith, n.not_above)) (omega (arith, n.not_below))

stands : {unit slack : ℕ} {red green blue : ℤ} {p : Rgb} → 0 < unit → 4 * slack ≤ 3 * unit → RgbNear unit slack red green blue p → RgbStands unit red green blue p
stands U h n = record { red_stands = byte_stands U h n.red_near; green_stands = byte_stands U h n.green_near; blue_stands = byte_stands U h n.blue_near }

-- the decimals of bt601, at every sample of three bytes
pub bt601_stands : (y u v : ℕ) → y < 256 → u < 256 → v < 256 → RgbStands decimal_unit (red_decimal y u v) (green_decimal y u v) (blue_decimal y u v) (rgb_of bt601 y u v)
bt601_stands y u v hy hu hv = stands (lit< tt) (lit≤ tt) (bt601_near y u v hy hu hv)

-- any set's own numbers
pub set_stands : (s : YuvSet) (y u v : ℕ) → RgbStands set_unit (red_exact s y u v) (green_exact s y u v) (blue_exact s y u v) (rgb_of s y u v)
set_stands s y u v = stands (lit< tt) (lit≤ tt) (set_near s y u v)
