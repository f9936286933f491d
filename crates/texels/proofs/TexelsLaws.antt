-- Laws on what specs/Texels defines. Assumes nothing.
use Rattle.std.specs.Prelude.{◌≡◌, refl, ◌<◌}
use Rattle.formats.specs.Lanes.{red, green, alpha, luminance}
use Rattle.channels.specs.Fractions.{◌over◌, Near}
use Rattle.texels.specs.declared.Texel.{Texel}
use Rattle.texels.specs.Texels.{Values, quarters}

-- ---- exact values, in 255ths of full scale
-- a texel of bytes, each within 3/4 of its exact value: what every kind of source has to show
pub record Stands (t : Texel) (x : Values) : Type 0 where
  pub r_byte : t.r < 256
  pub g_byte : t.g < 256
  pub b_byte : t.b < 256
  pub a_byte : t.a < 256
  pub r_near : Near 3 (t.r over 1) x.r
  pub g_near : Near 3 (t.g over 1) x.g
  pub b_near : Near 3 (t.b over 1) x.b
  pub a_near : Near 3 (t.a over 1) x.a

-- ---- how far a stored number may lie from its exact value, in quarters: four times the step, and 3
pub quarters_read : (quarters red 8 ≡ 3) × (quarters luminance 8 ≡ 5) × (quarters green 6 ≡ 15) × (quarters red 5 ≡ 31) × (quarters alpha 4 ≡ 63) × (quarters alpha 1 ≡ 511)
quarters_read = (refl, refl, refl, refl, refl, refl)
