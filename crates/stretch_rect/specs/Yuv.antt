-- From a YUV sample to a colour in 16.16 fixed point over the integers, for any set of numbers.
-- Assumes nothing.
use Rattle.std.specs.Prelude.{List, [], ◌∷◌, get_or, ℕ, ◌+◌, ◌*◌, ◌/◌, ◌≤◌, ℤ, pos, ◌+ℤ◌, ◌-ℤ◌, ◌*ℤ◌}
use Rattle.words.specs.Integers.{floor_div, clamp_to}
use Rattle.stretch_rect.specs.declared.sets.YuvSet.{YuvSet}
use Rattle.stretch_rect.specs.declared.Rgb.{Rgb}

-- ---- the values that a set's own numbers define
-- they are counted in units of 1 / 65536²
abbrev pub set_unit : ℕ
set_unit = 65536 * 65536

-- the scaled luma, (y - offset / 65536) (gain / 65536)
unfoldable pub luma_exact : (offset gain y : ℕ) → ℤ
luma_exact offset gain y = (pos (y * 65536) -ℤ pos offset) *ℤ pos gain

-- the scaled chroma, (c - centre / 2) (gain / 65536)
unfoldable pub chroma_exact : (centre gain c : ℕ) → ℤ
chroma_exact centre gain c = (pos (c * 2) -ℤ pos centre) *ℤ pos 32768 *ℤ pos gain

-- ---- fixed point
-- the scaled luma, rounded down to 65536ths
unfoldable pub luma_part : (offset gain y : ℕ) → ℤ
luma_part offset gain y = floor_div (luma_exact offset gain y) 65536

-- the scaled chroma, rounded down to 65536ths
unfoldable pub chroma_part : (centre gain c : ℕ) → ℤ
chroma_part centre gain c = floor_div (chroma_exact centre gain c) 65536

-- z 65536ths to the nearest whole number, a half up
unfoldable pub nearest_whole : ℤ → ℤ
nearest_whole z = floor_div (z +ℤ pos 32768) 65536

module _ (s : YuvSet) (y u v : ℕ) where
  -- red is luma and V's part
  unfoldable pub red_exact : ℤ
  red_exact = luma_exact s.luma_offset s.luma_gain y +ℤ chroma_exact s.chroma_centre s.v_to_red v

  -- green is luma less U's part and V's part
  unfoldable pub green_exact : ℤ
  green_exact =
      luma_exact s.luma_offset s.luma_gain y -ℤ chroma_exact s.chroma_centre s.u_to_green u
      -ℤ chroma_exact s.chroma_centre s.v_to_green v

  -- blue is luma and U's part
  unfoldable pub blue_exact : ℤ
  blue_exact = luma_exact s.luma_offset s.luma_gain y +ℤ chroma_exact s.chroma_centre s.u_to_blue u

  -- red in whole numbers, before it is clamped
  unfoldable pub red_rounded : ℤ
  red_rounded = nearest_whole (luma_part s.luma_offset s.luma_gain y +ℤ chroma_part s.chroma_centre s.v_to_red v)

  -- green in whole numbers, before it is clamped
  unfoldable pub green_rounded : ℤ
  green_rounded =
      nearest_whole
      (luma_part s.luma_offset s.luma_gain y -ℤ chroma_part s.chroma_centre s.u_to_green u
      -ℤ chroma_part s.chroma_centre s.v_to_green v)

  -- blue in whole numbers, before it is clamped
  unfoldable pub blue_rounded : ℤ
  blue_rounded = nearest_whole (luma_part s.luma_offset s.luma_gain y +ℤ chroma_part s.chroma_centre s.u_to_blue u)

  -- the colour: each rounded channel clamped to a byte
  unfoldable pub rgb_of : Rgb
  rgb_of = record { r = clamp_to 255 red_rounded; g = clamp_to 255 green_rounded; b = clamp_to 255 blue_rounded }

-- ---- the decimals of bt601
-- they are counted in units of 1 / 2000000
abbrev pub decimal_unit : ℕ
decimal_unit = 2000000

-- 1.164 (y - 16.065)
unfoldable pub luma_decimal : ℕ → ℤ
luma_decimal y = (pos (y * 1000) -ℤ pos 16065) *ℤ pos (1164 * 2)

-- gain / 1000 (c - 127.5)
unfoldable pub chroma_decimal : (gain c : ℕ) → ℤ
chroma_decimal gain c = (pos (c * 2) -ℤ pos 255) *ℤ pos (gain * 1000)

module _ (y u v : ℕ) where
  -- L + 1.596 (V - 127.5)
  unfoldable pub red_decimal : ℤ
  red_decimal = luma_decimal y +ℤ chroma_decimal 1596 v

  -- L - 0.392 (U - 127.5) - 0.813 (V - 127.5)
  unfoldable pub green_decimal : ℤ
  green_decimal = luma_decimal y -ℤ chroma_decimal 392 u -ℤ chroma_decimal 813 v

  -- L + 2.017 (U - 127.5)
  unfoldable pub blue_decimal : ℤ
  blue_decimal = luma_decimal y +ℤ chroma_decimal 2017 u

-- ---- errors
-- the byte b lies within slack of z clamped to 0..255, both in parts of one unit
pub record ByteNear (unit slack : ℕ) (z : ℤ) (b : ℕ) : Type 0 where
  pub not_above : b * unit ≤ clamp_to (255 * unit) z + slack
  pub not_below : clamp_to (255 * unit) z ≤ b * unit + slack

-- each byte of a colour lies within slack of its exact value
pub record RgbNear (unit slack : ℕ) (red green blue : ℤ) (p : Rgb) : Type 0 where
  pub red_near : ByteNear unit slack red p.r
  pub green_near : ByteNear unit slack green p.g
  pub blue_near : ByteNear unit slack blue p.b

-- 1/2 + 1/16384 of a set's own values
abbrev pub set_slack : ℕ
set_slack = set_unit / 2 + set_unit / 16384

-- 1/2 + 1/500 of the decimals of bt601
abbrev pub decimal_slack : ℕ
decimal_slack = decimal_unit / 2 + decimal_unit / 500

-- each byte of a colour lies within 1/2 + 1/16384 of what a set's own numbers define of a sample, clamped
abbrev pub NearOwn : YuvSet → (y u v : ℕ) → Rgb → Type 0
NearOwn s y u v p = RgbNear set_unit set_slack (red_exact s y u v) (green_exact s y u v) (blue_exact s y u v) p

-- each byte of a colour lies within 1/2 + 1/500 of what the decimals of bt601 define of a sample, clamped
abbrev pub NearDecimals : (y u v : ℕ) → Rgb → Type 0
NearDecimals y u v p = RgbNear decimal_unit decimal_slack (red_decimal y u v) (green_decimal y u v) (blue_decimal y u v) p

-- ---- a colour as three bytes, in order
abbrev pub rgb_list : Rgb → List ℕ
rgb_list p = p.r ∷ p.g ∷ p.b ∷ []

-- the colour that three bytes are
abbrev pub colour_in : List ℕ → Rgb
colour_in l = record { r = get_or l 0 0; g = get_or l 1 0; b = get_or l 2 0 }
