-- The colour that five parts make, in 65536ths: added, rounded and clamped. Assumes nothing.
use Rattle.std.specs.Prelude.{◌≤◌, ℤ, ◌+ℤ◌, unsigned_abs}
use Rattle.words.specs.Integers.{clamp_to}
use Rattle.stretch_rect.specs.declared.Rgb.{Rgb}
use Rattle.stretch_rect.specs.Yuv.{nearest_whole}

-- a part is no further from 0 than 1024
abbrev pub PartSize : ℤ → Type 0
PartSize z = unsigned_abs z ≤ 67108864

-- red is luma and V's part, green is luma, U's part and V's part, blue is luma and U's part; each is rounded to the nearest whole number, a half up, and clamped to a byte
unfoldable pub joined : (luma v_red u_green v_green u_blue : ℤ) → Rgb
joined l vr ug vg ub = record { r = clamp_to 255 (nearest_whole (l +ℤ vr)); g = clamp_to 255 (nearest_whole (l +ℤ ug +ℤ vg)); b = clamp_to 255 (nearest_whole (l +ℤ ub)) }
