-- The code of a depth as a half is rounded up, and a NaN, which counts as 0. Assumes nothing.
use Rattle.std.proofs.Common.{◌≡◌, refl, sym, ap, ◌∙◌, subst, true, true≢false, ℕ, ◌*◌, ◌%◌, ◌≤◌, mul_comm, T, Float}
use Rattle.std.specs.Float.{nan, inf, fin, binary32}
use Rattle.std.specs.Float.Ieee.{fits, of_bits, to_bits, is_nan}
use Rattle.std.specs.Float.Ieee.Bits.{of_bits-to_bits}
use Rattle.std.specs.Float.Ieee.Nearest.{closest}
use Rattle.channels.specs.Nearest.{rounded}
use Rattle.channels.proofs.Even.{alike}
use Rattle.channels.specs.Floats.{clamped}
use Rattle.channels.proofs.FloatsLaws.{top_le, bottom_power, zero_clamped}
use Rattle.depth_texture.specs.Depth.{code_for}

-- on a scale whose top code is 3 more than a multiple of 4 the code is the nearest one with a half up
pub code_rounded : (max : ℕ) (x : Float) → max % 4 ≡ 3 → rounded (max * (clamped x).top) (clamped x).bottom ≡ code_for max x
unfolding code_for
code_rounded max x h =
    let t = (clamped x).top in
    let w = bottom_power x in
    ap (λ n. rounded n (clamped x).bottom) (mul_comm max t)
    ∙ subst (λ d. rounded (t * max) d ≡ closest (t * max) d) (sym w.1) (alike t w.0 max (subst (λ d. t ≤ d) w.1 (top_le x)) h)

-- a binary32 number is what its bits are read as
pub bits_read : (max : ℕ) (x : Float) → T (fits binary32 x) → code_for max (of_bits binary32 (to_bits binary32 x)) ≡ code_for max x
bits_read max x h = ap (code_for max) (of_bits-to_bits binary32 x h)

-- ---- a NaN
-- the test `is_nan`
nan_is : (x : Float) → is_nan x ≡ true → x ≡ nan
unfolding is_nan
nan_is nan h = refl
nan_is (inf s) h = absurd (true≢false (sym h))
nan_is (fin s m e) h = absurd (true≢false (sym h))

pub tested_nan : (x : Float) → is_nan x ≡ true → clamped (of_bits binary32 0) ≡ clamped x
tested_nan x h = zero_clamped ∙ sym (ap clamped (nan_is x h))
