-- Laws of lists of codes, and what they say of the classes of formats. Assumes nothing.
use Rattle.std.specs.Prelude.{◌≡◌, refl, Bool, true, false, not, ◌||◌, List, [], ◌∷◌, ℕ, ◌<◌, T, eqb, ltb}
use Rattle.std.proofs.Common.{sym, subst, ltb→lt, eqb-true}
use Rattle.std.proofs.lemmas.Bool.{false≢true}
use Rattle.std.specs.Float.Ieee.Bits.{is_false}
use Rattle.words.specs.Computed.{both}
use Rattle.words.proofs.ComputedLaws.{both_left, both_right}
use Rattle.formats.specs.Codes.{YV12, NV12}
use Rattle.formats.specs.Table.{parts_of, bytes_of}
use Rattle.formats.specs.Classes.{listed, rgb_formats, argb_sources, is_convertible_rgb, is_packed_yuv, is_planar_yuv, is_argb_source, is_lane_source}

-- a test at every code of a list holds of a code that is in it
abbrev pub every_code : (ℕ → Bool) → List ℕ → Bool
every_code t [] = true
every_code t (g ∷ gs) = both (t g) (every_code t gs)

pub listed_at : (t : ℕ → Bool) (gs : List ℕ) → T (every_code t gs) → (f : ℕ) → listed f gs ≡ true → T (t f)
listed_at t [] h f l = absurd (false≢true l)
listed_at t (g ∷ gs) h f l = go (eqb f g) refl l (listed_at t gs (both_right (t g) (every_code t gs) h) f)
  where
    go : (b : Bool) → eqb f g ≡ b → elim b [ true ↦ true | false ↦ listed f gs ] ≡ true → (listed f gs ≡ true → T (t f)) → T (t f)
    go true e l r = subst (λ i. T (t i)) (sym (eqb-true f g e)) (both_left (t g) (every_code t gs) h)
    go false e l r = r l

-- ---- RGB formats: their texels have bytes, and are no YUV
pub rgb_some : (f : ℕ) → is_convertible_rgb f ≡ true → 0 < bytes_of f
unfolding is_convertible_rgb bytes_of parts_of
rgb_some f h = ltb→lt 0 (bytes_of f) (listed_at (λ g. ltb 0 (bytes_of g)) rgb_formats tt f h)

pub rgb_not_planar : (f : ℕ) → is_convertible_rgb f ≡ true → is_planar_yuv f ≡ false
unfolding is_convertible_rgb is_planar_yuv
rgb_not_planar f h = is_false (is_planar_yuv f) (listed_at (λ g. not (is_planar_yuv g)) rgb_formats tt f h)

pub rgb_not_packed : (f : ℕ) → is_convertible_rgb f ≡ true → is_packed_yuv f ≡ false
unfolding is_convertible_rgb is_packed_yuv
rgb_not_packed f h = is_false (is_packed_yuv f) (listed_at (λ g. not (is_packed_yuv g)) rgb_formats tt f h)

-- a source of A8R8G8B8 alone is no RGB format and no YUV, and its texels have bytes
pub argb_only : (f : ℕ) → is_argb_source f ≡ true → (is_convertible_rgb f ≡ false) × (is_packed_yuv f ≡ false) × (is_planar_yuv f ≡ false)
unfolding is_argb_source is_convertible_rgb is_packed_yuv is_planar_yuv
argb_only f h = (
  is_false (is_convertible_rgb f) (listed_at (λ g. not (is_convertible_rgb g)) argb_sources tt f h),
  is_false (is_packed_yuv f) (listed_at (λ g. not (is_packed_yuv g)) argb_sources tt f h),
  is_false (is_planar_yuv f) (listed_at (λ g. not (is_planar_yuv g)) argb_sources tt f h),
)

pub argb_some : (f : ℕ) → is_argb_source f ≡ true → 0 < bytes_of f
unfolding is_argb_source bytes_of parts_of
argb_some f h = ltb→lt 0 (bytes_of f) (listed_at (λ g. ltb 0 (bytes_of g)) argb_sources tt f h)

-- planar YUV is no packed YUV
pub planar_not_packed : (f : ℕ) → is_planar_yuv f ≡ true → is_packed_yuv f ≡ false
unfolding is_planar_yuv is_packed_yuv
planar_not_packed f h = is_false (is_packed_yuv f) (listed_at (λ g. not (is_packed_yuv g)) (NV12 ∷ YV12 ∷ []) tt f h)

-- a texel with lanes has bytes
pub lane_some : (f : ℕ) → is_lane_source f ≡ true → 0 < bytes_of f
unfolding is_lane_source
lane_some f h = go (is_convertible_rgb f) (is_argb_source f) refl refl h
  where
    go : (a b : Bool) → is_convertible_rgb f ≡ a → is_argb_source f ≡ b → (a || b) ≡ true → 0 < bytes_of f
    go true b e g k = rgb_some f e
    go false true e g k = argb_some f g
    go false false e g k = absurd (false≢true k)

-- a source with lanes is no YUV
pub lane_only : (f : ℕ) → is_lane_source f ≡ true → (is_planar_yuv f ≡ false) × (is_packed_yuv f ≡ false)
unfolding is_lane_source
lane_only f h = go (is_convertible_rgb f) (is_argb_source f) refl refl h
  where
    go : (a b : Bool) → is_convertible_rgb f ≡ a → is_argb_source f ≡ b → (a || b) ≡ true → (is_planar_yuv f ≡ false) × (is_packed_yuv f ≡ false)
    go true b e g k = (rgb_not_planar f e, rgb_not_packed f e)
    go false true e g k = ((argb_only f g).2, (argb_only f g).1)
    go false false e g k = absurd (false≢true k)
