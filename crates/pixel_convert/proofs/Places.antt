-- The places of a pair, by the type of its picture's format. Assumes nothing.
use Rattle.std.specs.Prelude.{pos, ◌<◌, ◌^◌}
use Rattle.std.proofs.Common.{arith, ◌≡◌, refl, true, ℕ, Ok, ◌+◌, ◌/◌, ◌%◌, sym, ap, ◌∙◌, subst}
use Rattle.words.specs.Integers.{up}
use Rattle.formats.specs.declared.PackedYuv.{PackedYuv}
use Rattle.formats.specs.declared.PlanarYuv.{PlanarYuv}
use Rattle.formats.specs.declared.PlanarYuv.TheVariants.{YV12, NV12}
use Rattle.formats.specs.declared.YuvFormat.{YuvFormat}
use Rattle.formats.specs.declared.YuvFormat.TheVariants.{Packed, Planar}
use Rattle.formats.specs.Formats.{packed_yuv_code, planar_yuv_code, yuv_code}
use Rattle.formats.proofs.FormatsLaws.{packed_yuv_is, planar_yuv_is}
use Rattle.formats.proofs.Listed.{planar_not_packed}
use Rattle.planar_yuv.specs.declared.PlanarYuvLayout.{PlanarYuvLayout}
use Rattle.planar_yuv.specs.Offsets.{luma_offset_at, u_offset_at, v_offset_at, nv12_v}
use Rattle.planar_yuv.specs.Answers.{reply_of, layout_of, from_pitch, TexelOf}
use Rattle.places.specs.declared.Side.{Side}
use Rattle.places.specs.Places.{place_of, places_at, places_in}
use Rattle.places.proofs.Planar.{LayoutFor}
use Rattle.places.proofs.Laid.{laid_for}
use Rattle.regions.proofs.RowOffsetsLaws.{offset_is}
use Rattle.pixel_convert.specs.declared.pairs.PairPlaces.{PairPlaces}
use Rattle.pixel_convert.specs.declared.pairs.PairPlaces.TheVariants.{Yv12, Nv12}
use Rattle.pixel_convert.specs.Samples.{luma_on, u_on, v_on, PackedPair, PlanarPair, PlanarFits, PairAt}
use Rattle.pixel_convert.proofs.SamplesLaws.{laid, laid_fits, planar_pair, packed_pair}

-- ---- a texel of a layout that starts at a byte
module _ {f : PlanarYuv} (start pitch rows y x : ℕ) {a : ℕ} (luma : a ≡ start + luma_offset_at pitch x y) where
  pub yv12_pair : {u v : ℕ} → f ≡ YV12 → u ≡ start + u_offset_at (planar_yuv_code f) pitch rows x y → v ≡ start + v_offset_at (planar_yuv_code f) pitch rows x y → PlanarPair (Yv12 a u v) (planar_yuv_code f) start pitch rows y x
  yv12_pair e g h = record { format = sym (ap planar_yuv_code e); luma_is = luma; u_is = g; v_is = h }

  nv12_next : f ≡ NV12 → v_offset_at (planar_yuv_code f) pitch rows x y ≡ u_offset_at (planar_yuv_code f) pitch rows x y + 1
  unfolding u_offset_at v_offset_at nv12_v
  nv12_next e = rw e refl

  pub nv12_pair : {w : ℕ} → f ≡ NV12 → w ≡ start + u_offset_at (planar_yuv_code f) pitch rows x y → PlanarPair (Nv12 a w) (planar_yuv_code f) start pitch rows y x
  nv12_pair {w} e g = record { format = sym (ap planar_yuv_code e); luma_is = luma; u_is = g; v_is = omega (arith, g, nv12_next e) }

-- ---- a pair that lies within a source
module _ (n : ℕ) (f : YuvFormat) (side : Side) (z y x : ℕ) (inside : places_in n (places_at (yuv_code f) side z y x) ≡ true) where
  module _ (k : PlanarYuv) (e : f ≡ Planar k) (l : PlanarYuvLayout) (is : reply_of (Ok l) ≡ from_pitch (planar_yuv_code k) (up side.pitch) (side.slice_pitch / up side.pitch)) where
    planar_inside : places_in n (places_at (planar_yuv_code k) side z y x) ≡ true
    planar_inside = subst (λ j. places_in n (places_at (yuv_code j) side z y x) ≡ true) e inside

    for : LayoutFor (planar_yuv_code k) (up side.pitch) (side.slice_pitch / up side.pitch) l
    for = laid_for (planar_yuv_code k) (up side.pitch) (side.slice_pitch / up side.pitch) l is

    pub planar_texel : TexelOf l x y
    planar_texel = (laid n (planar_yuv_code k) side z y x l (planar_yuv_is k) (ap layout_of is) for planar_inside).texel

    pub planar_fits : n < 2 ^ 64 → PlanarFits (planar_yuv_code k) side.start l.pitch l.luma_rows y x
    planar_fits small = laid_fits n (planar_yuv_code k) side z y x l (planar_yuv_is k) (ap layout_of is) for planar_inside small

    pub planar_there : (at : PairPlaces) → PlanarPair at (planar_yuv_code k) side.start l.pitch l.luma_rows y x → PairAt at (yuv_code f) side z y x
    planar_there at h =
        subst (λ j. PairAt at (yuv_code j) side z y x) (sym e)
        (planar_pair n (planar_yuv_code k) side z y x l (planar_yuv_is k) (ap layout_of is) for planar_inside (planar_not_packed (planar_yuv_code k) (planar_yuv_is k)) h)

pub packed_there : (f : YuvFormat) (k : PackedYuv) (at : PairPlaces) (side : Side) (z y x from : ℕ) → f ≡ Packed k → x % 2 ≡ 0 → pos from ≡ place_of side 4 z y (x / 2)
    → PackedPair at (packed_yuv_code k) from → PairAt at (yuv_code f) side z y x
packed_there f k at side z y x from e even starts h =
    subst (λ j. PairAt at (yuv_code j) side z y x) (sym e)
    (packed_pair at (packed_yuv_code k) side z y x (packed_yuv_is k) even (subst (λ j. PackedPair at (packed_yuv_code k) j) (offset_is _ from starts) h))

-- ---- the first pair of a run, and its first texel
pub same_pair : {at : PairPlaces} {f : ℕ} (side : Side) {z y x z' y' x' : ℕ} → PairAt at f side z y x → z ≡ z' → y ≡ y' → x ≡ x' → PairAt at f side z' y' x'
same_pair {f = f} side h ez ey ex = record {
  format = h.format;
  luma_is = h.luma_is ∙ (λ i. luma_on f side (ez i) (ey i) (ex i));
  u_is = h.u_is ∙ (λ i. u_on f side (ez i) (ey i) (ex i));
  v_is = h.v_is ∙ (λ i. v_on f side (ez i) (ey i) (ex i));
}
