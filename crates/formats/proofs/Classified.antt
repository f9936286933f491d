-- Which classes a code is of, and which it is not.
-- Assumes nothing.
use Rattle.std.proofs.Common.{◌≡◌, true, false, ◌||◌, ◌∷◌, ℕ, ap, ◌∙◌, ne_eqb}
use Rattle.formats.specs.Codes.{A32B32G32R32F}
use Rattle.formats.specs.Classes.{listed, code_sources, is_convertible_rgb, is_planar_yuv, is_yuv, is_code_source, is_argb_source, is_lane_source}
use Rattle.formats.specs.Formats.{lane_source_code, packed_yuv_code, planar_yuv_code, yuv_code}
use Rattle.formats.proofs.FormatsLaws.{lane_source_is, packed_yuv_is, planar_yuv_is}
use Rattle.formats.proofs.Listed.{lane_only, planar_not_packed}
use Rattle.formats.specs.declared.LaneSource.{LaneSource}
use Rattle.formats.specs.declared.YuvFormat.{YuvFormat}
use Rattle.formats.specs.declared.YuvFormat.TheVariants.{Packed, Planar}

-- a source of A8R8G8B8 alone has binary32 channels or whole numbers
pub floats_argb : (c : ℕ) → c ≡ A32B32G32R32F → is_argb_source c ≡ true
unfolding is_argb_source
floats_argb c e = ap (λ k. listed k (A32B32G32R32F ∷ code_sources)) e

pub codes_argb : (c : ℕ) → (c ≡ A32B32G32R32F → ⊥) → is_argb_source c ≡ is_code_source c
unfolding is_argb_source is_code_source
codes_argb c n = ap (λ b. elim b [ true ↦ true | false ↦ listed c code_sources ]) (ne_eqb c A32B32G32R32F n)

-- a code that is of no class of sources with lanes is of none
pub no_lanes : (f : ℕ) → is_convertible_rgb f ≡ false → is_code_source f ≡ false → (f ≡ A32B32G32R32F → ⊥) → is_lane_source f ≡ false
unfolding is_lane_source is_argb_source is_code_source
no_lanes f r s n =
    ap (λ b. b || listed f (A32B32G32R32F ∷ code_sources)) r
    ∙ ap (λ b. elim b [ true ↦ true | false ↦ listed f code_sources ]) (ne_eqb f A32B32G32R32F n)
    ∙ s

-- what has lanes is no YUV
pub lanes_no_planar : (f : LaneSource) → is_planar_yuv (lane_source_code f) ≡ false
lanes_no_planar f = (lane_only (lane_source_code f) (lane_source_is f)).0

pub lanes_no_yuv : (f : LaneSource) → is_yuv (lane_source_code f) ≡ false
lanes_no_yuv f =
    let n = lane_only (lane_source_code f) (lane_source_is f) in
    ap (λ b. b || is_planar_yuv (lane_source_code f)) n.1 ∙ n.0

-- each YUV type is YUV
pub yuv_is : (f : YuvFormat) → is_yuv (yuv_code f) ≡ true
yuv_is (Packed f) = ap (λ b. b || is_planar_yuv (packed_yuv_code f)) (packed_yuv_is f)
yuv_is (Planar f) =
    ap (λ b. b || is_planar_yuv (planar_yuv_code f)) (planar_not_packed (planar_yuv_code f) (planar_yuv_is f)) ∙ planar_yuv_is f
