-- Where U and V stand, by the format. Assumes nothing.
use Rattle.std.proofs.Common.{◌≡◌, refl, ℕ, ◌+◌, eq-eqb, ne_eqb}
use Rattle.formats.specs.Codes.{YV12}
use Rattle.planar_yuv.specs.Offsets.{u_offset_at, v_offset_at, nv12_u, nv12_v, yv12_u, yv12_v}

module _ (f pitch rows x y : ℕ) where
  pub u_yv12 : f ≡ YV12 → yv12_u pitch rows x y ≡ u_offset_at f pitch rows x y
  unfolding u_offset_at
  u_yv12 e = rw (eq-eqb f YV12 e) refl

  pub u_nv12 : (f ≡ YV12 → ⊥) → nv12_u pitch rows x y ≡ u_offset_at f pitch rows x y
  unfolding u_offset_at
  u_nv12 n = rw (ne_eqb f YV12 n) refl

  pub v_yv12 : f ≡ YV12 → yv12_v pitch rows x y ≡ v_offset_at f pitch rows x y
  unfolding v_offset_at
  v_yv12 e = rw (eq-eqb f YV12 e) refl

  pub v_nv12 : (f ≡ YV12 → ⊥) → nv12_u pitch rows x y + 1 ≡ v_offset_at f pitch rows x y
  unfolding v_offset_at nv12_v
  v_nv12 n = rw (ne_eqb f YV12 n) refl
