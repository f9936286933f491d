-- What it is that the samples of a planar frame lie inside it, and no byte serves two of them: luma, U and V keep apart, a luma byte is one
-- texel's, and a chroma byte is one 2 x 2 block's. That both formats have it is proved in proofs/ApartLaws. Assumes nothing.
use Rattle.std.specs.Prelude.{◌≡◌, ℕ, ◌/◌, ◌<◌}
use Rattle.planar_yuv.specs.Rules.{total_bytes_of}
use Rattle.planar_yuv.specs.Offsets.{Inside, luma_offset_at}

-- (x, y) and (x', y') lie in one block of 2 x 2 texels
abbrev pub Block : (x y x' y' : ℕ) → Type 0
Block x y x' y' = (x / 2 ≡ x' / 2) × (y / 2 ≡ y' / 2)

-- what holds of a frame whose U and V samples stand at u_at x y and v_at x y
pub record Planes (pitch rows : ℕ) (u_at v_at : (x y : ℕ) → ℕ) : Type 0 where
  pub luma_inside : (x y : ℕ) → Inside pitch rows x y → luma_offset_at pitch x y < total_bytes_of pitch rows
  pub u_inside : (x y : ℕ) → Inside pitch rows x y → u_at x y < total_bytes_of pitch rows
  pub v_inside : (x y : ℕ) → Inside pitch rows x y → v_at x y < total_bytes_of pitch rows
  pub luma_u : (x y x' y' : ℕ) → Inside pitch rows x y → Inside pitch rows x' y' → luma_offset_at pitch x y ≡ u_at x' y' → ⊥
  pub luma_v : (x y x' y' : ℕ) → Inside pitch rows x y → Inside pitch rows x' y' → luma_offset_at pitch x y ≡ v_at x' y' → ⊥
  pub u_v : (x y x' y' : ℕ) → Inside pitch rows x y → Inside pitch rows x' y' → u_at x y ≡ v_at x' y' → ⊥
  pub luma_one : (x y x' y' : ℕ) → Inside pitch rows x y → Inside pitch rows x' y' → luma_offset_at pitch x y ≡ luma_offset_at pitch x' y' → (x ≡ x') × (y ≡ y')
  pub u_one : (x y x' y' : ℕ) → Inside pitch rows x y → Inside pitch rows x' y' → u_at x y ≡ u_at x' y' → Block x y x' y'
  pub v_one : (x y x' y' : ℕ) → Inside pitch rows x y → Inside pitch rows x' y' → v_at x y ≡ v_at x' y' → Block x y x' y'
  pub u_shared : (x y x' y' : ℕ) → Block x y x' y' → u_at x y ≡ u_at x' y'
  pub v_shared : (x y x' y' : ℕ) → Block x y x' y' → v_at x y ≡ v_at x' y'
