-- An offset of a texel is a sum of products of numbers of at most 16384, so that it fits. Assumes nothing.
use Rattle.std.proofs.Common.{ℕ, ◌+◌, ◌*◌, ◌/◌, ◌≤◌, ◌<◌, arith, mul-le-mul}
use Rattle.formats.specs.Codes.{NV12}
use Rattle.planar_yuv.specs.declared.PlanarYuvLayout.{PlanarYuvLayout}
use Rattle.planar_yuv.specs.Offsets.{v_offset_at, nv12_u, nv12_v}
use Rattle.planar_yuv.specs.Answers.{TexelOf}
use Rattle.planar_yuv.proofs.ApartLaws.{planes}

pub product : {a b : ℕ} → a ≤ 16384 → b ≤ 16384 → a * b ≤ 268435456
product h k = mul-le-mul h k

module _ {l : PlanarYuvLayout} {x y : ℕ} (t : TexelOf l x y) where
  pub base : l.pitch * l.luma_rows ≤ 268435456
  base = product t.legal.rules.pitch_most t.legal.rules.rows_most

  pub luma_row : y * l.pitch ≤ 268435456
  luma_row = product (omega (arith, t.row, t.legal.rules.rows_most)) t.legal.rules.pitch_most

  pub pair_row : y / 2 * l.pitch ≤ 268435456
  pair_row = product (omega (arith, t.row, t.legal.rules.rows_most)) t.legal.rules.pitch_most

  pub half_row : y / 2 * (l.pitch / 2) ≤ 268435456
  half_row = product (omega (arith, t.row, t.legal.rules.rows_most)) (omega (arith, t.legal.rules.pitch_most))

  pub plane : l.chroma_rows * (l.pitch / 2) ≤ 268435456
  plane = product (omega (arith, t.legal.chroma, t.legal.rules.together)) (omega (arith, t.legal.rules.pitch_most))

-- the byte after a U of NV12 is one of the frame
pub nv12_small : (l : PlanarYuvLayout) (x y : ℕ) → TexelOf l x y → nv12_u l.pitch l.luma_rows x y + 1 < 268435457
unfolding v_offset_at nv12_v
nv12_small l x y t =
    let g = t.legal.rules in
    let v = (planes l.pitch l.luma_rows g.pitch_even NV12).v_inside x y (t.column, t.row) in
    let m = mul-le-mul g.pitch_most g.together in
    omega (arith, v, m)
