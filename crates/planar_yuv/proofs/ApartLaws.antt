-- The samples of a planar frame lie inside it, and no byte serves two of them. Assumes nothing.
use Rattle.std.proofs.Common.{◌≡◌, Bool, true, false, ℕ, ◌+◌, ◌*◌, ◌/◌, ◌%◌, ◌<◌, eqb, sym, ap, ap₂, ◌∙◌, mul_comm, mul_assoc, mul-add, arith}
use Rattle.std.proofs.Math.Arith.{digits_lt, digits_div, digits_mod}
use Rattle.words.specs.Tests.{pick}
use Rattle.formats.specs.Codes.{YV12}
use Rattle.planar_yuv.specs.Rules.{chroma_rows_of, total_bytes_of}
use Rattle.planar_yuv.specs.Offsets.{Inside, chroma_base_of, luma_offset_at, nv12_u, nv12_v, yv12_u, yv12_v, u_offset_at, v_offset_at}
use Rattle.planar_yuv.specs.Apart.{Block, Planes}

-- ---- luma
-- rows of p keep two places apart
same_place : (p x y x' y' : ℕ) → x < p → x' < p → y * p + x ≡ y' * p + x' → (x ≡ x') × (y ≡ y')
same_place p x y x' y' h h' e =
    (sym (digits_mod y h) ∙ ap (λ n. n % p) e ∙ digits_mod y' h', sym (digits_div y h) ∙ ap (λ n. n / p) e ∙ digits_div y' h')

luma_below : (pitch rows x y : ℕ) → Inside pitch rows x y → luma_offset_at pitch x y < chroma_base_of pitch rows
unfolding luma_offset_at
luma_below pitch rows x y i = omega (arith, digits_lt i.1 i.0, mul_comm pitch rows)

luma_same : (pitch rows x y x' y' : ℕ) → Inside pitch rows x y → Inside pitch rows x' y' → luma_offset_at pitch x y ≡ luma_offset_at pitch x' y' → (x ≡ x') × (y ≡ y')
unfolding luma_offset_at
luma_same pitch rows x y x' y' i i' e = same_place pitch x y x' y' i.0 i'.0 e

-- ---- chroma, by the number of the sample that a texel has
abbrev sample : (pitch x y : ℕ) → ℕ
sample pitch x y = y / 2 * (pitch / 2) + x / 2

abbrev samples : (pitch rows : ℕ) → ℕ
samples pitch rows = chroma_rows_of rows * (pitch / 2)

-- places of n samples of U and n of V after the luma rows
record Places (n : ℕ) (u v : ℕ → ℕ) : Type 0 where
  u_in : (k : ℕ) → k < n → u k < 2 * n
  v_in : (k : ℕ) → k < n → v k < 2 * n
  never : (k j : ℕ) → k < n → j < n → u k ≡ v j → ⊥
  u_once : (k j : ℕ) → u k ≡ u j → k ≡ j
  v_once : (k j : ℕ) → v k ≡ v j → k ≡ j

module _ (pitch rows : ℕ) (even : pitch % 2 ≡ 0) where
  doubled : (n : ℕ) → n * pitch ≡ n * (pitch / 2) * 2
  doubled n =
      let e : pitch ≡ pitch / 2 * 2 = omega arith in
      ap (λ p. n * p) e ∙ sym (mul_assoc n (pitch / 2) 2)

  total_is : total_bytes_of pitch rows ≡ chroma_base_of pitch rows + 2 * samples pitch rows
  total_is = omega (arith, mul-add pitch rows (chroma_rows_of rows), mul_comm pitch (chroma_rows_of rows), doubled (chroma_rows_of rows))

  column_below : (x y : ℕ) → Inside pitch rows x y → x / 2 < pitch / 2
  column_below x y i = omega (arith, i.0)

  sample_below : (x y : ℕ) → Inside pitch rows x y → sample pitch x y < samples pitch rows
  sample_below x y i =
      let r : y / 2 < chroma_rows_of rows = omega (arith, i.1) in
      digits_lt r (column_below x y i)

  sample_one : (x y x' y' : ℕ) → Inside pitch rows x y → Inside pitch rows x' y' → sample pitch x y ≡ sample pitch x' y' → Block x y x' y'
  sample_one x y x' y' i i' e = same_place (pitch / 2) (x / 2) (y / 2) (x' / 2) (y' / 2) (column_below x y i) (column_below x' y' i') e

  sample_shared : (x y x' y' : ℕ) → Block x y x' y' → sample pitch x y ≡ sample pitch x' y'
  sample_shared x y x' y' b = ap₂ (λ a c. a * (pitch / 2) + c) b.1 b.0

  placed : (u_at v_at : (x y : ℕ) → ℕ) (u v : ℕ → ℕ) → Places (samples pitch rows) u v →
      ((x y : ℕ) → u_at x y ≡ chroma_base_of pitch rows + u (sample pitch x y)) →
      ((x y : ℕ) → v_at x y ≡ chroma_base_of pitch rows + v (sample pitch x y)) →
      Planes pitch rows u_at v_at
  placed u_at v_at u v p u-is v-is = record {
    luma_inside = λ x y i. omega (arith, luma_below pitch rows x y i, total_is);
    u_inside = λ x y i. omega (arith, u-is x y, p.u_in (sample pitch x y) (sample_below x y i), total_is);
    v_inside = λ x y i. omega (arith, v-is x y, p.v_in (sample pitch x y) (sample_below x y i), total_is);
    luma_u = λ x y x' y' i i' e. omega (arith, luma_below pitch rows x y i, u-is x' y', e);
    luma_v = λ x y x' y' i i' e. omega (arith, luma_below pitch rows x y i, v-is x' y', e);
    u_v = λ x y x' y' i i' e.
        p.never (sample pitch x y) (sample pitch x' y') (sample_below x y i) (sample_below x' y' i') (omega (arith, u-is x y, v-is x' y', e));
    luma_one = luma_same pitch rows;
    u_one = λ x y x' y' i i' e. sample_one x y x' y' i i' (p.u_once (sample pitch x y) (sample pitch x' y') (omega (arith, u-is x y, u-is x' y', e)));
    v_one = λ x y x' y' i i' e. sample_one x y x' y' i i' (p.v_once (sample pitch x y) (sample pitch x' y') (omega (arith, v-is x y, v-is x' y', e)));
    u_shared = λ x y x' y' b. u-is x y ∙ ap (λ k. chroma_base_of pitch rows + u k) (sample_shared x y x' y' b) ∙ sym (u-is x' y');
    v_shared = λ x y x' y' b. v-is x y ∙ ap (λ k. chroma_base_of pitch rows + v k) (sample_shared x y x' y' b) ∙ sym (v-is x' y');
  }

  -- pairs: U at even places, V at odd ones
  pairs : (n : ℕ) → Places n (λ k. 2 * k) (λ k. 2 * k + 1)
  pairs n = record {
    u_in = λ k h. omega arith;
    v_in = λ k h. omega arith;
    never = λ k j h i e. omega arith;
    u_once = λ k j e. omega arith;
    v_once = λ k j e. omega arith;
  }

  -- one plane after the other
  stacked : (n : ℕ) → Places n (λ k. k + n) (λ k. k)
  stacked n = record {
    u_in = λ k h. omega arith;
    v_in = λ k h. omega arith;
    never = λ k j h i e. omega arith;
    u_once = λ k j e. omega arith;
    v_once = λ k j e. e;
  }

  nv12_u_is : (x y : ℕ) → nv12_u pitch rows x y ≡ chroma_base_of pitch rows + 2 * sample pitch x y
  unfolding nv12_u
  nv12_u_is x y = omega (arith, doubled (y / 2))

  nv12_v_is : (x y : ℕ) → nv12_v pitch rows x y ≡ chroma_base_of pitch rows + (2 * sample pitch x y + 1)
  unfolding nv12_v
  nv12_v_is x y = omega (arith, nv12_u_is x y)

  yv12_v_is : (x y : ℕ) → yv12_v pitch rows x y ≡ chroma_base_of pitch rows + sample pitch x y
  unfolding yv12_v
  yv12_v_is x y = omega arith

  yv12_u_is : (x y : ℕ) → yv12_u pitch rows x y ≡ chroma_base_of pitch rows + (sample pitch x y + samples pitch rows)
  unfolding yv12_u
  yv12_u_is x y = omega (arith, yv12_v_is x y)

  by_format : (t : Bool) → Planes pitch rows (pick t yv12_u nv12_u pitch rows) (pick t yv12_v nv12_v pitch rows)
  by_format true = placed (yv12_u pitch rows) (yv12_v pitch rows) (λ k. k + samples pitch rows) (λ k. k) (stacked (samples pitch rows)) yv12_u_is yv12_v_is
  by_format false = placed (nv12_u pitch rows) (nv12_v pitch rows) (λ k. 2 * k) (λ k. 2 * k + 1) (pairs (samples pitch rows)) nv12_u_is nv12_v_is

  -- both formats, at every even pitch
  pub planes : (f : ℕ) → Planes pitch rows (u_offset_at f pitch rows) (v_offset_at f pitch rows)
  unfolding u_offset_at v_offset_at
  planes f = by_format (eqb f YV12)
