-- Laws on what specs/Pictures defines. Assumes nothing.
use Rattle.std.specs.Prelude.{◌≡◌, ◌⊎◌, ℕ, ◌+◌, ◌-◌, ◌*◌, ◌≤◌, ◌<◌, drop, refl, List, length, get_or, take}
use Rattle.std.proofs.Common.{ap, sym, ◌∙◌, subst, mul-le-mul_right, mul_comm, arith, inl, inr}
use Rattle.std.proofs.Math.Arith.{lt_of_le-ne}
use Rattle.std.proofs.Math.Seq.{sets, length-sets}
use Rattle.std.proofs.lemmas.Bool.{cases_lt}
use Rattle.words.proofs.IterateLaws.{iterate_zero, iterate_keeps, iterate_step, iterate_length, iterate_makes}
use Rattle.words.proofs.Slices.{sets_before, sets_after, sets_read, part_apart}
use Rattle.channels.proofs.Nearest.{step}
use Rattle.depth_texture.specs.Pictures.{place, written_row, written, pixel_in, NoPixel, RowIn}

abbrev pub RowsIn : (len pitch size width height : ℕ) → Type 0
RowsIn len pitch size width height = (y : ℕ) → y < height → RowIn len (y * pitch) size width

-- ---- places
-- two pixels of one row
pub columns_apart : (from size x x' : ℕ) → (x' ≡ x → ⊥) → (from + x * size + size ≤ from + x' * size) ⊎ (from + x' * size + size ≤ from + x * size)
columns_apart from size x x' ne = elim (cases_lt x x') [
  | inl h ↦ inl (omega (arith, step x x' size h))
  | inr h ↦ inr (omega (arith, step x' x size (lt_of_le-ne h ne)))
]

-- two pixels of two rows, where the pitch holds a row
module _ (pitch size width : ℕ) (room : width * size ≤ pitch) where
  earlier_row : (x y x' y' : ℕ) → x < width → y < y' → place pitch size x y + size ≤ place pitch size x' y'
  earlier_row x y x' y' h l = omega (arith, step x width size h, step y y' pitch l)

  pub rows_apart : (x y x' y' : ℕ) → x < width → x' < width → (y' ≡ y → ⊥)
      → (place pitch size x y + size ≤ place pitch size x' y') ⊎ (place pitch size x' y' + size ≤ place pitch size x y)
  rows_apart x y x' y' h h' ne = elim (cases_lt y y') [
    | inl l ↦ inl (earlier_row x y x' y' h l)
    | inr l ↦ inr (earlier_row x' y' x y h' (lt_of_le-ne l ne))
  ]

-- a buffer that holds the last row's end holds every pixel
pub rows_in : (len pitch size width height : ℕ) → (height - 1) * pitch + width * size ≤ len → RowsIn len pitch size width height
rows_in len pitch size width height h y yl x xl =
    omega (arith, step x width size xl, mul-le-mul_right {m = y} {n = height - 1} pitch (omega arith))

-- and so does a plane that holds the pitch times the height, where the pitch holds a row
pub plane_in : (len pitch size width height : ℕ) → width * size ≤ pitch → pitch * height ≤ len → RowsIn len pitch size width height
plane_in len pitch size width height r h y yl x xl = omega (arith, step x width size xl, step y height pitch yl, mul_comm pitch height)

-- ---- lengths
pub row_length : (from size width : ℕ) (content : ℕ → List ℕ) (l : List ℕ) → length (written_row from size width content l) ≡ length l
unfolding written_row
row_length from size width content l = iterate_length (λ x l. sets l (from + x * size) (content x)) (λ x b. length-sets b (from + x * size) (content x)) width l

pub written_length : (pitch size width height : ℕ) (content : ℕ → ℕ → List ℕ) (l : List ℕ) → length (written pitch size width height content l) ≡ length l
unfolding written
written_length pitch size width height content l =
    iterate_length (λ y. written_row (y * pitch) size width (λ x. content x y)) (λ y b. row_length (y * pitch) size width (λ x. content x y) b) height l

module _ (pitch size width height : ℕ) (content : ℕ → ℕ → List ℕ) (sized : (x y : ℕ) → length (content x y) ≡ size) where
  -- ---- each pixel's own bytes, and every other byte
  -- a row keeps a part that lies apart from each of its pixels
  row_keeps : (y at n : ℕ) (v : List ℕ) → ((x : ℕ) → x < width → (at + n ≤ place pitch size x y) ⊎ (place pitch size x y + size ≤ at))
      → (b : List ℕ) → take n (drop at b) ≡ v → take n (drop at (written_row (y * pitch) size width (λ x. content x y) b)) ≡ v
  unfolding written_row
  row_keeps y at n v apart b e =
      iterate_keeps (λ b. take n (drop at b) ≡ v) (λ x l. sets l (y * pitch + x * size) (content x y)) width
      (λ x xl b p.
      part_apart b (y * pitch + x * size) (content x y) at n
      (subst (λ s. (at + n ≤ place pitch size x y) ⊎ (place pitch size x y + s ≤ at)) (sym (sized x y)) (apart x xl))
      ∙ p)
      b e

  module _ (room : width * size ≤ pitch) (x y : ℕ) (xl : x < width) (yl : y < height) (len : ℕ) (fits : place pitch size x y + size ≤ len) where
    row_own : (b : List ℕ) → length b ≡ len → pixel_in pitch size x y (written_row (y * pitch) size width (λ x. content x y) b) ≡ content x y
    unfolding written_row
    row_own b e =
        iterate_makes (λ b. length b ≡ len) (λ b. pixel_in pitch size x y b ≡ content x y) (λ x l. sets l (y * pitch + x * size) (content x y)) width x xl
        (λ k b i. length-sets b (y * pitch + k * size) (content k y) ∙ i)
        (λ b i.
        ap (λ n. take n (drop (place pitch size x y) (sets b (place pitch size x y) (content x y)))) (sym (sized x y))
        ∙ sets_read b (place pitch size x y) (content x y) (omega (arith, sized x y)))
        (λ k kl ne b p.
        part_apart b (y * pitch + k * size) (content k y) (place pitch size x y) size
        (subst (λ s. (place pitch size x y + size ≤ y * pitch + k * size) ⊎ (y * pitch + k * size + s ≤ place pitch size x y)) (sym (sized k y)) (columns_apart (y * pitch) size x k ne))
        ∙ p)
        b e

    pub written_own : (l : List ℕ) → length l ≡ len → pixel_in pitch size x y (written pitch size width height content l) ≡ content x y
    unfolding written
    written_own l e =
        iterate_makes (λ b. length b ≡ len) (λ b. pixel_in pitch size x y b ≡ content x y) (λ y. written_row (y * pitch) size width (λ x. content x y)) height y yl
        (λ k b i. row_length (k * pitch) size width (λ x. content x k) b ∙ i)
        row_own
        (λ k kl ne b p. row_keeps k (place pitch size x y) size (content x y) (λ x' h. rows_apart pitch size width room x y x' k xl h ne) b p)
        l e

  pub written_other : (k : ℕ) → NoPixel pitch size width height k → (l : List ℕ) → get_or (written pitch size width height content l) k 0 ≡ get_or l k 0
  unfolding written written_row
  written_other k none l =
      iterate_keeps (λ b. get_or b k 0 ≡ get_or l k 0) (λ y. written_row (y * pitch) size width (λ x. content x y)) height
      (λ y yl b p.
      iterate_keeps (λ b. get_or b k 0 ≡ get_or l k 0) (λ x l. sets l (y * pitch + x * size) (content x y)) width
      (λ x xl b p. one x y xl yl b ∙ p)
      b p)
      l refl
    where
      one : (x y : ℕ) → x < width → y < height → (b : List ℕ) → get_or (sets b (place pitch size x y) (content x y)) k 0 ≡ get_or b k 0
      one x y xl yl b = elim (cases_lt k (place pitch size x y)) [
        | inl h ↦ sets_before b (place pitch size x y) (content x y) k h
        | inr h ↦ elim (cases_lt k (place pitch size x y + size)) [
          | inl g ↦ absurd (none x y xl yl h g)
          | inr g ↦ sets_after b (place pitch size x y) (content x y) k (omega (arith, sized x y))
        ]
      ]

-- ---- a row by its columns: none, and one more
pub row_none : (from size : ℕ) (content : ℕ → List ℕ) (l : List ℕ) → l ≡ written_row from size 0 content l
unfolding written_row
row_none from size content l = sym (iterate_zero (λ x l. sets l (from + x * size) (content x)) l)

pub row_more : (from size : ℕ) (content : ℕ → List ℕ) (x : ℕ) (l₀ l l' : List ℕ) → l ≡ written_row from size x content l₀ → l' ≡ sets l (from + x * size) (content x)
    → l' ≡ written_row from size (x + 1) content l₀
unfolding written_row
row_more from size content x l₀ l l' e e' = iterate_step (λ x l. sets l (from + x * size) (content x)) x l₀ l l' e e'

-- rows by their number: none, and one more
pub rows_none : (pitch size width : ℕ) (content : ℕ → ℕ → List ℕ) (l : List ℕ) → l ≡ written pitch size width 0 content l
unfolding written
rows_none pitch size width content l = sym (iterate_zero (λ y. written_row (y * pitch) size width (λ x. content x y)) l)

pub rows_more : (pitch size width : ℕ) (content : ℕ → ℕ → List ℕ) (y : ℕ) (l₀ l l' : List ℕ) → l ≡ written pitch size width y content l₀
    → l' ≡ written_row (y * pitch) size width (λ x. content x y) l → l' ≡ written pitch size width (y + 1) content l₀
unfolding written
rows_more pitch size width content y l₀ l l' e e' = iterate_step (λ y. written_row (y * pitch) size width (λ x. content x y)) y l₀ l l' e e'
