-- A picture in a list of bytes: pixel (x, y) has its `size` bytes at y * pitch + x * size. What writing all pixels makes of a list,
-- for any content: each pixel holds its own bytes, and every other byte is as it was.
-- Assumes nothing.
use Rattle.std.specs.Prelude.{ℕ, ◌+◌, ◌*◌, ◌≤◌, ◌<◌, drop, List, take}
use Rattle.std.proofs.Math.Seq.{sets}
use Rattle.words.specs.Iterate.{iterate}

-- where pixel (x, y) begins
abbrev pub place : (pitch size x y : ℕ) → ℕ
place pitch size x y = y * pitch + x * size

-- a row of `width` pixels from byte `from` on, column x with the bytes of `content x`
unfoldable pub written_row : (from size width : ℕ) → (ℕ → List ℕ) → List ℕ → List ℕ
written_row from size width content = iterate (λ x l. sets l (from + x * size) (content x)) width

-- every row, pixel (x, y) with the bytes of `content x y`
unfoldable pub written : (pitch size width height : ℕ) → (ℕ → ℕ → List ℕ) → List ℕ → List ℕ
written pitch size width height content = iterate (λ y. written_row (y * pitch) size width (λ x. content x y)) height

-- the `size` bytes of pixel (x, y)
abbrev pub pixel_in : (pitch size x y : ℕ) → List ℕ → List ℕ
pixel_in pitch size x y l = take size (drop (place pitch size x y) l)

-- byte k belongs to no pixel
abbrev pub NoPixel : (pitch size width height k : ℕ) → Type 0
NoPixel pitch size width height k = (x y : ℕ) → x < width → y < height → place pitch size x y ≤ k → k < place pitch size x y + size → ⊥

-- all pixels of a row, and of all rows, lie within len bytes
abbrev pub RowIn : (len from size width : ℕ) → Type 0
RowIn len from size width = (x : ℕ) → x < width → from + x * size + size ≤ len
