-- The bytes of one pixel in the packed buffer and in the two planes, and those of a row.
-- Assumes nothing.
use Rattle.std.specs.Prelude.{List, ℕ, ◌+◌, ◌*◌, get_or, take, drop, Float}
use Rattle.std.specs.Float.{binary32}
use Rattle.std.specs.Float.Ieee.{of_bits, to_bits}
use Rattle.words.specs.Little.{number, bytes}
use Rattle.words.specs.Tests.{pick}
use Rattle.formats.specs.Table.{bytes_of}
use Rattle.depth_texture.specs.Pixels.{has_stencil, decoded, encoded}
use Rattle.depth_texture.specs.Pictures.{written_row}

-- ---- one pixel
-- the word of the packed pixel that begins at byte a
unfoldable pub word_at : (f : ℕ) → List ℕ → ℕ → ℕ
word_at f packed a = number (take (bytes_of f) (drop a packed))

-- the binary32 number whose four bytes begin at byte a of a depth plane
unfoldable pub depth_at : List ℕ → ℕ → Float
depth_at plane a = of_bits binary32 (number (take 4 (drop a plane)))

-- the four bytes of a packed pixel's depth
unfoldable pub depth_bytes : (f : ℕ) → List ℕ → ℕ → List ℕ
depth_bytes f packed a = bytes 4 (to_bits binary32 (decoded f (word_at f packed a)).depth)

-- the byte of its stencil
unfoldable pub stencil_bytes : (f : ℕ) → List ℕ → ℕ → List ℕ
stencil_bytes f packed a = bytes 1 (decoded f (word_at f packed a)).stencil

-- the stencil that is packed: the plane's byte, and 0 without a stencil
unfoldable pub stencil_at : (f : ℕ) → List ℕ → ℕ → ℕ
stencil_at f plane a = pick (has_stencil f) (get_or plane a 0) 0

-- the bytes of the packed pixel whose depth begins at byte d and whose stencil is byte s
unfoldable pub packed_bytes : (f : ℕ) (depth stencil : List ℕ) → (d s : ℕ) → List ℕ
packed_bytes f depth stencil d s = encoded f (record { depth = depth_at depth d; stencil = stencil_at f stencil s })

-- ---- one row
-- the depths of a packed row from byte `from` on, at byte `to` of a depth plane
unfoldable pub depth_row : (f : ℕ) (packed : List ℕ) (from to width : ℕ) → List ℕ → List ℕ
depth_row f packed from to width = written_row to 4 width (λ x. depth_bytes f packed (from + x * bytes_of f))

-- its stencils, at byte `at` of a stencil plane; without a stencil the plane is not written
unfoldable pub stencil_row : (f : ℕ) (packed : List ℕ) (from at width : ℕ) → List ℕ → List ℕ
stencil_row f packed from at width plane = pick (has_stencil f) (written_row at 1 width (λ x. stencil_bytes f packed (from + x * bytes_of f)) plane) plane

-- the packed row at byte `to`, from the depths at byte `from` and the stencils at byte `at`
unfoldable pub packed_row : (f : ℕ) (depth stencil : List ℕ) (from at to width : ℕ) → List ℕ → List ℕ
packed_row f depth stencil from at to width = written_row to (bytes_of f) width (λ x. packed_bytes f depth stencil (from + x * 4) (at + x * 1))
