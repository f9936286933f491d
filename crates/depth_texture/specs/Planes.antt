-- What unpacking writes into the two planes, and packing into the packed buffer; a refused call leaves each list as it was.
-- Assumes nothing.
use Rattle.std.specs.Prelude.{List, ℕ, length, eqb}
use Rattle.words.specs.Tests.{pick}
use Rattle.formats.specs.Table.{bytes_of}
use Rattle.depth_texture.specs.declared.PlaneLayout.{PlaneLayout}
use Rattle.depth_texture.specs.Pixels.{has_stencil}
use Rattle.depth_texture.specs.Pictures.{place, written}
use Rattle.depth_texture.specs.PixelBytes.{depth_bytes, stencil_bytes, packed_bytes}
use Rattle.depth_texture.specs.Replies.{refusal_of}

module _ (f : ℕ) (l : PlaneLayout) (packed : List ℕ) (pitch : ℕ) where
  -- ---- every pixel
  -- the depth plane with each pixel's depth at its place
  unfoldable pub depth_plane : List ℕ → List ℕ
  depth_plane = written l.depth_pitch 4 l.width l.height (λ x y. depth_bytes f packed (place pitch (bytes_of f) x y))

  -- the stencil plane with each pixel's stencil at its place; without a stencil it is not written
  unfoldable pub stencil_plane : List ℕ → List ℕ
  stencil_plane plane = pick (has_stencil f) (written l.stencil_pitch 1 l.width l.height (λ x y. stencil_bytes f packed (place pitch (bytes_of f) x y)) plane) plane

-- the packed buffer with each pixel at its place
unfoldable pub packed_pixels : (f : ℕ) (l : PlaneLayout) (depth stencil : List ℕ) (pitch : ℕ) → List ℕ → List ℕ
packed_pixels f l depth stencil pitch =
    written pitch (bytes_of f) l.width l.height (λ x y. packed_bytes f depth stencil (place l.depth_pitch 4 x y) (place l.stencil_pitch 1 x y))

-- ---- the calls
-- what is made of a list where the call is accepted, and else the list as it was
abbrev pub if_accepted : ℕ → List ℕ → List ℕ → List ℕ
if_accepted refusal made was = pick (eqb refusal 0) made was

-- the depth plane after unpacking
unfoldable pub unpacked_depth : ℕ → PlaneLayout → (packed : List ℕ) (pitch : ℕ) (depth stencil : List ℕ) → List ℕ
unpacked_depth f l packed pitch depth stencil =
    if_accepted (refusal_of f l (length packed) pitch (length depth) (length stencil)) (depth_plane f l packed pitch depth) depth

-- the stencil plane after unpacking
unfoldable pub unpacked_stencil : ℕ → PlaneLayout → (packed : List ℕ) (pitch : ℕ) (depth stencil : List ℕ) → List ℕ
unpacked_stencil f l packed pitch depth stencil =
    if_accepted (refusal_of f l (length packed) pitch (length depth) (length stencil)) (stencil_plane f l packed pitch stencil) stencil

-- the packed buffer after packing
unfoldable pub packed_buffer : ℕ → PlaneLayout → (depth stencil packed : List ℕ) (pitch : ℕ) → List ℕ
packed_buffer f l depth stencil packed pitch =
    if_accepted (refusal_of f l (length packed) pitch (length depth) (length stencil)) (packed_pixels f l depth stencil pitch packed) packed
