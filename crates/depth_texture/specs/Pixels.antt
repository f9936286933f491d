-- Packed depth pixels, by the lane table of formats: a pixel is the little-endian number of its bytes, its word.
-- Assumes nothing.
use Rattle.std.specs.Prelude.{◌≡◌, Bool, true, false, Option, Some, None, List, [], ◌∷◌, ◌⊎◌, ℕ, ◌-◌, ◌^◌}
use Rattle.words.specs.Little.{bytes}
use Rattle.formats.specs.Lanes.{Channel, red, green, blue, alpha, luminance, depth, stencil, padding, Lane, nowhere, at, code_at, packed}
use Rattle.formats.specs.Table.{parts_of, lane_of, bytes_of, width_of}
use Rattle.formats.specs.Classes.{listed}
use Rattle.formats.specs.Codes as codes
use Rattle.depth_texture.specs.declared.pixels.PackedDepth.{PackedDepth}
use Rattle.depth_texture.specs.declared.pixels.PackedDepth.TheVariants.{D16, D24X8, D24S8}
use Rattle.depth_texture.specs.declared.pixels.DepthStencil.{DepthStencil}
use Rattle.depth_texture.specs.Depth.{depth_of, code_for}

-- the code of a packed depth format
abbrev pub format_code : PackedDepth → ℕ
format_code D16 = codes.D16
format_code D24X8 = codes.D24X8
format_code D24S8 = codes.D24S8

-- f is the code of a packed depth format
unfoldable pub is_packed_depth : ℕ → Bool
is_packed_depth f = listed f (codes.D16 ∷ codes.D24X8 ∷ codes.D24S8 ∷ [])

-- what the code f stands for: the format that has it, and no format only where none has it
abbrev pub StandsFor : ℕ → Option PackedDepth → Type 0
StandsFor f (Some d) = format_code d ≡ f
StandsFor f None = is_packed_depth f ≡ false

-- there is a lane
abbrev is_lane : Lane → Bool
is_lane nowhere = false
is_lane (at low n k) = true

-- the format with the code f stores a stencil
unfoldable pub has_stencil : ℕ → Bool
has_stencil f = is_lane (lane_of f stencil)

-- the largest code of a depth: all bits of its lane
unfoldable pub max_code : ℕ → ℕ
max_code f = 2 ^ width_of (lane_of f depth) - 1

-- the code that a word holds in a lane, and 0 where there is no lane
abbrev pub held_in : Lane → ℕ → ℕ
held_in nowhere w = 0
held_in (at low n k) w = code_at low n w

-- the depth's code that a pixel's word holds
unfoldable pub depth_code : (f word : ℕ) → ℕ
depth_code f w = held_in (lane_of f depth) w

-- the stencil that it holds, and 0 without one
unfoldable pub stencil_code : (f word : ℕ) → ℕ
stencil_code f w = held_in (lane_of f stencil) w

-- what a pixel's word stands for
unfoldable pub decoded : (f word : ℕ) → DepthStencil
decoded f w = record { depth = depth_of (max_code f) (depth_code f w); stencil = stencil_code f w }

-- what the parts of a packed pixel hold: the depth's code, the stencil, and 0 in X
abbrev pub part_code : (code s : ℕ) → Channel → ℕ
part_code code s red = 0
part_code code s green = 0
part_code code s blue = 0
part_code code s alpha = 0
part_code code s luminance = 0
part_code code s depth = code
part_code code s stencil = s
part_code code s padding = 0

-- the word of a pixel with a depth's code and a stencil
unfoldable pub pixel_word : (f code s : ℕ) → ℕ
pixel_word f code s = packed (λ p. part_code code s p.channel) (parts_of f)

-- the bytes that a depth and a stencil are packed into
unfoldable pub encoded : ℕ → DepthStencil → List ℕ
encoded f v = bytes (bytes_of f) (pixel_word f (code_for (max_code f) v.depth) v.stencil)

-- a format that stores every bit of a pixel in the planes: D24X8 does not, since its X is dropped
abbrev pub KeepsAll : ℕ → Type 0
KeepsAll f = (f ≡ codes.D16) ⊎ (f ≡ codes.D24S8)
