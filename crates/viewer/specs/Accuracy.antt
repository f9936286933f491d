-- How near what accepted calls store lies to what it was made of, and what comes back.
use Rattle.std.specs.Prelude.{◌≡◌, List, ℕ, length}
use Rattle.stretch_rect.specs.declared.sets.YuvSet.{YuvSet}
use Rattle.regions.specs.declared.reply.ConvertRegion.{ConvertRegion}
use Rattle.regions.specs.Regions.{converted_with, NearWith, OwnWith}
use Rattle.depth_texture.specs.declared.PlaneLayout.{PlaneLayout}
use Rattle.depth_texture.specs.Pixels.{KeepsAll}
use Rattle.depth_texture.specs.Replies.{refusal_of}
use Rattle.depth_texture.specs.Planes.{unpacked_depth, unpacked_stencil, packed_buffer}
use Rattle.depth_texture.specs.Promises.{Bytewise, Restores, NearestCodes}

-- what every accepted conversion, packing and unpacking owes its source
pub record Accuracy : Type 0 where
  -- a conversion by any set stores each channel near its exact value, where destination texels share no byte
  pub near : (set : YuvSet) (src dst : List ℕ) (s d : ℕ) (r : ConvertRegion) → Bytewise src
      → NearWith set src dst (converted_with set src dst s d r) s d r
  -- and from YUV each colour of eight bits nearer yet to what the set's own numbers define
  pub own : (set : YuvSet) (src dst : List ℕ) (s d : ℕ) (r : ConvertRegion)
      → OwnWith set src dst (converted_with set src dst s d r) s d r
  -- a packing stores the nearest code of each depth
  pub nearest : (f : ℕ) (l : PlaneLayout) (depth stencil packed : List ℕ) (pitch : ℕ) → Bytewise stencil
      → refusal_of f l (length packed) pitch (length depth) (length stencil) ≡ 0
      → NearestCodes f l depth (packed_buffer f l depth stencil packed pitch) pitch
  -- the planes of an unpacked D16 or D24S8 picture pack to the same pixels, into whatever buffer and pitch that is accepted for
  pub restores : (f : ℕ) (l : PlaneLayout) (packed : List ℕ) (pitch : ℕ) (depth stencil : List ℕ) → Bytewise packed
      → refusal_of f l (length packed) pitch (length depth) (length stencil) ≡ 0 → KeepsAll f
      → Restores f l packed pitch (unpacked_depth f l packed pitch depth stencil)
      (unpacked_stencil f l packed pitch depth stencil)
