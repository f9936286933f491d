-- What a call leaves: refused, all that it was lent, and zeros in what it hands back; accepted, all but the named texels and pixels.
use Rattle.std.specs.Prelude.{◌≡◌, ◌≢◌, ◌↔◌, List, ℕ, length, replicate, Result, Ok, OnErr}
use Rattle.formats.specs.Table.{bytes_of}
use Rattle.planar_yuv.specs.declared.PlanarYuvLayout.{PlanarYuvLayout}
use Rattle.planar_yuv.specs.Answers.{layout_of, from_pitch, from_width}
use Rattle.stretch_rect.specs.declared.sets.YuvSet.{YuvSet}
use Rattle.regions.specs.declared.reply.ConvertRegion.{ConvertRegion}
use Rattle.regions.specs.declared.reply.ConvertRefusal.{ConvertRefusal}
use Rattle.regions.specs.Replies.{reply_with, reply_number, if_accepted}
use Rattle.regions.specs.Regions.{converted_with, OthersKept}
use Rattle.depth_texture.specs.declared.PlaneLayout.{PlaneLayout}
use Rattle.depth_texture.specs.Layouts.{layout, layout_refusal, layout_for}
use Rattle.depth_texture.specs.Replies.{refusal_of}
use Rattle.depth_texture.specs.Pictures.{written}
use Rattle.depth_texture.specs.Planes.{unpacked_depth, unpacked_stencil, packed_buffer}
use Rattle.depth_texture.specs.Promises.{SameElsewhere, PlanesKept}
use Rattle.convert.specs.Fill.{fill_of}

-- a refused conversion, unpacking or packing changes no byte
pub record RefusedUntouched : Type 0 where
  pub destination : (set : YuvSet) (src dst : List ℕ) (s d : ℕ) (r : ConvertRegion)
      → OnErr (reply_with set src dst s d r) (converted_with set src dst s d r ≡ dst)
  pub planes : (f : ℕ) (l : PlaneLayout) (packed : List ℕ) (pitch : ℕ) (depth stencil : List ℕ)
      → refusal_of f l (length packed) pitch (length depth) (length stencil) ≢ 0
      → (unpacked_depth f l packed pitch depth stencil ≡ depth) × (unpacked_stencil f l packed pitch depth stencil ≡ stencil)
  pub picture : (f : ℕ) (l : PlaneLayout) (packed : List ℕ) (pitch : ℕ) (depth stencil : List ℕ)
      → refusal_of f l (length packed) pitch (length depth) (length stencil) ≢ 0
      → packed_buffer f l depth stencil packed pitch ≡ packed

-- the number of a conversion's reply says whether it is accepted
pub record ReplyByNumber : Type 0 where
  -- 0 is the number of acceptance alone
  pub accepted : (a : Result (Unit {0}) ConvertRefusal) → (reply_number a ≡ 0) ↔ (a ≡ Ok tt)
  -- any other number is a refusal's, and of what acceptance would leave and what was there the latter stays
  pub refused : (a : Result (Unit {0}) ConvertRefusal) (x y : List ℕ) → reply_number a ≢ 0 → if_accepted a x y ≡ y
  -- so a conversion whose number is not 0 changes no byte
  pub destination : (set : YuvSet) (src dst : List ℕ) (s d : ℕ) (r : ConvertRegion)
      → reply_number (reply_with set src dst s d r) ≢ 0 → converted_with set src dst s d r ≡ dst

-- whether it is accepted or refused, a call changes the bytes of the named texels or pixels and no other
pub record OthersUntouched : Type 0 where
  pub destination : (set : YuvSet) (src dst : List ℕ) (s d : ℕ) (r : ConvertRegion)
      → OthersKept dst (converted_with set src dst s d r) d r
  pub planes : (f : ℕ) (l : PlaneLayout) (packed : List ℕ) (pitch : ℕ) (depth stencil : List ℕ)
      → PlanesKept f l depth (unpacked_depth f l packed pitch depth stencil) stencil
      (unpacked_stencil f l packed pitch depth stencil)
  pub picture : (f : ℕ) (l : PlaneLayout) (packed : List ℕ) (pitch : ℕ) (depth stencil : List ℕ)
      → SameElsewhere pitch (bytes_of f) l.width l.height packed (packed_buffer f l depth stencil packed pitch)

-- a planar layout of zeros
abbrev pub no_planar_layout : PlanarYuvLayout
no_planar_layout = record { pitch = 0; luma_rows = 0; chroma_rows = 0; total_bytes = 0 }

-- a refused fill or layout hands back zeros
pub record RefusedZeros : Type 0 where
  pub fill : (color f : ℕ) → (fill_of color f).reply ≢ 0
      → ((fill_of color f).bytes ≡ replicate 16 0) × ((fill_of color f).len ≡ 0)
  pub plane_layout : (width height alignment : ℕ) → layout_refusal width height alignment ≢ 0
      → layout_for width height alignment ≡ layout 0 0 0 0
  pub planar_layout : (f width height : ℕ) → (from_width f width height).number ≢ 0
      → layout_of (from_width f width height) ≡ no_planar_layout
  pub planar_layout_from_pitch : (f pitch rows : ℕ) → (from_pitch f pitch rows).number ≢ 0
      → layout_of (from_pitch f pitch rows) ≡ no_planar_layout

-- a call writes into what it was lent and changes no length, refused or accepted
pub record LengthsKept : Type 0 where
  -- a conversion's destination
  pub destination : (set : YuvSet) (src dst : List ℕ) (s d : ℕ) (r : ConvertRegion)
      → length (converted_with set src dst s d r) ≡ length dst
  -- the planes of an unpacking
  pub planes : (f : ℕ) (l : PlaneLayout) (packed : List ℕ) (pitch : ℕ) (depth stencil : List ℕ)
      → (length (unpacked_depth f l packed pitch depth stencil) ≡ length depth)
      × (length (unpacked_stencil f l packed pitch depth stencil) ≡ length stencil)
  -- the buffer of a packing
  pub picture : (f : ℕ) (l : PlaneLayout) (packed : List ℕ) (pitch : ℕ) (depth stencil : List ℕ)
      → length (packed_buffer f l depth stencil packed pitch) ≡ length packed
  -- and of any picture whose pixels are written, whatever their bytes
  pub pixels : (pitch size width height : ℕ) (content : ℕ → ℕ → List ℕ) (l : List ℕ)
      → length (written pitch size width height content l) ≡ length l
