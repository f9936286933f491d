-- What a call leaves, by its reply. Assumes nothing.
use Rattle.std.specs.Prelude.{◌≡◌, ◌≢◌, refl, Bool, true, false, ◌&&◌, List, ℕ, length, leb, eqb, replicate, Result, Ok, Err, OnErr}
use Rattle.std.proofs.Common.{sym, ap, subst, eqb-true, ne_eqb, arith}
use Rattle.std.proofs.Math.Seq.{length-sets}
use Rattle.words.specs.Tests.{pick}
use Rattle.words.proofs.IterateLaws.{iterate_length}
use Rattle.words.proofs.TestsLaws.{not_zero}
use Rattle.formats.specs.Table.{bytes_of}
use Rattle.formats.specs.Classes.{listed, linear_row_pitch, max_texture_dim}
use Rattle.texels.specs.Texels.{encoded_bytes}
use Rattle.stretch_rect.specs.declared.sets.YuvSet.{YuvSet}
use Rattle.planar_yuv.specs.Rules.{allowed}
use Rattle.planar_yuv.specs.Answers.{Reply, refusal, layout_reply, layout_of, from_pitch, from_width}
use Rattle.regions.specs.declared.reply.ConvertRegion.{ConvertRegion}
use Rattle.regions.specs.declared.reply.ConvertRefusal.{ConvertRefusal}
use Rattle.regions.specs.declared.reply.ConvertRefusal.TheVariants.{Unsupported, PlanarShape, SourceOutside, DestinationOutside, IllegalSet}
use Rattle.regions.specs.Replies.{reply_with, reply_number, if_accepted}
use Rattle.regions.specs.Regions as regions
use Rattle.regions.specs.Regions.{converted_with, region_written}
use Rattle.regions.proofs.Promises.{others_kept}
use Rattle.depth_texture.specs.declared.PlaneLayout.{PlaneLayout}
use Rattle.depth_texture.specs.Layouts.{layout, layout_refusal, layout_for}
use Rattle.depth_texture.specs.Replies.{refusal_of}
use Rattle.depth_texture.specs.Pixels.{has_stencil}
use Rattle.depth_texture.specs.Planes.{depth_plane, stencil_plane, packed_pixels, unpacked_depth, unpacked_stencil, packed_buffer}
use Rattle.depth_texture.specs.Promises.{SameElsewhere, PlanesKept}
use Rattle.depth_texture.proofs.PicturesLaws.{written_length}
use Rattle.depth_texture.proofs.RoundTrip.{unpacked_accepted, unpacked_refused, packed_accepted, packed_refused, planes_kept, packed_kept}
use Rattle.convert.specs.Fill.{Fill, fill_formats, filled, refused, word_of, fill_of}
use Rattle.viewer.specs.Untouched.{RefusedUntouched, ReplyByNumber, OthersUntouched, no_planar_layout, RefusedZeros, LengthsKept}

-- ---- bytes that were lent
left_if_refused : {A : Type 0} (q : Result (Unit {0}) ConvertRefusal) (a b : A) → OnErr q (if_accepted q a b ≡ b)
left_if_refused (Ok _) a b = tt
left_if_refused (Err _) a b = refl

pub destination_untouched : (set : YuvSet) (src dst : List ℕ) (s d : ℕ) (r : ConvertRegion) → OnErr (reply_with set src dst s d r) (converted_with set src dst s d r ≡ dst)
unfolding converted_with
destination_untouched set src dst s d r = left_if_refused (reply_with set src dst s d r) (region_written set src s d r dst) dst

pub refused_untouched : RefusedUntouched
refused_untouched = record {
  destination = destination_untouched;
  planes = λ f l packed pitch depth stencil n.
      let u = unpacked_refused f l packed pitch depth stencil (omega (arith, n)) in
      (sym u.0, sym u.1);
  picture = λ f l packed pitch depth stencil n. sym (packed_refused f l packed pitch depth stencil (omega (arith, n)));
}

-- ---- a reply by its number
is_accepted : (a : Result (Unit {0}) ConvertRefusal) → reply_number a ≡ 0 → a ≡ Ok tt
is_accepted (Ok _) h = refl
is_accepted (Err Unsupported) h = absurd (omega (arith, h))
is_accepted (Err PlanarShape) h = absurd (omega (arith, h))
is_accepted (Err SourceOutside) h = absurd (omega (arith, h))
is_accepted (Err DestinationOutside) h = absurd (omega (arith, h))
is_accepted (Err IllegalSet) h = absurd (omega (arith, h))

is_refused : (a : Result (Unit {0}) ConvertRefusal) (x y : List ℕ) → reply_number a ≢ 0 → if_accepted a x y ≡ y
is_refused (Ok _) x y h = absurd (h refl)
is_refused (Err _) x y h = refl

number_refused : (set : YuvSet) (src dst : List ℕ) (s d : ℕ) (r : ConvertRegion) → reply_number (reply_with set src dst s d r) ≢ 0 → converted_with set src dst s d r ≡ dst
unfolding converted_with
number_refused set src dst s d r h = is_refused (reply_with set src dst s d r) (region_written set src s d r dst) dst h

pub reply_by_number : ReplyByNumber
reply_by_number = record {
  accepted = λ a. (is_accepted a, λ e. ap reply_number e);
  refused = is_refused;
  destination = number_refused;
}

-- ---- bytes of no texel and no pixel
module _ (f : ℕ) (l : PlaneLayout) (packed : List ℕ) (pitch : ℕ) (depth stencil : List ℕ) where
  abbrev reply : ℕ
  reply = refusal_of f l (length packed) pitch (length depth) (length stencil)

  abbrev Planes : List ℕ → List ℕ → Type 0
  Planes D S = PlanesKept f l depth D stencil S

  planes_untouched : Planes (unpacked_depth f l packed pitch depth stencil) (unpacked_stencil f l packed pitch depth stencil)
  planes_untouched = go (eqb reply 0) refl
    where
      go : (t : Bool) → eqb reply 0 ≡ t → Planes (unpacked_depth f l packed pitch depth stencil) (unpacked_stencil f l packed pitch depth stencil)
      go true e =
          let u = unpacked_accepted f l packed pitch depth stencil (eqb-true reply 0 e) in
          subst (λ D. Planes D (unpacked_stencil f l packed pitch depth stencil)) u.0 (subst (Planes (depth_plane f l packed pitch depth)) u.1 (planes_kept f l packed pitch depth stencil))
      go false e =
          let u = unpacked_refused f l packed pitch depth stencil (not_zero reply e) in
          subst (λ D. Planes D (unpacked_stencil f l packed pitch depth stencil)) u.0
          (subst (Planes depth) u.1 (record { depth_padding = λ k none. refl; stencil_padding = λ k none. refl; no_stencil = λ h. refl }))

  picture_untouched : SameElsewhere pitch (bytes_of f) l.width l.height packed (packed_buffer f l depth stencil packed pitch)
  picture_untouched = go (eqb reply 0) refl
    where
      go : (t : Bool) → eqb reply 0 ≡ t → SameElsewhere pitch (bytes_of f) l.width l.height packed (packed_buffer f l depth stencil packed pitch)
      go true e = subst (SameElsewhere pitch (bytes_of f) l.width l.height packed) (packed_accepted f l packed pitch depth stencil (eqb-true reply 0 e)) (packed_kept f l depth stencil packed pitch)
      go false e = subst (SameElsewhere pitch (bytes_of f) l.width l.height packed) (packed_refused f l packed pitch depth stencil (not_zero reply e)) (λ k none. refl)

pub others_untouched : OthersUntouched
others_untouched = record {
  destination = λ set src dst s d r. others_kept set src dst s d r;
  planes = planes_untouched;
  picture = picture_untouched;
}

-- ---- what is handed back
abbrev fill_by : (color f : ℕ) → Bool → Fill
fill_by color f t = pick t (filled (bytes_of f) (word_of color f)) refused

fill_zeros : (color f : ℕ) → (fill_of color f).reply ≢ 0 → ((fill_of color f).bytes ≡ replicate 16 0) × ((fill_of color f).len ≡ 0)
unfolding fill_of
fill_zeros color f = go (listed f fill_formats)
  where
    go : (t : Bool) → (fill_by color f t).reply ≢ 0 → ((fill_by color f t).bytes ≡ replicate 16 0) × ((fill_by color f t).len ≡ 0)
    go true n = absurd (n refl)
    go false n = (refl, refl)

plane_zeros : (width height alignment : ℕ) → layout_refusal width height alignment ≢ 0 → layout_for width height alignment ≡ layout 0 0 0 0
unfolding layout_for
plane_zeros width height alignment n = rw (ne_eqb (layout_refusal width height alignment) 0 n) refl

abbrev ZerosOf : Reply → Type 0
ZerosOf r = r.number ≢ 0 → layout_of r ≡ no_planar_layout

refused_or : (t : Bool) (r : Reply) → ZerosOf r → ZerosOf (pick t r refusal)
refused_or true r h = h
refused_or false r h = λ n. refl

planar_zeros : (f pitch rows : ℕ) → ZerosOf (from_pitch f pitch rows)
unfolding from_pitch
planar_zeros f pitch rows = refused_or (allowed f pitch rows) (layout_reply pitch rows) (λ n. absurd (n refl))

width_zeros : (f width height : ℕ) → ZerosOf (from_width f width height)
unfolding from_width
width_zeros f width height = refused_or (leb 1 width && leb width max_texture_dim) (from_pitch f (linear_row_pitch width) height) (planar_zeros f (linear_row_pitch width) height)

pub refused_zeros : RefusedZeros
refused_zeros = record { fill = fill_zeros; plane_layout = plane_zeros; planar_layout = width_zeros; planar_layout_from_pitch = planar_zeros }

-- ---- lengths
module _ (set : YuvSet) (src : List ℕ) (s d : ℕ) (r : ConvertRegion) where
  texel_length : (z row col : ℕ) (l : List ℕ) → length (regions.written set src s d r z row col l) ≡ length l
  unfolding regions.written
  texel_length z row col l = length-sets l (regions.to_at d r z row col) (encoded_bytes d (regions.source_texel set src s r z row col))

  row_length : (z row : ℕ) (l : List ℕ) → length (regions.row_written set src s d r z row l) ≡ length l
  unfolding regions.row_written
  row_length z row l = iterate_length _ (texel_length z row) r.width l

  slice_length : (z : ℕ) (l : List ℕ) → length (regions.slice_written set src s d r z l) ≡ length l
  unfolding regions.slice_written
  slice_length z l = iterate_length _ (row_length z) r.height l

  region_length : (l : List ℕ) → length (region_written set src s d r l) ≡ length l
  unfolding regions.region_written
  region_length l = iterate_length _ slice_length r.depth l

accepted_length : (q : Result (Unit {0}) ConvertRefusal) (a b : List ℕ) → length a ≡ length b → length (if_accepted q a b) ≡ length b
accepted_length (Ok _) a b h = h
accepted_length (Err _) a b h = refl

picked_length : (t : Bool) (a b : List ℕ) → length a ≡ length b → length (pick t a b) ≡ length b
picked_length true a b h = h
picked_length false a b h = refl

converted_length : (set : YuvSet) (src dst : List ℕ) (s d : ℕ) (r : ConvertRegion) → length (converted_with set src dst s d r) ≡ length dst
unfolding converted_with
converted_length set src dst s d r = accepted_length (reply_with set src dst s d r) (region_written set src s d r dst) dst (region_length set src s d r dst)

planes_length : (f : ℕ) (l : PlaneLayout) (packed : List ℕ) (pitch : ℕ) (depth stencil : List ℕ)
    → (length (unpacked_depth f l packed pitch depth stencil) ≡ length depth) × (length (unpacked_stencil f l packed pitch depth stencil) ≡ length stencil)
unfolding unpacked_depth unpacked_stencil depth_plane stencil_plane
planes_length f l packed pitch depth stencil = (
  picked_length _ _ depth (written_length l.depth_pitch 4 l.width l.height _ depth),
  picked_length _ _ stencil (picked_length (has_stencil f) _ stencil (written_length l.stencil_pitch 1 l.width l.height _ stencil)),
)

picture_length : (f : ℕ) (l : PlaneLayout) (packed : List ℕ) (pitch : ℕ) (depth stencil : List ℕ) → length (packed_buffer f l depth stencil packed pitch) ≡ length packed
unfolding packed_buffer packed_pixels
picture_length f l packed pitch depth stencil = picked_length _ _ packed (written_length pitch (bytes_of f) l.width l.height _ packed)

pub lengths_kept : LengthsKept
lengths_kept = record { destination = converted_length; planes = planes_length; picture = picture_length; pixels = written_length }
