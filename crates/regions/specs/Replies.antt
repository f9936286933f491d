-- Which pairs of formats convert, and the reply to a region.
-- Assumes nothing.
use Rattle.std.specs.Prelude.{Bool, not, ◌&&◌, ◌||◌, List, [], ◌∷◌, ℕ, ◌%◌, eqb, length, Result, Ok, Err}
use Rattle.words.specs.Tests.{pick}
use Rattle.words.specs.Integers.{up}
use Rattle.formats.specs.Codes.{A8R8G8B8}
use Rattle.formats.specs.Classes.{is_convertible_rgb, is_packed_yuv, is_planar_yuv, is_yuv, is_argb_source}
use Rattle.places.specs.Places.{inside_all}
use Rattle.stretch_rect.specs.declared.sets.YuvSet.{YuvSet}
use Rattle.stretch_rect.specs.Sets.{is_legal, bt601}
use Rattle.regions.specs.declared.reply.ConvertRegion.{ConvertRegion}
use Rattle.regions.specs.declared.reply.ConvertRefusal.{ConvertRefusal}
use Rattle.regions.specs.declared.reply.ConvertRefusal.TheVariants.{Unsupported, PlanarShape, SourceOutside, DestinationOutside, IllegalSet}

-- ---- which pairs of formats convert
-- pairs that the Update calls take: RGB and packed YUV into RGB
unfoldable pub can_convert_update : (source destination : ℕ) → Bool
can_convert_update s d = (is_convertible_rgb s || is_packed_yuv s) && is_convertible_rgb d

-- these, a source of A8R8G8B8 alone into that, and a planar source into RGB
unfoldable pub can_convert : (source destination : ℕ) → Bool
can_convert s d = can_convert_update s d || (eqb d A8R8G8B8 && is_argb_source s) || (is_planar_yuv s && is_convertible_rgb d)

-- ---- the reply
-- a planar source that has other than one slice, a pitch that is not above 0, or a slice that is no whole number of rows
unfoldable pub bad_planar_shape : (f : ℕ) → ConvertRegion → Bool
bad_planar_shape f r =
    is_planar_yuv f
    && (not (eqb r.depth 1) || eqb (up r.source.pitch) 0 || not (eqb (r.source.slice_pitch % up r.source.pitch) 0))

-- a YUV source with a set of numbers that is not legal; of any other source the set is not looked at
unfoldable pub illegal_set : (f : ℕ) → YuvSet → Bool
illegal_set f numbers = is_yuv f && not (is_legal numbers)

-- a region with no texel
unfoldable pub is_empty : ConvertRegion → Bool
is_empty r = eqb r.width 0 || eqb r.height 0 || eqb r.depth 0

-- every source texel of the region lies inside a source of len bytes
unfoldable pub source_inside : (len f : ℕ) → ConvertRegion → Bool
source_inside len f r = inside_all len f r.source r.width r.height r.depth

-- every destination texel of the region lies inside a destination of len bytes
unfoldable pub destination_inside : (len f : ℕ) → ConvertRegion → Bool
destination_inside len f r = inside_all len f r.destination r.width r.height r.depth

-- a test and the reply where it is met
pub record Check : Type 0 where
  pub met : Bool
  pub reply : Result (Unit {0}) ConvertRefusal

-- the reply of the first check that is met
abbrev pub first_met : List Check → Result (Unit {0}) ConvertRefusal → Result (Unit {0}) ConvertRefusal
first_met [] otherwise = otherwise
first_met (c ∷ cs) otherwise = pick c.met c.reply (first_met cs otherwise)

-- the checks, in order; an empty region is accepted
unfoldable pub reply_to : YuvSet → (source destination : ℕ) → ConvertRegion → (source_length destination_length : ℕ) → Result (Unit {0}) ConvertRefusal
reply_to numbers s d r n m =
    first_met
    (record { met = not (can_convert s d); reply = Err Unsupported }
    ∷ record { met = bad_planar_shape s r; reply = Err PlanarShape }
    ∷ record { met = illegal_set s numbers; reply = Err IllegalSet }
    ∷ record { met = is_empty r; reply = Ok tt }
    ∷ record { met = not (source_inside n s r); reply = Err SourceOutside }
    ∷ record { met = not (destination_inside m d r); reply = Err DestinationOutside }
    ∷ [])
    (Ok tt)

-- the reply to two buffers
abbrev pub reply_with : YuvSet → (src dst : List ℕ) (source destination : ℕ) → ConvertRegion → Result (Unit {0}) ConvertRefusal
reply_with numbers src dst s d r = reply_to numbers s d r (length src) (length dst)

-- the reply by bt601
abbrev pub convert_reply : (src dst : List ℕ) (source destination : ℕ) → ConvertRegion → Result (Unit {0}) ConvertRefusal
convert_reply src dst s d r = reply_with bt601 src dst s d r

-- the number of a refusal
abbrev pub refusal_number : ConvertRefusal → ℕ
refusal_number Unsupported = 1
refusal_number PlanarShape = 2
refusal_number SourceOutside = 3
refusal_number DestinationOutside = 4
refusal_number IllegalSet = 15

-- the number of a reply: 0, or its refusal's
abbrev pub reply_number : Result (Unit {0}) ConvertRefusal → ℕ
reply_number (Ok _) = 0
reply_number (Err r) = refusal_number r

-- the first of two where the reply is no refusal, and else the second
abbrev pub if_accepted {ℓ} : {A : Type ℓ} → Result (Unit {0}) ConvertRefusal → A → A → A
if_accepted (Ok _) a b = a
if_accepted (Err _) a b = b

-- a reply without the value that comes with acceptance
abbrev pub without_value : {A : Type 0} → Result A ConvertRefusal → Result (Unit {0}) ConvertRefusal
without_value (Ok _) = Ok tt
without_value (Err e) = Err e
