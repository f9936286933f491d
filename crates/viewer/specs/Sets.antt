-- Where a conversion looks at its set of numbers, and where it refuses one.
use Rattle.std.specs.Prelude.{◌≡◌, ◌≢◌, true, false, not, List, [], ◌∷◌, ℕ, Result, Ok, Err}
use Rattle.formats.specs.Classes.{is_yuv}
use Rattle.stretch_rect.specs.declared.sets.YuvSet.{YuvSet}
use Rattle.stretch_rect.specs.Sets.{is_legal, bt601, bt709}
use Rattle.regions.specs.declared.reply.ConvertRegion.{ConvertRegion}
use Rattle.regions.specs.declared.reply.ConvertRefusal.{ConvertRefusal}
use Rattle.regions.specs.declared.reply.ConvertRefusal.TheVariants.{Unsupported, PlanarShape, SourceOutside, DestinationOutside}
use Rattle.regions.specs.Replies.{can_convert, bad_planar_shape, is_empty, source_inside, destination_inside, first_met, reply_to, reply_with, reply_number}
use Rattle.regions.specs.Regions.{converted_with}

-- from a source that is no YUV, reply and bytes are the same by any two sets
pub record SetUnseen : Type 0 where
  pub reply : (a b : YuvSet) (s d : ℕ) (r : ConvertRegion) (n m : ℕ) → is_yuv s ≡ false
      → reply_to a s d r n m ≡ reply_to b s d r n m
  pub bytes : (a b : YuvSet) (src dst : List ℕ) (s d : ℕ) (r : ConvertRegion) → is_yuv s ≡ false
      → converted_with a src dst s d r ≡ converted_with b src dst s d r

-- the checks of a reply but for that of the set
abbrev pub other_checks : (s d : ℕ) → ConvertRegion → (n m : ℕ) → Result (Unit {0}) ConvertRefusal
other_checks s d r n m =
    first_met
    (record { met = not (can_convert s d); reply = Err Unsupported }
    ∷ record { met = bad_planar_shape s r; reply = Err PlanarShape }
    ∷ record { met = is_empty r; reply = Ok tt }
    ∷ record { met = not (source_inside n s r); reply = Err SourceOutside }
    ∷ record { met = not (destination_inside m d r); reply = Err DestinationOutside }
    ∷ [])
    (Ok tt)

-- a legal set is not refused, and both sets that have names are legal: by them the reply is never 15
pub record LegalAccepted : Type 0 where
  pub reply : (set : YuvSet) (s d : ℕ) (r : ConvertRegion) (n m : ℕ) → is_legal set ≡ true
      → reply_to set s d r n m ≡ other_checks s d r n m
  pub never_15 : (set : YuvSet) (src dst : List ℕ) (s d : ℕ) (r : ConvertRegion) → is_legal set ≡ true
      → reply_number (reply_with set src dst s d r) ≢ 15
  pub bt601_legal : is_legal bt601 ≡ true
  pub bt709_legal : is_legal bt709 ≡ true
