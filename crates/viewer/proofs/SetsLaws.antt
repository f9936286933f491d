-- Where a conversion looks at its set of numbers. Assumes nothing.
use Rattle.std.specs.Prelude.{◌≡◌, ◌≢◌, Bool, true, false, not, ℕ, length, Result, Ok, Err}
use Rattle.std.proofs.Common.{subst, sym, arith}
use Rattle.words.specs.Tests.{pick}
use Rattle.stretch_rect.specs.Sets.{is_legal}
use Rattle.stretch_rect.specs.declared.sets.YuvSet.{YuvSet}
use Rattle.regions.specs.declared.reply.ConvertRegion.{ConvertRegion}
use Rattle.regions.specs.declared.reply.ConvertRefusal.{ConvertRefusal}
use Rattle.regions.specs.declared.reply.ConvertRefusal.TheVariants.{Unsupported, PlanarShape, SourceOutside, DestinationOutside}
use Rattle.regions.specs.Replies.{can_convert, bad_planar_shape, is_empty, source_inside, destination_inside, reply_to, reply_number}
use Rattle.regions.proofs.Checks.{legal_fits, as_before}
use Rattle.regions.proofs.ChecksLaws.{any_reply}
use Rattle.regions.proofs.Fetch.{set_unlooked}
use Rattle.stretch_rect.proofs.LegalLaws.{bt601_legal, bt709_legal}
use Rattle.viewer.specs.Sets.{SetUnseen, LegalAccepted}

pub set_unseen : SetUnseen
set_unseen = record {
  reply = any_reply;
  bytes = set_unlooked;
}

-- the checks without the set's
abbrev checked : (no_pair bad_shape empty source_out destination_out : Bool) → Result (Unit {0}) ConvertRefusal
checked c p e n m = pick c (Err Unsupported) (pick p (Err PlanarShape) (pick e (Ok tt) (pick n (Err SourceOutside) (pick m (Err DestinationOutside) (Ok tt)))))

other_number : (c p e n m : Bool) → reply_number (checked c p e n m) ≢ 15
other_number true p e n m h = omega (arith, h)
other_number false true e n m h = omega (arith, h)
other_number false false true n m h = omega (arith, h)
other_number false false false true m h = omega (arith, h)
other_number false false false false true h = omega (arith, h)
other_number false false false false false h = omega (arith, h)

legal_number : (set : YuvSet) (s d : ℕ) (r : ConvertRegion) (n m : ℕ) → is_legal set ≡ true → reply_number (reply_to set s d r n m) ≢ 15
legal_number set s d r n m h =
    subst (λ a. reply_number a ≢ 15) (sym (as_before set s d r n m (legal_fits set s h)))
    (other_number (not (can_convert s d)) (bad_planar_shape s r) (is_empty r) (not (source_inside n s r)) (not (destination_inside m d r)))

pub legal_accepted : LegalAccepted
legal_accepted = record {
  reply = λ set s d r n m h. as_before set s d r n m (legal_fits set s h);
  never_15 = λ set src dst s d r h. legal_number set s d r (length src) (length dst) h;
  bt601_legal = bt601_legal;
  bt709_legal = bt709_legal;
}
