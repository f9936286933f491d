-- What an accepted conversion has passed, and what a reply's number tells of it. Assumes nothing.
use Rattle.std.specs.Prelude.{◌≡◌, refl, Bool, true, false, not, ◌&&◌, ◌||◌, ℕ, ◌%◌, ◌<◌, eqb, Result, Ok, Err}
use Rattle.std.proofs.Common.{sym, ap, ◌∙◌, arith, eqb-true}
use Rattle.std.proofs.lemmas.Bool.{false≢true}
use Rattle.words.specs.Tests.{pick}
use Rattle.words.specs.Integers.{up}
use Rattle.words.proofs.TestsLaws.{not_zero}
use Rattle.formats.specs.Codes.{A8R8G8B8}
use Rattle.formats.specs.Classes.{is_convertible_rgb, is_packed_yuv, is_planar_yuv, is_yuv, is_argb_source, is_lane_source}
use Rattle.formats.specs.Formats.{is_source}
use Rattle.stretch_rect.specs.declared.sets.YuvSet.{YuvSet}
use Rattle.stretch_rect.specs.Sets.{is_legal}
use Rattle.regions.specs.declared.reply.ConvertRegion.{ConvertRegion}
use Rattle.regions.specs.declared.reply.ConvertRefusal.{ConvertRefusal}
use Rattle.regions.specs.declared.reply.ConvertRefusal.TheVariants.{Unsupported, PlanarShape, SourceOutside, DestinationOutside, IllegalSet}
use Rattle.regions.specs.Replies.{can_convert, can_convert_update, bad_planar_shape, illegal_set, is_empty, source_inside, destination_inside, reply_to}

-- ---- the destination of a pair that converts is one
pub convert_rgb : (s d : ℕ) → can_convert s d ≡ true → is_convertible_rgb d ≡ true
unfolding can_convert can_convert_update is_convertible_rgb
convert_rgb s d h = go (is_convertible_rgb s || is_packed_yuv s) (is_convertible_rgb d) (eqb d A8R8G8B8) (is_argb_source s) (is_planar_yuv s) refl refl h
  where
    go : (a b c w p : Bool) → is_convertible_rgb d ≡ b → eqb d A8R8G8B8 ≡ c → ((a && b) || (c && w) || (p && b)) ≡ true → is_convertible_rgb d ≡ true
    go a true c w p e f k = e
    go a false true w p e f k = ap is_convertible_rgb (eqb-true d A8R8G8B8 f)
    go true false false w true e f k = absurd (false≢true k)
    go true false false w false e f k = absurd (false≢true k)
    go false false false w true e f k = absurd (false≢true k)
    go false false false w false e f k = absurd (false≢true k)

-- ---- the source of a pair that converts is a picture
-- so it has a type, as its destination has
pub convert_source : (s d : ℕ) → can_convert s d ≡ true → is_source s ≡ false → ⊥
unfolding can_convert can_convert_update is_lane_source
convert_source s d h n = go (is_convertible_rgb s) (is_packed_yuv s) (is_convertible_rgb d) (eqb d A8R8G8B8) (is_argb_source s) (is_planar_yuv s) h n
  where
    go : (a k b e w p : Bool) → (((a || k) && b) || (e && w) || (p && b)) ≡ true → ((a || w) || (k || p)) ≡ false → ⊥
    go true k b e w p h n = false≢true (sym n)
    go false k b e true p h n = false≢true (sym n)
    go false true b e false p h n = false≢true (sym n)
    go false false b e false true h n = false≢true (sym n)
    go false false b true false false h n = false≢true h
    go false false b false false false h n = false≢true h

pub convert_is_source : (s d : ℕ) → can_convert s d ≡ true → is_source s ≡ true
convert_is_source s d h = go (is_source s) refl
  where
    go : (b : Bool) → is_source s ≡ b → b ≡ true
    go true e = refl
    go false e = absurd (convert_source s d h e)

pub rgb_is_source : (d : ℕ) → is_convertible_rgb d ≡ true → is_source d ≡ true
unfolding is_lane_source
rgb_is_source d h = rw h refl

pub convert_target : (s d : ℕ) → can_convert s d ≡ true → is_convertible_rgb d ≡ false → ⊥
convert_target s d h n = false≢true (sym n ∙ convert_rgb s d h)

-- a pair that does not convert is refused first
pub no_pair : (numbers : YuvSet) (s d : ℕ) (r : ConvertRegion) (n m : ℕ) → can_convert s d ≡ false → Err Unsupported ≡ reply_to numbers s d r n m
unfolding reply_to
no_pair numbers s d r n m h = rw h refl

-- ---- what an accepted region that has a texel passed
pub record PassesChecks (numbers : YuvSet) (s d : ℕ) (r : ConvertRegion) (n m : ℕ) : Type 0 where
  pub pair : can_convert s d ≡ true
  pub shape : bad_planar_shape s r ≡ false
  pub set : illegal_set s numbers ≡ false
  pub source : source_inside n s r ≡ true
  pub destination : destination_inside m d r ≡ true

pub passed : (numbers : YuvSet) (s d : ℕ) (r : ConvertRegion) (n m : ℕ) → is_empty r ≡ false → reply_to numbers s d r n m ≡ Ok tt → PassesChecks numbers s d r n m
unfolding reply_to
passed numbers s d r n m ne h = go (can_convert s d) (bad_planar_shape s r) (illegal_set s numbers) (is_empty r) (source_inside n s r) (destination_inside m d r) refl refl refl ne refl refl h
  where
    clash : (a b : ℕ) → a ≡ b → a < b → PassesChecks numbers s d r n m
    clash a b e l = absurd (omega arith)

    go : (c p w e si di : Bool) → can_convert s d ≡ c → bad_planar_shape s r ≡ p → illegal_set s numbers ≡ w → e ≡ false → source_inside n s r ≡ si → destination_inside m d r ≡ di
        → ◌≡◌ {A = Result (Unit {0}) ConvertRefusal} (pick (not c) (Err Unsupported) (pick p (Err PlanarShape) (pick w (Err IllegalSet) (pick e (Ok tt) (pick (not si) (Err SourceOutside) (pick (not di) (Err DestinationOutside) (Ok tt))))))) (Ok tt) → PassesChecks numbers s d r n m
    go true false false false true true a b v f g i k = record { pair = a; shape = b; set = v; source = g; destination = i }
    go true false false false true false a b v f g i k = let x : ◌≡◌ {A = ℕ} 0 1 = cc in clash 0 1 x (omega arith)
    go true false false false false di a b v f g i k = let x : ◌≡◌ {A = ℕ} 0 1 = cc in clash 0 1 x (omega arith)
    go true false false true si di a b v f g i k = absurd (false≢true (sym f))
    go true false true e si di a b v f g i k = let x : ◌≡◌ {A = ℕ} 0 1 = cc in clash 0 1 x (omega arith)
    go true true w e si di a b v f g i k = let x : ◌≡◌ {A = ℕ} 0 1 = cc in clash 0 1 x (omega arith)
    go false p w e si di a b v f g i k = let x : ◌≡◌ {A = ℕ} 0 1 = cc in clash 0 1 x (omega arith)

-- a planar source that is not refused has one slice
pub one_slice : (s : ℕ) (r : ConvertRegion) → bad_planar_shape s r ≡ false → is_planar_yuv s ≡ true → (z : ℕ) → z < r.depth → z ≡ 0
unfolding bad_planar_shape
one_slice s r h p z l = go (is_planar_yuv s) (eqb r.depth 1) (eqb (up r.source.pitch) 0) (not (eqb (r.source.slice_pitch % up r.source.pitch) 0)) p refl h
  where
    go : (a b c d : Bool) → a ≡ true → eqb r.depth 1 ≡ b → (a && (not b || c || d)) ≡ false → z ≡ 0
    go true true c d e g k = omega (arith, eqb-true r.depth 1 g, l)
    go true false c d e g k = absurd (false≢true (sym k))
    go false b c d e g k = absurd (false≢true e)

-- ---- where a set is not looked at, or legal
pub legal_fits : (numbers : YuvSet) (s : ℕ) → is_legal numbers ≡ true → illegal_set s numbers ≡ false
unfolding illegal_set
legal_fits numbers s h = go (is_yuv s) (is_legal numbers) h
  where
    go : (y l : Bool) → l ≡ true → (y && not l) ≡ false
    go true true e = refl
    go true false e = sym e
    go false l e = refl

pub other_fits : (numbers : YuvSet) (s : ℕ) → is_yuv s ≡ false → illegal_set s numbers ≡ false
unfolding illegal_set
other_fits numbers s h = rw h refl

-- the reply by its checks
pub as_before : (numbers : YuvSet) (s d : ℕ) (r : ConvertRegion) (n m : ℕ) → illegal_set s numbers ≡ false
    → reply_to numbers s d r n m
    ≡ pick (not (can_convert s d)) (Err Unsupported) (pick (bad_planar_shape s r) (Err PlanarShape) (pick (is_empty r) (Ok tt) (pick (not (source_inside n s r)) (Err SourceOutside) (pick (not (destination_inside m d r)) (Err DestinationOutside) (Ok tt)))))
unfolding reply_to
as_before numbers s d r n m h = rw h refl

-- ---- a region that is not empty has a column, a row and a slice
pub sizes : (r : ConvertRegion) → is_empty r ≡ false → (0 < r.width) × (0 < r.height) × (0 < r.depth)
unfolding is_empty
sizes r h = go (eqb r.width 0) (eqb r.height 0) (eqb r.depth 0) refl refl refl h
  where
    go : (a b c : Bool) → eqb r.width 0 ≡ a → eqb r.height 0 ≡ b → eqb r.depth 0 ≡ c → (a || b || c) ≡ false → (0 < r.width) × (0 < r.height) × (0 < r.depth)
    go false false false e f g k = (not_zero r.width e, not_zero r.height f, not_zero r.depth g)
    go false false true e f g k = absurd (false≢true (sym k))
    go false true c e f g k = absurd (false≢true (sym k))
    go true b c e f g k = absurd (false≢true (sym k))
