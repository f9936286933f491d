-- A conversion by its reply: refused, empty or accepted, and all that the contract says of each. Assumes nothing.
use Rattle.std.proofs.Common.{◌≡◌, Bool, true, false, List, ℕ, ◌+◌, ◌<◌, length, get_or, Result, Ok, Err, ap, ◌∙◌, subst}
use Rattle.std.proofs.Math.Path.{sym}
use Rattle.std.proofs.lemmas.Bool.{false≢true}
use Rattle.std.proofs.lemmas.List.Edits.{sets}
use Rattle.words.specs.Iterate.{iterate}
use Rattle.formats.specs.Classes.{is_yuv}
use Rattle.formats.specs.Formats.{lane_source_code, yuv_code}
use Rattle.formats.proofs.Classified.{lanes_no_yuv}
use Rattle.formats.proofs.Listed.{rgb_not_planar}
use Rattle.texels.specs.declared.Texel.{Texel}
use Rattle.texels.specs.Texels.{encoded_bytes}
use Rattle.places.specs.Places.{places_at, bytes_at}
use Rattle.places.proofs.InsideLaws.{texel_fits, inside_at, slice_within}
use Rattle.stretch_rect.specs.Sets.{bt601}
use Rattle.stretch_rect.specs.declared.sets.YuvSet.{YuvSet}
use Rattle.regions.specs.declared.reply.Source.{Source}
use Rattle.regions.specs.declared.reply.Source.TheVariants.{Lanes, Yuv}
use Rattle.regions.specs.Sources.{code_of, numbers_of, OfSet}
use Rattle.regions.specs.declared.reply.ConvertRegion.{ConvertRegion}
use Rattle.regions.specs.declared.reply.ConvertRefusal.{ConvertRefusal}
use Rattle.regions.specs.Replies.{is_empty, source_inside, destination_inside, reply_with, if_accepted}
use Rattle.regions.proofs.Fetch.{any_texel}
use Rattle.regions.specs.Regions.{texel_at, to_at, odd_at, source_texel, written, row_written, slice_written, region_written, converted_with, NearWith, OwnWith, OthersKept}
use Rattle.regions.proofs.Checks.{convert_rgb, convert_is_source, rgb_is_source, one_slice, passed, sizes}
use Rattle.regions.proofs.Promises.{destination_fits, empty_written, near_source, own_bytes, others_kept}
use Rattle.regions.specs.Rows.{RowFits}

-- ---- of texels with lanes the set is not looked at, and a YUV source is converted by its own
any_set : (a b : YuvSet) (src : List ℕ) (s d : ℕ) (r : ConvertRegion) (l : List ℕ) → is_yuv s ≡ false → region_written a src s d r l ≡ region_written b src s d r l
unfolding region_written slice_written row_written written source_texel texel_at
any_set a b src s d r l h =
    ap (λ (t : Bool → List ℕ → Texel).
    iterate (λ z. iterate (λ row. iterate (λ col dst. sets dst (to_at d r z row col) (encoded_bytes d (t (odd_at r col) (bytes_at src (places_at s r.source z (r.source.y + row) (r.source.x + col)))))) r.width) r.height) r.depth l)
    (λ i odd bs. any_texel a b s odd bs h i)

pub by_its_set : (numbers : YuvSet) (source : Source) → OfSet numbers source → (src : List ℕ) (d : ℕ) (r : ConvertRegion) (l : List ℕ)
    → region_written (numbers_of source) src (code_of source) d r l ≡ region_written numbers src (code_of source) d r l
by_its_set numbers (Lanes t) h src d r l = any_set bt601 numbers src (lane_source_code t.format) d r l (lanes_no_yuv t.format)
by_its_set numbers (Yuv s) h src d r l = ap (λ n. region_written n src (yuv_code s.format) d r l) h

-- ---- the reply, and the bytes after it
abbrev Answer : YuvSet → (src dst : List ℕ) (s d : ℕ) → ConvertRegion → Result (Unit {0}) ConvertRefusal → List ℕ → Type 0
Answer numbers src dst s d r a out = (a ≡ reply_with numbers src dst s d r) × (out ≡ converted_with numbers src dst s d r)

module _ (numbers : YuvSet) (src dst : List ℕ) (s d : ℕ) (r : ConvertRegion) where
  module _ (a : Result (Unit {0}) ConvertRefusal) (e : a ≡ reply_with numbers src dst s d r) where
    pub refused : (q : ConvertRefusal) → a ≡ Err q → Answer numbers src dst s d r a dst
    unfolding converted_with
    refused q h = (e, sym (ap (λ b. if_accepted b (region_written numbers src s d r dst) dst) (sym e ∙ h)))

    pub accepted : a ≡ Ok tt → Answer numbers src dst s d r a (region_written numbers src s d r dst)
    unfolding converted_with
    accepted h = (e, sym (ap (λ b. if_accepted b (region_written numbers src s d r dst) dst) (sym e ∙ h)))

    pub empty : a ≡ Ok tt → is_empty r ≡ true → Answer numbers src dst s d r a dst
    empty h n = (e, sym (empty_written numbers src dst s d r n) ∙ (accepted h).1)

  -- ---- the five clauses of the contract
  pub promised : ((i : ℕ) → get_or src i 0 < 256) → (a : Result (Unit {0}) ConvertRefusal) (out : List ℕ) → Answer numbers src dst s d r a out
      → (a ≡ reply_with numbers src dst s d r) × ((out ≡ converted_with numbers src dst s d r) × (NearWith numbers src dst out s d r × (OwnWith numbers src dst out s d r × OthersKept dst out d r)))
  promised byte a out w = (
    w.0,
    (
      w.1,
      (
        subst (λ l. NearWith numbers src dst l s d r) (sym w.1) (near_source numbers src byte dst s d r),
        (subst (λ l. OwnWith numbers src dst l s d r) (sym w.1) (own_bytes numbers src dst s d r), subst (λ l. OthersKept dst l d r) (sym w.1) (others_kept numbers src dst s d r)),
      ),
    ),
  )

  -- ---- the rows of a region that is inside
  pub rows_fit : reply_with numbers src dst s d r ≡ Ok tt → is_empty r ≡ false
      → (z : ℕ) → z < r.depth → (row : ℕ) → row < r.height → RowFits (length src) (length dst) s d r z row
  unfolding source_inside destination_inside
  rows_fit h n z zl row rl =
      let q = passed numbers s d r (length src) (length dst) n h in
      let c = q.pair in
      let i = q.source in
      let j = q.destination in
      let some = sizes r n in
      let w = some.0 in
      let source_in : (z' col : ℕ) → z' < r.depth → col < r.width → _ = λ z' col zl' cl.
      texel_fits (length src) s r.source z' (r.source.y + row) (r.source.x + col) (inside_at (length src) s r.source r.width r.height r.depth i z' row col zl' rl cl) in
      let target_in : (z' col : ℕ) → z' < r.depth → col < r.width → _ = λ z' col zl' cl.
      texel_fits (length dst) d r.destination z' (r.destination.y + row) (r.destination.x + col) (inside_at (length dst) d r.destination r.width r.height r.depth j z' row col zl' rl cl) in
      let rgb = convert_rgb s d c in
      record {
        pair = c;
        slices = (
          slice_within (length src) s r.source z (r.source.y + row) (r.source.x + 0) (convert_is_source s d c) (λ p. one_slice s r q.shape p z zl)
              (source_in 0 0 some.2 w).places (source_in z 0 zl w).places,
          slice_within (length dst) d r.destination z (r.destination.y + row) (r.destination.x + 0) (rgb_is_source d rgb) (λ p. absurd (false≢true (sym (rgb_not_planar d rgb) ∙ p)))
              (target_in 0 0 some.2 w).places (target_in z 0 zl w).places,
        );
        rows = (w, (source_in z 0 zl w).row, (target_in z 0 zl w).row);
        source = λ col cl. source_in z col zl cl;
        columns = λ col cl. (target_in z col zl cl).column;
        destination = λ col cl. destination_fits d r (length dst) rgb j z row col (record { slice = zl; line = rl; column = cl });
      }
