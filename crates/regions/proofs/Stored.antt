-- After an accepted conversion: where destination texels share no byte, each holds its own bytes, and so lies near its source; and a byte of
-- no destination texel is as it was. Assumes nothing.
use Rattle.std.specs.Prelude.{◌≡◌, ◌⊎◌, true, drop, refl, List, ℕ, ◌+◌, ◌≤◌, ◌<◌, length, get_or, take}
use Rattle.std.proofs.Common.{ap, sym, subst, ◌∙◌, inl, inr, ⊎_elim, arith}
use Rattle.std.proofs.lemmas.List.Edits.{sets}
use Rattle.std.proofs.Math.Seq.{length-sets}
use Rattle.std.proofs.lemmas.Bool.{cases_lt}
use Rattle.words.proofs.IterateLaws.{iterate_keeps, iterate_length, iterate_makes}
use Rattle.words.proofs.Slices.{sets_before, sets_after, sets_read, part_apart}
use Rattle.formats.specs.Table.{bytes_of}
use Rattle.formats.specs.Classes.{is_convertible_rgb}
use Rattle.formats.proofs.Listed.{rgb_not_planar, rgb_not_packed}
use Rattle.places.specs.Places.{HasByte}
use Rattle.places.proofs.InsideLaws.{places_at_lanes, from_place_has}
use Rattle.texels.specs.Texels.{encoded_bytes}
use Rattle.texels.proofs.Words.{encoded_length}
use Rattle.stretch_rect.specs.declared.sets.YuvSet.{YuvSet}
use Rattle.regions.specs.declared.reply.ConvertRegion.{ConvertRegion}
use Rattle.regions.specs.Rows.{LiesIn}
use Rattle.regions.specs.Regions.{to_at, source_texel, written, row_written, slice_written, region_written, InRegion, ByteOf, Disjoint}

-- a destination texel's bytes are those from its first on
byte_of : (d : ℕ) (r : ConvertRegion) → is_convertible_rgb d ≡ true → (m z row col k : ℕ) → LiesIn d r m z row col → to_at d r z row col ≤ k → k < to_at d r z row col + bytes_of d → ByteOf d r z row col k
byte_of d r rgb m z row col k lies low high =
    subst (λ p. HasByte p k) (sym (places_at_lanes d r.destination z (r.destination.y + row) (r.destination.x + col) (rgb_not_planar d rgb) (rgb_not_packed d rgb)))
    (from_place_has _ (to_at d r z row col) (bytes_of d) k lies.place low high)

module _ (numbers : YuvSet) (src : List ℕ) (s d : ℕ) (r : ConvertRegion) (rgb : is_convertible_rgb d ≡ true) (m : ℕ) where
  -- ---- lengths
  written_length : (z row col : ℕ) (l : List ℕ) → length (written numbers src s d r z row col l) ≡ length l
  unfolding written
  written_length z row col l = length-sets l (to_at d r z row col) (encoded_bytes d (source_texel numbers src s r z row col))

  row_length : (z row : ℕ) (l : List ℕ) → length (row_written numbers src s d r z row l) ≡ length l
  unfolding row_written
  row_length z row l = iterate_length _ (written_length z row) r.width l

  slice_length : (z : ℕ) (l : List ℕ) → length (slice_written numbers src s d r z l) ≡ length l
  unfolding slice_written
  slice_length z l = iterate_length _ (row_length z) r.height l

  -- ---- bytes of no texel
  written_other : (z row col k v : ℕ) → LiesIn d r m z row col → (ByteOf d r z row col k → ⊥) → (l : List ℕ) → get_or l k 0 ≡ v → get_or (written numbers src s d r z row col l) k 0 ≡ v
  unfolding written
  written_other z row col k v lies none l e =
      let a = to_at d r z row col in
      let vs = encoded_bytes d (source_texel numbers src s r z row col) in
      let n = encoded_length d (source_texel numbers src s r z row col) in
      ⊎_elim (λ h. sets_before l a vs k h ∙ e)
      (λ h. ⊎_elim (λ g. absurd (none (byte_of d r rgb m z row col k lies h g))) (λ g. sets_after l a vs k (omega (arith, n)) ∙ e) (cases_lt k (a + bytes_of d)))
      (cases_lt k a)

  pub region_other : (k : ℕ) → ((z row col : ℕ) → InRegion r z row col → LiesIn d r m z row col) → ((z row col : ℕ) → InRegion r z row col → ByteOf d r z row col k → ⊥) → (l : List ℕ) → get_or (region_written numbers src s d r l) k 0 ≡ get_or l k 0
  unfolding region_written slice_written row_written
  region_other k lie none l =
      let v = get_or l k 0 in
      let P : List ℕ → Type 0 = λ b. get_or b k 0 ≡ v in
      iterate_keeps P _ r.depth
      (λ z zl. iterate_keeps P _ r.height
      (λ row rl. iterate_keeps P _ r.width
      (λ col cl b p. let t : InRegion r z row col = record { slice = zl; line = rl; column = cl } in
      written_other z row col k v (lie z row col t) (none z row col t) b p)))
      l refl

  module _ (lie : (z row col : ℕ) → InRegion r z row col → LiesIn d r m z row col) (apart : Disjoint d r) (z row col : ℕ) (t : InRegion r z row col) where
    -- ---- a texel's own bytes
    abbrev at_texel : ℕ
    at_texel = to_at d r z row col

    abbrev own : List ℕ → Type 0
    own b = take (bytes_of d) (drop at_texel b) ≡ encoded_bytes d (source_texel numbers src s r z row col)

    abbrev Elsewhere : ℕ → Type 0
    Elsewhere a = (at_texel + bytes_of d ≤ a) ⊎ (a + bytes_of d ≤ at_texel)

    -- another texel lies elsewhere, or is this one
    other_texel : (z' row' col' : ℕ) → InRegion r z' row' col' → Elsewhere (to_at d r z' row' col') ⊎ ((z' ≡ z) × (row' ≡ row) × (col' ≡ col))
    unfolding Disjoint
    other_texel z' row' col' t' =
        let a = to_at d r z' row' col' in
        let mine = λ (k : ℕ). byte_of d r rgb m z row col k (lie z row col t) in
        let mine' = λ (k : ℕ). byte_of d r rgb m z' row' col' k (lie z' row' col' t') in
        ⊎_elim
        (λ h. ⊎_elim
        (λ g. ⊎_elim
        (λ k. inr (apart z' row' col' z row col at_texel t' t (mine' at_texel (omega (arith, k)) g) (mine at_texel (omega arith) (omega (arith, k, h)))))
        (λ k. inr (apart z' row' col' z row col a t' t (mine' a (omega arith) (omega (arith, k, g))) (mine a k h)))
        (cases_lt a at_texel))
        (λ g. inl (inr g))
        (cases_lt at_texel (a + bytes_of d)))
        (λ h. inl (inl h))
        (cases_lt a (at_texel + bytes_of d))

    keeps_own : (z' row' col' : ℕ) → Elsewhere (to_at d r z' row' col') → (b : List ℕ) → own b → own (written numbers src s d r z' row' col' b)
    unfolding written
    keeps_own z' row' col' e b p =
        let vs = encoded_bytes d (source_texel numbers src s r z' row' col') in
        let w = encoded_length d (source_texel numbers src s r z' row' col') in
        part_apart b (to_at d r z' row' col') vs at_texel (bytes_of d)
        (⊎_elim (λ h. inl h) (λ h. inr (omega (arith, w, h))) e)
        ∙ p

    makes_own : (b : List ℕ) → length b ≡ m → own (written numbers src s d r z row col b)
    unfolding written
    makes_own b e =
        let vs = encoded_bytes d (source_texel numbers src s r z row col) in
        let w = encoded_length d (source_texel numbers src s r z row col) in
        ap (λ k. take k (drop at_texel (sets b at_texel vs))) (sym w) ∙ sets_read b at_texel vs (omega (arith, w, e, (lie z row col t).end))

    row_own : (b : List ℕ) → length b ≡ m → own (row_written numbers src s d r z row b)
    unfolding row_written
    row_own b e =
        iterate_makes (λ x. length x ≡ m) own _ r.width col t.column
        (λ k x i. written_length z row k x ∙ i)
        makes_own
        (λ k kl ne x p. ⊎_elim (λ h. keeps_own z row k h x p) (λ q. absurd (ne q.2)) (other_texel z row k (record { slice = t.slice; line = t.line; column = kl })))
        b e

    rows_keep : (z' row' : ℕ) → ((col' : ℕ) → col' < r.width → Elsewhere (to_at d r z' row' col')) → (x : List ℕ) → own x → own (row_written numbers src s d r z' row' x)
    unfolding row_written
    rows_keep z' row' e x p = iterate_keeps own _ r.width (λ k kl b q. keeps_own z' row' k (e k kl) b q) x p

    slice_own : (b : List ℕ) → length b ≡ m → own (slice_written numbers src s d r z b)
    unfolding slice_written
    slice_own b e =
        iterate_makes (λ x. length x ≡ m) own _ r.height row t.line
        (λ k x i. row_length z k x ∙ i)
        row_own
        (λ k kl ne x p. rows_keep z k (λ col' cl. ⊎_elim (λ h. h) (λ q. absurd (ne q.1)) (other_texel z k col' (record { slice = t.slice; line = kl; column = cl }))) x p)
        b e

    pub region_own : (b : List ℕ) → length b ≡ m → own (region_written numbers src s d r b)
    unfolding region_written slice_written
    region_own b e =
        iterate_makes (λ x. length x ≡ m) own _ r.depth z t.slice
        (λ k x i. slice_length k x ∙ i)
        slice_own
        (λ k kl ne x p.
        iterate_keeps own _ r.height
        (λ row' rl y q. rows_keep k row' (λ col' cl. ⊎_elim (λ h. h) (λ g. absurd (ne g.0)) (other_texel k row' col' (record { slice = kl; line = rl; column = cl }))) y q)
        x p)
        b e
