-- Laws on what specs/RowOffsets defines. Assumes nothing.
use Rattle.std.specs.Prelude.{◌≡◌, true, List, ℕ, ◌+◌, ◌*◌, ◌-◌, ◌≤◌, ◌<◌, length, take, drop, ℤ, pos, ◌+ℤ◌}
use Rattle.std.proofs.Common.{sym, ap, ap₂, subst, ◌∙◌, zero-add, add-mul, add_assoc, arith}
use Rattle.std.proofs.Math.Seq.{sets}
use Rattle.words.specs.Little.{number}
use Rattle.words.specs.Iterate.{iterate}
use Rattle.words.proofs.IterateLaws.{iterate_zero, iterate_add, iterate_same}
use Rattle.formats.specs.Codes.{A8R8G8B8}
use Rattle.formats.specs.Table.{parts_of, bytes_of}
use Rattle.formats.specs.Classes.{is_lane_source}
use Rattle.formats.proofs.Listed.{lane_some, lane_only}
use Rattle.texels.specs.Texels.{decoded_of, encoded_bytes}
use Rattle.texels.proofs.RestoredLaws.{decoded_encoded}
use Rattle.texels.specs.Blocks.{word_from, word_written, word_of, word_in, BlockRead, WordsWritten}
use Rattle.words.specs.Integers.{up}
use Rattle.words.proofs.IntegersLaws.{up_pos}
use Rattle.places.specs.declared.Side.{Side}
use Rattle.places.specs.Places.{place_of}
use Rattle.places.specs.Inside.{EndsWithin}
use Rattle.places.proofs.InsideLaws.{along, lane_ends}
use Rattle.stretch_rect.specs.declared.sets.YuvSet.{YuvSet}
use Rattle.regions.specs.declared.reply.ConvertRegion.{ConvertRegion}
use Rattle.regions.specs.Regions.{to_at, source_texel, written}
use Rattle.regions.proofs.Fetch.{lane_texel}
use Rattle.regions.specs.Rows.{RowFits}
use Rattle.regions.specs.RowOffsets.{CarriesOffsets}

-- ---- carried offsets
-- an offset that is a place
pub offset_is : (z : ℤ) (off : ℕ) → pos off ≡ z → off ≡ up z
offset_is z off e = sym (up_pos off) ∙ ap up e

-- k texels on
pub on : (side : Side) (size z y x col k off : ℕ) → pos off ≡ place_of side size z y (x + col) → pos (off + k * size) ≡ place_of side size z y (x + (col + k))
on side size z y x col k off e =
    ap (λ n. n +ℤ pos (k * size)) e ∙ sym (along side size z y (x + col) k) ∙ ap (place_of side size z y) (add_assoc x col k)

-- adding the texel size k times keeps them so
pub carried_on : (s d : ℕ) (r : ConvertRegion) (z row col from to k : ℕ) → CarriesOffsets s d r z row col from to
    → CarriesOffsets s d r z row (col + k) (from + k * bytes_of s) (to + k * bytes_of d)
carried_on s d r z row col from to k c = record {
  source = on r.source (bytes_of s) z (r.source.y + row) r.source.x col k from c.source;
  destination = on r.destination (bytes_of d) z (r.destination.y + row) r.destination.x col k to c.destination;
}

module _ (numbers : YuvSet) (src : List ℕ) (m s d : ℕ) (r : ConvertRegion) (z row : ℕ) (fits : RowFits (length src) m s d r z row) (lane : is_lane_source s ≡ true) where
  -- ---- a row by blocks
  -- where the source texel of a column starts
  abbrev pub from_at : ℕ → ℕ
  from_at col = up (place_of r.source (bytes_of s) z (r.source.y + row) (r.source.x + col))

  -- it ends within the source
  pub source_ends : (col : ℕ) → col < r.width → EndsWithin (length src) (bytes_of s) (place_of r.source (bytes_of s) z (r.source.y + row) (r.source.x + col)) (from_at col)
  source_ends col h =
      lane_ends (length src) s r.source z (r.source.y + row) (r.source.x + col) (fits.source col h).places (lane_only s lane).0 (lane_only s lane).1 (lane_some s lane)

  -- an offset that is a destination texel's place
  is_to : (col : ℕ) {off : ℕ} → pos off ≡ place_of r.destination (bytes_of d) z (r.destination.y + row) (r.destination.x + col) → off ≡ to_at d r z row col
  unfolding to_at
  is_to col e = offset_is _ _ e

  -- the texel that its word stands for
  word_texel : (col : ℕ) → col < r.width → decoded_of A8R8G8B8 (word_from src s (from_at col)) ≡ source_texel numbers src s r z row col
  unfolding word_from source_texel
  word_texel col h =
      decoded_encoded s (number (take (bytes_of s) (drop (from_at col) src)))
      ∙ sym (lane_texel numbers src s r.source z (r.source.y + row) (r.source.x + col) (from_at col) (lane_only s lane).0 (lane_only s lane).1 (source_ends col h))

  module _ (col n from to : ℕ) (c : CarriesOffsets s d r z row col from to) (some : 0 < n) (within : col + n ≤ r.width) where
    -- AT EACH TEXEL: k texels on, both carried offsets are the ones worked out afresh
    pub at_texel : (k : ℕ) → CarriesOffsets s d r z row (col + k) (from + k * bytes_of s) (to + k * bytes_of d)
    at_texel k = carried_on s d r z row col from to k c

    -- the block's last texel ends within both buffers
    ends : (size room at last : ℕ) → at + (n - 1) * size ≡ last → last + size ≤ room → at + n * size ≤ room
    ends size room at last e h =
        let split : n * size ≡ (n - 1) * size + 1 * size = ap (λ k. k * size) (omega (arith, some)) ∙ add-mul (n - 1) 1 size in
        omega (arith, e, h, split)

    pub read_room : from + n * bytes_of s ≤ length src
    read_room = ends (bytes_of s) (length src) from (from_at (col + (n - 1))) (offset_is _ _ (at_texel (n - 1)).source) (source_ends (col + (n - 1)) (omega (arith, some, within))).end

    pub write_room : to + n * bytes_of d ≤ m
    write_room = ends (bytes_of d) m to (to_at d r z row (col + (n - 1))) (is_to _ (at_texel (n - 1)).destination) (fits.destination (col + (n - 1)) (omega (arith, some, within))).end

    -- the words of these texels are written
    module _ (word : ℕ → ℕ) (dst₀ dst out : List ℕ) (after : ℕ) (wrote : WordsWritten word d to n dst out after) where
      -- if each is its texel's, the row's texels are written as the row has them
      pub block_rows : ((k : ℕ) → k < n → decoded_of A8R8G8B8 (word k) ≡ source_texel numbers src s r z row (col + k)) → dst ≡ iterate (written numbers src s d r z row) col dst₀
          → out ≡ iterate (written numbers src s d r z row) (col + n) dst₀
      unfolding word_written written
      block_rows same e =
          wrote.bytes
          ∙ iterate_same (word_written word d to) (λ k. written numbers src s d r z row (col + k)) n dst (λ k h l. ap₂ (λ p t. sets l p (encoded_bytes d t)) (is_to _ (at_texel k).destination) (same k h))
          ∙ ap (iterate (λ k. written numbers src s d r z row (col + k)) n) e
          ∙ sym (iterate_add (written numbers src s d r z row) col n dst₀)

    -- words that were read into a block are those of the texels
    module _ (block : List ℕ) (next : ℕ) (read : BlockRead src s (bytes_of s) from n block next) where
      pub block_texels : (k : ℕ) → k < n → decoded_of A8R8G8B8 (word_of block k) ≡ source_texel numbers src s r z row (col + k)
      block_texels k h = ap (decoded_of A8R8G8B8) (read.words k h ∙ ap (word_from src s) (offset_is _ _ (at_texel k).source)) ∙ word_texel (col + k) (omega (arith, h, within))

      -- after it both offsets are those of the next block's first texel
      pub block_carried : (word : ℕ → ℕ) (dst out : List ℕ) (after : ℕ) → WordsWritten word d to n dst out after → CarriesOffsets s d r z row (col + n) next after
      block_carried word dst out after wrote = record { source = ap pos read.carried ∙ (at_texel n).source; destination = ap pos wrote.carried ∙ (at_texel n).destination }

    -- A8R8G8B8 texels are such words where they lie
    lying_texels : s ≡ A8R8G8B8 → (k : ℕ) → k < n → decoded_of A8R8G8B8 (word_in src from k) ≡ source_texel numbers src s r z row (col + k)
    unfolding source_texel bytes_of parts_of
    lying_texels e k h =
        subst (λ f. decoded_of f (number (take (bytes_of f) (drop (from + k * bytes_of f) src))) ≡ source_texel numbers src s r z row (col + k)) e
        (ap (λ p. decoded_of s (number (take (bytes_of s) (drop p src)))) (offset_is _ _ (at_texel k).source)
        ∙ sym (lane_texel numbers src s r.source z (r.source.y + row) (r.source.x + (col + k)) (from_at (col + k)) (lane_only s lane).0 (lane_only s lane).1 (source_ends (col + k) (omega (arith, h, within)))))

  -- from a row's first offsets on
  module _ (from to : ℕ) (first : CarriesOffsets s d r z row 0 from to) where
    -- the whole row lies behind them
    pub row_read : from + r.width * bytes_of s ≤ length src
    row_read = read_room 0 r.width from to first fits.rows.0 (omega arith)

    pub row_write : to + r.width * bytes_of d ≤ m
    row_write = write_room 0 r.width from to first fits.rows.0 (omega arith)

    -- A8R8G8B8: the row is written from the words where they lie
    pub lying_row : s ≡ A8R8G8B8 → (dst out : List ℕ) (after : ℕ) → WordsWritten (word_in src from) d to r.width dst out after → out ≡ iterate (written numbers src s d r z row) r.width dst
    lying_row g dst out after wrote =
        let l : 0 + r.width ≤ r.width = omega arith in
        block_rows 0 r.width from to first fits.rows.0 l (word_in src from) dst dst out after wrote
        (lying_texels 0 r.width from to first fits.rows.0 l g) (sym (iterate_zero (written numbers src s d r z row) dst))
        ∙ ap (λ n. iterate (written numbers src s d r z row) n dst) (zero-add r.width)
