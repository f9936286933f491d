-- How far a row by blocks has come: both offsets are carried to a column, and the texels before it are written. From the row's first
-- column, by a block at a time, to the last. Assumes nothing.
use Rattle.std.specs.Prelude.{◌≡◌, true, List, ℕ, ◌+◌, ◌*◌, ◌-◌, ◌≤◌, ◌<◌, length, take, min}
use Rattle.std.proofs.Common.{ap, ◌∙◌, subst, arith, length-take-le}
use Rattle.words.specs.Iterate.{iterate}
use Rattle.formats.specs.Codes.{A8R8G8B8}
use Rattle.formats.specs.Table.{parts_of, bytes_of}
use Rattle.formats.specs.Classes.{is_lane_source}
use Rattle.texels.specs.Blocks.{word_of, word_in, BlockRead, WordsWritten}
use Rattle.stretch_rect.specs.declared.sets.YuvSet.{YuvSet}
use Rattle.stretch_rect.specs.Sets.{bt601}
use Rattle.regions.specs.declared.reply.ConvertRegion.{ConvertRegion}
use Rattle.regions.specs.Regions.{written, row_written}
use Rattle.regions.specs.Rows.{RowFits}
use Rattle.regions.proofs.Fetch.{any_set}
use Rattle.regions.specs.RowOffsets.{CarriesOffsets}
use Rattle.regions.proofs.RowOffsetsLaws.{read_room, write_room, block_rows, block_texels, block_carried, row_read, row_write, lying_row}

-- REACHED: both offsets are those of column col, and the texels before it are written
pub record ReachesColumn (src : List ℕ) (s d : ℕ) (r : ConvertRegion) (z row col from to : ℕ) (dst₀ dst : List ℕ) : Type 0 where
  pub carried : CarriesOffsets s d r z row col from to
  pub written : dst ≡ iterate (written bt601 src s d r z row) col dst₀

-- the part of the block for column col: some words, and no more than texels are left
pub part_of : {col width n : ℕ} (l : List ℕ) → col < width → n ≡ min (width - col) 64 → 64 ≤ length l
    → (0 < length (take n l)) × (col + length (take n l) ≤ width) × (length (take n l) ≡ min (width - col) 64)
part_of {col} {width} {n} l h e r =
    let held : length (take n l) ≡ n = length-take-le n l (omega arith) in
    (omega arith, omega arith, held ∙ e)

module _ (src : List ℕ) {m s d : ℕ} {r : ConvertRegion} {z row : ℕ} (fits : RowFits (length src) m s d r z row) (lane : is_lane_source s ≡ true) where
  -- at the last column the row is written, by whatever set
  pub whole : (col from to : ℕ) (dst₀ dst : List ℕ) → ReachesColumn src s d r z row col from to dst₀ dst → col ≡ r.width → (numbers : YuvSet) → dst ≡ row_written numbers src s d r z row dst₀
  unfolding row_written
  whole col from to dst₀ dst h e numbers = h.written ∙ ap (λ n. iterate (written bt601 src s d r z row) n dst₀) e ∙ any_set bt601 numbers src s d r z row dst₀ lane

  -- A8R8G8B8 texels lie within the source and are written from there
  pub lies : (from to : ℕ) → CarriesOffsets s d r z row 0 from to → s ≡ A8R8G8B8 → (from + r.width * 4 ≤ length src) × (to + r.width * bytes_of d ≤ m)
  unfolding bytes_of parts_of
  lies from to c e =
      (subst (λ f. from + r.width * bytes_of f ≤ length src) e (row_read bt601 src m s d r z row fits lane from to c), row_write bt601 src m s d r z row fits lane from to c)

  pub rewritten : (from to : ℕ) (dst out : List ℕ) (after : ℕ) → CarriesOffsets s d r z row 0 from to → s ≡ A8R8G8B8 → WordsWritten (word_in src from) d to r.width dst out after
      → (numbers : YuvSet) → out ≡ row_written numbers src s d r z row dst
  unfolding row_written
  rewritten from to dst out after c e w numbers = lying_row bt601 src m s d r z row fits lane from to c e dst out after w ∙ any_set bt601 numbers src s d r z row dst lane

  module _ {col from to : ℕ} {dst₀ dst : List ℕ} (here : ReachesColumn src s d r z row col from to dst₀ dst) (n : ℕ) (some : 0 < n) (within : col + n ≤ r.width) where
    pub reads : from + n * bytes_of s ≤ length src
    reads = read_room bt601 src m s d r z row fits lane col n from to here.carried some within

    pub writes : to + n * bytes_of d ≤ m
    writes = write_room bt601 src m s d r z row fits lane col n from to here.carried some within

    -- a block on
    pub further : {block out : List ℕ} {next after : ℕ} → BlockRead src s (bytes_of s) from n block next → WordsWritten (word_of block) d to (length block) dst out after
        → length block ≡ n → (there : ℕ) → col + n ≡ there → ReachesColumn src s d r z row there next after dst₀ out
    further {block} {out} {next} {after} read all l there e =
        let wrote = subst (λ k. WordsWritten (word_of block) d to k dst out after) l all in
        let texels = block_texels bt601 src m s d r z row fits lane col n from to here.carried some within block next read in
        subst (λ k. ReachesColumn src s d r z row k next after dst₀ out) e
        (record {
          carried = block_carried bt601 src m s d r z row fits lane col n from to here.carried some within block next read (word_of block) dst out after wrote;
          written = block_rows bt601 src m s d r z row fits lane col n from to here.carried some within (word_of block) dst₀ dst out after wrote texels here.written;
        })
