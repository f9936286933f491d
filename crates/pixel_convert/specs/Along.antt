-- The offsets that are carried along a row. Assumes nothing.
use Rattle.std.specs.Prelude.{ℕ, ◌+◌, ◌*◌, ◌^◌, ◌≤◌, ◌<◌}
use Rattle.std.specs.Int.{w64, FitsUnsigned}
use Rattle.formats.specs.Table.{bytes_of}
use Rattle.formats.specs.declared.LaneSource.{LaneSource}
use Rattle.formats.specs.declared.RgbFormat.{RgbFormat}
use Rattle.formats.specs.Formats.{rgb_code, lane_source_code}
use Rattle.texels.specs.declared.blocks.Offsets.{Offsets}
use Rattle.texels.specs.Steps.{carried_to}
use Rattle.places.specs.Places.{region_place}
use Rattle.regions.specs.declared.reply.ConvertRegion.{ConvertRegion}
use Rattle.regions.specs.declared.reply.RegionRow.{RegionRow}
use Rattle.regions.specs.RowOffsets.{CarriesOffsets}

-- every texel of a row, and what follows its last one, starts at an offset of 64 bits, in the source and in the destination; the bytes from the first slice to the row's are such a number too, and rows are numbers of 32 bits
pub record OffsetsFit (s d : ℕ) (r : ConvertRegion) (z row : ℕ) : Type 0 where
  pub slices : (z * r.source.slice_pitch < 2 ^ 64) × (z * r.destination.slice_pitch < 2 ^ 64)
  pub rows : (r.source.y + row ≤ 4294967295) × (r.destination.y + row ≤ 4294967295)
  pub source : (col : ℕ) → col ≤ r.width → FitsUnsigned w64 (region_place r.source (bytes_of s) z row col)
  pub destination : (col : ℕ) → col ≤ r.width → FitsUnsigned w64 (region_place r.destination (bytes_of d) z row col)

-- THE CARRIED OFFSETS ARE THE ONES WORKED OUT: at every column of a row the offsets of its first texels, with what a texel takes added once
-- for each column before it, are the ones worked out afresh from the starts, the pitches, the slice, the row and the column; no addition passes 64 bits
pub record CarriesAlong (s d : ℕ) (r : ConvertRegion) (z row from to : ℕ) : Type 0 where
  pub afresh : (col : ℕ) → col ≤ r.width
      → CarriesOffsets s d r z row col (carried_to from (bytes_of s) col) (carried_to to (bytes_of d) col)
  pub in_64_bits : (col : ℕ) → col ≤ r.width
      → (carried_to from (bytes_of s) col < 2 ^ 64) × (carried_to to (bytes_of d) col < 2 ^ 64)

-- both of a row of a region, whose texels go from a source format into a destination format
abbrev pub RowOffsetsFit : LaneSource → RgbFormat → RegionRow → Type 0
RowOffsetsFit source target at = OffsetsFit (lane_source_code source) (rgb_code target) at.region at.z at.row

abbrev pub CarriesRow : LaneSource → RgbFormat → RegionRow → Offsets → Type 0
CarriesRow source target at first = CarriesAlong (lane_source_code source) (rgb_code target) at.region at.z at.row first.from first.to
