-- What a row of a region asks of the two buffers. Assumes nothing.
use Rattle.std.specs.Prelude.{◌≡◌, true, ℕ, ◌+◌, ◌*◌, ◌≤◌, ◌<◌}
use Rattle.formats.specs.Table.{bytes_of}
use Rattle.places.specs.Places.{region_place}
use Rattle.places.specs.Inside.{TexelFits, EndsWithin}
use Rattle.regions.specs.declared.reply.ConvertRegion.{ConvertRegion}
use Rattle.regions.specs.Replies.{can_convert}
use Rattle.regions.specs.Regions.{to_at}

-- the destination texel at (z, row, col) of a region lies within m bytes
abbrev pub LiesIn : (d : ℕ) → ConvertRegion → (m z row col : ℕ) → Type 0
LiesIn d r m z row col = EndsWithin m (bytes_of d) (region_place r.destination (bytes_of d) z row col) (to_at d r z row col)

-- a row row of slice z that has texels: they lie within the source and the destination, at columns and rows of 32 bits, as does the distance of the slice from the first, and the formats convert
pub record RowFits (n m s d : ℕ) (r : ConvertRegion) (z row : ℕ) : Type 0 where
  pub pair : can_convert s d ≡ true
  pub slices : (z * r.source.slice_pitch ≤ n) × (z * r.destination.slice_pitch ≤ m)
  pub rows : (0 < r.width) × (r.source.y + row ≤ 4294967295) × (r.destination.y + row ≤ 4294967295)
  pub source : (col : ℕ) → col < r.width → TexelFits n s r.source z (r.source.y + row) (r.source.x + col)
  pub columns : (col : ℕ) → col < r.width → r.destination.x + col ≤ 4294967295
  pub destination : (col : ℕ) → col < r.width → LiesIn d r m z row col
