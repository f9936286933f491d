-- The offsets that are carried along a row. Assumes nothing.
use Rattle.std.specs.Prelude.{◌≡◌, ℕ, pos}
use Rattle.formats.specs.Table.{bytes_of}
use Rattle.places.specs.Places.{region_place}
use Rattle.regions.specs.declared.reply.ConvertRegion.{ConvertRegion}

-- at column col of row row of slice z, both offsets are, as whole numbers, the places that are worked out afresh there
pub record CarriesOffsets (s d : ℕ) (r : ConvertRegion) (z row col from to : ℕ) : Type 0 where
  pub source : pos from ≡ region_place r.source (bytes_of s) z row col
  pub destination : pos to ≡ region_place r.destination (bytes_of d) z row col
