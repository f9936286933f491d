-- The rows of a region: in what order they are written, and the offsets that are carried along each.
use Rattle.std.specs.Prelude.{◌≡◌, true, List, ℕ, ◌+◌, ◌*◌, ◌/◌, ◌%◌, ◌^◌, ◌≤◌, ◌<◌, length, Ok, pos}
use Rattle.std.specs.Int.{w64, FitsUnsigned}
use Rattle.words.specs.Integers.{up}
use Rattle.words.specs.Iterate.{iterate}
use Rattle.formats.specs.Table.{bytes_of}
use Rattle.formats.specs.Classes.{is_lane_source}
use Rattle.texels.specs.Steps.{carried_to}
use Rattle.places.specs.declared.Side.{Side}
use Rattle.places.specs.Places.{region_place}
use Rattle.stretch_rect.specs.declared.sets.YuvSet.{YuvSet}
use Rattle.regions.specs.declared.reply.ConvertRegion.{ConvertRegion}
use Rattle.regions.specs.Replies.{reply_with}
use Rattle.regions.specs.Regions.{row_written, region_written}
use Rattle.pixel_convert.specs.Along.{CarriesAlong}

-- the offset of a row's first texel, with a texel's size added once for each column before another, is that one's
pub record OffsetsCarried : Type 0 where
  -- in any picture, whichever way its rows go, and at any column
  pub afresh : (side : Side) (size z row col first : ℕ) → pos first ≡ region_place side size z row 0
      → pos (carried_to first size col) ≡ region_place side size z row col
  -- in an accepted conversion of any source every offset of a row in the destination, and the one behind it, is a number of 64 bits
  pub written : (set : YuvSet) (src dst : List ℕ) (s d : ℕ) (r : ConvertRegion) (z row col : ℕ)
      → length dst < 2 ^ 64 → reply_with set src dst s d r ≡ Ok tt
      → 0 < r.width → z < r.depth → row < r.height → col ≤ r.width
      → FitsUnsigned w64 (region_place r.destination (bytes_of d) z row col)
  -- in an accepted conversion of a source with lanes both offsets are so along every row, and no addition passes 64 bits
  pub in_conversions : (set : YuvSet) (src dst : List ℕ) (s d : ℕ) (r : ConvertRegion) (z row : ℕ)
      → length src < 2 ^ 64 → length dst < 2 ^ 64 → reply_with set src dst s d r ≡ Ok tt → is_lane_source s ≡ true
      → 0 < r.width → z < r.depth → row < r.height
      → CarriesAlong s d r z row (up (region_place r.source (bytes_of s) z row 0)) (up (region_place r.destination (bytes_of d) z row 0))

-- row n of a region written, numbered slice × height + row
unfoldable pub numbered_row : YuvSet → (src : List ℕ) (s d : ℕ) → ConvertRegion → ℕ → List ℕ → List ℕ
numbered_row set src s d r n = row_written set src s d r (n / r.height) (n % r.height)

-- a conversion is a run of rows
pub record RunOfRows : Type 0 where
  -- all of them, slice by slice
  pub by_rows : (set : YuvSet) (src : List ℕ) (s d : ℕ) (r : ConvertRegion) (l : List ℕ)
      → region_written set src s d r l ≡ iterate (numbered_row set src s d r) (r.depth * r.height) l
  -- the first a rows, and then the b others
  pub split : (set : YuvSet) (src : List ℕ) (s d : ℕ) (r : ConvertRegion) (a b : ℕ) (l : List ℕ) → a + b ≡ r.depth * r.height
      → region_written set src s d r l
      ≡ iterate (λ k. numbered_row set src s d r (a + k)) b (iterate (numbered_row set src s d r) a l)
