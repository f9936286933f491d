-- Where the texels of a picture lie, and which regions of it are inside.
use Rattle.std.specs.Prelude.{◌≡◌, ◌↔◌, true, ℕ, ◌+◌, ◌-◌, ◌≤◌, ◌<◌, pos}
use Rattle.formats.specs.Formats.{is_source}
use Rattle.places.specs.declared.Side.{Side}
use Rattle.places.specs.Places.{Upright, places_at, places_in, texel_in, inside_all}

-- a picture that starts at byte 0 and whose rows go on has each texel where its slices, rows and columns add up to
abbrev pub UprightByRows : Type 0
UprightByRows = (side : Side) (pitch : ℕ) → Upright side pitch

-- three texels of a region are inside: of the first slice the first one of the last row, and of the last slice the last ones of the first and of the last row
pub record CornersIn (len f : ℕ) (side : Side) (width height depth : ℕ) : Type 0 where
  pub first_below : texel_in len f side 0 (side.y + (height - 1)) side.x ≡ true
  pub last_above : texel_in len f side (depth - 1) side.y (side.x + (width - 1)) ≡ true
  pub last : texel_in len f side (depth - 1) (side.y + (height - 1)) (side.x + (width - 1)) ≡ true

-- a region that has a texel lies inside, whichever way its rows go, just where these three do
abbrev pub CornersDecide : Type 0
CornersDecide =
    (len f : ℕ) (side : Side) (width height depth : ℕ) → is_source f ≡ true → 0 < width → 0 < height → 0 < depth
    → (inside_all len f side width height depth ≡ true) ↔ CornersIn len f side width height depth

-- in a picture whose rows go on, of any format and from any byte on, the last texel decides
pub record LastDecides : Type 0 where
  -- a texel's bytes lie within a length where those of one further on in slices, rows and columns do
  pub places : (len f pitch : ℕ) (side : Side) → side.pitch ≡ pos pitch
      → (z y x z' y' x' : ℕ) → z ≤ z' → y ≤ y' → x ≤ x'
      → places_in len (places_at f side z' y' x') ≡ true → places_in len (places_at f side z y x) ≡ true
  -- and it is inside where that one is
  pub texel : (len f pitch : ℕ) (side : Side) → side.pitch ≡ pos pitch
      → (z y x z' y' x' : ℕ) → z ≤ z' → y ≤ y' → x ≤ x'
      → texel_in len f side z' y' x' ≡ true → texel_in len f side z y x ≡ true
  -- so a region that has a texel lies inside just where its last one does
  pub region : (len f pitch : ℕ) (side : Side) (width height depth : ℕ) → side.pitch ≡ pos pitch
      → 0 < width → 0 < height → 0 < depth
      → texel_in len f side (depth - 1) (side.y + (height - 1)) (side.x + (width - 1))
      ≡ inside_all len f side width height depth
