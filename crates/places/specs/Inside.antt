-- Which units lie within a length, and what a texel of a row of a region has, where the region lies inside. Assumes nothing.
use Rattle.std.specs.Prelude.{◌≡◌, Bool, true, false, ℕ, ◌+◌, ◌≤◌, leb, ℤ, pos, negsuc}
use Rattle.words.specs.Iterate.{all}
use Rattle.places.specs.declared.Side.{Side}
use Rattle.places.specs.Places.{place_of, places_at, places_in}

-- n bytes from a place on lie within len
abbrev pub bytes_in : (len n : ℕ) → ℤ → Bool
bytes_in len n (pos a) = leb (a + n) len
bytes_in len n (negsuc a) = false

-- every unit of size bytes of width by height by depth, from column x and the side's first row on, lies within len
unfoldable pub units_in : (len size : ℕ) → Side → (x width height depth : ℕ) → Bool
units_in len size side x width height depth =
    all (λ z. all (λ row. all (λ col. bytes_in len size (place_of side size z (side.y + row) (x + col))) width) height) depth

-- what a texel that is inside has
pub record TexelFits (len f : ℕ) (side : Side) (z y x : ℕ) : Type 0 where
  pub column : x ≤ 4294967295
  pub row : y ≤ 4294967295
  pub places : places_in len (places_at f side z y x) ≡ true

-- a place is byte at, and n bytes from there on end within len
pub record EndsWithin (len n : ℕ) (p : ℤ) (at : ℕ) : Type 0 where
  pub place : p ≡ pos at
  pub end : at + n ≤ len
