-- Where a texel's bytes lie: one list of offsets for every kind of picture, from which insideness, decoding and exact values are taken.
-- Assumes nothing.
use Rattle.std.specs.Prelude.{◌≡◌, Bool, true, false, ◌&&◌, List, [], ◌∷◌, map, ℕ, zero, suc, ◌+◌, ◌*◌, ◌/◌, leb, ltb, get_or, ℤ, pos, negsuc, ◌+ℤ◌, ◌*ℤ◌}
use Rattle.std.specs.List.{Contains}
use Rattle.words.specs.Tests.{pick}
use Rattle.words.specs.Integers.{up}
use Rattle.words.specs.Iterate.{all}
use Rattle.formats.specs.Table.{bytes_of}
use Rattle.formats.specs.Classes.{is_packed_yuv, is_planar_yuv}
use Rattle.planar_yuv.specs.Rules.{allowed}
use Rattle.planar_yuv.specs.Offsets.{contains, luma_offset_at, u_offset_at, v_offset_at}
use Rattle.places.specs.declared.Side.{Side}

-- the offsets that a texel needs, in order, or that its picture does not have it
pub data Places : Type 0 where
  absent : Places
  offsets : List ℕ → Places

-- n offsets in a row
abbrev pub run : (start n : ℕ) → List ℕ
run start zero = []
run start (suc n) = start ∷ run (suc start) n

-- where a unit of so many bytes, a texel or a macropixel, starts at slice z, row y and column x of a side's picture, columns counted in units: a number that may lie below 0, where rows go back
unfoldable pub place_of : Side → (size z y x : ℕ) → ℤ
place_of side size z y x = pos (side.start + z * side.slice_pitch + x * size) +ℤ side.pitch *ℤ pos y

-- the same of the texel at slice z, row row and column col of a region, counted from the side's first texel
abbrev pub region_place : Side → (size z row col : ℕ) → ℤ
region_place side size z row col = place_of side size z (side.y + row) (side.x + col)

-- upright: where a side starts at byte 0 and its rows lie pitch bytes on, every unit starts at the sum of its slices, rows and columns
abbrev pub Upright : Side → (pitch : ℕ) → Type 0
Upright side pitch =
    side.start ≡ 0 → side.pitch ≡ pos pitch → (size z y x : ℕ) → place_of side size z y x ≡ pos (z * side.slice_pitch + y * pitch + x * size)

-- n offsets from a place on; a texel whose first byte lies below 0 is not there
abbrev pub from_place : ℤ → (n : ℕ) → Places
from_place (pos a) n = offsets (run a n)
from_place (negsuc a) n = absent

-- places counted from a byte on
abbrev pub started : (start : ℕ) → Places → Places
started start absent = absent
started start (offsets os) = offsets (map (λ o. start + o) os)

-- luma, U and V of a planar texel of a layout, which is pitch columns by luma rows
abbrev pub layout_places : (f pitch rows y x : ℕ) → Places
layout_places f pitch rows y x =
    pick (contains pitch rows x y) (offsets (luma_offset_at pitch x y ∷ u_offset_at f pitch rows x y ∷ v_offset_at f pitch rows x y ∷ [])) absent

-- the same, if there is such a layout
abbrev pub planar_places : (f pitch rows y x : ℕ) → Places
planar_places f pitch rows y x = pick (allowed f pitch rows) (layout_places f pitch rows y x) absent

-- the texel of a side's picture at slice z, row y and column x: of a planar picture, which has one slice, from the start on, with as many luma rows as the slice has rows, and none where rows do not go on; else a whole macropixel of four bytes that the even column starts, or its own bytes
unfoldable pub places_at : (f : ℕ) → Side → (z y x : ℕ) → Places
places_at f side z y x =
    pick (is_planar_yuv f) (started side.start (planar_places f (up side.pitch) (side.slice_pitch / up side.pitch) y x))
    (pick (is_packed_yuv f) (from_place (place_of side 4 z y (x / 2)) 4)
    (from_place (place_of side (bytes_of f) z y x) (bytes_of f)))

-- byte k is one of them
abbrev pub HasByte : Places → (k : ℕ) → Type 0
HasByte absent k = ⊥
HasByte (offsets os) k = Contains os k

-- every offset lies below len
abbrev pub all_below : (len : ℕ) → List ℕ → Bool
all_below len [] = true
all_below len (o ∷ os) = ltb o len && all_below len os

-- a texel is there, and its bytes lie below len
unfoldable pub places_in : (len : ℕ) → Places → Bool
places_in len absent = false
places_in len (offsets os) = all_below len os

-- the bytes at a list of offsets
abbrev pub bytes_from : List ℕ → List ℕ → List ℕ
bytes_from l [] = []
bytes_from l (o ∷ os) = get_or l o 0 ∷ bytes_from l os

-- the bytes of a texel, and none where it is not there
unfoldable pub bytes_at : List ℕ → Places → List ℕ
bytes_at l absent = []
bytes_at l (offsets os) = bytes_from l os

-- a texel's column and row are numbers of 32 bits, and its bytes lie within len
unfoldable pub texel_in : (len f : ℕ) → Side → (z y x : ℕ) → Bool
texel_in len f side z y x = leb x 4294967295 && leb y 4294967295 && places_in len (places_at f side z y x)

-- every texel of width by height by depth from the side's first column and row on is inside
unfoldable pub inside_all : (len f : ℕ) → Side → (width height depth : ℕ) → Bool
inside_all len f side width height depth =
    all (λ z. all (λ row. all (λ col. texel_in len f side z (side.y + row) (side.x + col)) width) height) depth
