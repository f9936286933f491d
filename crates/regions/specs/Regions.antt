-- What converting a region is: the bytes, and what holds of them.
-- Assumes nothing.
use Rattle.std.specs.Prelude.{◌≡◌, Bool, true, List, ℕ, ◌+◌, ◌%◌, ◌<◌, eqb, ℤ, get_or, take, drop, Ok}
use Rattle.std.proofs.lemmas.List.Edits.{sets}
use Rattle.words.specs.Tests.{pick}
use Rattle.words.specs.Integers.{up}
use Rattle.words.specs.Little.{number}
use Rattle.words.specs.Iterate.{iterate}
use Rattle.formats.specs.Lanes.{Channel, red, green, blue, Lane, nowhere, at, code_at}
use Rattle.formats.specs.Table.{lane_of, bytes_of}
use Rattle.formats.specs.Classes.{is_packed_yuv, is_yuv}
use Rattle.channels.specs.Fractions.{◌over◌}
use Rattle.texels.specs.declared.Texel.{Texel}
use Rattle.texels.specs.Texels.{decoded_of, encoded_bytes, exact_of, Values, value_of, is_colour, Holds}
use Rattle.places.specs.declared.Side.{Side}
use Rattle.places.specs.Places.{region_place, places_at, HasByte, bytes_at}
use Rattle.stretch_rect.specs.declared.sets.YuvSet.{YuvSet}
use Rattle.stretch_rect.specs.Sets.{bt601, same_set}
use Rattle.stretch_rect.specs.declared.Rgb.{Rgb}
use Rattle.stretch_rect.specs.Yuv.{rgb_of, set_unit, set_slack, ByteNear, red_exact, green_exact, blue_exact, decimal_unit, red_decimal, green_decimal, blue_decimal}
use Rattle.stretch_rect.specs.Samples.{luma_place, u_place, v_place}
use Rattle.stretch_rect.specs.Exact.{clamped_value}
use Rattle.regions.specs.declared.reply.ConvertRegion.{ConvertRegion}
use Rattle.regions.specs.Replies.{reply_with, if_accepted}

-- ---- the texel of a source
-- a YUV texel's luma: in a macropixel it stands by format and column, in a planar texel's bytes first
abbrev pub luma_of : (f : ℕ) (odd : Bool) (texel : List ℕ) → ℕ
luma_of f odd bs = get_or bs (pick (is_packed_yuv f) (luma_place f odd) 0) 0

-- its U: in a macropixel by format, in a planar texel's bytes second
abbrev pub u_of : (f : ℕ) (texel : List ℕ) → ℕ
u_of f bs = get_or bs (pick (is_packed_yuv f) (u_place f) 1) 0

-- its V: in a macropixel by format, in a planar texel's bytes third
abbrev pub v_of : (f : ℕ) (texel : List ℕ) → ℕ
v_of f bs = get_or bs (pick (is_packed_yuv f) (v_place f) 2) 0

-- a colour with the missing alpha, 255
abbrev pub opaque_of : Rgb → Texel
opaque_of p = record { r = p.r; g = p.g; b = p.b; a = 255 }

-- the texel of a source texel's bytes, which stand at an odd column or not; a YUV texel's by a set of numbers
unfoldable pub texel_of : YuvSet → (f : ℕ) (odd : Bool) (bytes : List ℕ) → Texel
texel_of numbers f odd bs = pick (is_yuv f) (opaque_of (rgb_of numbers (luma_of f odd bs) (u_of f bs) (v_of f bs))) (decoded_of f (number bs))

-- three exact values in parts of a unit, clamped, and 255 for the alpha
abbrev pub clamped_values : (unit : ℕ) (red green blue : ℤ) → Values
clamped_values unit x y z = record { r = clamped_value unit x; g = clamped_value unit y; b = clamped_value unit z; a = 255 over 1 }

-- the exact values of a YUV sample: by bt601 its decimals, and by any other set what its own numbers define
abbrev pub yuv_values : YuvSet → (y u v : ℕ) → Values
yuv_values numbers y u v =
    pick (same_set numbers bt601)
    (clamped_values decimal_unit (red_decimal y u v) (green_decimal y u v) (blue_decimal y u v))
    (clamped_values set_unit (red_exact numbers y u v) (green_exact numbers y u v) (blue_exact numbers y u v))

-- the exact values of a source texel's bytes
unfoldable pub values_of : YuvSet → (f : ℕ) (odd : Bool) (bytes : List ℕ) → Values
values_of numbers f odd bs = pick (is_yuv f) (yuv_values numbers (luma_of f odd bs) (u_of f bs) (v_of f bs)) (exact_of f (number bs))

-- the texel of a side's picture at slice z, row y, column x
unfoldable pub texel_at : YuvSet → (src : List ℕ) (f : ℕ) → Side → (z y x : ℕ) → Texel
texel_at numbers src f side z y x = texel_of numbers f (eqb (x % 2) 1) (bytes_at src (places_at f side z y x))

-- its exact values
unfoldable pub exact_at : YuvSet → (src : List ℕ) (f : ℕ) → Side → (z y x : ℕ) → Values
exact_at numbers src f side z y x = values_of numbers f (eqb (x % 2) 1) (bytes_at src (places_at f side z y x))

-- ---- the bytes
-- where the destination texel at (z, row, col) of a region starts, which for a texel that is inside is not below 0
unfoldable pub to_at : (d : ℕ) → ConvertRegion → (z row col : ℕ) → ℕ
to_at d r z row col = up (region_place r.destination (bytes_of d) z row col)

-- the bytes of the source texel at (z, row, col) of a region
unfoldable pub source_bytes : (src : List ℕ) (s : ℕ) → ConvertRegion → (z row col : ℕ) → List ℕ
source_bytes src s r z row col = bytes_at src (places_at s r.source z (r.source.y + row) (r.source.x + col))

-- whether its column is odd
abbrev pub odd_at : ConvertRegion → (col : ℕ) → Bool
odd_at r col = eqb ((r.source.x + col) % 2) 1

-- the source texel at (z, row, col) of a region
unfoldable pub source_texel : YuvSet → (src : List ℕ) (s : ℕ) → ConvertRegion → (z row col : ℕ) → Texel
source_texel numbers src s r z row col = texel_at numbers src s r.source z (r.source.y + row) (r.source.x + col)

-- its exact values
unfoldable pub source_values : YuvSet → (src : List ℕ) (s : ℕ) → ConvertRegion → (z row col : ℕ) → Values
source_values numbers src s r z row col = exact_at numbers src s r.source z (r.source.y + row) (r.source.x + col)

-- one texel written
unfoldable pub written : YuvSet → (src : List ℕ) (s d : ℕ) → ConvertRegion → (z row col : ℕ) → List ℕ → List ℕ
written numbers src s d r z row col dst = sets dst (to_at d r z row col) (encoded_bytes d (source_texel numbers src s r z row col))

-- a row written, column by column
unfoldable pub row_written : YuvSet → (src : List ℕ) (s d : ℕ) → ConvertRegion → (z row : ℕ) → List ℕ → List ℕ
row_written numbers src s d r z row = iterate (written numbers src s d r z row) r.width

-- a slice written, row by row
unfoldable pub slice_written : YuvSet → (src : List ℕ) (s d : ℕ) → ConvertRegion → (z : ℕ) → List ℕ → List ℕ
slice_written numbers src s d r z = iterate (row_written numbers src s d r z) r.height

-- every texel written, by slice, row and column
unfoldable pub region_written : YuvSet → (src : List ℕ) (s d : ℕ) → ConvertRegion → List ℕ → List ℕ
region_written numbers src s d r = iterate (slice_written numbers src s d r) r.depth

-- the destination after the call: refused, it is as it was
unfoldable pub converted_with : YuvSet → (src dst : List ℕ) (s d : ℕ) → ConvertRegion → List ℕ
converted_with numbers src dst s d r = if_accepted (reply_with numbers src dst s d r) (region_written numbers src s d r dst) dst

-- the same by bt601
abbrev pub converted_bytes : (src dst : List ℕ) (s d : ℕ) → ConvertRegion → List ℕ
converted_bytes src dst s d r = converted_with bt601 src dst s d r

-- ---- what holds of them
-- (z, row, col) is a texel of the region
pub record InRegion (r : ConvertRegion) (z row col : ℕ) : Type 0 where
  pub slice : z < r.depth
  pub line : row < r.height
  pub column : col < r.width

-- byte k is one of the destination texel at (z, row, col)
abbrev pub ByteOf : (d : ℕ) → ConvertRegion → (z row col k : ℕ) → Type 0
ByteOf d r z row col k = HasByte (places_at d r.destination z (r.destination.y + row) (r.destination.x + col)) k

-- destination texels share no byte: two that have a byte in common are one
unfoldable pub Disjoint : (d : ℕ) → ConvertRegion → Type 0
Disjoint d r =
    (z row col z' row' col' k : ℕ) → InRegion r z row col → InRegion r z' row' col' → ByteOf d r z row col k → ByteOf d r z' row' col' k
    → (z ≡ z') × (row ≡ row') × (col ≡ col')

-- near: each number that an accepted conversion stores lies near the exact value of the same channel of the source texel
abbrev pub NearWith : YuvSet → (src dst out : List ℕ) (s d : ℕ) → ConvertRegion → Type 0
NearWith numbers src dst out s d r =
    reply_with numbers src dst s d r ≡ Ok tt → Disjoint d r
    → (z row col : ℕ) → InRegion r z row col → (c : Channel) → is_colour c ≡ true
    → Holds c (lane_of d c) (number (take (bytes_of d) (drop (to_at d r z row col) out))) (value_of (source_values numbers src s r z row col) c)

-- the same by bt601
abbrev pub NearSource : (src dst out : List ℕ) (s d : ℕ) → ConvertRegion → Type 0
NearSource src dst out s d r = NearWith bt601 src dst out s d r

-- a channel of eight bits holds a byte within 1/2 + 1/16384 of z, clamped
abbrev pub HoldsByte : Lane → (word : ℕ) → ℤ → Type 0
HoldsByte nowhere w z = Unit {0}
HoldsByte (at low n k) w z = n ≡ 8 → ByteNear set_unit set_slack z (code_at low n w)

-- each colour that a word has in eight bits lies so near to what the set's own numbers define of a sample
pub record HoldsColour (numbers : YuvSet) (d word y u v : ℕ) : Type 0 where
  pub red_held : HoldsByte (lane_of d red) word (red_exact numbers y u v)
  pub green_held : HoldsByte (lane_of d green) word (green_exact numbers y u v)
  pub blue_held : HoldsByte (lane_of d blue) word (blue_exact numbers y u v)

-- own: each red, green and blue that an accepted conversion stores in eight bits of a YUV texel lies so near to what the set's own numbers define of its luma, U and V
abbrev pub OwnWith : YuvSet → (src dst out : List ℕ) (s d : ℕ) → ConvertRegion → Type 0
OwnWith numbers src dst out s d r =
    reply_with numbers src dst s d r ≡ Ok tt → Disjoint d r → is_yuv s ≡ true
    → (z row col : ℕ) → InRegion r z row col
    → HoldsColour numbers d (number (take (bytes_of d) (drop (to_at d r z row col) out)))
    (luma_of s (odd_at r col) (source_bytes src s r z row col)) (u_of s (source_bytes src s r z row col)) (v_of s (source_bytes src s r z row col))

-- kept: a byte of no destination texel is as it was
abbrev pub OthersKept : (dst out : List ℕ) (d : ℕ) → ConvertRegion → Type 0
OthersKept dst out d r = (k : ℕ) → ((z row col : ℕ) → InRegion r z row col → ByteOf d r z row col k → ⊥) → get_or out k 0 ≡ get_or dst k 0
