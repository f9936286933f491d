-- What unpacking and packing refuse: one list of refusals for both.
-- Assumes nothing.
use Rattle.std.specs.Prelude.{◌≡◌, Result, Ok, Err, Bool, true, not, ◌&&◌, ℕ, ◌+◌, ◌-◌, ◌*◌, ◌≤◌, ◌<◌, leb}
use Rattle.words.specs.Tests.{pick}
use Rattle.formats.specs.Table.{bytes_of}
use Rattle.depth_texture.specs.declared.PlaneLayout.{PlaneLayout}
use Rattle.depth_texture.specs.declared.DepthRefusal.{DepthRefusal}
use Rattle.depth_texture.specs.declared.DepthRefusal.TheVariants.{NotPackedDepth, BadLayout, ShortPacked, ShortDepth, ShortStencil}
use Rattle.depth_texture.specs.declared.pixels.PackedDepth.{PackedDepth}
use Rattle.depth_texture.specs.Pixels.{format_code, is_packed_depth, has_stencil}
use Rattle.depth_texture.specs.Layouts.{stands, Stands}

-- the number of each refusal
abbrev pub refusal_number : DepthRefusal → ℕ
refusal_number NotPackedDepth = 9
refusal_number BadLayout = 10
refusal_number ShortPacked = 11
refusal_number ShortDepth = 12
refusal_number ShortStencil = 13

-- and for a reply: 0 where the call is accepted
abbrev pub reply_number : Result (Unit {0}) DepthRefusal → ℕ
reply_number (Ok u) = 0
reply_number (Err r) = refusal_number r

-- the bytes of a packed row
abbrev pub row_bytes : ℕ → PlaneLayout → ℕ
row_bytes f l = l.width * bytes_of f

-- the packed pitch holds a row, and the packed buffer, len bytes long, every row
unfoldable pub packed_holds : ℕ → PlaneLayout → (len pitch : ℕ) → Bool
packed_holds f l len pitch = leb (row_bytes f l) pitch && leb ((l.height - 1) * pitch + row_bytes f l) len

-- a plane of len bytes holds its pitch times the height
abbrev pub plane_holds : (pitch height len : ℕ) → Bool
plane_holds pitch height len = leb (pitch * height) len

-- a stencil plane is asked of a format with a stencil only
unfoldable pub stencil_holds : ℕ → PlaneLayout → ℕ → Bool
stencil_holds f l len = pick (has_stencil f) (plane_holds l.stencil_pitch l.height len) true

-- the number for a call that is refused, the lowest that applies, and 0 for one that is accepted; the lengths are those of the packed buffer, the depth plane and the stencil plane
unfoldable pub refusal_of : ℕ → PlaneLayout → (packed pitch depth stencil : ℕ) → ℕ
refusal_of f l packed pitch depth stencil =
    pick (not (is_packed_depth f)) (refusal_number NotPackedDepth)
    (pick (not (stands l)) (refusal_number BadLayout)
    (pick (not (packed_holds f l packed pitch)) (refusal_number ShortPacked)
    (pick (not (plane_holds l.depth_pitch l.height depth)) (refusal_number ShortDepth)
    (pick (not (stencil_holds f l stencil)) (refusal_number ShortStencil) 0))))

-- what an accepted call has (Refusals shows it)
pub record Accepts (f : ℕ) (l : PlaneLayout) (packed pitch depth stencil : ℕ) : Type 0 where
  pub known : is_packed_depth f ≡ true
  pub sound : Stands l
  pub packed_row_fits : row_bytes f l ≤ pitch
  pub packed_all : (l.height - 1) * pitch + row_bytes f l ≤ packed
  pub depth_all : l.depth_pitch * l.height ≤ depth
  pub stencil_all : has_stencil f ≡ true → l.stencil_pitch * l.height ≤ stencil

-- what was found of a call with the format code f whose refusal is n: the format, or the refusal
abbrev pub Checked : (f n : ℕ) → Result PackedDepth DepthRefusal → Type 0
Checked f n (Ok d) = (format_code d ≡ f) × (n ≡ 0)
Checked f n (Err r) = (refusal_number r ≡ n) × (0 < n)
