-- What unpacking and packing promise beside their equations.
-- Assumes nothing.
use Rattle.std.specs.Prelude.{◌≡◌, false, List, ℕ, ◌<◌, length, get_or, eqb}
use Rattle.words.specs.Little.{number}
use Rattle.words.specs.Tests.{pick}
use Rattle.formats.specs.Table.{bytes_of}
use Rattle.depth_texture.specs.declared.PlaneLayout.{PlaneLayout}
use Rattle.depth_texture.specs.Depth.{CodeFor}
use Rattle.depth_texture.specs.Pixels.{has_stencil, max_code, depth_code}
use Rattle.depth_texture.specs.Pictures.{place, pixel_in, NoPixel}
use Rattle.depth_texture.specs.Replies.{refusal_of}
use Rattle.depth_texture.specs.PixelBytes.{depth_at}
use Rattle.depth_texture.specs.Planes.{packed_buffer}

-- a list of bytes
abbrev pub Bytewise : List ℕ → Type 0
Bytewise l = (i : ℕ) → get_or l i 0 < 256

-- the refusal of two calls, where the second is made only if the first is accepted
abbrev pub first_refusal : ℕ → ℕ → ℕ
first_refusal a b = pick (eqb a 0) b a

-- every pixel of a second packed buffer holds the bytes that it has in the first
abbrev pub SamePixels : (f : ℕ) → PlaneLayout → (first : List ℕ) (pitch : ℕ) (second : List ℕ) (pitch₂ : ℕ) → Type 0
SamePixels f l first pitch second pitch₂ =
    (x y : ℕ) → x < l.width → y < l.height → pixel_in pitch₂ (bytes_of f) x y second ≡ pixel_in pitch (bytes_of f) x y first

-- restoring: whatever buffer and pitch packing these planes accepts, it puts back every pixel
abbrev pub Restores : (f : ℕ) → PlaneLayout → (packed : List ℕ) (pitch : ℕ) (depth stencil : List ℕ) → Type 0
Restores f l packed pitch depth stencil =
    (out : List ℕ) (pitch₂ : ℕ) → refusal_of f l (length out) pitch₂ (length depth) (length stencil) ≡ 0
    → SamePixels f l packed pitch (packed_buffer f l depth stencil out pitch₂) pitch₂

-- the bytes of no pixel are as they were
abbrev pub SameElsewhere : (pitch size width height : ℕ) → (was now : List ℕ) → Type 0
SameElsewhere pitch size width height was now = (k : ℕ) → NoPixel pitch size width height k → get_or now k 0 ≡ get_or was k 0

-- unpacking keeps row padding and what lies past the last row in both planes, and without a stencil its whole plane
pub record PlanesKept (f : ℕ) (l : PlaneLayout) (depth₀ depth stencil₀ stencil : List ℕ) : Type 0 where
  pub depth_padding : SameElsewhere l.depth_pitch 4 l.width l.height depth₀ depth
  pub stencil_padding : SameElsewhere l.stencil_pitch 1 l.width l.height stencil₀ stencil
  pub no_stencil : has_stencil f ≡ false → stencil ≡ stencil₀

-- the code in every packed pixel's depth lane is the nearest one, a tie going to the even one, to the binary32 number of the depth plane, clamped to 0..1, a NaN as 0
abbrev pub NearestCodes : (f : ℕ) → PlaneLayout → (depth packed : List ℕ) (pitch : ℕ) → Type 0
NearestCodes f l depth packed pitch =
    (x y : ℕ) → x < l.width → y < l.height
    → CodeFor (max_code f) (depth_at depth (place l.depth_pitch 4 x y)) (depth_code f (number (pixel_in pitch (bytes_of f) x y packed)))
