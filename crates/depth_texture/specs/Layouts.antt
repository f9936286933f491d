-- Plane layouts: how `PlaneLayout::new` makes one, what it refuses, and what holds of one that stands.
-- Assumes nothing.
use Rattle.std.specs.Prelude.{◌≡◌, Result, Ok, Err, Bool, not, ◌&&◌, ◌||◌, ℕ, ◌*◌, ◌^◌, ◌≤◌, ◌<◌, max, leb, ltb, eqb}
use Rattle.words.specs.Tests.{pick}
use Rattle.words.specs.Iterate.{all}
use Rattle.words.specs.Multiples.{raised, Raised}
use Rattle.depth_texture.specs.declared.PlaneLayout.{PlaneLayout}
use Rattle.depth_texture.specs.declared.PlaneLayoutRefusal.{PlaneLayoutRefusal}
use Rattle.depth_texture.specs.declared.PlaneLayoutRefusal.TheVariants.{ZeroSize, NoPowerOfTwo, Over64Bits}

-- one more than the largest number of 64 bits
abbrev pub limit : ℕ
limit = 18446744073709551616

-- a is a power of two
abbrev pub PowerOfTwo : ℕ → Type 0
PowerOfTwo a = (k : ℕ) × (a ≡ 2 ^ k)

-- the same as a test of each k below a (Powers joins the two)
unfoldable pub is_power_of_two : ℕ → Bool
is_power_of_two a = not (all (λ k. not (eqb a (2 ^ k))) a)

-- four numbers as a layout
abbrev pub layout : (width height depth_pitch stencil_pitch : ℕ) → PlaneLayout
layout w h d s = record { width = w; height = h; depth_pitch = d; stencil_pitch = s }

-- the layout for a size and an alignment; an alignment below 4 counts as 4
unfoldable pub aligned : (width height alignment : ℕ) → PlaneLayout
aligned w h a = layout w h (raised (4 * w) (max 4 a)) (raised w (max 4 a))

-- the layout has no pixel
unfoldable pub is_empty : PlaneLayout → Bool
is_empty l = eqb l.width 0 || eqb l.height 0

-- a plane's pitch times the height is a number of 64 bits, for both planes
unfoldable pub planes_fit : PlaneLayout → Bool
planes_fit l = ltb (l.depth_pitch * l.height) limit && ltb (l.stencil_pitch * l.height) limit

-- the number of each refusal
abbrev pub layout_refusal_number : PlaneLayoutRefusal → ℕ
layout_refusal_number ZeroSize = 6
layout_refusal_number NoPowerOfTwo = 7
layout_refusal_number Over64Bits = 8

-- and for an answer: 0 for a layout
abbrev pub answer_number : Result PlaneLayout PlaneLayoutRefusal → ℕ
answer_number (Ok l) = 0
answer_number (Err r) = layout_refusal_number r

-- the number for a layout that cannot be made, the lowest that applies, and 0 where it can
unfoldable pub layout_refusal : (width height alignment : ℕ) → ℕ
layout_refusal w h a =
    pick (is_empty (aligned w h a)) (layout_refusal_number ZeroSize)
    (pick (not (is_power_of_two (max 4 a))) (layout_refusal_number NoPowerOfTwo)
    (pick (not (planes_fit (aligned w h a))) (layout_refusal_number Over64Bits) 0))

-- what is handed back: four zeros in a refusal
unfoldable pub layout_for : (width height alignment : ℕ) → PlaneLayout
layout_for w h a = pick (eqb (layout_refusal w h a) 0) (aligned w h a) (layout 0 0 0 0)

-- the four values that each answer hands back
abbrev pub answer_layout : Result PlaneLayout PlaneLayoutRefusal → PlaneLayout
answer_layout (Ok l) = l
answer_layout (Err r) = layout 0 0 0 0

-- a layout that stands: it has a pixel, its pitches hold their rows, and its planes fit 64 bits
pub record Stands (l : PlaneLayout) : Type 0 where
  pub wide : 0 < l.width
  pub high : 0 < l.height
  pub depth_row_fits : 4 * l.width ≤ l.depth_pitch
  pub stencil_row_fits : l.width ≤ l.stencil_pitch
  pub depth_fits : l.depth_pitch * l.height < limit
  pub stencil_fits : l.stencil_pitch * l.height < limit

-- each pitch is the least multiple of the alignment, or of 4 if that is more, that holds a row
pub record Pitches (width alignment : ℕ) (l : PlaneLayout) : Type 0 where
  pub depth : Raised (4 * width) (max 4 alignment) l.depth_pitch
  pub stencil : Raised width (max 4 alignment) l.stencil_pitch

-- a layout that stands as a test (Refusals joins the two)
unfoldable pub stands : PlaneLayout → Bool
stands l = not (is_empty l) && leb (4 * l.width) l.depth_pitch && leb l.width l.stencil_pitch && planes_fit l
