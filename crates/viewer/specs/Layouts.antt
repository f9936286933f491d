-- Plane layouts that were made, in the calls that take one, and the test of their alignment.
use Rattle.std.specs.Prelude.{◌≡◌, ◌≢◌, ◌↔◌, true, ℕ}
use Rattle.depth_texture.specs.declared.PlaneLayout.{PlaneLayout}
use Rattle.depth_texture.specs.Layouts.{PowerOfTwo, is_power_of_two, Stands}
use Rattle.depth_texture.specs.Replies.{refusal_of}

-- no unpacking and no packing refuses a layout that stands, whatever its format, buffers and pitch, with 10
abbrev pub StandingAccepted : Type 0
StandingAccepted =
    (l : PlaneLayout) → Stands l → (f packed pitch depth stencil : ℕ) → refusal_of f l packed pitch depth stencil ≢ 10

-- the test that refusal 7 is decided by is passed by each power of two and by no other number
abbrev pub PowersTested : Type 0
PowersTested = (a : ℕ) → (is_power_of_two a ≡ true) ↔ PowerOfTwo a
