-- `depth_texture::PlaneLayout::new` meets its contract: each answer by the tests that led to it. Assumes nothing.
use Rattle.std.proofs.Common.{◌≡◌, Bool, ℕ, eqb, sym, ap, ◌∙◌, inl, inr, max, arith}
use Rattle.std.specs.Int.Count.{ones}
use Rattle.depth_texture.specs.Layouts.{is_power_of_two}
use Rattle.depth_texture.proofs.Powers.{counted}
use Rattle.depth_texture.proofs.Refusals.{zero_width, zero_height, no_power, over, made}
use Rattle.depth_texture.proofs.Library.{next_raised}
use Rattle.depth_texture.proofs.PlaneLayout.new.Goals as goal

-- the test of the unit u
tested : (a : ℕ) {u : ℕ} {t b : Bool} → u ≡ max a 4 → t ≡ eqb (ones u) 1 → t ≡ b → is_power_of_two (max 4 a) ≡ b
tested a {u = u} greater e t = let unit : max 4 a ≡ u = omega (arith, greater) in ap is_power_of_two unit ∙ sym (counted u) ∙ sym e ∙ t

pub returns-then-width-eq0 : goal.returns-then-width-eq0
returns-then-width-eq0 c =
    let a = c.args in
    elim c.then-width-eq0.either [
      | inl e ↦ zero_width a.width a.height a.alignment e
      | inr e ↦ zero_height a.width a.height a.alignment e.1
    ]

pub returns-then-not-is_power_of_two : goal.returns-then-not-is_power_of_two
returns-then-not-is_power_of_two c =
    let a = c.args in
    let unit : c.max-unit.result ≡ max a.alignment 4 = omega (arith, c.max-unit.ensures) in
    no_power a.width a.height a.alignment c.if-width-eq0.false c.if-height-eq0.false
    (tested a.alignment unit c.is_power_of_two.ensures c.if-not-is_power_of_two.true)

pub returns-then-not-planes_fit : goal.returns-then-not-planes_fit
returns-then-not-planes_fit c =
    let a = c.args in
    let unit : c.max-unit.result ≡ max a.alignment 4 = omega (arith, c.max-unit.ensures) in
    let d = c.next_multiple_of-depth_pitch in
    let s = c.next_multiple_of-stencil_pitch in
    over a.width a.height a.alignment c.if-width-eq0.false c.if-height-eq0.false (tested a.alignment unit c.is_power_of_two.ensures c.if-not-is_power_of_two.false) d.result s.result
    (next_raised a.alignment unit d.ensures.lower_bound d.ensures.upper_bound d.ensures.multiple)
    (next_raised a.alignment unit s.ensures.lower_bound s.ensures.upper_bound s.ensures.multiple)
    (sym c.planes_fit.ensures ∙ c.if-not-planes_fit.true)

pub returns : goal.returns
returns c =
    let a = c.args in
    let unit : c.max-unit.result ≡ max a.alignment 4 = omega (arith, c.max-unit.ensures) in
    let d = c.next_multiple_of-depth_pitch in
    let s = c.next_multiple_of-stencil_pitch in
    made a.width a.height a.alignment c.if-width-eq0.false c.if-height-eq0.false (tested a.alignment unit c.is_power_of_two.ensures c.if-not-is_power_of_two.false) d.result s.result
    (next_raised a.alignment unit d.ensures.lower_bound d.ensures.upper_bound d.ensures.multiple)
    (next_raised a.alignment unit s.ensures.lower_bound s.ensures.upper_bound s.ensures.multiple)
    (sym c.planes_fit.ensures ∙ c.if-not-planes_fit.false)
