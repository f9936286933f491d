-- What the library's methods and the code's tests give, in the words of specs/. Assumes nothing.
use Rattle.std.proofs.Common.{◌≡◌, ◌↔◌, Bool, true, false, ◌&&◌, ℕ, suc, ◌+◌, ◌-◌, ◌*◌, ◌/◌, ◌%◌, ◌≤◌, ◌<◌, max, leb, ltb, sym, ap, ap₂, ◌∙◌, inl, inr, arith, suc-mul, mul-le-mul_right, div-add-mod', le-leb, leb-true}
use Rattle.std.proofs.lemmas.Bool.{and_right, cases_lt}
use Rattle.std.proofs.lemmas.Bool.Decides.{same_from_decides}
use borrow.Author.Tests.{lt-leb}
use Rattle.words.specs.Multiples.{raised, Raised}
use Rattle.words.proofs.MultiplesLaws.{raised_is}
use Rattle.words.proofs.TestsLaws.{leb_same}
use Rattle.formats.specs.Table.{bytes_of}
use Rattle.depth_texture.specs.declared.PlaneLayout.{PlaneLayout}
use Rattle.depth_texture.specs.Layouts.{limit, planes_fit}
use Rattle.depth_texture.specs.Replies.{packed_holds}

-- the multiple of the unit u that is n or more, and less than u above it
pub next_raised : (a : ℕ) {n u r : ℕ} → u ≡ max a 4 → n ≤ r → r < n + u → r % u ≡ 0 → r ≡ raised n (max 4 a)
next_raised a {n = n} {u = u} {r = r} greater low high multiple =
    let unit : u ≡ max 4 a = omega (arith, greater) in
    let m = raised n u in
    let R : Raised n u m = raised_is n u (omega (arith, unit)) in
    let q = r / u in
    let k = R.multiple.0 in
    let whole : r ≡ q * u = omega (arith, div-add-mod' r u, multiple) in
    let below : m ≤ r = omega (arith, R.least q (omega (arith, low, whole)), whole) in
    let same : r ≡ m = elim (cases_lt q (suc k)) [
      | inl h ↦ omega (arith, below, whole, R.multiple.1, mul-le-mul_right {m = q} {n = k} u (omega (arith, h)))
      | inr h ↦ absurd (omega (arith, whole, high, R.enough, R.multiple.1, suc-mul k u, mul-le-mul_right {m = suc k} {n = q} u h))
    ] in
    same ∙ ap (raised n) unit

-- what `fits` answers is the test of its two numbers
pub fits_is : (t : Bool) (n m : ℕ) → (t ≡ true) ↔ (n ≤ m) → t ≡ leb n m
fits_is t n m h = same_from_decides t (leb n m) h (leb-true n m, le-leb n m)

-- below the limit is at most the largest number of 64 bits
below_limit : (n : ℕ) → leb n 18446744073709551615 ≡ ltb n limit
below_limit n = leb_same n 18446744073709551615 (suc n) limit (λ h. omega arith) (λ h. omega arith)

pub both_fit : (l : PlaneLayout) → (leb (l.depth_pitch * l.height) 18446744073709551615 && leb (l.stencil_pitch * l.height) 18446744073709551615) ≡ planes_fit l
unfolding planes_fit
both_fit l = ap₂ (λ p q. p && q) (below_limit (l.depth_pitch * l.height)) (below_limit (l.stencil_pitch * l.height))

-- what is left past one row holds the others
module _ (f : ℕ) (l : PlaneLayout) (len pitch size : ℕ) (e : size ≡ bytes_of f) where
  pub short_pitch : pitch < l.width * size → false ≡ packed_holds f l len pitch
  unfolding packed_holds
  short_pitch h = sym (ap (λ t. t && leb ((l.height - 1) * pitch + l.width * bytes_of f) len) (ap (λ n. leb (l.width * n) pitch) (sym e) ∙ lt-leb (l.width * size) pitch h))

  pub short_row : len < l.width * size → false ≡ packed_holds f l len pitch
  unfolding packed_holds
  short_row h =
      sym
      (and_right (leb (l.width * bytes_of f) pitch) (leb ((l.height - 1) * pitch + l.width * bytes_of f) len)
      (ap (λ n. leb ((l.height - 1) * pitch + l.width * n) len) (sym e) ∙ lt-leb ((l.height - 1) * pitch + l.width * size) len (omega arith)))

  pub other_rows : l.width * size ≤ pitch → l.width * size ≤ len → leb ((l.height - 1) * pitch) (len - l.width * size) ≡ packed_holds f l len pitch
  unfolding packed_holds
  other_rows p q =
      leb_same ((l.height - 1) * pitch) (len - l.width * size) ((l.height - 1) * pitch + l.width * size) len (λ h. omega arith) (λ h. omega arith)
      ∙ ap (λ t. t && leb ((l.height - 1) * pitch + l.width * size) len) (sym (le-leb (l.width * size) pitch p))
      ∙ ap (λ n. leb (l.width * n) pitch && leb ((l.height - 1) * pitch + l.width * n) len) e
