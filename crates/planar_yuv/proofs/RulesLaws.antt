-- Laws on what specs/Rules defines. Assumes nothing.
use Rattle.std.specs.Prelude.{◌≡◌, refl, Bool, true, false, ℕ, ◌+◌, ◌%◌, ◌≤◌, leb, eqb}
use Rattle.std.proofs.Common.{subst, arith, leb-true, le-leb, eqb-true, eq-eqb}
use Rattle.std.proofs.lemmas.Bool.{and_parts}
use Rattle.words.specs.Tests.{pick}
use Rattle.words.specs.Multiples.{raised}
use Rattle.formats.specs.Codes.{YV12}
use Rattle.formats.specs.Classes.{is_planar_yuv, linear_row_pitch, max_texture_dim}
use Rattle.planar_yuv.specs.Rules.{chroma_rows_of, even_rows, allowed, Allowed}

pub even_yes : (f rows : ℕ) → (f ≡ YV12 → rows % 2 ≡ 0) → even_rows f rows ≡ true
even_yes f rows h = go (eqb f YV12) refl
  where
    go : (t : Bool) → eqb f YV12 ≡ t → pick t (eqb (rows % 2) 0) true ≡ true
    go true e = eq-eqb (rows % 2) 0 (h (eqb-true f YV12 e))
    go false e = refl

even_of : (f rows : ℕ) → even_rows f rows ≡ true → f ≡ YV12 → rows % 2 ≡ 0
even_of f rows h e = eqb-true (rows % 2) 0 (subst (λ t. pick t (eqb (rows % 2) 0) true ≡ true) (eq-eqb f YV12 e) h)

pub allowed_yes : {f pitch rows : ℕ} → Allowed f pitch rows → allowed f pitch rows ≡ true
unfolding allowed
allowed_yes {f} {pitch} {rows} a =
    rw (a.planar, le-leb 1 pitch a.pitch_some, le-leb pitch max_texture_dim a.pitch_most, eq-eqb (pitch % 2) 0 a.pitch_even, le-leb 1 rows a.rows_some, le-leb rows max_texture_dim a.rows_most, even_yes f rows a.rows_even, le-leb (rows + chroma_rows_of rows) max_texture_dim a.together)
    refl

pub allowed_is : (f pitch rows : ℕ) → allowed f pitch rows ≡ true → Allowed f pitch rows
unfolding allowed
allowed_is f pitch rows e =
    let e1 = (and_parts (is_planar_yuv f) _ e).1 in
    let e2 = (and_parts (leb 1 pitch) _ e1).1 in
    let e3 = (and_parts (leb pitch max_texture_dim) _ e2).1 in
    let e4 = (and_parts (eqb (pitch % 2) 0) _ e3).1 in
    let e5 = (and_parts (leb 1 rows) _ e4).1 in
    let e6 = (and_parts (leb rows max_texture_dim) _ e5).1 in
    record {
      planar = (and_parts (is_planar_yuv f) _ e).0;
      pitch_some = leb-true 1 pitch (and_parts (leb 1 pitch) _ e1).0;
      pitch_most = leb-true pitch max_texture_dim (and_parts (leb pitch max_texture_dim) _ e2).0;
      pitch_even = eqb-true (pitch % 2) 0 (and_parts (eqb (pitch % 2) 0) _ e3).0;
      rows_some = leb-true 1 rows (and_parts (leb 1 rows) _ e4).0;
      rows_most = leb-true rows max_texture_dim (and_parts (leb rows max_texture_dim) _ e5).0;
      rows_even = even_of f rows (and_parts (even_rows f rows) _ e6).0;
      together = leb-true (rows + chroma_rows_of rows) max_texture_dim (and_parts (even_rows f rows) _ e6).1;
    }

pub allowed_no : {f pitch rows : ℕ} → (Allowed f pitch rows → ⊥) → allowed f pitch rows ≡ false
allowed_no {f} {pitch} {rows} n = go (allowed f pitch rows) refl
  where
    go : (t : Bool) → allowed f pitch rows ≡ t → t ≡ false
    go true e = absurd (n (allowed_is f pitch rows e))
    go false e = refl

-- ---- a pitch that is made from a width
pub pitch_holds : (width : ℕ) → width ≤ linear_row_pitch width
unfolding linear_row_pitch raised
pitch_holds width = omega arith
