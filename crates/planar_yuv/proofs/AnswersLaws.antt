-- Laws on what specs/Answers.antt defines, which rest on laws there. Assumes nothing.
use Rattle.std.specs.Prelude.{◌≡◌, refl, Bool, true, false, ℕ, ◌%◌, ◌≤◌, ◌<◌, leb, Result, Ok, Err}
use Rattle.std.proofs.Common.{sym, ap, ◌∙◌, arith, le-leb}
use Rattle.std.proofs.lemmas.Bool.{lt-leb, and_right}
use Rattle.words.specs.Tests.{pick}
use Rattle.formats.specs.Codes.{NV12, YV12}
use Rattle.formats.specs.Classes.{is_planar_yuv, linear_row_pitch, max_texture_dim}
use Rattle.planar_yuv.specs.declared.PlanarYuvLayout.{PlanarYuvLayout}
use Rattle.planar_yuv.specs.declared.NoPlanarLayout.{NoPlanarLayout}
use Rattle.planar_yuv.specs.Rules.{chroma_rows_of, total_bytes_of, allowed, Allowed}
use Rattle.planar_yuv.proofs.RulesLaws.{allowed_yes, allowed_no, allowed_is, even_yes, pitch_holds}
use Rattle.planar_yuv.specs.Answers.{refusal, reply_of, layout_reply, from_pitch, from_width, Legal, RowsHold, PlanesOf}
use Rattle.planar_yuv.proofs.ApartLaws.{planes}

-- ---- what an answer means
pub given : {f pitch rows : ℕ} → Allowed f pitch rows → from_pitch f pitch rows ≡ layout_reply pitch rows
unfolding from_pitch
given {f} {pitch} {rows} a = ap (λ t. pick t (layout_reply pitch rows) refusal) (allowed_yes a)

pub not_given : {f pitch rows : ℕ} → (Allowed f pitch rows → ⊥) → from_pitch f pitch rows ≡ refusal
unfolding from_pitch
not_given {f} {pitch} {rows} n = ap (λ t. pick t (layout_reply pitch rows) refusal) (allowed_no n)

-- the layout that an answer holds
pub record Answered (f pitch rows : ℕ) (l : PlanarYuvLayout) : Type 0 where
  pub rules : Allowed f pitch rows
  pub pitch_is : l.pitch ≡ pitch
  pub rows_are : l.luma_rows ≡ rows
  pub chroma_are : l.chroma_rows ≡ chroma_rows_of rows
  pub total_is : l.total_bytes ≡ total_bytes_of pitch rows

pub answered : (f pitch rows : ℕ) (l : PlanarYuvLayout) → reply_of (Ok l) ≡ from_pitch f pitch rows → Answered f pitch rows l
unfolding from_pitch
answered f pitch rows l e = go (allowed f pitch rows) refl e
  where
    go : (t : Bool) → allowed f pitch rows ≡ t → reply_of (Ok l) ≡ pick t (layout_reply pitch rows) refusal → Answered f pitch rows l
    go true a e = record {
      rules = allowed_is f pitch rows a;
      pitch_is = ap (λ r. r.pitch) e;
      rows_are = ap (λ r. r.luma_rows) e;
      chroma_are = ap (λ r. r.chroma_rows) e;
      total_is = ap (λ r. r.total_bytes) e;
    }
    go false a e = absurd (omega (arith, ap (λ r. r.number) e))

-- an answer that holds no layout
pub refused : (f pitch rows : ℕ) → refusal ≡ from_pitch f pitch rows → allowed f pitch rows ≡ false
unfolding from_pitch
refused f pitch rows e = go (allowed f pitch rows) e
  where
    go : (t : Bool) → refusal ≡ pick t (layout_reply pitch rows) refusal → t ≡ false
    go true e = absurd (omega (arith, ap (λ r. r.number) e))
    go false e = refl

-- what a format allows, NV12 allows
pub shared_rules : {f pitch rows : ℕ} → Allowed f pitch rows → Allowed NV12 pitch rows
unfolding is_planar_yuv
shared_rules a = record {
  planar = refl;
  pitch_some = a.pitch_some;
  pitch_most = a.pitch_most;
  pitch_even = a.pitch_even;
  rows_some = a.rows_some;
  rows_most = a.rows_most;
  rows_even = λ e. absurd (omega (arith, e));
  together = a.together;
}

pub legal : {f pitch rows : ℕ} {l : PlanarYuvLayout} → Answered f pitch rows l → Legal l
legal {f} {pitch} {rows} {l} a = record {
  rules = rw (a.pitch_is, a.rows_are) (shared_rules a.rules);
  chroma = a.chroma_are ∙ ap chroma_rows_of (sym a.rows_are);
  total = rw (a.pitch_is, a.rows_are) a.total_is;
}

-- planar frames are laid out by NV12's rules, YV12's of even rows
pub by_nv12 : (f pitch rows : ℕ) → is_planar_yuv f ≡ true → (f ≡ YV12 → rows % 2 ≡ 0) → from_pitch NV12 pitch rows ≡ from_pitch f pitch rows
unfolding from_pitch allowed is_planar_yuv
by_nv12 f pitch rows p h = ap (λ t. pick t (layout_reply pitch rows) refusal) (rw (p, even_yes f rows h) refl)

-- even rows of YV12
pub yv12_even : (pitch rows : ℕ) → rows % 2 ≡ 0 → from_pitch NV12 pitch rows ≡ from_pitch YV12 pitch rows
unfolding is_planar_yuv
yv12_even pitch rows h = by_nv12 YV12 pitch rows refl (λ e. h)

-- ---- from a width
pub of_width : (f width height : ℕ) → 1 ≤ width → width ≤ max_texture_dim → from_width f width height ≡ from_pitch f (linear_row_pitch width) height
unfolding from_width
of_width f width height l u = rw (le-leb 1 width l, le-leb width max_texture_dim u) refl

pub width_none : (f width height : ℕ) → width ≡ 0 → refusal ≡ from_width f width height
unfolding from_width
width_none f width height e = rw (lt-leb 1 width (omega arith)) refl

pub width_large : (f width height : ℕ) → max_texture_dim < width → refusal ≡ from_width f width height
unfolding from_width
width_large f width height h =
    sym (ap (λ t. pick t (from_pitch f (linear_row_pitch width) height) refusal) (and_right (leb 1 width) (leb width max_texture_dim) (lt-leb width max_texture_dim h)))

pub rows_hold : (f width height : ℕ) (r : Result PlanarYuvLayout NoPlanarLayout) → reply_of r ≡ from_pitch f (linear_row_pitch width) height → RowsHold width r
rows_hold f width height (Ok l) e =
    let a = answered f (linear_row_pitch width) height l e in
    omega (arith, a.pitch_is, pitch_holds width)
rows_hold f width height (Err _) e = tt

pub planes_of : (f pitch rows : ℕ) (r : Result PlanarYuvLayout NoPlanarLayout) → reply_of r ≡ from_pitch f pitch rows → PlanesOf f r
planes_of f pitch rows (Ok l) e =
    let a = answered f pitch rows l e in
    planes l.pitch l.luma_rows (omega (arith, a.pitch_is, a.rules.pitch_even)) f
planes_of f pitch rows (Err _) e = tt
