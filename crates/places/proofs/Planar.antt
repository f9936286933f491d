-- The places of a planar texel, step by step: is there a layout, has it the texel, are luma, U and V within a length. Assumes nothing.
use Rattle.std.specs.Prelude.{◌≡◌, ◌⊎◌, Bool, ◌&&◌, ℕ, ◌≤◌, ◌<◌, ltb, Ok, refl, true, false}
use Rattle.std.proofs.Common.{sym, ap, ◌∙◌, inl, inr, lt-ltb, le-ltb}
use Rattle.std.proofs.lemmas.Bool.{false≢true}
use Rattle.words.specs.Tests.{pick}
use Rattle.planar_yuv.specs.declared.PlanarYuvLayout.{PlanarYuvLayout}
use Rattle.planar_yuv.proofs.RulesLaws.{allowed_yes}
use Rattle.planar_yuv.specs.Offsets.{contains, luma_offset_at, u_offset_at, v_offset_at}
use Rattle.planar_yuv.specs.Answers.{reply_of, refusal, from_pitch, Legal}
use Rattle.planar_yuv.proofs.AnswersLaws.{answered, refused, legal}
use Rattle.places.specs.Places.{Places, absent, layout_places, planar_places, places_in}

module _ (len f pitch rows y x : ℕ) where
  -- ---- a layout's texel
  pub has_not : contains pitch rows x y ≡ false → false ≡ places_in len (layout_places f pitch rows y x)
  unfolding places_in
  has_not e = rw e refl

  pub has_no_luma : contains pitch rows x y ≡ true → len ≤ luma_offset_at pitch x y → false ≡ places_in len (layout_places f pitch rows y x)
  unfolding places_in
  has_no_luma e h = rw (e, le-ltb (luma_offset_at pitch x y) len h) refl

  pub has_no_u : contains pitch rows x y ≡ true → luma_offset_at pitch x y < len → len ≤ u_offset_at f pitch rows x y → false ≡ places_in len (layout_places f pitch rows y x)
  unfolding places_in
  has_no_u e h k = rw (e, lt-ltb (luma_offset_at pitch x y) len h, le-ltb (u_offset_at f pitch rows x y) len k) refl

  pub has_v : contains pitch rows x y ≡ true → luma_offset_at pitch x y < len → u_offset_at f pitch rows x y < len
      → ltb (v_offset_at f pitch rows x y) len ≡ places_in len (layout_places f pitch rows y x)
  unfolding places_in
  has_v e h k = rw (e, lt-ltb (luma_offset_at pitch x y) len h, lt-ltb (u_offset_at f pitch rows x y) len k) (last (ltb (v_offset_at f pitch rows x y) len))
    where
      last : (t : Bool) → t ≡ (t && true)
      last true = refl
      last false = refl

module _ (len f pitch rows y x : ℕ) where
  -- ---- whether there is a layout
  pub no_layout : refusal ≡ from_pitch f pitch rows → planar_places f pitch rows y x ≡ absent
  no_layout e = ap (λ t. pick t (layout_places f pitch rows y x) absent) (refused f pitch rows e)

  pub in_layout : (l : PlanarYuvLayout) → reply_of (Ok l) ≡ from_pitch f pitch rows
      → planar_places f pitch rows y x ≡ layout_places f l.pitch l.luma_rows y x
  in_layout l e =
      let a = answered f pitch rows l e in
      ap (λ t. pick t (layout_places f pitch rows y x) absent) (allowed_yes a.rules)
      ∙ rw (a.pitch_is, a.rows_are) refl

  pub layout_legal : (l : PlanarYuvLayout) → reply_of (Ok l) ≡ from_pitch f pitch rows → Legal l
  layout_legal l e = legal (answered f pitch rows l e)

pub absent_out : (len : ℕ) (p : Places) → p ≡ absent → false ≡ places_in len p
unfolding places_in
absent_out len p e = sym (ap (places_in len) e)

-- l is where the texels of a planar picture lie, those that lie anywhere
abbrev pub LayoutFor : (f pitch rows : ℕ) → PlanarYuvLayout → Type 0
LayoutFor f pitch rows l = (y x : ℕ) → (planar_places f pitch rows y x ≡ absent) ⊎ (Legal l × (planar_places f pitch rows y x ≡ layout_places f l.pitch l.luma_rows y x))

-- so a texel within a length lies in it
pub laid_out : (len f pitch rows : ℕ) (l : PlanarYuvLayout) → LayoutFor f pitch rows l → (y x : ℕ) → places_in len (planar_places f pitch rows y x) ≡ true
    → Legal l × (planar_places f pitch rows y x ≡ layout_places f l.pitch l.luma_rows y x)
laid_out len f pitch rows l h y x i = elim (h y x) [
  | inl none ↦ absurd (false≢true (absent_out len (planar_places f pitch rows y x) none ∙ i))
  | inr some ↦ some
]
