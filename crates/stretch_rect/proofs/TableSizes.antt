-- Every part of a byte by bt601 is small enough to be read and added in 32 bits. Assumes nothing.
use Rattle.std.specs.Prelude.{neg_ℤ}
use Rattle.std.proofs.Common.{◌≡◌, refl, ◌∙◌, w32, to_z, of_z, sym, subst, ℕ, ◌<◌, ◌≤◌, lit≤, ℤ, arith}
use Rattle.std.proofs.lemmas.Int.{ints}
use Rattle.stretch_rect.specs.Sets.{bt601}
use Rattle.stretch_rect.specs.Yuv.{luma_part, chroma_part}
use Rattle.stretch_rect.specs.Parts.{PartSize}
use Rattle.stretch_rect.specs.Lines.{luma_base_of, chroma_base_of}
use Rattle.stretch_rect.proofs.LinesLaws.{luma_line, chroma_line, luma_base_small, chroma_base_small, line_small}

-- the scaled luma
abbrev pub luma_rule : ℕ → ℤ
luma_rule = luma_part bt601.luma_offset bt601.luma_gain

-- the scaled chroma by one gain
abbrev pub chroma_rule : (gain : ℕ) → ℕ → ℤ
chroma_rule = chroma_part bt601.chroma_centre

-- what chroma takes from green, as what it adds
abbrev pub taken_rule : (gain : ℕ) → ℕ → ℤ
taken_rule gain c = neg_ℤ (chroma_rule gain c)

pub luma_size : (y : ℕ) → y < 256 → PartSize (luma_rule y)
luma_size y h =
    subst PartSize (sym (luma_line 1052836 76284 y))
    (line_small 76284 (luma_base_of 1052836 76284) y h (lit≤ tt) (luma_base_small 1052836 76284 (lit≤ tt) (lit≤ tt)))

pub chroma_size : (gain c : ℕ) → gain ≤ 262143 → c < 256 → PartSize (chroma_rule gain c)
chroma_size g c hg h =
    subst PartSize (sym (chroma_line 255 g c)) (line_small g (chroma_base_of 255 g) c h hg (chroma_base_small 255 g (lit≤ tt) hg))

pub taken_size : (gain c : ℕ) → gain ≤ 262143 → c < 256 → PartSize (taken_rule gain c)
taken_size g c hg h = omega (arith, ints, chroma_size g c hg h)

-- z as it is read back in 32 bits
abbrev back : ℤ → ℤ
back z = to_z w32 (of_z w32 z)

-- such a part is what is read back of it
pub read_back : {x a : ℤ} → x ≡ a → PartSize a → (back x ≡ a) × PartSize (back x)
read_back {x} {a} e h = let same : back x ≡ a = omega (arith, ints) in (same, subst PartSize (sym same) h)

pub part_read : {x a : ℤ} → (x ≡ a) × PartSize x → back x ≡ a
part_read p = (read_back refl p.1).0 ∙ p.0
