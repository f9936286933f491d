-- Laws on what specs/Parts defines. Assumes nothing.
use Rattle.std.specs.Prelude.{◌≡◌, refl, ℕ, neg_ℤ}
use Rattle.stretch_rect.specs.declared.sets.YuvSet.{YuvSet}
use Rattle.stretch_rect.specs.Yuv.{luma_part, chroma_part, rgb_of, red_rounded, green_rounded, blue_rounded}
use Rattle.stretch_rect.specs.Parts.{joined}

-- the five parts of a set make its colour, with those of green negated: they are what is added
pub joined_set : (s : YuvSet) (y u v : ℕ)
    → joined (luma_part s.luma_offset s.luma_gain y) (chroma_part s.chroma_centre s.v_to_red v) (neg_ℤ (chroma_part s.chroma_centre s.u_to_green u)) (neg_ℤ (chroma_part s.chroma_centre s.v_to_green v)) (chroma_part s.chroma_centre s.u_to_blue u)
    ≡ rgb_of s y u v
unfolding joined rgb_of red_rounded green_rounded blue_rounded
joined_set s y u v = refl
