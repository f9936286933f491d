-- Laws on what specs/Pairs defines. Assumes nothing.
use Rattle.std.specs.Prelude.{◌≡◌, ℕ, ◌*◌, neg_ℤ}
use Rattle.std.proofs.Common.{sym, ◌∙◌}
use Rattle.stretch_rect.specs.declared.sets.YuvSet.{YuvSet}
use Rattle.stretch_rect.specs.Yuv.{rgb_of}
use Rattle.stretch_rect.specs.Parts.{joined}
use Rattle.stretch_rect.proofs.PartsLaws.{joined_set}
use Rattle.stretch_rect.proofs.LinesLaws.{chroma_base_is, luma_line, chroma_line}
use Rattle.pixel_convert.specs.Pairs.{luma_of, chroma_of, lines_of, rgb_on}

-- which is that of luma whose offset is the centre in 65536ths
pub chroma_is : (n g : ℕ) → chroma_of n g ≡ luma_of (n * 32768) g
chroma_is n g = λ i. record { gain = g; base = chroma_base_is n g i }

-- ---- the lines of a legal set
-- on them lie a set's own colours
pub set_lines : (s : YuvSet) (y u v : ℕ) → rgb_on (lines_of s) y u v ≡ rgb_of s y u v
unfolding rgb_on lines_of
set_lines s y u v =
    let n = s.chroma_centre in
    sym (λ i. joined (luma_line s.luma_offset s.luma_gain y i) (chroma_line n s.v_to_red v i) (neg_ℤ (chroma_line n s.u_to_green u i)) (neg_ℤ (chroma_line n s.v_to_green v i)) (chroma_line n s.u_to_blue u i))
    ∙ joined_set s y u v
