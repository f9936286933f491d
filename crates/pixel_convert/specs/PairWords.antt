-- The words of the texels of a run of pairs. Assumes nothing.
use Rattle.std.specs.Prelude.{List, get_or, ℕ, ◌+◌, ◌*◌, ◌/◌, ◌%◌}
use Rattle.pixel_convert.specs.declared.lines.Lines.{Lines}
use Rattle.pixel_convert.specs.declared.pairs.PairPlaces.{PairPlaces}
use Rattle.pixel_convert.specs.Gathering.{luma_step, luma_gap, chroma_step, word_on}
use Rattle.pixel_convert.specs.Places.{format_of, luma_at, u_at, v_at}

-- the word of texel j of a run of pairs, whose first samples lie at luma, u and v
unfoldable pub run_word : Lines → (src : List ℕ) (f luma u v j : ℕ) → ℕ
run_word l src f luma u v j =
    word_on l (get_or src (luma + j % 2 * luma_gap f + j / 2 * luma_step f) 0) (get_or src (u + j / 2 * chroma_step f) 0) (get_or src (v + j / 2 * chroma_step f) 0)

-- ---- a run, block by block
-- the words of the run whose first pair lies there
abbrev pub run_from : (l : Lines) (src : List ℕ) (first : PairPlaces) → ℕ → ℕ
run_from l src first = run_word l src (format_of first) (luma_at first) (u_at first) (v_at first)
