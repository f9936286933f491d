-- Pairs of YUV texels that share their chroma: where their samples lie, and what it is to gather them and to read the pairs'
-- words. Assumes nothing.
use Rattle.std.specs.Prelude.{◌≡◌, List, ℕ, ◌+◌, ◌*◌, ◌/◌, ◌%◌, ◌^◌, ◌≤◌, ◌<◌, eqb, get_or}
use Rattle.words.specs.Tests.{pick}
use Rattle.formats.specs.Codes.{YV12}
use Rattle.formats.specs.Classes.{is_packed_yuv}
use Rattle.pixel_convert.specs.declared.lines.Lines.{Lines}
use Rattle.pixel_convert.specs.Pairs.{rgb_on, opaque_word}

-- ---- where samples lie
-- so many bytes from a pair's first luma to that of the next pair: a macropixel has two lumas and their chroma, a plane lumas alone
unfoldable pub luma_step : ℕ → ℕ
luma_step f = pick (is_packed_yuv f) 4 2

-- so many from the first luma of a pair to the second: in a macropixel a chroma stands between them
unfoldable pub luma_gap : ℕ → ℕ
luma_gap f = pick (is_packed_yuv f) 2 1

-- so many from a pair's U to that of the next pair, and from V to V: YV12 has a plane of each, NV12 one of both
unfoldable pub chroma_step : ℕ → ℕ
chroma_step f = pick (is_packed_yuv f) 4 (pick (eqb f YV12) 1 2)

-- the samples of pair k lie below len
pub record PairIn (len f luma u v k : ℕ) : Type 0 where
  pub lumas : luma + luma_gap f + k * luma_step f < len
  pub us : u + k * chroma_step f < len
  pub vs : v + k * chroma_step f < len

-- those of n pairs do
abbrev pub PairsIn : (len f luma u v n : ℕ) → Type 0
PairsIn len f luma u v n = (k : ℕ) → k < n → PairIn len f luma u v k

-- ---- gathering
-- byte i of a word
abbrev pub byte_at : (m i : ℕ) → ℕ
byte_at m i = m / 2 ^ (i * 8) % 256

-- bytes p and p + 2 of a word, as one word
unfoldable pub two_bytes : (m p : ℕ) → ℕ
two_bytes m p = byte_at m p + byte_at m (p + 2) * 256

-- n words were gathered: each has a byte from a on, and above it one from b on, both a step further than the word before
pub record GathersBytes (src : List ℕ) (a b step n : ℕ) (out : List ℕ) : Type 0 where
  pub words : (k : ℕ) → k < n → get_or out k 0 ≡ get_or src (a + k * step) 0 + get_or src (b + k * step) 0 * 256

-- ---- words
-- the word of a sample whose parts lie on lines
unfoldable pub word_on : Lines → (y u v : ℕ) → ℕ
word_on l y u v = opaque_word (rgb_on l y u v)

-- n pairs were coloured: each word of lumas has two of them, and each of chromas a U and above it a V; what stands behind their words is as it was
pub record ColoursPairs (l : Lines) (lumas chromas : List ℕ) (n : ℕ) (was block : List ℕ) : Type 0 where
  pub firsts : (k : ℕ) → k < n → get_or block (2 * k) 0 ≡ word_on l (get_or lumas k 0 % 256) (get_or chromas k 0 % 256) (get_or chromas k 0 / 256)
  pub seconds : (k : ℕ) → k < n → get_or block (2 * k + 1) 0 ≡ word_on l (get_or lumas k 0 / 256) (get_or chromas k 0 % 256) (get_or chromas k 0 / 256)
  pub others : (j : ℕ) → 2 * n ≤ j → get_or block j 0 ≡ get_or was j 0

-- n pairs were read, whose first samples lie at luma, u and v; what stands behind their words is as it was
pub record ReadsPairs (l : Lines) (src : List ℕ) (f luma u v n : ℕ) (was block : List ℕ) : Type 0 where
  pub firsts : (k : ℕ) → k < n → get_or block (2 * k) 0 ≡ word_on l (get_or src (luma + k * luma_step f) 0) (get_or src (u + k * chroma_step f) 0) (get_or src (v + k * chroma_step f) 0)
  pub seconds : (k : ℕ) → k < n
      → get_or block (2 * k + 1) 0 ≡ word_on l (get_or src (luma + luma_gap f + k * luma_step f) 0) (get_or src (u + k * chroma_step f) 0) (get_or src (v + k * chroma_step f) 0)
  pub others : (j : ℕ) → 2 * n ≤ j → get_or block j 0 ≡ get_or was j 0
