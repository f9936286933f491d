-- What it is to read texels into a block of A8R8G8B8 words and to write the texels of such words, with the offsets that are carried along.
-- Assumes nothing.
use Rattle.std.specs.Prelude.{◌≡◌, List, ℕ, ◌+◌, ◌*◌, ◌≤◌, ◌<◌, get_or, take, drop}
use Rattle.std.proofs.lemmas.List.Edits.{sets}
use Rattle.words.specs.Little.{number}
use Rattle.words.specs.Iterate.{iterate}
use Rattle.formats.specs.Codes.{A8R8G8B8}
use Rattle.formats.specs.Table.{bytes_of}
use Rattle.texels.specs.Texels.{decoded_of, encoded_of, encoded_bytes}
use Rattle.texels.specs.declared.blocks.Offsets.{Offsets}
use Rattle.texels.specs.Steps.{StepsAlong}

-- n texels of so many bytes, a step apart from byte from on, end within len bytes
abbrev pub TexelsIn : (len from step bytes n : ℕ) → Type 0
TexelsIn len from step bytes n = (k : ℕ) → k < n → from + k * step + bytes ≤ len

-- the A8R8G8B8 word of the texel of format f that starts at a byte
unfoldable pub word_from : (src : List ℕ) (f at : ℕ) → ℕ
word_from src f at = encoded_of A8R8G8B8 (decoded_of f (number (take (bytes_of f) (drop at src))))

-- n texels, a step apart, were read from byte from on: the block has their words, the step added so many times leads to each of them, and
-- the offset handed back is where the next one starts (that the loop adds the step is its invariant)
pub record BlockRead (src : List ℕ) (f step from n : ℕ) (block : List ℕ) (off : ℕ) : Type 0 where
  pub words : (k : ℕ) → k < n → get_or block k 0 ≡ word_from src f (from + k * step)
  pub along : StepsAlong from step n
  pub carried : off ≡ from + n * step

-- the texel of the k-th of some A8R8G8B8 words, written
unfoldable pub word_written : (word : ℕ → ℕ) (f to k : ℕ) → List ℕ → List ℕ
word_written word f to k dst = sets dst (to + k * bytes_of f) (encoded_bytes f (decoded_of A8R8G8B8 (word k)))

-- the texels of the first n words were written from byte to on, a texel's bytes added so many times lead to each of them, and the offset
-- handed back is where the next one goes
pub record WordsWritten (word : ℕ → ℕ) (f to n : ℕ) (dst out : List ℕ) (off : ℕ) : Type 0 where
  pub bytes : out ≡ iterate (word_written word f to) n dst
  pub along : StepsAlong to (bytes_of f) n
  pub carried : off ≡ to + n * bytes_of f

-- all that may be answered at the offset worked out for texel k is value k, for each k below n
abbrev pub Gives : {A : Type 0} → (answer : ℕ → A → Type 0) (first step n : ℕ) (value : ℕ → A) → Type 0
Gives {A} answer first step n value = (k : ℕ) (v : A) → k < n → answer (first + k * step) v → v ≡ value k

-- the texels of n answers, each at its own offset, were written, as those of any words that the answers must be; the offset that is read at
-- was carried past them too
pub record AnswersWritten (answer : ℕ → ℕ → Type 0) (step f : ℕ) (first : Offsets) (n : ℕ) (dst out : List ℕ) (next : Offsets) : Type 0 where
  pub by : (given : ℕ → ℕ) → Gives answer first.from step n given → WordsWritten given f first.to n dst out next.to
  pub carried : next.from ≡ first.from + n * step

-- the words of a block
abbrev pub word_of : List ℕ → ℕ → ℕ
word_of block k = get_or block k 0

-- the words of A8R8G8B8 texels where they lie, from byte from on
abbrev pub word_in : (src : List ℕ) (from k : ℕ) → ℕ
word_in src from k = number (take 4 (drop (from + k * 4) src))

-- n such texels were written from their first offsets on: four bytes added so many times lead to each of them in the source, and the offsets
-- handed back are those of the next one
pub record Rewritten (src : List ℕ) (f n : ℕ) (first : Offsets) (dst out : List ℕ) (next : Offsets) : Type 0 where
  pub written : WordsWritten (word_in src first.from) f first.to n dst out next.to
  pub along : StepsAlong first.from 4 n
  pub carried : next.from ≡ first.from + n * 4
