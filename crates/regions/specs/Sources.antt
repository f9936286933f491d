-- What a conversion reads: the code of it, and the numbers that a YUV source is converted by. Assumes nothing.
use Rattle.std.specs.Prelude.{◌≡◌, true, false, ℕ, Option, Some, None}
use Rattle.formats.specs.Formats.{lane_source_code, yuv_code, source_code}
use Rattle.formats.specs.declared.SourceFormat.{SourceFormat}
use Rattle.stretch_rect.specs.declared.sets.YuvSet.{YuvSet}
use Rattle.stretch_rect.specs.Sets.{bt601}
use Rattle.regions.specs.declared.reply.Source.{Source}
use Rattle.regions.specs.declared.reply.Source.TheVariants.{Lanes, Yuv}
use Rattle.regions.specs.Replies.{illegal_set}

-- the code of a source
abbrev pub code_of : Source → ℕ
code_of (Lanes t) = lane_source_code t.format
code_of (Yuv s) = yuv_code s.format

-- the numbers of its set; of texels with lanes no set is looked at, and one stands for all
abbrev pub numbers_of : Source → YuvSet
numbers_of (Lanes t) = bt601
numbers_of (Yuv s) = s.set.numbers

-- a YUV source is converted by these numbers
abbrev pub OfSet : YuvSet → Source → Type 0
OfSet numbers (Lanes t) = Unit {0}
OfSet numbers (Yuv s) = s.set.numbers ≡ numbers

-- a source was found for a format and numbers, or they are a set that is not legal
abbrev pub FoundSource : SourceFormat → YuvSet → Option Source → Type 0
FoundSource f numbers (Some s) = (code_of s ≡ source_code f) × (OfSet numbers s × (illegal_set (source_code f) numbers ≡ false))
FoundSource f numbers None = illegal_set (source_code f) numbers ≡ true
