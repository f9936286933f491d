-- Where a reply does not look at the set. Assumes nothing.
use Rattle.std.proofs.Common.{◌≡◌, refl, true, false, ℕ, sym, ◌∙◌}
use Rattle.formats.specs.Classes.{is_yuv}
use Rattle.formats.specs.Formats.{lane_source_code, yuv_code}
use Rattle.formats.specs.declared.LaneSource.{LaneSource}
use Rattle.formats.specs.declared.YuvFormat.{YuvFormat}
use Rattle.formats.proofs.Classified.{lanes_no_yuv, yuv_is}
use Rattle.stretch_rect.specs.declared.sets.YuvSet.{YuvSet}
use Rattle.stretch_rect.specs.Sets.{is_legal}
use Rattle.regions.specs.declared.reply.ConvertRegion.{ConvertRegion}
use Rattle.regions.specs.Replies.{illegal_set, reply_to}
use Rattle.regions.proofs.Checks.{legal_fits, other_fits, as_before}

-- of a source that is no YUV the set is not looked at
pub any_reply : (a b : YuvSet) (s d : ℕ) (r : ConvertRegion) (n m : ℕ) → is_yuv s ≡ false → reply_to a s d r n m ≡ reply_to b s d r n m
any_reply a b s d r n m h = as_before a s d r n m (other_fits a s h) ∙ sym (as_before b s d r n m (other_fits b s h))

-- ---- by the types of formats: what has lanes asks for no set, YUV for a legal one
pub lanes_fit : (numbers : YuvSet) (f : LaneSource) → illegal_set (lane_source_code f) numbers ≡ false
lanes_fit numbers f = other_fits numbers (lane_source_code f) (lanes_no_yuv f)

pub yuv_fits : (numbers : YuvSet) (f : YuvFormat) → is_legal numbers ≡ true → illegal_set (yuv_code f) numbers ≡ false
yuv_fits numbers f h = legal_fits numbers (yuv_code f) h

pub yuv_refused : (numbers : YuvSet) (f : YuvFormat) → is_legal numbers ≡ false → illegal_set (yuv_code f) numbers ≡ true
unfolding illegal_set
yuv_refused numbers f h = rw (yuv_is f, h) refl
