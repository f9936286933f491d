-- Sets of numbers for a conversion from YUV: which are legal, and the two that have names. Gains and the offset are in 65536ths, the
-- centre of the chroma is in halves. Assumes nothing.
use Rattle.std.specs.Prelude.{Bool, ◌&&◌, ◌||◌, ℕ, ◌*◌, leb, eqb}
use Rattle.channels.specs.Nearest.{Nearest}
use Rattle.stretch_rect.specs.declared.sets.YuvSet.{YuvSet}

-- ---- legal sets
-- a gain is below 4
abbrev pub is_gain : ℕ → Bool
is_gain g = leb g 262143

-- the gains are below 4, the offset is below 64, and the chroma's centre is 127.5 or 128
unfoldable pub is_legal : YuvSet → Bool
is_legal s =
    is_gain s.luma_gain && leb s.luma_offset 4194303
    && is_gain s.v_to_red && is_gain s.u_to_green && is_gain s.v_to_green && is_gain s.u_to_blue
    && (eqb s.chroma_centre 255 || eqb s.chroma_centre 256)

-- ---- the two with names
-- the numbers by which the original converts
abbrev pub bt601 : YuvSet
bt601 = record {
  luma_gain = 76284;
  luma_offset = 1052836;
  v_to_red = 104595;
  u_to_green = 25690;
  v_to_green = 53281;
  u_to_blue = 132186;
  chroma_centre = 255;
}

-- the numbers of ITU-R BT.709 with luma from 16 to 235 and chroma around 128
abbrev pub bt709 : YuvSet
bt709 = record {
  luma_gain = 76284;
  luma_offset = 1048576;
  v_to_red = 117506;
  u_to_green = 13959;
  v_to_green = 34931;
  u_to_blue = 138412;
  chroma_centre = 256;
}

-- two sets are equal in all seven numbers
unfoldable pub same_set : YuvSet → YuvSet → Bool
same_set s t =
    eqb s.luma_gain t.luma_gain && eqb s.luma_offset t.luma_offset
    && eqb s.v_to_red t.v_to_red && eqb s.u_to_green t.u_to_green && eqb s.v_to_green t.v_to_green
    && eqb s.u_to_blue t.u_to_blue && eqb s.chroma_centre t.chroma_centre

-- ---- decimals
-- of all n / 65536 this one is the nearest to a decimal in thousandths
abbrev pub NearestTo : (thousandths n : ℕ) → Type 0
NearestTo t n = Nearest (t * 65536) 1000 n

-- the six numbers in 65536ths are those nearest to six decimals
pub record RoundedFrom (luma_gain luma_offset v_to_red u_to_green v_to_green u_to_blue : ℕ) (s : YuvSet) : Type 0 where
  pub gain_nearest : NearestTo luma_gain s.luma_gain
  pub offset_nearest : NearestTo luma_offset s.luma_offset
  pub v_to_red_nearest : NearestTo v_to_red s.v_to_red
  pub u_to_green_nearest : NearestTo u_to_green s.u_to_green
  pub v_to_green_nearest : NearestTo v_to_green s.v_to_green
  pub u_to_blue_nearest : NearestTo u_to_blue s.u_to_blue
