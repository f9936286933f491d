-- Every row of the worked table agrees: both columns compute. Assumes nothing.
use Rattle.std.specs.Prelude.{refl}
use Rattle.std.specs.Float.Ieee as ieee
use Rattle.words.specs.Integers as integers
use Rattle.words.specs.Iterate as loops
use Rattle.formats.specs.Table as lanes
use Rattle.formats.specs.Classes as classes
use Rattle.channels.specs.Expansion as widths
use Rattle.channels.specs.Nearest as bytewise
use Rattle.channels.specs.Luminance as mean
use Rattle.stretch_rect.specs.Yuv as yuv
use Rattle.stretch_rect.specs.Sets as numbers
use Rattle.texels.specs.Texels as texels
use Rattle.places.specs.Places as places
use Rattle.regions.specs.Replies as checks
use Rattle.regions.specs.Regions as regions
use Rattle.convert.specs.Half as binary16
use Rattle.convert.specs.Fill as fill
use Rattle.depth_texture.specs.Depth as depth
use Rattle.words.specs.Multiples as multiples
use Rattle.depth_texture.specs.Layouts as layouts
use Rattle.depth_texture.specs.Pixels as pixels
use Rattle.depth_texture.specs.Replies as replies
use Rattle.depth_texture.specs.Pictures as pictures
use Rattle.depth_texture.specs.PixelBytes as pixelBytes
use Rattle.depth_texture.specs.Planes as planes
use Rattle.planar_yuv.specs.Rules as rules
use Rattle.planar_yuv.specs.Offsets as offsets
use Rattle.planar_yuv.specs.Answers as answers
use Rattle.viewer.specs.WorkedTable.{ColumnsAgree}

pub columns_agree : ColumnsAgree
unfolding integers.clamp_to integers.up
    loops.iterate loops.all
    classes.is_convertible_rgb classes.is_packed_yuv classes.is_planar_yuv classes.is_argb_source classes.is_lane_source classes.linear_row_pitch
    lanes.parts_of lanes.lane_of lanes.bytes_of
    widths.expanded widths.truncated
    bytewise.rounded
    mean.luminance_of
    numbers.is_legal yuv.luma_exact yuv.chroma_exact yuv.luma_part yuv.chroma_part yuv.nearest_whole yuv.red_rounded yuv.green_rounded yuv.blue_rounded yuv.rgb_of
    texels.colour_of texels.decoded_of texels.encoded_of texels.encoded_bytes
    places.place_of places.places_at places.places_in places.bytes_at places.texel_in places.inside_all
    checks.can_convert_update checks.can_convert checks.bad_planar_shape checks.illegal_set checks.is_empty checks.source_inside checks.destination_inside checks.reply_to regions.texel_of regions.texel_at regions.to_at regions.source_texel regions.written regions.row_written regions.slice_written regions.region_written regions.converted_with
    rules.allowed
    offsets.nv12_u offsets.yv12_v offsets.yv12_u offsets.u_offset_at offsets.v_offset_at
    answers.from_pitch answers.from_width
    binary16.nearest_half binary16.magnitude_code binary16.half_of
    fill.word_of fill.fill_of
    depth.code_for
    layouts.is_power_of_two multiples.raised layouts.aligned layouts.is_empty layouts.planes_fit layouts.layout_refusal layouts.layout_for layouts.stands
    pixels.is_packed_depth pixels.has_stencil pixels.max_code pixels.depth_code pixels.pixel_word pixels.encoded
    replies.packed_holds replies.stencil_holds replies.refusal_of
    pictures.written_row pictures.written
    pixelBytes.depth_at pixelBytes.stencil_at pixelBytes.packed_bytes planes.packed_pixels planes.packed_buffer
    ieee.div ieee.of_int ieee.of_bits ieee.to_bits
columns_agree = refl
