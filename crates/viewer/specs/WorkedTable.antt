-- The worked table: the numbers that docs/RULES.md prints (Worked table), each row beside the same numbers as the contracts' own definitions
-- compute them.
use Rattle.std.specs.Prelude.{◌≡◌, List, [], ◌∷◌, ◌++◌, map, ℕ, pos, Float}
use Rattle.std.specs.Float.{binary32}
use Rattle.std.specs.Float.Ieee.{of_int, div, to_bits}
use Rattle.words.specs.Little.{number, bytes}
use Rattle.formats.specs.Codes.{A8R8G8B8, R5G6B5, A1R5G5B5, A4R4G4B4, A16B16G16R16, L8, D24S8, D24X8, D16, A32B32G32R32F, YUY2, YV12, NV12}
use Rattle.formats.specs.Table.{bytes_of}
use Rattle.planar_yuv.specs.Offsets.{u_offset_at, v_offset_at}
use Rattle.planar_yuv.specs.Answers.{from_width, Reply}
use Rattle.places.specs.declared.Side.{Side}
use Rattle.stretch_rect.specs.Sets.{bt601}
use Rattle.stretch_rect.specs.Yuv.{rgb_of, rgb_list}
use Rattle.regions.specs.declared.reply.ConvertRegion.{ConvertRegion}
use Rattle.regions.specs.Replies.{convert_reply, reply_number}
use Rattle.regions.specs.Regions.{converted_bytes}
use Rattle.depth_texture.specs.Layouts.{layout, layout_refusal, layout_for}
use Rattle.depth_texture.specs.Pixels.{depth_code}
use Rattle.depth_texture.specs.Planes.{packed_buffer}
use Rattle.depth_texture.specs.declared.PlaneLayout.{PlaneLayout}
use Rattle.convert.specs.Half.{half_of}
use Rattle.convert.specs.Fill.{fill_of}

-- a row: the numbers that the table prints, and the same numbers computed
pub record Row : Type 0 where
  pub printed : List ℕ
  pub computed : List ℕ

abbrev row : (printed computed : List ℕ) → Row
row p c = record { printed = p; computed = c }

-- a side from byte 0 and (0, 0) on, of one row and one slice
abbrev one_row : (bytes : ℕ) → Side
one_row n = record { start = 0; pitch = pos n; slice_pitch = n; x = 0; y = 0 }

-- a region of one texel, with pitches for its source's and its destination's bytes
abbrev one_texel : (from to : ℕ) → ConvertRegion
one_texel n m = record { source = one_row n; destination = one_row m; depth = 1; width = 1; height = 1 }

-- pitch, luma rows, chroma rows and total bytes of a planar layout; zeros where it is refused
abbrev planar_values : Reply → List ℕ
planar_values r = r.pitch ∷ r.luma_rows ∷ r.chroma_rows ∷ r.total_bytes ∷ []

-- width, height, depth pitch and stencil pitch of a plane layout
abbrev plane_values : PlaneLayout → List ℕ
plane_values l = l.width ∷ l.height ∷ l.depth_pitch ∷ l.stencil_pitch ∷ []

-- the bytes of one texel after its conversion, into a destination of zeros
abbrev converted : (texel : List ℕ) (source destination : ℕ) → List ℕ
converted texel s d = converted_bytes texel (bytes (bytes_of d) 0) s d (one_texel (bytes_of s) (bytes_of d))

-- the binary32 pattern of a number
abbrev pattern : Float → ℕ
pattern = to_bits binary32

abbrev whole : ℕ → Float
whole n = of_int binary32 (pos n)

-- 0.5, one over two
abbrev half : ℕ
half = pattern (div binary32 (whole 1) (whole 2))

-- a texel of four channels of n bytes each
abbrev four_of : (n r g b a : ℕ) → List ℕ
four_of n r g b a = bytes n r ++ (bytes n g ++ (bytes n b ++ bytes n a))

-- the depth's code after a picture of one pixel, whose depth is 0.5 and whose stencil is 0, is packed into n zeros
abbrev packed_half : (f n : ℕ) → ℕ
packed_half f n = depth_code f (number (packed_buffer f (layout 1 1 4 1) (bytes 4 half) (0 ∷ []) (bytes n 0) n))

-- the reply to the conversion of one YUY2 texel from a row of n bytes
abbrev lone_yuy2 : (n : ℕ) → ℕ
lone_yuy2 n = reply_number (convert_reply (bytes n 0) (bytes 4 0) YUY2 A8R8G8B8 (one_texel 4 4))

abbrev pub worked_table : List Row
worked_table =
    -- P1 YUV 16,128,128 gives RGB 1,0,1 (rgb_of)
    row (1 ∷ 0 ∷ 1 ∷ []) (rgb_list (rgb_of bt601 16 128 128))
    -- P2 235,128,128 gives 255,254,255
    ∷ row (255 ∷ 254 ∷ 255 ∷ []) (rgb_list (rgb_of bt601 235 128 128))
    -- P3 luminance of pure red, green, blue: 54, 182, 18 (converted_bytes, A8R8G8B8 to L8)
    ∷ row (54 ∷ []) (converted (0 ∷ 0 ∷ 255 ∷ 255 ∷ []) A8R8G8B8 L8)
    ∷ row (182 ∷ []) (converted (0 ∷ 255 ∷ 0 ∷ 255 ∷ []) A8R8G8B8 L8)
    ∷ row (18 ∷ []) (converted (255 ∷ 0 ∷ 0 ∷ 255 ∷ []) A8R8G8B8 L8)
    -- P4 R5G6B5 bytes 00 F8 to A8R8G8B8: 00 00 FF FF (converted_bytes)
    ∷ row (0x00 ∷ 0x00 ∷ 0xff ∷ 0xff ∷ []) (converted (0x00 ∷ 0xf8 ∷ []) R5G6B5 A8R8G8B8)
    -- P5 fill DEADBEEF: R5G6B5 ADFD, A1R5G5B5 D6FD, A4R4G4B4 DABE (fill_of, its sixteen bytes as a number)
    ∷ row (0xadfd ∷ []) (number (fill_of 0xdeadbeef R5G6B5).bytes ∷ [])
    ∷ row (0xd6fd ∷ []) (number (fill_of 0xdeadbeef A1R5G5B5).bytes ∷ [])
    ∷ row (0xdabe ∷ []) (number (fill_of 0xdeadbeef A4R4G4B4).bytes ∷ [])
    -- P6 sixteen-bit 32767 gives 127, 32768 gives 128 (converted_bytes, red and blue 32767, green and alpha 32768)
    ∷ row (127 ∷ 128 ∷ 127 ∷ 128 ∷ []) (converted (four_of 2 32767 32768 32767 32768) A16B16G16R16 A8R8G8B8)
    -- P7 float 0.5 gives 128 (converted_bytes, in each channel)
    ∷ row (128 ∷ 128 ∷ 128 ∷ 128 ∷ []) (converted (four_of 4 half half half half) A32B32G32R32F A8R8G8B8)
    -- P8 binary16 of 65519 is 7BFF, of 65520 is 7C00 (half_of)
    ∷ row (0x7bff ∷ []) (half_of (pattern (whole 65519)) ∷ [])
    ∷ row (0x7c00 ∷ []) (half_of (pattern (whole 65520)) ∷ [])
    -- P9 depth 0.5 packs to 32768 (D16) and 8388608 (D24, with stencil and with X) (packed_buffer)
    ∷ row (32768 ∷ []) (packed_half D16 2 ∷ [])
    ∷ row (8388608 ∷ 8388608 ∷ []) (packed_half D24S8 4 ∷ packed_half D24X8 4 ∷ [])
    -- P10 NV12 6 × 3: pitch 8, 40 bytes, U of (5,2) at 36 (from_width, u_offset_at)
    ∷ row (0 ∷ 8 ∷ 40 ∷ 36 ∷ []) ((from_width NV12 6 3).number ∷ (from_width NV12 6 3).pitch ∷ (from_width NV12 6 3).total_bytes ∷ u_offset_at NV12 8 3 5 2 ∷ [])
    -- P11 YV12 6 × 4: V of (5,3) at 38, U at 46 (from_width's pitch, v_offset_at, u_offset_at)
    ∷ row (38 ∷ 46 ∷ []) (v_offset_at YV12 (from_width YV12 6 4).pitch 4 5 3 ∷ u_offset_at YV12 (from_width YV12 6 4).pitch 4 5 3 ∷ [])
    -- P11 6 × 3 is 14, and zeros
    ∷ row (14 ∷ 0 ∷ 0 ∷ 0 ∷ 0 ∷ []) ((from_width YV12 6 3).number ∷ planar_values (from_width YV12 6 3))
    -- NV12 of 10922 rows stands, 10923 is 14
    ∷ row (0 ∷ 14 ∷ []) ((from_width NV12 6 10922).number ∷ (from_width NV12 6 10923).number ∷ [])
    -- a one-texel YUY2 row of 4 bytes converts, of 3 is 3 (convert_reply)
    ∷ row (0 ∷ 3 ∷ []) (lone_yuy2 4 ∷ lone_yuy2 3 ∷ [])
    -- alignment 0 stands, 6 is 7, and zeros (layout_refusal, layout_for)
    ∷ row (0 ∷ 7 ∷ 0 ∷ 0 ∷ 0 ∷ 0 ∷ []) (layout_refusal 1 1 0 ∷ layout_refusal 1 1 6 ∷ plane_values (layout_for 1 1 6))
    ∷ []

-- the two columns are one
abbrev pub ColumnsAgree : Type 0
ColumnsAgree = map (λ (r : Row). r.computed) worked_table ≡ map (λ (r : Row). r.printed) worked_table
