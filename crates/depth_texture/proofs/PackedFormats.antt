-- Laws on the packed depth formats. Assumes nothing.
use Rattle.std.specs.Prelude.{◌≡◌, refl, Bool, true, false, ℕ, ◌+◌, ◌*◌, ◌/◌, ◌%◌, ◌^◌, ◌≤◌, ◌<◌, eqb}
use Rattle.std.proofs.Common.{sym, true≢false, arith, eqb-true, ne_eqb}
use Rattle.formats.specs.Lanes.{depth}
use Rattle.formats.specs.Table.{parts_of, lane_of, bytes_of}
use Rattle.formats.proofs.Packing.{reads, packed_lt}
use Rattle.formats.specs.Codes as codes
use Rattle.depth_texture.specs.declared.pixels.PackedDepth.{PackedDepth}
use Rattle.depth_texture.specs.declared.pixels.PackedDepth.TheVariants.{D16, D24X8, D24S8}
use Rattle.depth_texture.specs.Pixels.{format_code, is_packed_depth, has_stencil, max_code, depth_code, stencil_code, part_code, pixel_word}

-- ---- which codes
pub packed_known : (d : PackedDepth) → is_packed_depth (format_code d) ≡ true
unfolding is_packed_depth
packed_known D16 = refl
packed_known D24X8 = refl
packed_known D24S8 = refl

pub not_packed : (f : ℕ) → (f ≡ codes.D16 → ⊥) → (f ≡ codes.D24X8 → ⊥) → (f ≡ codes.D24S8 → ⊥) → is_packed_depth f ≡ false
unfolding is_packed_depth
not_packed f a b c = go (eqb f codes.D16) (ne_eqb f codes.D16 a) (eqb f codes.D24X8) (ne_eqb f codes.D24X8 b) (eqb f codes.D24S8) (ne_eqb f codes.D24S8 c)
  where
    go : (a : Bool) → a ≡ false → (b : Bool) → b ≡ false → (c : Bool) → c ≡ false
        → elim a [ true ↦ true | false ↦ elim b [ true ↦ true | false ↦ elim c [ true ↦ true | false ↦ false ] ] ] ≡ false
    go false p false q false r = refl
    go true p b q c r = p
    go false p true q c r = q
    go false p false q true r = r

-- the format with a known code
pub format_of : (f : ℕ) → is_packed_depth f ≡ true → (d : PackedDepth) × (format_code d ≡ f)
unfolding is_packed_depth
format_of f h = go (eqb f codes.D16) refl (eqb f codes.D24X8) refl (eqb f codes.D24S8) refl h
  where
    go : (a : Bool) → eqb f codes.D16 ≡ a → (b : Bool) → eqb f codes.D24X8 ≡ b → (c : Bool) → eqb f codes.D24S8 ≡ c
        → elim a [ true ↦ true | false ↦ elim b [ true ↦ true | false ↦ elim c [ true ↦ true | false ↦ false ] ] ] ≡ true → (d : PackedDepth) × (format_code d ≡ f)
    go true p b q c r h = (D16, sym (eqb-true f codes.D16 p))
    go false p true q c r h = (D24X8, sym (eqb-true f codes.D24X8 q))
    go false p false q true r h = (D24S8, sym (eqb-true f codes.D24S8 r))
    go false p false q false r h = absurd (true≢false (sym h))

-- ---- sizes and largest codes
pub size_d16 : bytes_of codes.D16 ≡ 2
unfolding bytes_of parts_of
size_d16 = refl

pub size_d24x8 : bytes_of codes.D24X8 ≡ 4
unfolding bytes_of parts_of
size_d24x8 = refl

pub size_d24s8 : bytes_of codes.D24S8 ≡ 4
unfolding bytes_of parts_of
size_d24s8 = refl

-- what the numbers of a format are good for: pixels have bytes, at most four, and codes restore
pub record Sizes (f : ℕ) : Type 0 where
  pub some : 0 < bytes_of f
  pub most : bytes_of f ≤ 4
  pub max_pos : 0 < max_code f
  pub max_lt : max_code f < 2 ^ 24

pub sizes : (d : PackedDepth) → Sizes (format_code d)
unfolding bytes_of max_code lane_of parts_of
sizes D16 = record { some = omega arith; most = omega arith; max_pos = omega arith; max_lt = omega arith }
sizes D24X8 = record { some = omega arith; most = omega arith; max_pos = omega arith; max_lt = omega arith }
sizes D24S8 = record { some = omega arith; most = omega arith; max_pos = omega arith; max_lt = omega arith }

-- ---- what a word holds
pub depth_code_le : (d : PackedDepth) (w : ℕ) → depth_code (format_code d) w ≤ max_code (format_code d)
unfolding depth_code max_code lane_of parts_of
depth_code_le D16 w = omega arith
depth_code_le D24X8 w = omega arith
depth_code_le D24S8 w = omega arith

pub stencil_lt : (d : PackedDepth) (w : ℕ) → stencil_code (format_code d) w < 256
unfolding stencil_code lane_of parts_of
stencil_lt D16 w = omega arith
stencil_lt D24X8 w = omega arith
stencil_lt D24S8 w = omega arith

-- the word of a pixel holds the depth's code in its lane
pub depth_held : (d : PackedDepth) (c s : ℕ) → c ≤ max_code (format_code d) → s < 256 → depth_code (format_code d) (pixel_word (format_code d) c s) ≡ c
unfolding depth_code pixel_word max_code lane_of parts_of
depth_held D16 c s h b = (reads (λ p. part_code c s p.channel) depth (parts_of codes.D16) (omega arith, tt)).0
depth_held D24X8 c s h b = (reads (λ p. part_code c s p.channel) depth (parts_of codes.D24X8) (omega arith, (omega arith, tt))).0
depth_held D24S8 c s h b = (reads (λ p. part_code c s p.channel) depth (parts_of codes.D24S8) (omega arith, (omega arith, tt))).0

-- and fits its bytes
pub word_lt : (d : PackedDepth) (c s : ℕ) → c ≤ max_code (format_code d) → s < 256 → pixel_word (format_code d) c s < 2 ^ (bytes_of (format_code d) * 8)
unfolding pixel_word max_code bytes_of lane_of parts_of
word_lt D16 c s h b = packed_lt (λ p. part_code c s p.channel) (parts_of codes.D16) (omega arith, tt)
word_lt D24X8 c s h b = packed_lt (λ p. part_code c s p.channel) (parts_of codes.D24X8) (omega arith, (omega arith, tt))
word_lt D24S8 c s h b = packed_lt (λ p. part_code c s p.channel) (parts_of codes.D24S8) (omega arith, (omega arith, tt))

-- ---- as numbers
pub max_d16 : max_code codes.D16 ≡ 65535
unfolding max_code lane_of parts_of
max_d16 = refl

pub max_d24x8 : max_code codes.D24X8 ≡ 16777215
unfolding max_code lane_of parts_of
max_d24x8 = refl

pub max_d24s8 : max_code codes.D24S8 ≡ 16777215
unfolding max_code lane_of parts_of
max_d24s8 = refl

pub code_d16 : (w : ℕ) → w < 65536 → depth_code codes.D16 w ≡ w
unfolding depth_code lane_of parts_of
code_d16 w h = omega arith

pub code_d24x8 : (w : ℕ) → depth_code codes.D24X8 w ≡ w % 16777216
unfolding depth_code lane_of parts_of
code_d24x8 w = omega arith

pub code_d24s8 : (w : ℕ) → w < 4294967296 → depth_code codes.D24S8 w ≡ w / 256
unfolding depth_code lane_of parts_of
code_d24s8 w h = omega arith

pub stencil_of_d24s8 : (w : ℕ) → stencil_code codes.D24S8 w ≡ w % 256
unfolding stencil_code lane_of parts_of
stencil_of_d24s8 w = omega arith

pub word_d16 : (c s : ℕ) → pixel_word codes.D16 c s ≡ c
unfolding pixel_word parts_of
word_d16 c s = omega arith

pub word_d24x8 : (c s : ℕ) → pixel_word codes.D24X8 c s ≡ c
unfolding pixel_word parts_of
word_d24x8 c s = omega arith

pub word_d24s8 : (c s : ℕ) → pixel_word codes.D24S8 c s ≡ c * 256 + s
unfolding pixel_word parts_of
word_d24s8 c s = omega arith

-- ---- the stencil
pub stencil_d16 : has_stencil codes.D16 ≡ false
unfolding has_stencil lane_of parts_of
stencil_d16 = refl

pub stencil_d24x8 : has_stencil codes.D24X8 ≡ false
unfolding has_stencil lane_of parts_of
stencil_d24x8 = refl

pub stencil_d24s8 : has_stencil codes.D24S8 ≡ true
unfolding has_stencil lane_of parts_of
stencil_d24s8 = refl

-- without a stencil a word holds none
pub no_stencil : (d : PackedDepth) → has_stencil (format_code d) ≡ false → (w : ℕ) → stencil_code (format_code d) w ≡ 0
unfolding has_stencil stencil_code lane_of parts_of
no_stencil D16 h w = refl
no_stencil D24X8 h w = refl
no_stencil D24S8 h w = absurd (true≢false h)
