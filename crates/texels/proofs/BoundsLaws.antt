-- THE ERROR BOUND: whatever the source, each channel that an RGB destination stores lies near the source's exact value. Assumes nothing.
use Rattle.std.specs.Prelude.{◌≡◌, refl, Bool, true, false, List, [], ◌∷◌, ℕ, ◌*◌, ◌-◌, ◌/◌, ◌^◌, ◌≤◌, ◌<◌, T, leb, eqb}
use Rattle.std.proofs.Common.{subst, arith, mod-lt, mul-le-mul_left, pow_pos, leb→le, leb-true, sym, le_trans}
use Rattle.std.proofs.Math.Pow.{le_ones}
use Rattle.std.specs.Float.{binary32}
use Rattle.std.specs.Float.Ieee.{of_bits}
use Rattle.std.proofs.lemmas.Bool.{false≢true}
use Rattle.words.specs.Little.{number}
use Rattle.words.proofs.LittleLaws.{number_bytes}
use Rattle.words.specs.Tests.{pick}
use Rattle.words.specs.Computed.{both}
use Rattle.words.proofs.ComputedLaws.{both_left, both_right}
use Rattle.formats.specs.Lanes.{Channel, Channel-discrete, red, green, blue, alpha, luminance, depth, stencil, padding, Kind, unsigned, signed, float16, float32, ignored, Part, Lane, nowhere, at, bits, find, code_at, packed}
use Rattle.formats.specs.Codes.{A8}
use Rattle.formats.specs.Table.{parts_of, lane_of, bytes_of}
use Rattle.formats.proofs.TableLaws.{by_table, lanes_filled}
use Rattle.formats.specs.Classes.{rgb_formats, is_convertible_rgb}
use Rattle.formats.proofs.Listed.{listed_at}
use Rattle.formats.proofs.Packing.{Fit, Held, reads, packed_lt}
use Rattle.channels.specs.Fractions.{◌over◌, Near}
use Rattle.channels.proofs.FractionsLaws.{weaker, whole_near, triangle, mean_near}
use Rattle.channels.specs.Expansion.{expanded, truncated}
use Rattle.channels.proofs.ExpansionLaws.{expands, truncates}
use Rattle.channels.proofs.Nearest.{rounded_le}
use Rattle.channels.proofs.LuminanceLaws.{luminance_byte, luminance_near}
use Rattle.channels.specs.Floats.{clamped}
use Rattle.channels.proofs.FloatsLaws.{bottom_pos, top_le}
use Rattle.channels.specs.Exact.{code_value, not_negative}
use Rattle.channels.proofs.ExactLaws.{ones_pos, rounded_near, signed_le, expanded_near, truncated_near}
use Rattle.channels.specs.Luminance.{luminance_of}
use Rattle.texels.specs.declared.Texel.{Texel}
use Rattle.texels.specs.Texels.{nearest_byte, code_byte, lane_byte, or_else, colour_of, missing_colour, byte_of, code_of, encoded_of, encoded_bytes, lane_value, Values, decoded_of, value_of, exact_of, quarters, is_colour, Holds}
use Rattle.texels.proofs.TexelsLaws.{Stands}

-- ---- every lane of the table has a width of at least one bit, two where it has a sign, and those of an RGB format at most eight
abbrev least : Kind → ℕ
least unsigned = 1
least signed = 2
least float16 = 1
least float32 = 1
least ignored = 1

pub some_bit : (k : Kind) → 1 ≤ least k
some_bit unsigned = omega arith
some_bit signed = omega arith
some_bit float16 = omega arith
some_bit float32 = omega arith
some_bit ignored = omega arith

abbrev wide : List Part → Bool
wide [] = true
wide (p ∷ ps) = both (leb (least p.kind) p.width) (wide ps)

abbrev narrow : List Part → Bool
narrow [] = true
narrow (p ∷ ps) = both (leb p.width 8) (narrow ps)

abbrev pub Wide : Lane → Type 0
Wide nowhere = Unit {0}
Wide (at low n k) = least k ≤ n

abbrev pub Narrow : Lane → Type 0
Narrow nowhere = Unit {0}
Narrow (at low n k) = n ≤ 8

found_wide : (c : Channel) (ps : List Part) → T (wide ps) → Wide (find c ps)
found_wide c [] t = tt
found_wide c (p ∷ ps) t = go (Channel-discrete c p.channel) (found_wide c ps (both_right (leb (least p.kind) p.width) (wide ps) t))
  where
    go : (x : Dec (c ≡ p.channel)) → Wide (find c ps) → Wide (elim x [ yes e ↦ at (bits ps) p.width p.kind | no u ↦ find c ps ])
    go (yes e) r = leb→le (least p.kind) p.width (both_left (leb (least p.kind) p.width) (wide ps) t)
    go (no u) r = r

found_narrow : (c : Channel) (ps : List Part) → T (narrow ps) → Narrow (find c ps)
found_narrow c [] t = tt
found_narrow c (p ∷ ps) t = go (Channel-discrete c p.channel) (found_narrow c ps (both_right (leb p.width 8) (narrow ps) t))
  where
    go : (x : Dec (c ≡ p.channel)) → Narrow (find c ps) → Narrow (elim x [ yes e ↦ at (bits ps) p.width p.kind | no u ↦ find c ps ])
    go (yes e) r = leb→le p.width 8 (both_left (leb p.width 8) (narrow ps) t)
    go (no u) r = r

pub lane_wide : (f : ℕ) (c : Channel) → Wide (lane_of f c)
unfolding lane_of
lane_wide f c = found_wide c (parts_of f) (by_table wide tt tt f)

pub colour_wide : (f : ℕ) (c : Channel) → Wide (colour_of f c)
unfolding colour_of
colour_wide f c = go (lane_of f c) (lane_of f luminance) (lane_wide f c) (lane_wide f luminance)
  where
    go : (l m : Lane) → Wide l → Wide m → Wide (or_else l m)
    go nowhere m h i = i
    go (at low n k) m h i = h

pub rgb_narrow : (f : ℕ) → is_convertible_rgb f ≡ true → T (narrow (parts_of f))
unfolding is_convertible_rgb parts_of
rgb_narrow f h = listed_at (λ g. narrow (parts_of g)) rgb_formats tt f h

pub lane_narrow : (f : ℕ) → is_convertible_rgb f ≡ true → (c : Channel) → Narrow (lane_of f c)
unfolding lane_of
lane_narrow f rgb c = found_narrow c (parts_of f) (rgb_narrow f rgb)

-- ---- decoding: a byte, within 3/4 of the exact value
pub code_lt : (low n w : ℕ) → code_at low n w < 2 ^ n
code_lt low n w = mod-lt (w / 2 ^ low) (pow_pos n)

-- k/d of full scale, and the byte nearest to it
module _ (k d : ℕ) (D : 0 < d) where
  nearest_byte_lt : k ≤ d → nearest_byte (255 * k over d) < 256
  nearest_byte_lt h = omega (arith, rounded_le (255 * k) d 255 D (mul-le-mul_left 255 h))

  nearest_near : Near 3 (nearest_byte (255 * k over d) over 1) (255 * k over d)
  nearest_near = weaker {p = 2} (omega arith) (rounded_near (255 * k) d D)

-- a code of n bits
module _ (n k : ℕ) (h : 1 ≤ n) (l : k < 2 ^ n) where
  code_byte_lt : code_byte n k < 256
  code_byte_lt = go (leb n 8) refl
    where
      go : (b : Bool) → leb n 8 ≡ b → pick b (expanded n k) (nearest_byte (code_value n k)) < 256
      go true e = (expands n h (leb-true n 8 e) k l).byte
      go false e = nearest_byte_lt k (2 ^ n - 1) (ones_pos n h) (le_ones n l)

  code_near : Near 3 (code_byte n k over 1) (code_value n k)
  code_near = go (leb n 8) refl
    where
      go : (b : Bool) → leb n 8 ≡ b → Near 3 (pick b (expanded n k) (nearest_byte (code_value n k)) over 1) (code_value n k)
      go true e = expanded_near n k h (leb-true n 8 e) l
      go false e = nearest_near k (2 ^ n - 1) (ones_pos n h)

same_near : (m : ℕ) → Near 3 (m over 1) (m over 1)
same_near m = whole_near 3 m m 1 (omega arith) (omega arith) (omega arith)

pub lane_byte_lt : (m : ℕ) (l : Lane) (w : ℕ) → m < 256 → Wide l → lane_byte m l w < 256
lane_byte_lt m nowhere w k h = k
lane_byte_lt m (at low n unsigned) w k h = code_byte_lt n (code_at low n w) h (code_lt low n w)
lane_byte_lt m (at low n signed) w k h =
    nearest_byte_lt (not_negative n (code_at low n w)) (2 ^ (n - 1) - 1) (ones_pos (n - 1) (omega arith)) (signed_le n (code_at low n w))
lane_byte_lt m (at low n float32) w k h =
    let x = clamped (of_bits binary32 (code_at low n w)) in
    nearest_byte_lt x.top x.bottom (bottom_pos (of_bits binary32 (code_at low n w))) (top_le (of_bits binary32 (code_at low n w)))
lane_byte_lt m (at low n float16) w k h = k
lane_byte_lt m (at low n ignored) w k h = k

pub lane_near : (m : ℕ) (l : Lane) (w : ℕ) → Wide l → Near 3 (lane_byte m l w over 1) (lane_value m l w)
lane_near m nowhere w h = same_near m
lane_near m (at low n unsigned) w h = code_near n (code_at low n w) h (code_lt low n w)
lane_near m (at low n signed) w h = nearest_near (not_negative n (code_at low n w)) (2 ^ (n - 1) - 1) (ones_pos (n - 1) (omega arith))
lane_near m (at low n float32) w h =
    let x = clamped (of_bits binary32 (code_at low n w)) in
    nearest_near x.top x.bottom (bottom_pos (of_bits binary32 (code_at low n w)))
lane_near m (at low n float16) w h = same_near m
lane_near m (at low n ignored) w h = same_near m

pub missing_byte : (f : ℕ) → missing_colour f < 256
unfolding missing_colour
missing_byte f = go (eqb f A8)
  where
    go : (b : Bool) → pick b 0 255 < 256
    go true = omega arith
    go false = omega arith

module _ {t : Texel} {x : Values} (o : Stands t x) where
  -- ---- any source: each channel of the texel is a byte near its exact value
  pub channel_byte : (c : Channel) → byte_of t c < 256
  channel_byte red = o.r_byte
  channel_byte green = o.g_byte
  channel_byte blue = o.b_byte
  channel_byte alpha = o.a_byte
  channel_byte luminance = luminance_byte t.r t.g t.b o.r_byte o.g_byte o.b_byte
  channel_byte depth = omega arith
  channel_byte stencil = omega arith
  channel_byte padding = omega arith

module _ (t : Texel) (h : (c : Channel) → byte_of t c < 256) where
  -- ---- an encoded texel, of any four bytes
  fit : (ps : List Part) → T (narrow ps) → Fit (code_of t) ps
  fit [] n = tt
  fit (p ∷ ps) n = (
    (truncates p.width (leb→le p.width 8 (both_left (leb p.width 8) (narrow ps) n)) (byte_of t p.channel) (h p.channel)).code,
    fit ps (both_right (leb p.width 8) (narrow ps) n),
  )

  -- what an encoded texel holds in a lane is the truncated byte of its channel
  pub encoded_holds : (f : ℕ) → is_convertible_rgb f ≡ true → (c : Channel) → Held (code_of t) c (lane_of f c) (bits (parts_of f)) (encoded_of f t)
  unfolding lane_of encoded_of
  encoded_holds f rgb c = reads (code_of t) c (parts_of f) (fit (parts_of f) (rgb_narrow f rgb))

  -- its bytes stand for its word
  pub encoded_number : (f : ℕ) → is_convertible_rgb f ≡ true → number (encoded_bytes f t) ≡ encoded_of f t
  unfolding encoded_bytes encoded_of bytes_of
  encoded_number f rgb =
      number_bytes (bits (parts_of f) / 8) (packed (code_of t) (parts_of f))
      (subst (λ x. packed (code_of t) (parts_of f) < 2 ^ x) (lanes_filled f).whole_bytes (packed_lt (code_of t) (parts_of f) (fit (parts_of f) (rgb_narrow f rgb))))

-- a texel that the lane table decodes
pub decoded_stands : (f w : ℕ) → Stands (decoded_of f w) (exact_of f w)
unfolding decoded_of exact_of
decoded_stands f w = record {
  r_byte = lane_byte_lt (missing_colour f) (colour_of f red) w (missing_byte f) (colour_wide f red);
  g_byte = lane_byte_lt (missing_colour f) (colour_of f green) w (missing_byte f) (colour_wide f green);
  b_byte = lane_byte_lt (missing_colour f) (colour_of f blue) w (missing_byte f) (colour_wide f blue);
  a_byte = lane_byte_lt 255 (lane_of f alpha) w (omega arith) (lane_wide f alpha);
  r_near = lane_near (missing_colour f) (colour_of f red) w (colour_wide f red);
  g_near = lane_near (missing_colour f) (colour_of f green) w (colour_wide f green);
  b_near = lane_near (missing_colour f) (colour_of f blue) w (colour_wide f blue);
  a_near = lane_near 255 (lane_of f alpha) w (lane_wide f alpha);
}

module _ {t : Texel} {x : Values} (o : Stands t x) where
  -- ---- THE BOUND
  -- what a channel holds after truncating to n bits
  near_code : (c : Channel) → is_colour c ≡ true → (n : ℕ) → 1 ≤ n → n ≤ 8 → Near (quarters c n) (code_value n (truncated n (byte_of t c))) (value_of x c)
  near_code red p n l u = triangle (truncated_near n t.r l u o.r_byte) o.r_near
  near_code green p n l u = triangle (truncated_near n t.g l u o.g_byte) o.g_near
  near_code blue p n l u = triangle (truncated_near n t.b l u o.b_byte) o.b_near
  near_code alpha p n l u = triangle (truncated_near n t.a l u o.a_byte) o.a_near
  near_code luminance p n l u =
      triangle (truncated_near n (luminance_of t.r t.g t.b) l u (channel_byte o luminance))
      (triangle (luminance_near t.r t.g t.b) (mean_near t.r t.g t.b o.r_near o.g_near o.b_near))
  near_code depth p n l u = absurd (false≢true p)
  near_code stencil p n l u = absurd (false≢true p)
  near_code padding p n l u = absurd (false≢true p)

  module _ (d : ℕ) (rgb : is_convertible_rgb d ≡ true) (c : Channel) (p : is_colour c ≡ true) where
    near_word : Holds c (lane_of d c) (encoded_of d t) (value_of x c)
    near_word = go (lane_of d c) (lane_wide d c) (lane_narrow d rgb c) (encoded_holds t (channel_byte o) d rgb c)
      where
        go : (l : Lane) → Wide l → Narrow l → Held (code_of t) c l (bits (parts_of d)) (encoded_of d t) → Holds c l (encoded_of d t) (value_of x c)
        go nowhere a b k = tt
        go (at low n kind) a b k = subst (λ v. Near (quarters c n) (code_value n v) (value_of x c)) (sym k.0) (near_code c p n (le_trans (some_bit kind) a) b)

    pub near_bytes : Holds c (lane_of d c) (number (encoded_bytes d t)) (value_of x c)
    near_bytes = subst (λ v. Holds c (lane_of d c) v (value_of x c)) (sym (encoded_number t (channel_byte o) d rgb)) near_word
