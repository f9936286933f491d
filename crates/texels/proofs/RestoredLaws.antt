-- Encoding what was decoded from the same RGB format restores every bit but X. Assumes nothing.
use Rattle.std.specs.Prelude.{◌≡◌, refl, Bool, true, false, ◌||◌, ℕ, ◌+◌, ◌*◌, ◌/◌, ◌%◌, ◌^◌, ◌≤◌, ◌<◌, T}
use Rattle.std.proofs.Common.{ap, ◌∙◌, div-one, arith, le-leb, subst}
use Rattle.std.proofs.lemmas.Bool.{false≢true}
use Rattle.formats.specs.Codes.{R8G8B8, A8R8G8B8, X8R8G8B8}
use Rattle.formats.specs.Lanes.{Channel, red, green, blue, alpha, luminance, depth, stencil, padding, unsigned, signed, float16, float32, ignored, Lane, nowhere, at, bits, code_at}
use Rattle.formats.specs.Table.{parts_of, lane_of}
use Rattle.formats.specs.Classes.{rgb_formats, is_convertible_rgb}
use Rattle.formats.proofs.Packing.{Held}
use Rattle.formats.proofs.Listed.{listed_at}
use Rattle.channels.specs.Expansion.{expanded, truncated}
use Rattle.channels.specs.Luminance.{luminance_of}
use Rattle.channels.proofs.ExpansionLaws.{expands}
use Rattle.texels.specs.declared.Texel.{Texel}
use Rattle.texels.specs.Texels.{code_byte, colour_of, missing_colour, decoded_of, byte_of, code_of, encoded_of, is_colour, lane_byte, or_else}
use Rattle.texels.proofs.Words.{expanded_eight}
use Rattle.texels.proofs.BoundsLaws.{encoded_holds, Wide, Narrow, lane_wide, lane_narrow, code_lt, channel_byte, decoded_stands}
use Rattle.texels.specs.Restored.{SameLane}

-- ---- the lanes of the RGB formats
-- a lane that is not there, or an unsigned one
abbrev pub plain : Lane → Bool
plain nowhere = true
plain (at low n unsigned) = true
plain (at low n signed) = false
plain (at low n float16) = false
plain (at low n float32) = false
plain (at low n ignored) = false

abbrev pub absent : Lane → Bool
absent nowhere = true
absent (at low n k) = false

pub absent_is : (l : Lane) → T (absent l) → l ≡ nowhere
absent_is nowhere h = refl
absent_is (at low width _) h = elim h [ ]

pub rgb_plain : (f : ℕ) → is_convertible_rgb f ≡ true → (c : Channel) → is_colour c ≡ true → T (plain (lane_of f c))
unfolding is_convertible_rgb lane_of parts_of
rgb_plain f h red p = listed_at (λ g. plain (lane_of g red)) rgb_formats tt f h
rgb_plain f h green p = listed_at (λ g. plain (lane_of g green)) rgb_formats tt f h
rgb_plain f h blue p = listed_at (λ g. plain (lane_of g blue)) rgb_formats tt f h
rgb_plain f h alpha p = listed_at (λ g. plain (lane_of g alpha)) rgb_formats tt f h
rgb_plain f h luminance p = listed_at (λ g. plain (lane_of g luminance)) rgb_formats tt f h
rgb_plain f h depth p = absurd (false≢true p)
rgb_plain f h stencil p = absurd (false≢true p)
rgb_plain f h padding p = absurd (false≢true p)

-- a format with a luminance has no colour
unfoldable pub alone : (f : ℕ) (c : Channel) → Bool
alone f c = absent (lane_of f luminance) || absent (lane_of f c)

pub rgb_alone : (f : ℕ) → is_convertible_rgb f ≡ true → T (alone f red) × (T (alone f green) × T (alone f blue))
unfolding alone is_convertible_rgb lane_of parts_of
rgb_alone f h =
    (listed_at (λ g. alone g red) rgb_formats tt f h, (listed_at (λ g. alone g green) rgb_formats tt f h, listed_at (λ g. alone g blue) rgb_formats tt f h))

-- ---- bytes of lanes
pub narrow_byte : (n k : ℕ) → n ≤ 8 → code_byte n k ≡ expanded n k
narrow_byte n k h = rw (le-leb n 8 h) refl

pub luminance_same : (v : ℕ) → luminance_of v v v ≡ v
unfolding luminance_of
luminance_same v = omega arith

-- ---- an A8R8G8B8 word
-- eight bits of eight are the byte
eight : (v : ℕ) → v < 256 → expanded 8 (truncated 8 v) ≡ v
unfolding truncated
eight v h = ap (expanded 8) (div-one v) ∙ expanded_eight v h

-- its texel is the one that it was made of
pub word_keeps : (t : Texel) → ((c : Channel) → byte_of t c < 256) → decoded_of A8R8G8B8 (encoded_of A8R8G8B8 t) ≡ t
unfolding decoded_of colour_of lane_of parts_of is_convertible_rgb
word_keeps t h =
    let w = encoded_of A8R8G8B8 t in
    let holds : (c : Channel) → Held (code_of t) c (lane_of A8R8G8B8 c) (bits (parts_of A8R8G8B8)) w = encoded_holds t h A8R8G8B8 refl in
    let byte : (c : Channel) (k : ℕ) → k ≡ truncated 8 (byte_of t c) → expanded 8 k ≡ byte_of t c = λ c k e. ap (expanded 8) e ∙ eight (byte_of t c) (h c) in
    λ i. record {
      r = byte red (code_at 16 8 w) (holds red).0 i;
      g = byte green (code_at 8 8 w) (holds green).0 i;
      b = byte blue (code_at 0 8 w) (holds blue).0 i;
      a = byte alpha (code_at 24 8 w) (holds alpha).0 i;
    }

-- ---- R8G8B8
-- a fourth byte above the three makes no difference, if it is read as X
pub with_fourth : (w b : ℕ) → decoded_of X8R8G8B8 (w + 16777216 * b) ≡ decoded_of R8G8B8 w
unfolding decoded_of colour_of missing_colour lane_of parts_of
with_fourth w b =
    let lane : (k : ℕ) (e : (w + 16777216 * b) / 2 ^ k % 256 ≡ w / 2 ^ k % 256) → expanded 8 ((w + 16777216 * b) / 2 ^ k % 256) ≡ expanded 8 (w / 2 ^ k % 256) = λ k e. ap (expanded 8) e in
    λ i. record {
      r = lane 16 (omega arith) i;
      g = lane 8 (omega arith) i;
      b = lane 0 (omega arith) i;
      a = 255;
    }

module _ (f w : ℕ) where
  abbrev t : Texel
  t = decoded_of f w

  -- the byte that stands for a lane that is there
  pub byte_of_expanded : (c : Channel) → is_colour c ≡ true → is_convertible_rgb f ≡ true → (low n : ℕ) → lane_of f c ≡ at low n unsigned → n ≤ 8 → byte_of t c ≡ expanded n (code_at low n w)
  unfolding decoded_of colour_of alone
  byte_of_expanded red p h low n e u = ap (λ l. lane_byte (missing_colour f) (or_else l (lane_of f luminance)) w) e ∙ narrow_byte n (code_at low n w) u
  byte_of_expanded green p h low n e u = ap (λ l. lane_byte (missing_colour f) (or_else l (lane_of f luminance)) w) e ∙ narrow_byte n (code_at low n w) u
  byte_of_expanded blue p h low n e u = ap (λ l. lane_byte (missing_colour f) (or_else l (lane_of f luminance)) w) e ∙ narrow_byte n (code_at low n w) u
  byte_of_expanded alpha p h low n e u = ap (λ l. lane_byte 255 l w) e ∙ narrow_byte n (code_at low n w) u
  byte_of_expanded luminance p h low n e u =
      let a = rgb_alone f h in
      ap (λ x. luminance_of x t.g t.b) (colour red a.0)
      ∙ ap (λ x. luminance_of (expanded n (code_at low n w)) x t.b) (colour green a.1.0)
      ∙ ap (λ x. luminance_of (expanded n (code_at low n w)) (expanded n (code_at low n w)) x) (colour blue a.1.1)
      ∙ luminance_same (expanded n (code_at low n w))
    where
      missing : (c : Channel) → T (alone f c) → lane_of f c ≡ nowhere
      missing c s = absent_is (lane_of f c) (subst (λ l. T (absent l || absent (lane_of f c))) e s)

      colour : (c : Channel) → T (alone f c) → lane_byte (missing_colour f) (or_else (lane_of f c) (lane_of f luminance)) w ≡ expanded n (code_at low n w)
      colour c s = ap (λ l. lane_byte (missing_colour f) (or_else l (lane_of f luminance)) w) (missing c s) ∙ ap (λ l. lane_byte (missing_colour f) l w) e ∙ narrow_byte n (code_at low n w) u
  byte_of_expanded depth p h low n e u = absurd (false≢true p)
  byte_of_expanded stencil p h low n e u = absurd (false≢true p)
  byte_of_expanded padding p h low n e u = absurd (false≢true p)

  -- THE LAW: every lane but X holds what it held
  pub restored : is_convertible_rgb f ≡ true → (c : Channel) → is_colour c ≡ true → SameLane (lane_of f c) (encoded_of f t) w
  restored h c p =
      go (lane_of f c) refl (rgb_plain f h c p) (lane_wide f c) (lane_narrow f h c)
      (encoded_holds t (channel_byte (decoded_stands f w)) f h c)
    where
      go : (l : Lane) → lane_of f c ≡ l → T (plain l) → Wide l → Narrow l → Held (code_of t) c l (bits (parts_of f)) (encoded_of f t) → SameLane l (encoded_of f t) w
      go nowhere e q a b x = tt
      go (at low n unsigned) e q a b x =
          x.0 ∙ ap (truncated n) (byte_of_expanded c p h low n e b) ∙ (expands n a b (code_at low n w) (code_lt low n w)).restored
      go (at low n signed) e q a b x = absurd q
      go (at low n float16) e q a b x = absurd q
      go (at low n float32) e q a b x = absurd q
      go (at low n ignored) e q a b x = absurd q

-- so a texel that was decoded goes on as it is
pub decoded_encoded : (f v : ℕ) → decoded_of A8R8G8B8 (encoded_of A8R8G8B8 (decoded_of f v)) ≡ decoded_of f v
decoded_encoded f v = word_keeps (decoded_of f v) (channel_byte (decoded_stands f v))
