-- Near, own and kept hold of every conversion. Assumes nothing.
use Rattle.std.proofs.Common.{◌≡◌, refl, Bool, true, false, ◌||◌, eqb, eqb-true, ℤ, length, get_or, take, drop, Result, Ok, Err, sym, ap, ◌∙◌, subst, div-one, ne_eqb, List, [], ◌∷◌, ℕ, zero, suc, ◌+◌, ◌-◌, ◌/◌, ◌^◌, ◌<◌, arith}
use Rattle.std.proofs.lemmas.Bool.{false≢true}
use Rattle.words.proofs.IterateLaws.{iterate_keeps}
use Rattle.words.specs.Little.{number}
use Rattle.words.specs.Tests.{pick}
use Rattle.words.proofs.IntegersLaws.{clamp_byte}
use Rattle.formats.specs.Lanes.{Channel, red, green, blue, Lane, nowhere, at}
use Rattle.formats.proofs.Packing.{Held}
use Rattle.formats.specs.Table.{lane_of, bytes_of}
use Rattle.formats.specs.Classes.{is_convertible_rgb, is_yuv}
use Rattle.formats.proofs.Listed.{rgb_some, rgb_not_planar, rgb_not_packed}
use Rattle.channels.proofs.FractionsLaws.{whole_near}
use Rattle.channels.specs.Expansion.{truncated}
use Rattle.texels.specs.declared.Texel.{Texel}
use Rattle.texels.specs.Texels.{decoded_of, encoded_bytes, byte_of, code_of, exact_of, value_of, Holds}
use Rattle.texels.proofs.TexelsLaws.{Stands}
use Rattle.texels.proofs.BoundsLaws.{channel_byte, encoded_holds, encoded_number, decoded_stands, near_bytes}
use Rattle.places.specs.Places.{Places, absent, offsets, bytes_from, bytes_at}
use Rattle.places.proofs.InsideLaws.{texel_fits, lane_ends, inside_at}
use Rattle.stretch_rect.specs.declared.sets.YuvSet.{YuvSet}
use Rattle.stretch_rect.specs.Sets.{bt601, same_set}
use Rattle.stretch_rect.proofs.LegalLaws.{same_set_is}
use Rattle.stretch_rect.specs.Yuv.{rgb_of, red_rounded, green_rounded, blue_rounded, set_unit, set_slack, ByteNear, red_exact, green_exact, blue_exact, decimal_unit, red_decimal, green_decimal, blue_decimal}
use Rattle.stretch_rect.proofs.NearnessLaws.{set_near}
use Rattle.stretch_rect.proofs.ExactLaws.{RgbStands, bt601_stands, set_stands}
use Rattle.regions.specs.declared.reply.ConvertRegion.{ConvertRegion}
use Rattle.regions.specs.declared.reply.ConvertRefusal.{ConvertRefusal}
use Rattle.regions.specs.Replies.{is_empty, destination_inside, reply_to, if_accepted}
use Rattle.regions.specs.Regions.{luma_of, u_of, v_of, opaque_of, texel_of, clamped_values, yuv_values, values_of, texel_at, exact_at, to_at, source_bytes, odd_at, source_texel, source_values, row_written, slice_written, region_written, converted_with, InRegion, Disjoint, NearWith, HoldsByte, HoldsColour, OwnWith, OthersKept}
use Rattle.regions.specs.Rows.{LiesIn}
use Rattle.regions.proofs.Stored.{region_other, region_own}
use Rattle.regions.proofs.Checks.{convert_rgb, passed}

-- ---- an empty region
none_empty : (r : ConvertRegion) → is_empty r ≡ true → (z row col : ℕ) → InRegion r z row col → ⊥
unfolding is_empty
none_empty r h z row col t = go (eqb r.width 0) (eqb r.height 0) (eqb r.depth 0) refl refl refl h
  where
    go : (a b c : Bool) → eqb r.width 0 ≡ a → eqb r.height 0 ≡ b → eqb r.depth 0 ≡ c → (a || b || c) ≡ true → ⊥
    go true b c e f g k = omega (arith, eqb-true r.width 0 e, t.column)
    go false true c e f g k = omega (arith, eqb-true r.height 0 f, t.line)
    go false false true e f g k = omega (arith, eqb-true r.depth 0 g, t.slice)
    go false false false e f g k = false≢true k

pub empty_written : (numbers : YuvSet) (src dst : List ℕ) (s d : ℕ) (r : ConvertRegion) → is_empty r ≡ true → region_written numbers src s d r dst ≡ dst
unfolding region_written slice_written row_written
empty_written numbers src dst s d r h =
    let P : List ℕ → Type 0 = λ b. b ≡ dst in
    iterate_keeps P _ r.depth
    (λ z zl. iterate_keeps P _ r.height
    (λ row rl. iterate_keeps P _ r.width
    (λ col cl b p. absurd (none_empty r h z row col (record { slice = zl; line = rl; column = cl })))))
    dst refl

-- ---- a region with a texel
pub not_empty : (r : ConvertRegion) (z row col : ℕ) → InRegion r z row col → is_empty r ≡ false
unfolding is_empty
not_empty r z row col t =
    rw (ne_eqb r.width 0 (λ e. omega (arith, t.column)), ne_eqb r.height 0 (λ e. omega (arith, t.line)), ne_eqb r.depth 0 (λ e. omega (arith, t.slice))) refl

-- ---- a destination texel's bytes lie within the destination
pub destination_fits : (d : ℕ) (r : ConvertRegion) (m : ℕ) → is_convertible_rgb d ≡ true → destination_inside m d r ≡ true
    → (z row col : ℕ) → InRegion r z row col → LiesIn d r m z row col
unfolding destination_inside to_at
destination_fits d r m rgb h z row col t =
    let y = r.destination.y + row in
    let x = r.destination.x + col in
    let k = texel_fits m d r.destination z y x (inside_at m d r.destination r.width r.height r.depth h z row col t.slice t.line t.column) in
    lane_ends m d r.destination z y x k.places (rgb_not_planar d rgb) (rgb_not_packed d rgb) (rgb_some d rgb)

-- ---- what an accepted conversion stores at a texel that shares no byte
stored : (numbers : YuvSet) (src dst : List ℕ) (s d : ℕ) (r : ConvertRegion) → reply_to numbers s d r (length src) (length dst) ≡ Ok tt → Disjoint d r
    → (z row col : ℕ) → InRegion r z row col → take (bytes_of d) (drop (to_at d r z row col) (converted_with numbers src dst s d r)) ≡ encoded_bytes d (source_texel numbers src s r z row col)
unfolding converted_with
stored numbers src dst s d r h apart z row col t =
    let q = passed numbers s d r (length src) (length dst) (not_empty r z row col t) h in
    let rgb = convert_rgb s d q.pair in
    ap (λ a. take (bytes_of d) (drop (to_at d r z row col) (if_accepted a (region_written numbers src s d r dst) dst))) h
    ∙ region_own numbers src s d r rgb (length dst) (destination_fits d r (length dst) rgb q.destination) apart z row col t dst refl

-- the texel of a YUV source
yuv_texel : (numbers : YuvSet) (src : List ℕ) (s : ℕ) (r : ConvertRegion) (z row col : ℕ) → is_yuv s ≡ true
    → source_texel numbers src s r z row col ≡ opaque_of (rgb_of numbers (luma_of s (odd_at r col) (source_bytes src s r z row col)) (u_of s (source_bytes src s r z row col)) (v_of s (source_bytes src s r z row col)))
unfolding source_texel texel_at texel_of source_bytes
yuv_texel numbers src s r z row col yuv = rw yuv refl

module _ (numbers : YuvSet) (y u v : ℕ) where
  -- ---- a YUV sample's colour stands for its exact values
  opaque_stands : {unit : ℕ} {red green blue : ℤ} → RgbStands unit red green blue (rgb_of numbers y u v) → Stands (opaque_of (rgb_of numbers y u v)) (clamped_values unit red green blue)
  unfolding rgb_of
  opaque_stands k = record {
    r_byte = clamp_byte (red_rounded numbers y u v);
    g_byte = clamp_byte (green_rounded numbers y u v);
    b_byte = clamp_byte (blue_rounded numbers y u v);
    a_byte = omega arith;
    r_near = k.red_stands;
    g_near = k.green_stands;
    b_near = k.blue_stands;
    a_near = whole_near 3 255 255 1 (omega arith) (omega arith) (omega arith);
  }

  yuv_stands : y < 256 → u < 256 → v < 256 → Stands (opaque_of (rgb_of numbers y u v)) (yuv_values numbers y u v)
  yuv_stands hy hu hv = go (same_set numbers bt601) refl
    where
      go : (t : Bool) → same_set numbers bt601 ≡ t
          → Stands (opaque_of (rgb_of numbers y u v)) (pick t (clamped_values decimal_unit (red_decimal y u v) (green_decimal y u v) (blue_decimal y u v)) (clamped_values set_unit (red_exact numbers y u v) (green_exact numbers y u v) (blue_exact numbers y u v)))
      go true e = opaque_stands (subst (λ n. RgbStands decimal_unit (red_decimal y u v) (green_decimal y u v) (blue_decimal y u v) (rgb_of n y u v)) (sym (same_set_is numbers bt601 e)) (bt601_stands y u v hy hu hv))
      go false e = opaque_stands (set_stands numbers y u v)

module _ (numbers : YuvSet) (src : List ℕ) (byte : (i : ℕ) → get_or src i 0 < 256) where
  -- ---- every source texel stands for its exact values
  from_byte : (os : List ℕ) (i : ℕ) → get_or (bytes_from src os) i 0 < 256
  from_byte [] i = omega arith
  from_byte (o ∷ os) zero = byte o
  from_byte (o ∷ os) (suc i) = from_byte os i

  at_byte : (p : Places) (i : ℕ) → get_or (bytes_at src p) i 0 < 256
  unfolding bytes_at
  at_byte absent i = omega arith
  at_byte (offsets os) i = from_byte os i

  stands_of : (f : ℕ) (odd : Bool) (p : Places) → Stands (texel_of numbers f odd (bytes_at src p)) (values_of numbers f odd (bytes_at src p))
  unfolding texel_of values_of
  stands_of f odd p = go (is_yuv f)
    where
      bs : List ℕ
      bs = bytes_at src p

      go : (t : Bool) → Stands (pick t (opaque_of (rgb_of numbers (luma_of f odd bs) (u_of f bs) (v_of f bs))) (decoded_of f (number bs))) (pick t (yuv_values numbers (luma_of f odd bs) (u_of f bs) (v_of f bs)) (exact_of f (number bs)))
      go true = yuv_stands numbers (luma_of f odd bs) (u_of f bs) (v_of f bs) (at_byte p _) (at_byte p _) (at_byte p _)
      go false = decoded_stands f (number bs)

  pub source_stands : (s : ℕ) (r : ConvertRegion) (z row col : ℕ) → Stands (source_texel numbers src s r z row col) (source_values numbers src s r z row col)
  unfolding source_texel source_values texel_at exact_at
  source_stands s r z row col = stands_of s _ _

  -- ---- near
  pub near_source : (dst : List ℕ) (s d : ℕ) (r : ConvertRegion) → NearWith numbers src dst (converted_with numbers src dst s d r) s d r
  near_source dst s d r h apart z row col t c p =
      subst (λ l. Holds c (lane_of d c) (number l) (value_of (source_values numbers src s r z row col) c))
      (sym (stored numbers src dst s d r h apart z row col t))
      (near_bytes (source_stands s r z row col) d (convert_rgb s d (passed numbers s d r (length src) (length dst) (not_empty r z row col t) h).pair) c p)

-- ---- own
-- eight bits of a byte are the byte
whole_byte : (n b : ℕ) → n ≡ 8 → truncated n b ≡ b
unfolding truncated
whole_byte n b e = ap (λ k. b / 2 ^ (8 - k)) e ∙ div-one b

held_byte : (c : Channel) (l : Lane) (t : Texel) (total w : ℕ) (z : ℤ) → Held (code_of t) c l total w → ByteNear set_unit set_slack z (byte_of t c) → HoldsByte l w z
held_byte c nowhere t total w z k n = tt
held_byte c (at low m kind) t total w z k n = λ e. subst (ByteNear set_unit set_slack z) (sym (k.0 ∙ whole_byte m (byte_of t c) e)) n

module _ (numbers : YuvSet) (d y u v : ℕ) (rgb : is_convertible_rgb d ≡ true) where
  abbrev colour : Texel
  colour = opaque_of (rgb_of numbers y u v)

  colour_byte : (c : Channel) → byte_of colour c < 256
  colour_byte = channel_byte (opaque_stands numbers y u v (set_stands numbers y u v))

  colour_held : HoldsColour numbers d (number (encoded_bytes d colour)) y u v
  colour_held =
      let n = set_near numbers y u v in
      let held : (c : Channel) (z : ℤ) → ByteNear set_unit set_slack z (byte_of colour c) → HoldsByte (lane_of d c) (number (encoded_bytes d colour)) z = λ c z near.
      subst (λ w. HoldsByte (lane_of d c) w z) (sym (encoded_number colour colour_byte d rgb)) (held_byte c (lane_of d c) colour _ _ z (encoded_holds colour colour_byte d rgb c) near) in
      record { red_held = held red _ n.red_near; green_held = held green _ n.green_near; blue_held = held blue _ n.blue_near }

pub own_bytes : (numbers : YuvSet) (src dst : List ℕ) (s d : ℕ) (r : ConvertRegion) → OwnWith numbers src dst (converted_with numbers src dst s d r) s d r
unfolding converted_with
own_bytes numbers src dst s d r h apart yuv z row col t =
    let q = passed numbers s d r (length src) (length dst) (not_empty r z row col t) h in
    let rgb = convert_rgb s d q.pair in
    let bs = source_bytes src s r z row col in
    let y = luma_of s (odd_at r col) bs in
    subst (λ l. HoldsColour numbers d (number l) y (u_of s bs) (v_of s bs))
    (sym (stored numbers src dst s d r h apart z row col t ∙ ap (encoded_bytes d) (yuv_texel numbers src s r z row col yuv)))
    (colour_held numbers d y (u_of s bs) (v_of s bs) rgb)

-- ---- kept
pub others_kept : (numbers : YuvSet) (src dst : List ℕ) (s d : ℕ) (r : ConvertRegion) → OthersKept dst (converted_with numbers src dst s d r) d r
unfolding converted_with
others_kept numbers src dst s d r k none = go (reply_to numbers s d r (length src) (length dst)) refl
  where
    -- a byte of some texel is one of a pair that converts, and all of its texels lie in the destination
    kept : reply_to numbers s d r (length src) (length dst) ≡ Ok tt → (e : Bool) → is_empty r ≡ e → get_or (region_written numbers src s d r dst) k 0 ≡ get_or dst k 0
    kept h true e = ap (λ l. get_or l k 0) (empty_written numbers src dst s d r e)
    kept h false e =
        let q = passed numbers s d r (length src) (length dst) e h in
        let rgb = convert_rgb s d q.pair in
        region_other numbers src s d r rgb (length dst) k (destination_fits d r (length dst) rgb q.destination) none dst

    go : (a : Result (Unit {0}) ConvertRefusal) → reply_to numbers s d r (length src) (length dst) ≡ a → get_or (if_accepted a (region_written numbers src s d r dst) dst) k 0 ≡ get_or dst k 0
    go (Ok _) h = kept h (is_empty r) refl
    go (Err _) h = refl
