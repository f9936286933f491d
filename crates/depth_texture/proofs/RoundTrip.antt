-- What accepted calls leave in each pixel, from the law that pixels of one picture share no byte: unpacking leaves each pixel's own depth and stencil in
-- the planes, packing leaves the nearest code and the stencil in each packed pixel, and packing what was unpacked puts back every pixel's bytes.
-- Assumes nothing.
use Rattle.std.proofs.Common.{◌≡◌, Bool, T, eqb, pos, get_or, take, drop, sym, ◌∙◌, arith, mod-eq_of_lt, add-zero, lit<, ne_eqb, get_or-take, get_or-drop, List, ℕ, ◌+◌, ◌*◌, ◌^◌, ◌≤◌, ◌<◌}
use Rattle.std.proofs.Math.Path.{refl, ap, ap₂, subst}
use Rattle.std.proofs.Math.Bool.{true, false}
use Rattle.std.proofs.Math.ListN.{length, length-drop}
use Rattle.std.proofs.Math.Seq.{length-take-le}
use Rattle.std.specs.Float.Ieee.{binary32, of_bits, to_bits, of_int, fits}
use Rattle.std.specs.Float.Ieee.Fits.{div-fits}
use Rattle.std.specs.Float.Ieee.Bits.{of_bits-to_bits, to_bits-lt}
use Rattle.words.specs.Little.{number, bytes}
use Rattle.words.proofs.LittleLaws.{Small, small_take, small_drop, length_bytes, number_bytes, number_lt, bytes_number}
use Rattle.words.specs.Tests.{pick}
use Rattle.formats.specs.Table.{bytes_of}
use Rattle.depth_texture.specs.declared.pixels.PackedDepth.{PackedDepth}
use Rattle.depth_texture.specs.declared.PlaneLayout.{PlaneLayout}
use Rattle.depth_texture.specs.Depth.{depth_of, code_for, CodeFor}
use Rattle.depth_texture.proofs.Restoration.{code_for_is, restored}
use Rattle.depth_texture.specs.Pixels.{format_code, is_packed_depth, has_stencil, max_code, depth_code, stencil_code, decoded, pixel_word, encoded, KeepsAll}
use Rattle.depth_texture.proofs.PackedFormats.{format_of, Sizes, sizes, depth_code_le, stencil_lt, depth_held, word_lt, no_stencil}
use Rattle.depth_texture.proofs.PackedFormatsLaws.{word_restored}
use Rattle.depth_texture.specs.Pictures.{place, pixel_in, written}
use Rattle.depth_texture.proofs.PicturesLaws.{written_own, written_other}
use Rattle.depth_texture.specs.Replies.{refusal_of, Accepts}
use Rattle.depth_texture.proofs.Refusals.{accepts, RowsWithin, rows_within}
use Rattle.depth_texture.specs.PixelBytes.{word_at, depth_at, depth_bytes, stencil_bytes, stencil_at, packed_bytes}
use Rattle.depth_texture.specs.Planes.{depth_plane, stencil_plane, packed_pixels, unpacked_depth, unpacked_stencil, packed_buffer}
use Rattle.depth_texture.specs.Promises.{Bytewise, Restores, SameElsewhere, PlanesKept}

-- the stencil that is packed is a byte
pub stencil_small : (f : ℕ) (stencil : List ℕ) → Bytewise stencil → (a : ℕ) → stencil_at f stencil a < 256
unfolding stencil_at
stencil_small f stencil small a = go (has_stencil f)
  where
    go : (t : Bool) → pick t (get_or stencil a 0) 0 < 256
    go true = small a
    go false = lit< tt

-- a fact of each format is one of each known code
pub known : (P : ℕ → Type 0) → ((d : PackedDepth) → P (format_code d)) → (f : ℕ) → is_packed_depth f ≡ true → P f
known P h f e = let d = format_of f e in subst P d.1 (h d.0)

-- ---- sizes
depth_sized : (f : ℕ) (packed : List ℕ) (a : ℕ) → length (depth_bytes f packed a) ≡ 4
unfolding depth_bytes
depth_sized f packed a = length_bytes 4 (to_bits binary32 (decoded f (word_at f packed a)).depth)

stencil_sized : (f : ℕ) (packed : List ℕ) (a : ℕ) → length (stencil_bytes f packed a) ≡ 1
unfolding stencil_bytes
stencil_sized f packed a = length_bytes 1 (decoded f (word_at f packed a)).stencil

packed_sized : (f : ℕ) (depth stencil : List ℕ) (d s : ℕ) → length (packed_bytes f depth stencil d s) ≡ bytes_of f
unfolding packed_bytes encoded
packed_sized f depth stencil d s = length_bytes (bytes_of f) (pixel_word f (code_for (max_code f) (depth_at depth d)) (stencil_at f stencil s))

-- ---- calls that are refused, and accepted
above_zero : (n : ℕ) → 0 < n → eqb n 0 ≡ false
above_zero n h = ne_eqb n 0 (λ e. omega arith)

module _ (f : ℕ) (l : PlaneLayout) (packed : List ℕ) (pitch : ℕ) (depth stencil : List ℕ) where
  abbrev refusal : ℕ
  refusal = refusal_of f l (length packed) pitch (length depth) (length stencil)

  pub unpacked_accepted : refusal ≡ 0
      → (depth_plane f l packed pitch depth ≡ unpacked_depth f l packed pitch depth stencil) × (stencil_plane f l packed pitch stencil ≡ unpacked_stencil f l packed pitch depth stencil)
  unfolding unpacked_depth unpacked_stencil
  unpacked_accepted e = (rw e refl, rw e refl)

  pub unpacked_refused : 0 < refusal
      → (depth ≡ unpacked_depth f l packed pitch depth stencil) × (stencil ≡ unpacked_stencil f l packed pitch depth stencil)
  unfolding unpacked_depth unpacked_stencil
  unpacked_refused h = (rw (above_zero refusal h) refl, rw (above_zero refusal h) refl)

  pub packed_accepted : refusal ≡ 0 → packed_pixels f l depth stencil pitch packed ≡ packed_buffer f l depth stencil packed pitch
  unfolding packed_buffer
  packed_accepted e = rw e refl

  pub packed_refused : 0 < refusal → packed ≡ packed_buffer f l depth stencil packed pitch
  unfolding packed_buffer
  packed_refused h = rw (above_zero refusal h) refl

-- ---- one pixel, decoded, stored and read back
-- a depth's bits are read back as the depth
read_back : (max k : ℕ) → of_bits binary32 (number (bytes 4 (to_bits binary32 (depth_of max k)))) ≡ depth_of max k
read_back max k =
    let x = depth_of max k in
    let h : T (fits binary32 x) = div-fits binary32 (of_int binary32 (pos k)) (of_int binary32 (pos max)) in
    ap (of_bits binary32) (number_bytes 4 (to_bits binary32 x) (to_bits-lt binary32 x h)) ∙ of_bits-to_bits binary32 x h

-- the first byte of a part
first_byte : (l : List ℕ) (a b : ℕ) → take 1 (drop a l) ≡ bytes 1 b → b < 256 → get_or l a 0 ≡ b
first_byte l a b e h =
    ap (λ n. get_or l n 0) (sym (add-zero a)) ∙ sym (get_or-drop a l 0 0) ∙ sym (get_or-take 1 (drop a l) 0 0 (lit< tt)) ∙ ap (λ m. get_or m 0 0) e ∙ mod-eq_of_lt h

module _ (f : ℕ) (l : PlaneLayout) (packed : List ℕ) (pitch : ℕ) (depth stencil : List ℕ) (ok : Accepts f l (length packed) pitch (length depth) (length stencil)) (x y : ℕ) (xl : x < l.width) (yl : y < l.height) where
  -- ---- every pixel of an accepted unpacking
  abbrev word : ℕ
  word = word_at f packed (place pitch (bytes_of f) x y)

  within : RowsWithin f l (length packed) pitch (length depth) (length stencil) y
  within = rows_within f l (length packed) pitch (length depth) (length stencil) ok y yl

  depth_room : l.width * 4 ≤ l.depth_pitch
  depth_room = omega (arith, ok.sound.depth_row_fits)

  stencil_room : l.width * 1 ≤ l.stencil_pitch
  stencil_room = omega (arith, ok.sound.stencil_row_fits)

  -- its depth
  pub depth_unpacked : depth_at (depth_plane f l packed pitch depth) (place l.depth_pitch 4 x y) ≡ depth_of (max_code f) (depth_code f word)
  unfolding depth_at depth_plane depth_bytes decoded
  depth_unpacked =
      ap (λ b. of_bits binary32 (number b))
      (written_own l.depth_pitch 4 l.width l.height (λ x y. depth_bytes f packed (place pitch (bytes_of f) x y)) (λ x y. depth_sized f packed (place pitch (bytes_of f) x y))
      depth_room x y xl yl (length depth) (within.in_depth x xl) depth refl)
      ∙ read_back (max_code f) (depth_code f word)

  -- its stencil
  stencil_own : has_stencil f ≡ true
      → take 1 (drop (place l.stencil_pitch 1 x y) (written l.stencil_pitch 1 l.width l.height (λ x y. stencil_bytes f packed (place pitch (bytes_of f) x y)) stencil)) ≡ bytes 1 (stencil_code f word)
  unfolding stencil_bytes decoded
  stencil_own s =
      written_own l.stencil_pitch 1 l.width l.height (λ x y. stencil_bytes f packed (place pitch (bytes_of f) x y)) (λ x y. stencil_sized f packed (place pitch (bytes_of f) x y))
      stencil_room x y xl yl (length stencil) (within.in_stencil s x xl) stencil refl

  pub stencil_unpacked : stencil_at f (stencil_plane f l packed pitch stencil) (place l.stencil_pitch 1 x y) ≡ stencil_code f word
  unfolding stencil_at stencil_plane
  stencil_unpacked = go (has_stencil f) refl
    where
      plane : List ℕ
      plane = written l.stencil_pitch 1 l.width l.height (λ x y. stencil_bytes f packed (place pitch (bytes_of f) x y)) stencil

      go : (t : Bool) → has_stencil f ≡ t → pick t (get_or (pick t plane stencil) (place l.stencil_pitch 1 x y) 0) 0 ≡ stencil_code f word
      go true e = first_byte plane (place l.stencil_pitch 1 x y) (stencil_code f word) (stencil_own e) (known (λ f. stencil_code f word < 256) (λ d. stencil_lt d word) f ok.known)
      go false e = sym (known (λ f. has_stencil f ≡ false → stencil_code f word ≡ 0) (λ d h. no_stencil d h word) f ok.known e)

module _ (f : ℕ) (l : PlaneLayout) (depth stencil packed : List ℕ) (pitch : ℕ) (ok : Accepts f l (length packed) pitch (length depth) (length stencil)) (x y : ℕ) (xl : x < l.width) (yl : y < l.height) where
  -- ---- every pixel of an accepted packing
  pub pixel_packed : pixel_in pitch (bytes_of f) x y (packed_pixels f l depth stencil pitch packed)
      ≡ packed_bytes f depth stencil (place l.depth_pitch 4 x y) (place l.stencil_pitch 1 x y)
  unfolding packed_pixels
  pixel_packed =
      written_own pitch (bytes_of f) l.width l.height (λ x y. packed_bytes f depth stencil (place l.depth_pitch 4 x y) (place l.stencil_pitch 1 x y))
      (λ x y. packed_sized f depth stencil (place l.depth_pitch 4 x y) (place l.stencil_pitch 1 x y))
      ok.packed_row_fits x y xl yl (length packed) ((rows_within f l (length packed) pitch (length depth) (length stencil) ok y yl).in_packed x xl) packed refl

  -- THE CODE IS THE NEAREST
  pub nearest_packed : stencil_at f stencil (place l.stencil_pitch 1 x y) < 256
      → CodeFor (max_code f) (depth_at depth (place l.depth_pitch 4 x y)) (depth_code f (number (pixel_in pitch (bytes_of f) x y (packed_pixels f l depth stencil pitch packed))))
  unfolding packed_bytes encoded
  nearest_packed small =
      let z = depth_at depth (place l.depth_pitch 4 x y) in
      let s = stencil_at f stencil (place l.stencil_pitch 1 x y) in
      let c = code_for (max_code f) z in
      let le : c ≤ max_code f = (code_for_is (max_code f) z).is_code in
      subst (CodeFor (max_code f) z)
      (sym
      (ap (λ b. depth_code f (number b)) pixel_packed
      ∙ ap (depth_code f) (number_bytes (bytes_of f) (pixel_word f c s) (known (λ f. c ≤ max_code f → pixel_word f c s < 2 ^ (bytes_of f * 8)) (λ d h. word_lt d c s h small) f ok.known le))
      ∙ known (λ f. c ≤ max_code f → depth_code f (pixel_word f c s) ≡ c) (λ d h. depth_held d c s h small) f ok.known le))
      (code_for_is (max_code f) z)

module _ (f : ℕ) (l : PlaneLayout) (packed : List ℕ) (pitch : ℕ) (depth stencil : List ℕ) (ok : Accepts f l (length packed) pitch (length depth) (length stencil)) (all : KeepsAll f) (small : Small packed) where
  -- ---- THE ROUND TRIP
  word_back : (x y : ℕ) → x < l.width → y < l.height
      → packed_bytes f (depth_plane f l packed pitch depth) (stencil_plane f l packed pitch stencil) (place l.depth_pitch 4 x y) (place l.stencil_pitch 1 x y) ≡ pixel_in pitch (bytes_of f) x y packed
  unfolding packed_bytes encoded word_at
  word_back x y xl yl =
      let w = word_at f packed (place pitch (bytes_of f) x y) in
      let part = pixel_in pitch (bytes_of f) x y packed in
      let k = depth_code f w in
      let n = bytes_of f in
      let fit : place pitch n x y + n ≤ length packed = (rows_within f l (length packed) pitch (length depth) (length stencil) ok y yl).in_packed x xl in
      let long : length part ≡ n = length-take-le n (drop (place pitch n x y) packed) (omega (arith, length-drop (place pitch n x y) packed)) in
      let bytewise : Small part = small_take n (drop (place pitch n x y) packed) (small_drop (place pitch n x y) packed small) in
      let z : Sizes f = known Sizes sizes f ok.known in
      ap₂ (λ v s. bytes n (pixel_word f (code_for (max_code f) v) s)) (depth_unpacked f l packed pitch depth stencil ok x y xl yl) (stencil_unpacked f l packed pitch depth stencil ok x y xl yl)
      ∙ ap (λ c. bytes n (pixel_word f c (stencil_code f w))) (restored (max_code f) k z.max_pos z.max_lt (known (λ f. depth_code f w ≤ max_code f) (λ d. depth_code_le d w) f ok.known))
      ∙ ap (bytes n) (word_restored f all w (subst (λ m. number part < 2 ^ (m * 8)) long (number_lt part bytewise)))
      ∙ ap (λ m. bytes m (number part)) (sym long)
      ∙ bytes_number part bytewise

  pub round_trip : Restores f l packed pitch (depth_plane f l packed pitch depth) (stencil_plane f l packed pitch stencil)
  round_trip out pitch₂ e x y xl yl =
      let D = depth_plane f l packed pitch depth in
      let S = stencil_plane f l packed pitch stencil in
      ap (pixel_in pitch₂ (bytes_of f) x y) (sym (packed_accepted f l out pitch₂ D S e))
      ∙ pixel_packed f l D S out pitch₂ (accepts f l (length out) pitch₂ (length D) (length S) e) x y xl yl
      ∙ word_back x y xl yl

module _ (f : ℕ) (l : PlaneLayout) (packed : List ℕ) (pitch : ℕ) (depth stencil : List ℕ) where
  -- ---- what is kept
  pub planes_kept : PlanesKept f l depth (depth_plane f l packed pitch depth) stencil (stencil_plane f l packed pitch stencil)
  unfolding depth_plane stencil_plane
  planes_kept = record {
    depth_padding = λ k none.
        written_other l.depth_pitch 4 l.width l.height (λ x y. depth_bytes f packed (place pitch (bytes_of f) x y)) (λ x y. depth_sized f packed (place pitch (bytes_of f) x y)) k none depth;
    stencil_padding = λ k none. go (has_stencil f) k none;
    no_stencil = λ e. rw e refl;
  }
    where
      go : (t : Bool)
          → SameElsewhere l.stencil_pitch 1 l.width l.height stencil
          (pick t (written l.stencil_pitch 1 l.width l.height (λ x y. stencil_bytes f packed (place pitch (bytes_of f) x y)) stencil) stencil)
      go false k none = refl
      go true k none =
          written_other l.stencil_pitch 1 l.width l.height (λ x y. stencil_bytes f packed (place pitch (bytes_of f) x y)) (λ x y. stencil_sized f packed (place pitch (bytes_of f) x y)) k none stencil

pub packed_kept : (f : ℕ) (l : PlaneLayout) (depth stencil packed : List ℕ) (pitch : ℕ) → SameElsewhere pitch (bytes_of f) l.width l.height packed (packed_pixels f l depth stencil pitch packed)
unfolding packed_pixels
packed_kept f l depth stencil packed pitch k none =
    written_other pitch (bytes_of f) l.width l.height (λ x y. packed_bytes f depth stencil (place l.depth_pitch 4 x y) (place l.stencil_pitch 1 x y))
    (λ x y. packed_sized f depth stencil (place l.depth_pitch 4 x y) (place l.stencil_pitch 1 x y)) k none packed
