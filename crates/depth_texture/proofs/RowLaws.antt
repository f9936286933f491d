-- A row by its columns; one pixel of it, where what was decoded from a part of the packed row is stored and what was loaded is packed; and the rows of
-- a picture. Assumes nothing.
use Rattle.std.proofs.Common.{◌≡◌, refl, sym, ap, ap₂, ◌∙◌, Bool, true, false, true≢false, List, ◌++◌, ℕ, ◌+◌, ◌-◌, ◌*◌, ◌≤◌, mul-one, mod-eq_of_lt, arith, length, take, drop, set, get_or, Float, to_bits}
use Rattle.std.proofs.lemmas.List.Edits.{sets}
use Rattle.std.specs.Float.{binary32}
use Rattle.words.specs.Little.{bytes}
use Rattle.words.proofs.LittleLaws.{number_rest, length_bytes}
use Rattle.words.proofs.Slices.{part_back}
use Rattle.words.specs.Tests.{pick}
use Rattle.formats.specs.Table.{bytes_of}
use Rattle.channels.specs.Floats.{clamped}
use Rattle.depth_texture.specs.declared.pixels.PackedDepth.{PackedDepth}
use Rattle.depth_texture.specs.declared.pixels.DepthStencil.{DepthStencil}
use Rattle.depth_texture.specs.Depth.{code_for}
use Rattle.depth_texture.specs.Pixels.{format_code, has_stencil, max_code, decoded, pixel_word, encoded}
use Rattle.depth_texture.proofs.PackedFormats.{stencil_lt}
use Rattle.depth_texture.specs.PixelBytes.{word_at, depth_at, depth_bytes, stencil_bytes, stencil_at, packed_bytes, depth_row, stencil_row, packed_row}
use Rattle.depth_texture.specs.Pictures.{place, written_row, written}
use Rattle.depth_texture.proofs.PicturesLaws.{row_none, row_more, rows_more}
use Rattle.depth_texture.proofs.Coding.{encoded_same}

-- ---- a row by its columns: none, and one more
pub depths_begun : (f : ℕ) (packed : List ℕ) (from to : ℕ) (l : List ℕ) → l ≡ depth_row f packed from to 0 l
unfolding depth_row
depths_begun f packed from to l = row_none to 4 _ l

pub depths_next : (f : ℕ) (packed : List ℕ) (from to x : ℕ) (l₀ l l' : List ℕ) → l ≡ depth_row f packed from to x l₀ → l' ≡ sets l (to + x * 4) (depth_bytes f packed (from + x * bytes_of f))
    → l' ≡ depth_row f packed from to (x + 1) l₀
unfolding depth_row
depths_next f packed from to x l₀ l l' e e' = row_more to 4 _ x l₀ l l' e e'

pub stencils_begun : (f : ℕ) (packed : List ℕ) (from at : ℕ) (l : List ℕ) → l ≡ stencil_row f packed from at 0 l
unfolding stencil_row
stencils_begun f packed from at l = go (has_stencil f)
  where
    go : (t : Bool) → l ≡ pick t (written_row at 1 0 (λ x. stencil_bytes f packed (from + x * bytes_of f)) l) l
    go true = row_none at 1 _ l
    go false = refl

pub stencils_next : (f : ℕ) (packed : List ℕ) (from at x : ℕ) (l₀ l l' : List ℕ) → l ≡ stencil_row f packed from at x l₀ → has_stencil f ≡ true → l' ≡ sets l (at + x * 1) (stencil_bytes f packed (from + x * bytes_of f))
    → l' ≡ stencil_row f packed from at (x + 1) l₀
unfolding stencil_row
stencils_next f packed from at x l₀ l l' e s e' = go (has_stencil f) s e
  where
    go : (t : Bool) → t ≡ true → l ≡ pick t (written_row at 1 x (λ x. stencil_bytes f packed (from + x * bytes_of f)) l₀) l₀ → l' ≡ pick t (written_row at 1 (x + 1) (λ x. stencil_bytes f packed (from + x * bytes_of f)) l₀) l₀
    go true s e = row_more at 1 _ x l₀ l l' e e'
    go false s e = absurd (true≢false (sym s))

pub stencils_kept : (f : ℕ) (packed : List ℕ) (from at x : ℕ) (l₀ l l' : List ℕ) → l ≡ stencil_row f packed from at x l₀ → has_stencil f ≡ false → l' ≡ l → l' ≡ stencil_row f packed from at (x + 1) l₀
unfolding stencil_row
stencils_kept f packed from at x l₀ l l' e s e' = go (has_stencil f) s e
  where
    go : (t : Bool) → t ≡ false → l ≡ pick t (written_row at 1 x (λ x. stencil_bytes f packed (from + x * bytes_of f)) l₀) l₀ → l' ≡ pick t (written_row at 1 (x + 1) (λ x. stencil_bytes f packed (from + x * bytes_of f)) l₀) l₀
    go true s e = absurd (true≢false s)
    go false s e = e' ∙ e

pub packed_begun : (f : ℕ) (depth stencil : List ℕ) (from at to : ℕ) (l : List ℕ) → l ≡ packed_row f depth stencil from at to 0 l
unfolding packed_row
packed_begun f depth stencil from at to l = row_none to (bytes_of f) _ l

pub packed_next : (f : ℕ) (depth stencil : List ℕ) (from at to x : ℕ) (l₀ l l' : List ℕ) → l ≡ packed_row f depth stencil from at to x l₀ → l' ≡ sets l (to + x * bytes_of f) (packed_bytes f depth stencil (from + x * 4) (at + x * 1))
    → l' ≡ packed_row f depth stencil from at to (x + 1) l₀
unfolding packed_row
packed_next f depth stencil from at to x l₀ l l' e e' = row_more to (bytes_of f) _ x l₀ l l' e e'

-- ---- unpacking
-- the decoder is lent the part of the row that starts at the pixel
abbrev pub FromPart : (f : ℕ) → List ℕ → ℕ → DepthStencil → Type 0
FromPart f packed a v = v ≡ decoded f (word_at f (take (length packed - a) (drop a packed)) 0)

from_part : (f : ℕ) (packed : List ℕ) (a : ℕ) (v : DepthStencil) → FromPart f packed a v → v ≡ decoded f (word_at f packed a)
unfolding word_at
from_part f packed a v e = e ∙ ap (decoded f) (number_rest (bytes_of f) a packed)

pub depth_stored : (f : ℕ) (packed : List ℕ) (a : ℕ) (v : DepthStencil) (l : List ℕ) (to : ℕ) → FromPart f packed a v
    → sets l to (bytes 4 (to_bits binary32 v.depth)) ≡ sets l to (depth_bytes f packed a)
unfolding depth_bytes
depth_stored f packed a v l to e = ap (λ v. sets l to (bytes 4 (to_bits binary32 v.depth))) (from_part f packed a v e)

-- a stencil's one byte
pub stencil_stored : (d : PackedDepth) (packed : List ℕ) (a : ℕ) (v : DepthStencil) (l : List ℕ) (at x : ℕ) → FromPart (format_code d) packed a v
    → set l (at + x) v.stencil ≡ sets l (at + x * 1) (stencil_bytes (format_code d) packed a)
unfolding stencil_bytes decoded
stencil_stored d packed a v l at x e =
    let w = word_at (format_code d) packed a in
    ap₂ (λ i b. set l i b) (ap (λ n. at + n) (sym (mul-one x))) (ap (λ v. v.stencil) (from_part (format_code d) packed a v e) ∙ sym (mod-eq_of_lt (stencil_lt d w)))

-- ---- packing
encoded_sized : (f : ℕ) (v : DepthStencil) → length (encoded f v) ≡ bytes_of f
unfolding encoded
encoded_sized f v = length_bytes (bytes_of f) (pixel_word f (code_for (max_code f) v.depth) v.stencil)

-- the stencil that is packed, and without one 0
pub stencil_read : (f : ℕ) (plane : List ℕ) (at x : ℕ) → has_stencil f ≡ true → get_or plane (at + x) 0 ≡ stencil_at f plane (at + x * 1)
unfolding stencil_at
stencil_read f plane at x e = ap (λ n. get_or plane (at + n) 0) (sym (mul-one x)) ∙ sym (ap (λ t. pick t (get_or plane (at + x * 1) 0) 0) e)

pub no_stencil_read : (f : ℕ) (plane : List ℕ) (at : ℕ) → has_stencil f ≡ false → 0 ≡ stencil_at f plane at
unfolding stencil_at
no_stencil_read f plane at e = sym (ap (λ t. pick t (get_or plane at 0) 0) e)

-- the encoder is lent the part of the row that starts at the pixel, and it comes back
pub pixel_stored : (f n : ℕ) (depth stencil packed : List ℕ) (d s to : ℕ) (r : Float) (t : ℕ) {w : List ℕ} → bytes_of f ≡ n → to + n ≤ length packed
    → clamped r ≡ clamped (depth_at depth d) → t ≡ stencil_at f stencil s → w ≡ sets (take (length packed - to) (drop to packed)) 0 (encoded f (record { depth = r; stencil = t }))
    → take to packed ++ (w ++ drop (length packed - to) (drop to packed)) ≡ sets packed to (packed_bytes f depth stencil d s)
unfolding packed_bytes
pixel_stored f n depth stencil packed d s to r t size fits e h put =
    let v : DepthStencil = record { depth = r; stencil = t } in
    ap (λ w. take to packed ++ (w ++ drop (length packed - to) (drop to packed))) put
    ∙ part_back packed to (length packed - to) (encoded f v) refl (omega (arith, encoded_sized f v, size))
    ∙ ap (sets packed to) (encoded_same f v (record { depth = depth_at depth d; stencil = stencil_at f stencil s }) e h)

-- ---- rows of depths: one more
pub depths_more : (f : ℕ) (packed : List ℕ) (pitch depth_pitch width y : ℕ) (l₀ l l' : List ℕ)
    → l ≡ written depth_pitch 4 width y (λ x y. depth_bytes f packed (place pitch (bytes_of f) x y)) l₀ → l' ≡ depth_row f packed (y * pitch) (y * depth_pitch) width l
    → l' ≡ written depth_pitch 4 width (y + 1) (λ x y. depth_bytes f packed (place pitch (bytes_of f) x y)) l₀
unfolding depth_row
depths_more f packed pitch depth_pitch width y l₀ l l' e e' = rows_more depth_pitch 4 width (λ x y. depth_bytes f packed (place pitch (bytes_of f) x y)) y l₀ l l' e e'

module _ (f : ℕ) (packed : List ℕ) (pitch stencil_pitch width : ℕ) (l₀ : List ℕ) where
  -- ---- rows of stencils: one more; without a stencil the plane is as it was
  -- the first y rows
  abbrev pub stencil_rows : ℕ → List ℕ
  stencil_rows y = pick (has_stencil f) (written stencil_pitch 1 width y (λ x y. stencil_bytes f packed (place pitch (bytes_of f) x y)) l₀) l₀

  pub stencils_more : (y : ℕ) (l l' : List ℕ) → l ≡ stencil_rows y → l' ≡ stencil_row f packed (y * pitch) (y * stencil_pitch) width l → l' ≡ stencil_rows (y + 1)
  unfolding stencil_row
  stencils_more y l l' e e' = go (has_stencil f) e e'
    where
      go : (t : Bool) → l ≡ pick t (written stencil_pitch 1 width y (λ x y. stencil_bytes f packed (place pitch (bytes_of f) x y)) l₀) l₀
          → l' ≡ pick t (written_row (y * stencil_pitch) 1 width (λ x. stencil_bytes f packed (y * pitch + x * bytes_of f)) l) l
          → l' ≡ pick t (written stencil_pitch 1 width (y + 1) (λ x y. stencil_bytes f packed (place pitch (bytes_of f) x y)) l₀) l₀
      go true e e' = rows_more stencil_pitch 1 width (λ x y. stencil_bytes f packed (place pitch (bytes_of f) x y)) y l₀ l l' e e'
      go false e e' = e' ∙ e

-- ---- packed rows: one more
pub packed_more : (f : ℕ) (depth stencil : List ℕ) (pitch depth_pitch stencil_pitch width y : ℕ) (l₀ l l' : List ℕ)
    → l ≡ written pitch (bytes_of f) width y (λ x y. packed_bytes f depth stencil (place depth_pitch 4 x y) (place stencil_pitch 1 x y)) l₀
    → l' ≡ packed_row f depth stencil (y * depth_pitch) (y * stencil_pitch) (y * pitch) width l
    → l' ≡ written pitch (bytes_of f) width (y + 1) (λ x y. packed_bytes f depth stencil (place depth_pitch 4 x y) (place stencil_pitch 1 x y)) l₀
unfolding packed_row
packed_more f depth stencil pitch depth_pitch stencil_pitch width y l₀ l l' e e' =
    rows_more pitch (bytes_of f) width (λ x y. packed_bytes f depth stencil (place depth_pitch 4 x y) (place stencil_pitch 1 x y)) y l₀ l l' e e'
