-- Packing a pixel's own code and stencil gives its word back where the format has no X. Assumes nothing.
use Rattle.std.proofs.Common.{◌≡◌, ℕ, ◌*◌, ◌^◌, ◌<◌, sym, subst, ⊎_elim, arith}
use Rattle.formats.specs.Table.{parts_of, lane_of, bytes_of}
use Rattle.formats.specs.Codes as codes
use Rattle.depth_texture.specs.Pixels.{depth_code, stencil_code, pixel_word, KeepsAll}

-- ---- a format with no X
restored_d16 : (w : ℕ) → w < 2 ^ (bytes_of codes.D16 * 8) → pixel_word codes.D16 (depth_code codes.D16 w) (stencil_code codes.D16 w) ≡ w
unfolding pixel_word depth_code stencil_code bytes_of lane_of parts_of
restored_d16 w h = omega arith

restored_d24s8 : (w : ℕ) → w < 2 ^ (bytes_of codes.D24S8 * 8) → pixel_word codes.D24S8 (depth_code codes.D24S8 w) (stencil_code codes.D24S8 w) ≡ w
unfolding pixel_word depth_code stencil_code bytes_of lane_of parts_of
restored_d24s8 w h = omega arith

pub word_restored : (f : ℕ) → KeepsAll f → (w : ℕ) → w < 2 ^ (bytes_of f * 8) → pixel_word f (depth_code f w) (stencil_code f w) ≡ w
word_restored f k w h =
    ⊎_elim (λ e. subst (λ f. w < 2 ^ (bytes_of f * 8) → pixel_word f (depth_code f w) (stencil_code f w) ≡ w) (sym e) (restored_d16 w) h)
    (λ e. subst (λ f. w < 2 ^ (bytes_of f * 8) → pixel_word f (depth_code f w) (stencil_code f w) ≡ w) (sym e) (restored_d24s8 w) h)
    k
