-- The texels of a row that fits, in both buffers. Assumes nothing.
use Rattle.std.proofs.Common.{◌≡◌, List, ℕ, ◌+◌, ◌*◌, ◌≤◌, ◌<◌, ◌^◌, sym, ap, ap₂, ◌∙◌, arith, add_assoc}
use Rattle.std.proofs.lemmas.List.Edits.{sets}
use Rattle.std.specs.Prelude.{pos, ◌+ℤ◌}
use Rattle.std.specs.Int.{w64, FitsUnsigned}
use Rattle.words.specs.Integers.{up}
use Rattle.words.proofs.IntegersLaws.{up_pos}
use Rattle.formats.specs.declared.YuvFormat.{YuvFormat}
use Rattle.formats.specs.Formats.{yuv_code}
use Rattle.formats.specs.Table.{bytes_of}
use Rattle.texels.specs.declared.Texel.{Texel}
use Rattle.texels.specs.Texels.{encoded_bytes}
use Rattle.places.specs.Places.{place_of}
use Rattle.places.proofs.InsideLaws.{along, ends_fit}
use Rattle.stretch_rect.specs.declared.sets.YuvSet.{YuvSet}
use Rattle.regions.specs.declared.reply.ConvertRegion.{ConvertRegion}
use Rattle.regions.specs.Regions.{to_at, texel_at, source_texel, written}
use Rattle.regions.specs.Rows.{RowFits}
use Rattle.pixel_convert.proofs.RunsLaws.{run_room}

module _ (d : ℕ) (r : ConvertRegion) (z row : ℕ) where
  -- where a run starts is a number of 64 bits
  pub run_starts : (n m s first : ℕ) → RowFits n m s d r z row → first < r.width → m < 2 ^ 64
      → (z * r.destination.slice_pitch < 2 ^ 64) × (r.destination.y + row ≤ 4294967295) × (r.destination.x + first ≤ 4294967295) × FitsUnsigned w64 (place_of r.destination (bytes_of d) z (r.destination.y + row) (r.destination.x + first))
  run_starts n m s first fits h small =
      let room = run_room n m s d r z row first fits (omega (arith, h)) in
      (omega (arith, fits.slices.1, small), fits.rows.2, fits.columns first h, ends_fit m 0 _ _ small room)

  -- and the run ends within the destination
  pub run_ends : (n m s first count to : ℕ) → RowFits n m s d r z row → first + count ≤ r.width → to ≡ to_at d r z row first → to + count * bytes_of d ≤ m
  unfolding to_at
  run_ends n m s first count to fits h e =
      let p = r.destination in
      let b = bytes_of d in
      let here = run_room n m s d r z row first fits (omega (arith, h)) in
      let there = run_room n m s d r z row (first + count) fits h in
      let step : place_of p b z (r.destination.y + row) (r.destination.x + (first + count)) ≡ pos (to_at d r z row first + count * b) =
      ap (place_of p b z (r.destination.y + row)) (sym (add_assoc r.destination.x first count)) ∙ along p b z (r.destination.y + row) (r.destination.x + first) count ∙ ap (λ q. q +ℤ pos (count * b)) here.place in
      let far : to_at d r z row (first + count) ≡ to_at d r z row first + count * b = ap up step ∙ up_pos (to_at d r z row first + count * b) in
      omega (arith, there.end, far, e)

module _ (src : List ℕ) (d : ℕ) (f : YuvFormat) (r : ConvertRegion) (z row z' y : ℕ) (ez : z' ≡ z) (ey : y ≡ r.source.y + row) where
  -- ---- the source of a row, whose slice and row are as they are handed on
  -- its texels
  column_at : (numbers : YuvSet) (x col : ℕ) → x ≡ r.source.x + col → texel_at numbers src (yuv_code f) r.source z' y x ≡ source_texel numbers src (yuv_code f) r z row col
  unfolding source_texel
  column_at numbers x col ex = λ i. texel_at numbers src (yuv_code f) r.source (ez i) (ey i) (ex i)

  -- one of them, put where its column is, is written
  pub column_put : (numbers : YuvSet) (x col to : ℕ) (t : Texel) (dst : List ℕ) → x ≡ r.source.x + col → t ≡ texel_at numbers src (yuv_code f) r.source z' y x → to ≡ to_at d r z row col
      → sets dst to (encoded_bytes d t) ≡ written numbers src (yuv_code f) d r z row col dst
  unfolding written
  column_put numbers x col to t dst ex read there = ap₂ (λ (k : ℕ) (u : Texel). sets dst k (encoded_bytes d u)) there (read ∙ column_at numbers x col ex)
