-- Offsets that are carried along a row, and a conversion as a run of rows. Assumes nothing.
use Rattle.std.specs.Prelude.{◌≡◌, refl, false, List, ℕ, ◌+◌, ◌*◌, ◌<◌, length, pos}
use Rattle.std.proofs.Common.{◌∙◌, arith, ap, sym, zero-add, ne_eqb}
use Rattle.words.specs.Iterate.{iterate}
use Rattle.words.proofs.IterateLaws.{iterate_add, iterate_flat}
use Rattle.texels.proofs.StepsLaws.{carried_is}
use Rattle.places.specs.declared.Side.{Side}
use Rattle.places.specs.Places.{region_place}
use Rattle.places.proofs.InsideLaws.{ends_fit}
use Rattle.stretch_rect.specs.declared.sets.YuvSet.{YuvSet}
use Rattle.regions.specs.declared.reply.ConvertRegion.{ConvertRegion}
use Rattle.regions.specs.Replies.{is_empty}
use Rattle.regions.specs.Regions.{to_at, row_written, slice_written, region_written}
use Rattle.regions.proofs.Answers.{rows_fit}
use Rattle.regions.proofs.RowOffsetsLaws.{on}
use Rattle.pixel_convert.proofs.Along.{offsets_fit, first_carries, carried_along}
use Rattle.pixel_convert.proofs.RunsLaws.{run_room}
use Rattle.viewer.specs.Rows.{OffsetsCarried, numbered_row, RunOfRows}

column : (side : Side) (size z row col first : ℕ) → pos first ≡ region_place side size z row 0 → pos (first + col * size) ≡ region_place side size z row col
column side size z row col first e = on side size z (side.y + row) side.x 0 col first e ∙ ap (λ c. region_place side size z row c) (zero-add col)

some : (r : ConvertRegion) → 0 < r.width → 0 < r.height → 0 < r.depth → is_empty r ≡ false
unfolding is_empty
some r w h d = rw (ne_eqb r.width 0 (λ e. omega (arith, w, e)), ne_eqb r.height 0 (λ e. omega (arith, h, e)), ne_eqb r.depth 0 (λ e. omega (arith, d, e))) refl

pub offsets_carried : OffsetsCarried
unfolding to_at
offsets_carried = record {
  afresh = λ side size z row col first e. ap pos (carried_is first size col) ∙ column side size z row col first e;
  written = λ set src dst s d r z row col m a w zl rl h.
      let fits = rows_fit set src dst s d r a (some r w (omega (arith, rl)) (omega (arith, zl))) z zl row rl in
      ends_fit (length dst) 0 _ _ m (run_room (length src) (length dst) s d r z row col fits h);
  in_conversions = λ set src dst s d r z row n m a lane w zl rl.
      let fits = rows_fit set src dst s d r a (some r w (omega (arith, rl)) (omega (arith, zl))) z zl row rl in
      carried_along s d r z row _ _ (offsets_fit src (length dst) s d r z row fits lane n m) (first_carries src (length dst) s d r z row fits lane);
}

-- ---- rows in order
by_rows : (set : YuvSet) (src : List ℕ) (s d : ℕ) (r : ConvertRegion) (l : List ℕ) → region_written set src s d r l ≡ iterate (numbered_row set src s d r) (r.depth * r.height) l
unfolding region_written slice_written numbered_row
by_rows set src s d r l = iterate_flat (row_written set src s d r) r.height r.depth l

pub run_of_rows : RunOfRows
run_of_rows = record {
  by_rows = by_rows;
  split = λ set src s d r a b l e.
      by_rows set src s d r l ∙ ap (λ n. iterate (numbered_row set src s d r) n l) (sym e) ∙ iterate_add (numbered_row set src s d r) a b l;
}
