-- Laws on what specs/Runs defines. Assumes nothing.
use Rattle.std.specs.Prelude.{◌≡◌, List, ℕ, ◌+◌, ◌*◌, ◌-◌, ◌≤◌, pos, ◌+ℤ◌}
use Rattle.std.proofs.Common.{sym, ap, ◌∙◌, zero-add, add-zero, add-mul, mul-le-mul_right, arith}
use Rattle.words.specs.Iterate.{iterate}
use Rattle.words.proofs.IterateLaws.{iterate_zero, iterate_add, iterate_same, iterate_step}
use Rattle.words.specs.Integers.{up}
use Rattle.words.proofs.IntegersLaws.{up_pos}
use Rattle.formats.specs.Table.{bytes_of}
use Rattle.places.specs.Places.{place_of}
use Rattle.places.specs.Inside.{EndsWithin}
use Rattle.places.proofs.InsideLaws.{along}
use Rattle.stretch_rect.specs.declared.sets.YuvSet.{YuvSet}
use Rattle.regions.specs.declared.reply.ConvertRegion.{ConvertRegion}
use Rattle.regions.specs.Regions.{to_at, written, row_written}
use Rattle.regions.specs.Rows.{RowFits}
use Rattle.pixel_convert.specs.Runs.{run_written}

-- no texels are no run
pub run_none : (numbers : YuvSet) (src : List ℕ) (s d : ℕ) (r : ConvertRegion) (z row first count : ℕ) (l : List ℕ) → count ≡ 0 → l ≡ run_written numbers src s d r z row first count l
unfolding run_written
run_none numbers src s d r z row first count l e = sym (ap (λ n. iterate (λ k. written numbers src s d r z row (first + k)) n l) e ∙ iterate_zero _ _)

-- and one texel is a run of one
pub run_one : (numbers : YuvSet) (src : List ℕ) (s d : ℕ) (r : ConvertRegion) (z row first count : ℕ) (l out : List ℕ) → count ≡ 1 → out ≡ written numbers src s d r z row first l → out ≡ run_written numbers src s d r z row first count l
unfolding run_written
run_one numbers src s d r z row first count l out e w = iterate_step (λ k. written numbers src s d r z row (first + k)) 0 l l out (sym (iterate_zero _ _)) (w ∙ ap (λ k. written numbers src s d r z row k l) (omega arith)) ∙ ap (λ n. iterate (λ k. written numbers src s d r z row (first + k)) n l) (sym e)

-- three runs that follow one another make up the row
pub runs_row : (numbers : YuvSet) (src : List ℕ) (s d : ℕ) (r : ConvertRegion) (z row a b c : ℕ) (l : List ℕ) → a + b + c ≡ r.width
    → run_written numbers src s d r z row (a + b) c (run_written numbers src s d r z row a b (run_written numbers src s d r z row 0 a l)) ≡ row_written numbers src s d r z row l
unfolding run_written row_written
runs_row numbers src s d r z row a b c l e =
    ap (λ m. iterate (λ k. w (a + b + k)) c (iterate (λ k. w (a + k)) b m)) (iterate_same (λ k. w (0 + k)) w a l (λ k h x. ap (λ j. w j x) (zero-add k)))
    ∙ ap (iterate (λ k. w (a + b + k)) c) (sym (iterate_add w a b l))
    ∙ sym (iterate_add w (a + b) c l)
    ∙ ap (λ n. iterate w n l) e
  where
    w : ℕ → List ℕ → List ℕ
    w = written numbers src s d r z row

-- a column of the row, or the one behind its last, starts within the destination
pub run_room : (n m s d : ℕ) (r : ConvertRegion) (z row first : ℕ) → RowFits n m s d r z row → first ≤ r.width
    → EndsWithin m 0 (place_of r.destination (bytes_of d) z (r.destination.y + row) (r.destination.x + first)) (to_at d r z row first)
unfolding to_at
run_room n m s d r z row first fits h =
    let p = r.destination in
    let b = bytes_of d in
    let zero = fits.destination 0 fits.rows.0 in
    let last = fits.destination (r.width - 1) (omega (arith, fits.rows.0)) in
    let o = up (place_of p b z (r.destination.y + row) (r.destination.x + 0)) in
    let at : (k : ℕ) → place_of p b z (r.destination.y + row) (r.destination.x + k) ≡ pos (o + k * b) = λ k.
    ap (place_of p b z (r.destination.y + row)) (ap (λ n. n + k) (sym (add-zero r.destination.x))) ∙ along p b z (r.destination.y + row) (r.destination.x + 0) k ∙ ap (λ q. q +ℤ pos (k * b)) zero.place in
    let one : first * b ≤ (r.width - 1 + 1) * b = mul-le-mul_right b (omega (arith, h, fits.rows.0)) in
    let more : (r.width - 1 + 1) * b ≡ (r.width - 1) * b + 1 * b = add-mul (r.width - 1) 1 b in
    let up_at : (k : ℕ) → up (place_of p b z (r.destination.y + row) (r.destination.x + k)) ≡ o + k * b = λ k. ap up (at k) ∙ up_pos (o + k * b) in
    record { place = at first ∙ ap pos (sym (up_at first)); end = omega (arith, up_at first, up_at (r.width - 1), one, more, last.end) }
