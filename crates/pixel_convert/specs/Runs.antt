-- A run of texels of a row. Assumes nothing.
use Rattle.std.specs.Prelude.{List, ℕ, ◌+◌}
use Rattle.words.specs.Iterate.{iterate}
use Rattle.stretch_rect.specs.declared.sets.YuvSet.{YuvSet}
use Rattle.regions.specs.declared.reply.ConvertRegion.{ConvertRegion}
use Rattle.regions.specs.Regions.{written}

-- count texels written, from column first of the row on
unfoldable pub run_written : YuvSet → (src : List ℕ) (s d : ℕ) → ConvertRegion → (z row first count : ℕ) → List ℕ → List ℕ
run_written numbers src s d r z row first count = iterate (λ k. written numbers src s d r z row (first + k)) count
