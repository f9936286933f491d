-- Laws on what specs/Color defines. Assumes nothing.
use Rattle.std.specs.Prelude.{Bool, not, ℕ, ◌<◌, T}
use Rattle.std.specs.Float.Ieee.{div, of_int, is_nan}
use Rattle.words.proofs.ComputedLaws.{below_at}
use Rattle.convert.specs.Color.{unorm_of}

-- it is a number: computed for each byte
abbrev number_test : ℕ → Bool
number_test v = not (is_nan (unorm_of v))

pub unorm_number : (v : ℕ) → v < 256 → T (not (is_nan (unorm_of v)))
unfolding div of_int is_nan
unorm_number v h = below_at number_test 256 tt v h
