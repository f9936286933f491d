-- The number that a code of IEEE 754 stands for, in units of its format's smallest positive number, for any format: the code's low digits are the fraction,
-- and what stands above is the exponent's field. Assumes nothing.
use Rattle.std.specs.Prelude.{ℕ, zero, suc, ◌+◌, ◌*◌, ◌/◌, ◌%◌, ◌^◌}

-- an exponent's field e and a fraction t below h: t with the field 0, and else (h + t) × 2^(e - 1)
abbrev pub units_at : (h e t : ℕ) → ℕ
units_at h zero t = t
units_at h (suc x) t = (h + t) * 2 ^ x

-- the number of units that the code j stands for; h is the weight of the exponent's field
unfoldable pub units_of : (h j : ℕ) → ℕ
units_of h j = units_at h (j / h) (j % h)
