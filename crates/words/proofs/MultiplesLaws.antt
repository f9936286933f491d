-- Laws on what specs/Multiples defines. Assumes nothing.
use Rattle.std.specs.Prelude.{refl, ℕ, suc, ◌+◌, ◌-◌, ◌/◌, ◌≤◌, ◌<◌}
use Rattle.std.proofs.Common.{suc-mul, mul-le-mul_right, div-lt_iff_lt-mul, arith}
use Rattle.std.proofs.Math.Nat.{lt-div-mul-add}
use Rattle.words.specs.Multiples.{Raised, raised}

-- THE LAW THAT JOINS THE TWO
pub raised_is : (n a : ℕ) → 0 < a → Raised n a (raised n a)
unfolding raised
raised_is n a h =
    let q = (n + (a - 1)) / a in
    record {
      multiple = (q, refl);
      enough = omega (arith, lt-div-mul-add {a = n + (a - 1)} {b = a} h);
      least = λ k l. mul-le-mul_right a (le_of_lt_suc q k ((div-lt_iff_lt-mul h).1 (omega (arith, suc-mul k a))));
    }
  where
    le_of_lt_suc : (q k : ℕ) → q < suc k → q ≤ k
    le_of_lt_suc q k l = omega arith
