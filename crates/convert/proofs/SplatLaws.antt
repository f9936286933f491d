-- Laws on what specs/Splat defines. Assumes nothing.
use Rattle.std.specs.Prelude.{◌≡◌, List, ℕ, length}
use Rattle.std.proofs.Common.{sym, ◌∙◌, inl, inr, arith, ext_get_or}
use Rattle.std.proofs.lemmas.Bool.{cases_lt}
use Rattle.convert.specs.Splat.{Splat}

-- that settles every byte
pub one_splat : (pattern before x y : List ℕ) → Splat pattern before x → Splat pattern before y → x ≡ y
one_splat pattern before x y p q = elim (cases_lt 0 (length pattern)) [
  | inl n ↦ ext_get_or 0 x y (p.same_length ∙ sym q.same_length) (λ i l. p.repeated n i (omega (arith, p.same_length)) ∙ sym (q.repeated n i (omega (arith, p.same_length))))
  | inr n ↦ p.empty (omega arith) ∙ sym (q.empty (omega arith))
]
