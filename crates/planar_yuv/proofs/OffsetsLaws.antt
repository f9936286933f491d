-- Laws on what specs/Offsets defines. Assumes nothing.
use Rattle.std.specs.Prelude.{◌≡◌, refl, true, ℕ, ltb}
use Rattle.std.proofs.Common.{ltb-true, lt-ltb}
use Rattle.std.proofs.lemmas.Bool.{and_parts}
use Rattle.planar_yuv.specs.Offsets.{contains, Inside}

pub contains_is : (pitch rows x y : ℕ) → contains pitch rows x y ≡ true → Inside pitch rows x y
contains_is pitch rows x y h = (ltb-true x pitch (and_parts (ltb x pitch) (ltb y rows) h).0, ltb-true y rows (and_parts (ltb x pitch) (ltb y rows) h).1)

pub contains_yes : (pitch rows x y : ℕ) → Inside pitch rows x y → contains pitch rows x y ≡ true
contains_yes pitch rows x y i = rw (lt-ltb x pitch i.0, lt-ltb y rows i.1) refl
