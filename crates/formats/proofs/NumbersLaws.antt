-- Laws on what specs/Numbers defines. Assumes nothing.
use Rattle.std.specs.Prelude.{◌≡◌, refl}
use Rattle.formats.specs.Table.{formats}
use Rattle.formats.specs.Numbers.{rows_of, numbered}

pub lanes_read : rows_of formats ≡ numbered
lanes_read = refl
