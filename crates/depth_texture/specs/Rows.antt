-- Which rows lie within their buffers. Assumes nothing.
use Rattle.std.specs.Prelude.{◌≡◌, true, ℕ}
use Rattle.formats.specs.Table.{bytes_of}
use Rattle.depth_texture.specs.Pixels.{has_stencil}
use Rattle.depth_texture.specs.Pictures.{RowIn}
use Rattle.depth_texture.specs.declared.rows.Row.{Row}

-- a row of a format lies within a packed picture, a depth plane and, where the format has stencils, a stencil plane of so many bytes
abbrev pub RowWithin : (f packed depth stencil : ℕ) → Row → Type 0
RowWithin f packed depth stencil row =
    (RowIn packed row.packed (bytes_of f) row.width) × (RowIn depth row.depth 4 row.width) × (has_stencil f ≡ true → RowIn stencil row.stencil 1 row.width)
