-- The places of a picture's rows. Assumes nothing.
use Rattle.std.specs.Prelude.{ℕ, ◌*◌}
use Rattle.depth_texture.specs.declared.rows.Row.{Row}
use Rattle.depth_texture.specs.declared.PlaneLayout.{PlaneLayout}

-- row y lies y pitches from the start of each buffer, and is as wide as the layout
abbrev pub row_of : PlaneLayout → (packed_pitch y : ℕ) → Row
row_of l packed_pitch y = record { packed = y * packed_pitch; depth = y * l.depth_pitch; stencil = y * l.stencil_pitch; width = l.width }
