-- `block_rows::first_offsets` meets its contract: both offsets are worked out for the row's first texels. Assumes nothing.
use Rattle.pixel_convert.proofs.Along.{carried_along}
use Rattle.pixel_convert.proofs.block_rows.first_offsets.Goals as goal

pub returns : goal.returns
returns c = carried_along _ _ _ _ _ _ _ c.requires (record { source = cc; destination = cc })
