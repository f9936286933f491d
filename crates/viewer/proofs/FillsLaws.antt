-- Fills and splats. Assumes nothing.
use Rattle.convert.proofs.SplatLaws.{one_splat}
use Rattle.convert.proofs.UnmovedLaws.{fill_unmoved}
use Rattle.viewer.specs.Fills.{FillsUnmoved, OneSplat}

pub fills_unmoved : FillsUnmoved
fills_unmoved = fill_unmoved

pub splat_settles : OneSplat
splat_settles = one_splat
