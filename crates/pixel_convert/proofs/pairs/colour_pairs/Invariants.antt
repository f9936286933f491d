use Rattle.std.specs.Prelude.{◌≡◌, length}
use Rattle.pixel_convert.specs.Gathering.{ColoursPairs}
use Rattle.pixel_convert.proofs.pairs.colour_pairs.Given as goal

abbrev pub invariant-loop-i : goal.invariant-loop-i
invariant-loop-i l = ColoursPairs l.lines l.lumas l.chromas l.i l.initial.block l.block × (length l.block ≡ length l.initial.block)
