-- What it is to restore a lane.
-- Assumes nothing.
use Rattle.std.specs.Prelude.{◌≡◌, ℕ}
use Rattle.formats.specs.Lanes.{Lane, nowhere, at, code_at}

-- two words hold the same code in a lane
abbrev pub SameLane : Lane → (v w : ℕ) → Type 0
SameLane nowhere v w = Unit {0}
SameLane (at low n k) v w = code_at low n v ≡ code_at low n w
