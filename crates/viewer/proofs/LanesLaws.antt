-- Lanes and channels. Assumes nothing.
use Rattle.formats.proofs.TableLaws.{lanes_filled}
use Rattle.formats.proofs.NumbersLaws.{lanes_read}
use Rattle.channels.proofs.ExpansionLaws.{expands, truncates, alpha_bit, two_copies, expanded_whole}
use Rattle.texels.proofs.TexelsLaws.{quarters_read}
use Rattle.texels.proofs.RestoredLaws.{restored}
use Rattle.viewer.specs.Lanes.{LanesFill, LanesNumbered, ChannelErrors, ChannelRules, LanesRestored}

pub lanes_fill : LanesFill
lanes_fill = record { filled = lanes_filled }

pub lanes_numbered : LanesNumbered
lanes_numbered = lanes_read

pub channel_errors : ChannelErrors
channel_errors = record { expanding = expands; truncating = truncates }

pub channel_rules : ChannelRules
channel_rules = record { repeated = two_copies; multiplied = expanded_whole; one_bit = alpha_bit; steps = quarters_read }

pub lanes_restored : LanesRestored
lanes_restored = restored
