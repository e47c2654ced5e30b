-- A word or two a turn.
use Rattle.std.proofs.Common.{◌-◌}
use Rattle.ti_options.proofs.options_of.Given as goal

abbrev pub decreases-loop-options : goal.decreases-loop-options
decreases-loop-options l = 1000 - l.options.words.first
