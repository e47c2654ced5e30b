-- How many words stand at a place among the options.
-- Assumes nothing.
use Rattle.std.specs.Prelude.{ℕ}
use Rattle.ti_options.specs.declared.Step.{Step}
use Rattle.ti_options.specs.declared.Step.TheVariants.{Operand, End, Flag, Edition, Name}

-- `-e` and `-n` have a word behind them
unfoldable pub words_of : Step → ℕ
words_of Operand = 1
words_of End = 1
words_of Flag = 1
words_of (Edition e) = 2
words_of Name = 2
