-- `arguments::is_short` meets its contract, by the operand's kind.
-- Assumes nothing.
use Rattle.arguments.proofs.is_short.Goals as goal

pub returns-in-Text : goal.returns-in-Text
returns-in-Text c = rw c.in-Text.is
