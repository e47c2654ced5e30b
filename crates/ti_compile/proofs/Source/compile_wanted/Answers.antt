-- `ti_compile::Source::compile_wanted` meets its contract, by the call that is made.
-- Assumes nothing.
use Rattle.ti_compile.proofs.Source.compile_wanted.Goals as goal

pub returns-in-None : goal.returns-in-None
returns-in-None c = rw c.in-None.is c.compile_first.ensures

pub returns-in-Some : goal.returns-in-Some
returns-in-Some c = rw c.in-Some.is c.compile.ensures
