-- `show_names::put_kind` meets its contract, by the kind.
-- Assumes nothing.
use native.Mathlib.Omega.{arith}
use Rattle.names.specs.Names.{ascii}
use Rattle.shown.proofs.PutsLaws.{puts_most}
use Rattle.show_names.proofs.put_kind.Goals as goal

pub returns-in-Boolean : goal.returns-in-Boolean
unfolding ascii
returns-in-Boolean c = rw c.in-Boolean.is (puts_most c.put_text.ensures (omega arith))

pub returns-in-Number : goal.returns-in-Number
unfolding ascii
returns-in-Number c = rw c.in-Number.is (puts_most c.put_text-in-Number.ensures (omega arith))

pub returns-in-String : goal.returns-in-String
unfolding ascii
returns-in-String c = rw c.in-String.is (puts_most c.put_text-in-String.ensures (omega arith))
