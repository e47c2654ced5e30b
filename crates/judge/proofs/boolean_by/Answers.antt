-- `judge::boolean_by` meets its contract: each arm is a case of the definition.
use Rattle.entry.specs.Writing.{state_of}
use Rattle.text.specs.Describing.{saying_of}
use Rattle.judge.proofs.boolean_by.Goals as goal

pub returns-in-Boolean : goal.returns-in-Boolean
unfolding saying_of state_of
returns-in-Boolean c = λ e t p k f. (rw c.in-Boolean.is, k)

pub returns-in-Cancelled : goal.returns-in-Cancelled
unfolding saying_of state_of
returns-in-Cancelled c = λ e t p k f. (rw c.in-Cancelled.is, k)

pub returns-in-Number : goal.returns-in-Number
unfolding saying_of
returns-in-Number c = λ e t p k f. (rw c.in-Number.is, tt)

pub returns-in-LargeNumber : goal.returns-in-LargeNumber
unfolding saying_of
returns-in-LargeNumber c = λ e t p k f. (rw c.in-LargeNumber.is, tt)

pub returns-in-String : goal.returns-in-String
unfolding saying_of
returns-in-String c = λ e t p k f. (rw c.in-String.is, tt)
