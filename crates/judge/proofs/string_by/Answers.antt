-- `judge::string_by` meets its contract: each arm is a case of the definition.
use Rattle.entry.specs.Writing.{state_of}
use Rattle.text.specs.Describing.{saying_of}
use Rattle.judge.proofs.Laws.{string_long, string_present}
use native.Mathlib.Omega.{arith}
use Rattle.judge.proofs.string_by.Goals as goal

pub returns-then-n-gt-CONTENT_MOST : goal.returns-then-n-gt-CONTENT_MOST
returns-then-n-gt-CONTENT_MOST c = string_long c.args.place c.args.form _ _ c.in-String.is c.if-n-gt-CONTENT_MOST.true

pub returns-in-Boolean : goal.returns-in-Boolean
unfolding saying_of
returns-in-Boolean c = λ e t p k f. (rw c.in-Boolean.is, tt)

pub returns-in-Cancelled : goal.returns-in-Cancelled
unfolding saying_of state_of
returns-in-Cancelled c = λ e t p k f. (rw c.in-Cancelled.is, (k, λ z. absurd (let y : ⊥ = omega arith in y)))

pub returns-in-Number : goal.returns-in-Number
unfolding saying_of
returns-in-Number c = λ e t p k f. (rw c.in-Number.is, tt)

pub returns-in-LargeNumber : goal.returns-in-LargeNumber
unfolding saying_of
returns-in-LargeNumber c = λ e t p k f. (rw c.in-LargeNumber.is, tt)

pub returns-else-n-gt-CONTENT_MOST : goal.returns-else-n-gt-CONTENT_MOST
returns-else-n-gt-CONTENT_MOST c = string_present c.args.place c.args.form _ _ c.in-String.is c.if-n-gt-CONTENT_MOST.false
