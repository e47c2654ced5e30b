-- `judge::use_by` meets its contract: each arm is a case of the definition.
use Rattle.judge.proofs.Laws.{use_long, use_said}
use Rattle.judge.proofs.use_by.Goals as goal

pub returns-then-n-gt-CONTENT_MOST : goal.returns-then-n-gt-CONTENT_MOST
returns-then-n-gt-CONTENT_MOST c = use_long c.args.form _ _ c.in-String.is c.if-n-gt-CONTENT_MOST.true

pub returns-in-Boolean : goal.returns-in-Boolean
returns-in-Boolean c = λ e t p f. (rw c.in-Boolean.is, tt)

pub returns-in-Cancelled : goal.returns-in-Cancelled
returns-in-Cancelled c = λ e t p f. (rw c.in-Cancelled.is, tt)

pub returns-in-Number : goal.returns-in-Number
returns-in-Number c = λ e t p f. (rw c.in-Number.is, tt)

pub returns-in-LargeNumber : goal.returns-in-LargeNumber
returns-in-LargeNumber c = λ e t p f. (rw c.in-LargeNumber.is, tt)

pub returns-else-n-gt-CONTENT_MOST : goal.returns-else-n-gt-CONTENT_MOST
returns-else-n-gt-CONTENT_MOST c = use_said c.args.form _ _ c.in-String.is c.if-n-gt-CONTENT_MOST.false
