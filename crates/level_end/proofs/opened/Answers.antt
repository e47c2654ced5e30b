-- `level_end::opened` meets its contract: each arm is a case of `passing`.
-- Assumes nothing.
use mathlib.Core.Path.{ap}
use native.Mathlib.Numerals.{add-one}
use Rattle.std.specs.Prelude.{Some}
use Rattle.expansion.specs.Machine.{passing}
use Rattle.level_end.proofs.Laws.{else_level, else_inner, end_level, end_inner}
use Rattle.level_end.proofs.opened.Goals as goal

pub returns-in-Plain : goal.returns-in-Plain
unfolding passing
returns-in-Plain c = rw c.in-Plain.is

pub returns-in-If : goal.returns-in-If
unfolding passing
returns-in-If c = rw c.in-If.is (ap Some (add-one c.args.inner))

pub returns-in-Then : goal.returns-in-Then
unfolding passing
returns-in-Then c = rw c.in-Then.is

pub returns-then-elses : goal.returns-then-elses
returns-then-elses c =
    let e = else_level c.args.elses c.args.inner c.if-inner-eq0.true in
    rw (c.in-Else.is, e, c.if-elses.true)

pub returns-else-elses : goal.returns-else-elses
returns-else-elses c =
    let e = else_level c.args.elses c.args.inner c.if-inner-eq0.true in
    rw (c.in-Else.is, e, c.if-elses.false)

pub returns-else-inner-eq0 : goal.returns-else-inner-eq0
returns-else-inner-eq0 c =
    rw (c.in-Else.is, else_inner c.args.elses c.args.inner c.if-inner-eq0.false)

pub returns-then-inner-eq0-2 : goal.returns-then-inner-eq0-2
returns-then-inner-eq0-2 c =
    rw (c.in-End.is, end_level c.args.elses c.args.inner c.if-inner-eq0-2.true)

pub returns-else-inner-eq0-2 : goal.returns-else-inner-eq0-2
returns-else-inner-eq0-2 c =
    rw (c.in-End.is, end_inner c.args.elses c.args.inner c.if-inner-eq0-2.false)

pub returns-in-Wrong : goal.returns-in-Wrong
unfolding passing
returns-in-Wrong c = rw c.in-Wrong.is
