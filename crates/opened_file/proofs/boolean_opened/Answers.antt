-- `opened_file::boolean_opened` meets its contract: a place beyond the edition, past the table, and in it.
use mathlib.Core.Path.{ap, ◌∙◌}
use native.Mathlib.Omega.{arith}
use borrow.Author.Tests.{le-ltb}
use Rattle.base.specs.Answer.{gives}
use Rattle.file_tables.proofs.Laws.{at_booleans, in_booleans_lem}
use Rattle.opened_file.proofs.Laws.{asking_unknown, framed, asked_boolean_past, asked_boolean}
use Rattle.opened_file.proofs.boolean_opened.Goals as goal

pub returns-then-edition-place : goal.returns-then-edition-place
returns-then-edition-place c = asking_unknown _ _ _ _ (le-ltb _ _ c.if-edition-place.true)

pub returns-then-t-place : goal.returns-then-t-place
returns-then-t-place c = asked_boolean_past c.requires c.args.place c.if-edition-place.false c.if-t-place.true

pub overflow_add-t : goal.overflow_add-t
overflow_add-t c =
    let k = framed c.requires in
    let a = at_booleans k in
    let n = in_booleans_lem k in
    let l = k.size in
    let m = k.most in
    omega (arith, c.if-t-place.false)

pub bounds-file-t : goal.bounds-file-t
bounds-file-t c =
    let k = framed c.requires in
    let a = at_booleans k in
    let n = in_booleans_lem k in
    let l = k.size in
    omega (arith, c.if-t-place.false)

pub returns : goal.returns
returns c = ap gives c.boolean_of.ensures ∙ asked_boolean c.requires c.args.place c.if-edition-place.false c.if-t-place.false
