-- `judge::enough_states` meets its contract: each test decides one part of `enough_states`.
-- Assumes nothing.
use mathlib.Core.Path.{sym, ap, ◌∙◌}
use mathlib.Core.Bool.{and-false}
use Prim.Native.Nat.{min}
use lib.ListN.{length}
use borrow.Author.Tests.{le-leb, lt-leb}
use Rattle.entry.specs.Writing.{enough_states}
use Rattle.write_limits.proofs.enough_states.Goals as goal

pub returns-then-not-edition_ok : goal.returns-then-not-edition_ok
unfolding enough_states
returns-then-not-edition_ok c = rw (sym c.edition_ok.ensures ∙ c.if-not-edition_ok.true)

pub returns-then-states-e : goal.returns-then-states-e
unfolding enough_states
returns-then-states-e c = simp (lt-leb _ _ c.if-states-e.true, and-false)

pub returns-then-least-e : goal.returns-then-least-e
unfolding enough_states
returns-then-least-e c = simp (lt-leb _ _ (rw c.least.ensures at c.if-least-e.true), and-false)

pub returns : goal.returns
unfolding enough_states
returns c =
    let t = sym c.edition_ok.ensures ∙ c.if-not-edition_ok.false in
    let l = c.least-2.ensures ∙ ap (min (length c.args.states.now.strings.kinds.now)) c.least-content.ensures in
    rw (t, le-leb _ _ c.if-states-e.false, le-leb _ _ (rw c.least.ensures at c.if-least-e.false), l)
