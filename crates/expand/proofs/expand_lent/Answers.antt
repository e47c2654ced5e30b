-- `expand::expand_lent` meets its contract: its tests stand in the definition's order, and numbers pass the tests of texts.
-- Assumes nothing.
use mathlib.Core.List.{[]}
use borrow.Author.Rules.{rules}
use Rattle.expansion.specs.Arguments.{numbers_given}
use Rattle.arguments.proofs.Laws.{numbers_lie, numbers_short, numbers_judged, numbers_longer}
use Rattle.expand.proofs.Laws as L
use Rattle.expand.proofs.expand_lent.Goals as goal

pub returns-then-out-at : goal.returns-then-out-at
returns-then-out-at c =
    L.place_refused _ c.args.string.now (numbers_given c.args.arguments) [] c.args.lasting.now c.args.out.now c.args.at c.if-out-at.true

pub returns-then-string-gt-STRING_MOST : goal.returns-then-string-gt-STRING_MOST
returns-then-string-gt-STRING_MOST c =
    L.length_refused _ c.args.string.now (numbers_given c.args.arguments) [] c.args.lasting.now c.args.out.now c.args.at c.if-out-at.false (numbers_lie [] c.args.arguments) c.if-string-gt-STRING_MOST.true

pub expand_judged-requires : goal.expand_judged-requires
expand_judged-requires c =
    (c.if-out-at.false, c.if-string-gt-STRING_MOST.false, rw c.numbers.ensures (numbers_judged [] c.args.arguments))

pub returns : goal.returns
returns c =
    L.run_answers _ c.args.string.now (numbers_given c.args.arguments) [] c.args.lasting.now c.args.out.now c.args.at c.if-out-at.false (numbers_lie [] c.args.arguments) c.if-string-gt-STRING_MOST.false (numbers_short c.args.arguments)
    (rw (L.no_texts c.args.string.now, c.numbers.ensures) at (c.expand_judged.ensures 0 (rw c.numbers.ensures (numbers_longer 0 c.args.arguments))))
