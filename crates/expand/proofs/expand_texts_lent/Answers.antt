-- `expand::expand_texts_lent` meets its contract: its tests stand in the definition's order.
-- Assumes nothing.
use mathlib.Core.Path.{refl, sym, ◌∙◌}
use borrow.Author.Rules.{rules}
use borrow.Author.Tests.{not-true, not-false}
use Rattle.expansion.specs.Limits.{text_most}
use Rattle.arguments.proofs.Laws.{judged_all, short_all}
use Rattle.expand.proofs.Laws as L
use Rattle.expand.proofs.expand_texts_lent.Goals as goal

pub returns-then-out-at : goal.returns-then-out-at
returns-then-out-at c =
    L.place_refused _ c.args.string.now c.args.arguments c.args.texts.now c.args.lasting.now c.args.out.now c.args.at c.if-out-at.true

pub returns-then-not-lie : goal.returns-then-not-lie
returns-then-not-lie c =
    L.texts_refused _ c.args.string.now c.args.arguments c.args.texts.now c.args.lasting.now c.args.out.now c.args.at c.if-out-at.false (sym (c.all_lie_in-lie.ensures c.args.texts.now refl) ∙ c.if-not-lie.true)

pub returns-then-string-gt-STRING_MOST : goal.returns-then-string-gt-STRING_MOST
returns-then-string-gt-STRING_MOST c =
    L.length_refused _ c.args.string.now c.args.arguments c.args.texts.now c.args.lasting.now c.args.out.now c.args.at c.if-out-at.false (sym (c.all_lie_in-lie.ensures c.args.texts.now refl) ∙ c.if-not-lie.false) c.if-string-gt-STRING_MOST.true

pub returns-then-not-are_short : goal.returns-then-not-are_short
returns-then-not-are_short c =
    L.long_refused _ c.args.string.now c.args.arguments c.args.texts.now c.args.lasting.now c.args.out.now c.args.at c.if-out-at.false (sym (c.all_lie_in-lie.ensures c.args.texts.now refl) ∙ c.if-not-lie.false) c.if-string-gt-STRING_MOST.false (sym c.all_short-are_short.ensures ∙ c.if-not-are_short.true)

pub expand_judged-requires : goal.expand_judged-requires
expand_judged-requires c =
    (c.if-out-at.false, c.if-string-gt-STRING_MOST.false, judged_all c.args.texts.now c.args.arguments (sym (c.all_lie_in-lie.ensures c.args.texts.now refl) ∙ c.if-not-lie.false) (sym c.all_short-are_short.ensures ∙ c.if-not-are_short.false))

pub returns : goal.returns
returns c =
    let t = sym c.all_short-are_short.ensures ∙ c.if-not-are_short.false in
    L.run_answers _ c.args.string.now c.args.arguments c.args.texts.now c.args.lasting.now c.args.out.now c.args.at c.if-out-at.false (sym (c.all_lie_in-lie.ensures c.args.texts.now refl) ∙ c.if-not-lie.false) c.if-string-gt-STRING_MOST.false t (c.expand_judged.ensures text_most (short_all c.args.arguments t))
