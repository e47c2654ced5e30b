-- `ti_expand::opened::expand_opened` meets its contract, by what the file says of the string.
-- Assumes nothing.
use mathlib.Core.Path.{refl, sym, ap, ◌∙◌}
use Rattle.entry.specs.Says.{says_state}
use Rattle.terminfo.proofs.Laws.{written_above, written_beyond, written_asked, state_inside}
use Rattle.ti_expand.proofs.opened.expand_opened.Goals as goal

pub returns-then-out-at : goal.returns-then-out-at
returns-then-out-at c = written_above _ _ _ _ _ _ _ _ c.if-out-at.true

pub returns-then-not-all_lie_in : goal.returns-then-not-all_lie_in
returns-then-not-all_lie_in c =
    written_beyond _ _ _ _ _ _ _ _ c.if-out-at.false
    (sym (c.all_lie_in.ensures c.args.texts.now refl) ∙ c.if-not-all_lie_in.true)

pub string_if_opened-requires : goal.string_if_opened-requires
string_if_opened-requires c = c.args.opened.opened

pub expand_state-requires : goal.expand_state-requires
expand_state-requires c = state_inside _ _ _ _ (ap says_state (sym c.in-Some.is) ∙ c.string_if_opened.ensures)

pub returns-in-Some : goal.returns-in-Some
returns-in-Some c =
    written_asked _ _ _ _ _ _ _ _ _ _ _ c.if-out-at.false
    (sym (c.all_lie_in.ensures c.args.texts.now refl) ∙ c.if-not-all_lie_in.false)
    (ap says_state (sym c.in-Some.is) ∙ c.string_if_opened.ensures) c.expand_state.ensures

pub returns-in-None : goal.returns-in-None
returns-in-None c =
    written_asked _ _ _ _ _ _ _ _ _ _ _ c.if-out-at.false
    (sym (c.all_lie_in.ensures c.args.texts.now refl) ∙ c.if-not-all_lie_in.false)
    (ap says_state (sym c.in-None.is) ∙ c.string_if_opened.ensures) (record { answer = refl; output = refl })
