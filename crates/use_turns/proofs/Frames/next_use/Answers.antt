-- `use_turns::Frames::next_use` meets its contract: each return is what the next use comes to.
-- Assumes nothing.
use mathlib.Core.Path.{sym, ◌∙◌}
use Rattle.use_turns.proofs.AdvanceLaws.{judged_missing, judged_open, judged-ninth, judged-pass, judged-enter}
use Rattle.use_turns.proofs.Frames.next_use.Goals as goal

pub returns-then-t-eq-NO_TARGET : goal.returns-then-t-eq-NO_TARGET
returns-then-t-eq-NO_TARGET c =
    judged_missing c.args.uses.now.held c.requires.1 c.requires.0 c.if-uses-d.false _ _ c.from-t.ensures
    c.from-at.ensures c.if-t-eq-NO_TARGET.true

pub returns-then-is_open : goal.returns-then-is_open
returns-then-is_open c =
    judged_open c.args.uses.now.held c.requires.1 c.requires.0 c.if-uses-d.false _ _ c.from-t.ensures
    c.from-at.ensures c.if-t-eq-NO_TARGET.false (sym c.is_open.ensures ∙ c.if-is_open.true)

pub returns-then-self-eq-OPEN_MOST : goal.returns-then-self-eq-OPEN_MOST
returns-then-self-eq-OPEN_MOST c =
    judged-ninth c.args.uses.now.held c.requires.1 c.requires.0 c.if-uses-d.false _ _ c.from-t.ensures
    c.from-at.ensures c.if-t-eq-NO_TARGET.false (sym c.is_open.ensures ∙ c.if-is_open.false)
    c.if-self-eq-OPEN_MOST.true

pub returns-then-self-t : goal.returns-then-self-t
returns-then-self-t c =
    judged-pass c.args.uses.now.held c.requires.1 c.requires.0 c.if-uses-d.false _ _ c.from-t.ensures
    c.from-at.ensures c.if-t-eq-NO_TARGET.false (sym c.is_open.ensures ∙ c.if-is_open.false) c.if-self-t.true

pub returns : goal.returns
returns c =
    judged-enter c.args.uses.now.held c.requires.1 c.requires.0 c.if-uses-d.false _ _ c.from-t.ensures
    c.from-at.ensures c.if-t-eq-NO_TARGET.false (sym c.is_open.ensures ∙ c.if-is_open.false)
    c.if-self-eq-OPEN_MOST.false c.if-self-t.false
