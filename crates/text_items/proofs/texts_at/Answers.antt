-- `text_items::texts_at` meets its contract, by the item's first two bytes.
-- Assumes nothing.
use mathlib.Core.Path.{sym, ◌∙◌}
use Rattle.text_items.proofs.Laws.{byte_none, percent_none, percent_one}
use Rattle.text_items.proofs.texts_at.Goals as goal

pub returns-then-s-i-ne37 : goal.returns-then-s-i-ne37
returns-then-s-i-ne37 c = byte_none c.args.s.now c.args.i c.if-s-i-ne37.true

pub returns-then-byte_at-ne115 : goal.returns-then-byte_at-ne115
returns-then-byte_at-ne115 c =
    percent_none c.args.s.now c.args.i c.if-s-i-ne37.false
    (λ e. c.if-byte_at-ne115.true (c.byte_at.ensures ∙ e))

pub returns : goal.returns
returns c =
    percent_one c.args.s.now c.args.i c.if-s-i-ne37.false
    (sym c.byte_at.ensures ∙ c.if-byte_at-ne115.false)
