-- `terminfo::open_expand` meets its contract: numbers are arguments, and no byte of text is lent.
-- Assumes nothing.
use borrow.Author.Rules.{rules}
use Rattle.terminfo.proofs.open_expand.Goals as goal

pub returns : goal.returns
returns c = rw c.numbers.ensures at c.open_expand_texts.ensures
