use borrow.Author.Tests.{le-leb, lt-leb, eq-eqb, ne_eqb}
use Rattle.text.specs.Lines.{next_at}
use Rattle.text_lines.proofs.next_past_blanks.Goals as goal

pub returns-then-text-j : goal.returns-then-text-j
unfolding next_at
returns-then-text-j c = simp (← c.blanks_end-j.ensures, le-leb _ _ c.if-text-j.true)

pub returns-then-text-j-eq10 : goal.returns-then-text-j-eq10
unfolding next_at
returns-then-text-j-eq10 c = simp (← c.blanks_end-j.ensures, lt-leb _ _ c.if-text-j.false, eq-eqb _ _ c.if-text-j-eq10.true, c.line_at.ensures)

pub returns : goal.returns
unfolding next_at
returns c = simp (← c.blanks_end-j.ensures, lt-leb _ _ c.if-text-j.false, ne_eqb _ _ c.if-text-j-eq10.false)
