use borrow.Author.Tests.{le-leb, lt-leb}
use Rattle.text_header.proofs.line_ends.Goals as goal

pub returns-then-text-j : goal.returns-then-text-j
returns-then-text-j c = rw (← c.run_end-j.ensures, le-leb _ _ c.if-text-j.true)

pub returns : goal.returns
returns c = rw (← c.run_end-j.ensures, lt-leb _ _ c.if-text-j.false)
