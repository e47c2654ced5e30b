use Rattle.text.specs.Bytes.{is_in}
use Rattle.text.specs.Strings.{line_end_at}
use Rattle.escapes.proofs.line_end_at.Goals as goal

pub returns-then-is_in : goal.returns-then-is_in
unfolding line_end_at is_in
returns-then-is_in c = simp (← c.byte_at.ensures, ← c.is_in.ensures, c.if-is_in.true, c.run_end.ensures)

pub returns : goal.returns
unfolding line_end_at is_in
returns c = simp (← c.byte_at.ensures, ← c.is_in.ensures, c.if-is_in.false)
