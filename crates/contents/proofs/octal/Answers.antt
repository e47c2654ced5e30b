use Rattle.contents.specs.Usual.{octal_value}
use Rattle.contents.proofs.octal.Goals as goal

pub returns : goal.returns
unfolding octal_value
returns c = rw (c.byte_at.ensures, c.byte_at-2.ensures, c.byte_at-3.ensures)
