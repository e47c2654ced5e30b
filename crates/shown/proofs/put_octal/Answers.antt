-- `shown::put_octal` meets its contract: the bytes put are the definition's.
-- Assumes nothing.
use Rattle.shown.specs.Shown.{octal}
use Rattle.shown.proofs.put_octal.Goals as goal

pub returns : goal.returns
unfolding octal
returns c = c.put_bytes.ensures
