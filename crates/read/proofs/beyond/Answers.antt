-- `read::beyond` meets its contract: field by field.
use Rattle.entry.specs.Layout.{beyond_of}
use Rattle.read.proofs.beyond.Goals as goal

pub returns : goal.returns
unfolding beyond_of
returns c = (λ i. record { booleans = c.saturating_sub-booleans.ensures i; numbers = c.saturating_sub-numbers.ensures i; strings = c.saturating_sub-strings.ensures i })
