-- `operators::inverted` meets its contract: the bits are the definition's.
-- Assumes nothing.
use native.Mathlib.Omega.{arith}
use Rattle.signed.proofs.Laws.{again}
use Rattle.operators.proofs.Laws.{inverted_bits}
use Rattle.operators.proofs.inverted.Goals as goal

pub returns : goal.returns
returns c = grind (arith, again, inverted_bits)
