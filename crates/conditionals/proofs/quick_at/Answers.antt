-- `conditionals::quick_at` meets its contract: a byte other than NUL and `%` is an item by itself.
-- Assumes nothing.
use native.Mathlib.Omega.{arith}
use Rattle.conditionals.proofs.ScanLaws.{byte_told}
use Rattle.conditionals.proofs.quick_at.Goals as goal

pub returns-then-c-gt37 : goal.returns-then-c-gt37
returns-then-c-gt37 c = byte_told c.args.s.now c.args.i c.quick_item.ensures (λ z. omega arith) (λ p. omega arith)

pub returns : goal.returns
returns c = byte_told c.args.s.now c.args.i c.quick_item-2.ensures c.if-c-eq0.false c.if-c-eq37.false
