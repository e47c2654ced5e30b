-- `put::bytes_in_table` meets its contract: the test decides whether the string is present.
-- Assumes nothing.
use mathlib.Core.Path.{sym}
use native.Mathlib.Omega.{arith}
use Rattle.put.proofs.TableLaws.{bytes_present, bytes_none}
use Rattle.put.proofs.bytes_in_table.Goals as goal

pub overflow_add-result : goal.overflow_add-result
overflow_add-result c = let e = bytes_present c.args.kind c.args.size c.if-kind-eq-PRESENT.true in omega arith

pub returns-then-kind-eq-PRESENT : goal.returns-then-kind-eq-PRESENT
returns-then-kind-eq-PRESENT c = sym (bytes_present _ _ c.if-kind-eq-PRESENT.true)

pub returns : goal.returns
returns c = sym (bytes_none _ _ c.if-kind-eq-PRESENT.false)
