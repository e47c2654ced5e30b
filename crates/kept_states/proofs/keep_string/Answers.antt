-- `kept_states::keep_string` meets its contract: the test decides whether a field stands already.
-- Assumes nothing.
use mathlib.Core.Path.{sym}
use Rattle.compile_laws.proofs.KeepLaws.{test_first, test_later}
use Rattle.kept_states.proofs.keep_string.Goals as goal

pub returns-then-is_new : goal.returns-then-is_new
returns-then-is_new c = (sym (test_first _ _ _ _ _ c.is_new.ensures c.if-is_new.true), (sym (test_first _ _ _ _ _ c.is_new.ensures c.if-is_new.true), sym (test_first _ _ _ _ _ c.is_new.ensures c.if-is_new.true)))

pub returns-else-is_new : goal.returns-else-is_new
returns-else-is_new c = (sym (test_later _ _ _ _ _ c.is_new.ensures c.if-is_new.false), (sym (test_later _ _ _ _ _ c.is_new.ensures c.if-is_new.false), sym (test_later _ _ _ _ _ c.is_new.ensures c.if-is_new.false)))
