-- `shown::put_shown` meets its contract, by the test whether the byte stands for itself.
-- Assumes nothing.
use mathlib.Core.Path.{sym, ◌∙◌}
use native.Mathlib.Omega.{arith}
use Rattle.shown.proofs.Laws.{put_plain, put_other}
use Rattle.shown.proofs.put_shown.Goals as goal

pub returns-then-is_plain : goal.returns-then-is_plain
returns-then-is_plain c =
    put_plain c.args.out.now c.args.at c.args.least c.args.c (omega (arith, c.requires)) (sym c.is_plain.ensures ∙ c.if-is_plain.true)

pub returns : goal.returns
returns c =
    put_other c.args.out.now _ c.args.at c.args.least c.args.c (sym c.is_plain.ensures ∙ c.if-is_plain.false) c.put_octal.ensures
