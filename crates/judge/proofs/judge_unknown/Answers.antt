-- `judge::judge_unknown` meets its contract: `use`, or unknown.
use mathlib.Core.Path.{sym, ◌∙◌}
use Rattle.judge.proofs.Laws.{named_use, named_unknown}
use Rattle.judge.proofs.judge_unknown.Goals as goal

pub returns-then-is_use : goal.returns-then-is_use
returns-then-is_use c =
    named_use c.args.name.now c.args.form (sym c.is_use.ensures ∙ c.if-is_use.true) c.use_by.result c.use_by.ensures

pub returns : goal.returns
returns c =
    named_unknown c.args.name.now c.args.form (sym c.is_use.ensures ∙ c.if-is_use.false)
