-- `judge::judge` meets its contract: a field that is malformed, one that is dropped, one that is judged by its name.
use mathlib.Core.Path.{sym, ◌∙◌}
use Rattle.std.proofs.lemmas.Result.{err_from_is_err_and}
use Rattle.judge.proofs.Laws.{judged_malformed, judged_dropped, judged_said, judged_refused, field_name}
use Rattle.judge.proofs.judge.Goals as goal

pub returns-in_default : goal.returns-in_default
returns-in_default c =
    (judged_malformed c.args.edition c.args.text.now c.args.at (sym c.field_at.ensures ∙ c.in_default.is), tt)

pub returns-then-field : goal.returns-then-field
returns-then-field c =
    (judged_dropped c.args.edition c.args.text.now c.args.at _ (sym c.field_at.ensures ∙ c.in-Some.is) c.if-field.true, tt)

pub slice_bounds-judge_named-count : goal.slice_bounds-judge_named-count
slice_bounds-judge_named-count c =
    (field_name c.args.edition c.args.text.now c.args.at _ (sym c.field_at.ensures ∙ c.in-Some.is)).0

pub slice_bounds-judge_named-start : goal.slice_bounds-judge_named-start
slice_bounds-judge_named-start c =
    (field_name c.args.edition c.args.text.now c.args.at _ (sym c.field_at.ensures ∙ c.in-Some.is)).0

pub slice_bounds-judge_named-end : goal.slice_bounds-judge_named-end
slice_bounds-judge_named-end c =
    (field_name c.args.edition c.args.text.now c.args.at _ (sym c.field_at.ensures ∙ c.in-Some.is)).1

pub returns-in_err-said : goal.returns-in_err-said
returns-in_err-said c =
    let p = err_from_is_err_and c.from_residual.result c.from_residual.ensures.1 in
    rw (p.1, p.2) (
      judged_refused c.args.edition c.args.text.now c.args.at _ (sym c.field_at.ensures ∙ c.in-Some.is)
          c.if-field.false c.judge_named.result c.judge_named.ensures _ c.in_err-said.was,
      tt,
    )

pub returns : goal.returns
returns c =
    judged_said c.args.edition c.args.text.now c.args.at _ (sym c.field_at.ensures ∙ c.in-Some.is)
    c.if-field.false c.judge_named.result c.judge_named.ensures _ c.in_ok-said.was
