-- `judge::judge_named` meets its contract: each kind of capability that the name means, or none.
use mathlib.Core.Path.{ap, ◌∙◌}
use Rattle.std.specs.Prelude.{Some}
use Rattle.names.proofs.Editions.{found_means}
use Rattle.judge.proofs.Laws.{named_found}
use Rattle.judge.proofs.judge_named.Goals as goal

pub returns-in-Some-Boolean : goal.returns-in-Some-Boolean
returns-in-Some-Boolean c =
    let m = found_means c.args.edition c.args.name.now c.find_all.result c.known_in.result c.find_all.ensures c.known_in.ensures in
    named_found c.args.name.now c.args.form c.args.edition _ (m ∙ c.in-Some-Boolean.is ∙ ap Some c.in-Some-Boolean.field-0-is) c.boolean_by.result c.boolean_by.ensures

pub returns-in-Some-Number : goal.returns-in-Some-Number
returns-in-Some-Number c =
    let m = found_means c.args.edition c.args.name.now c.find_all.result c.known_in.result c.find_all.ensures c.known_in.ensures in
    named_found c.args.name.now c.args.form c.args.edition _ (m ∙ c.in-Some-Number.is ∙ ap Some c.in-Some-Number.field-0-is) c.number_by.result c.number_by.ensures

pub returns-in-Some-String : goal.returns-in-Some-String
returns-in-Some-String c =
    let m = found_means c.args.edition c.args.name.now c.find_all.result c.known_in.result c.find_all.ensures c.known_in.ensures in
    named_found c.args.name.now c.args.form c.args.edition _ (m ∙ c.in-Some-String.is ∙ ap Some c.in-Some-String.field-0-is) c.string_by.result c.string_by.ensures

pub returns-in-None : goal.returns-in-None
returns-in-None c =
    let m = found_means c.args.edition c.args.name.now c.find_all.result c.known_in.result c.find_all.ensures c.known_in.ensures in
    c.judge_unknown.ensures c.args.edition (m ∙ c.in-None.is)
