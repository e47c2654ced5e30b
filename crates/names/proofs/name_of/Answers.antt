-- `names::name_of` meets its contract: each kind's list stands in all names.
use mathlib.Core.Path.{sym, ap, ◌∙◌}
use Rattle.edition.specs.declared.Kind.{Kind}
use Rattle.names.specs.Naming.{naming}
use Rattle.names.proofs.Laws.{named_boolean, named_number, named_string}
use Rattle.names.proofs.name_of.Goals as goal

pub returns-in-Boolean : goal.returns-in-Boolean
returns-in-Boolean c = c.name_in.ensures ∙ named_boolean c.args.place ∙ ap (λ (k : Kind). naming k c.args.place) (sym c.in-Boolean.is)

pub returns-in-Number : goal.returns-in-Number
returns-in-Number c = c.name_in-in-Number.ensures ∙ named_number c.args.place ∙ ap (λ (k : Kind). naming k c.args.place) (sym c.in-Number.is)

pub returns-in-String : goal.returns-in-String
returns-in-String c = c.name_in-in-String.ensures ∙ named_string c.args.place ∙ ap (λ (k : Kind). naming k c.args.place) (sym c.in-String.is)
