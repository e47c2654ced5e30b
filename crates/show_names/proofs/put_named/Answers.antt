-- `show_names::put_named` meets its contract, by whether the list has a name at the place.
-- Assumes nothing.
use mathlib.Core.Path.{sym, ap, ◌∙◌}
use Rattle.names.specs.Naming.{says_name}
use Rattle.show_names.proofs.Laws.{named_puts, unnamed_puts}
use Rattle.show_names.proofs.put_named.Goals as goal

pub returns-in-Some : goal.returns-in-Some
returns-in-Some c =
    named_puts c.args.behind.now c.args.kind c.args.place c.requires _ (ap says_name (sym c.in-Some.is) ∙ c.name_of.ensures) c.put_packed-end.ensures c.put_text.ensures

pub returns-in-None : goal.returns-in-None
returns-in-None c =
    unnamed_puts c.args.behind.now c.args.kind c.args.place c.requires (ap says_name (sym c.in-None.is) ∙ c.name_of.ensures) c.put_kind-end.ensures c.put_number.ensures
