-- `number_lines::put_value` meets its contract: a name with its sign, and a number behind it.
-- Assumes nothing.
use Rattle.edition.specs.declared.Kind.TheVariants as Kinds
use Rattle.show_names.specs.Naming.{name_of}
use Rattle.show_names.proofs.LineLaws.{named_puts}
use Rattle.number_lines.proofs.put_value.Goals as goal

pub returns : goal.returns
returns c = named_puts (name_of Kinds.Number c.args.place) 35 c.put_named-at.ensures c.put_number.ensures c.requires
