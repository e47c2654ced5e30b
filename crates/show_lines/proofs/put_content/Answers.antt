-- `show_lines::put_content` meets its contract: a name with its sign, and a content behind it.
-- Assumes nothing.
use Rattle.edition.specs.declared.Kind.TheVariants as Kinds
use Rattle.show_names.specs.Naming.{name_of}
use Rattle.show_names.proofs.LineLaws.{named_puts}
use Rattle.show_lines.proofs.put_content.Goals as goal

pub returns : goal.returns
returns c = named_puts (name_of Kinds.String c.args.place) 61 c.put_named-at.ensures c.put_shown.ensures c.requires
