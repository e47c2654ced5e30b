-- `show_lines::capability_line` meets its contract, by the lists.
-- Assumes nothing.
use Rattle.show_lines.proofs.Laws.{capability_boolean, capability_number_lem, capability_string}
use Rattle.show_lines.proofs.capability_line.Goals as goal

pub returns-then-k-edition : goal.returns-then-k-edition
returns-then-k-edition c =
    rw (capability_boolean c.args.opened.edition c.args.opened.file.now c.args.k c.if-k-edition.true) c.boolean_line.ensures

pub returns-then-behind-edition : goal.returns-then-behind-edition
returns-then-behind-edition c =
    rw (capability_number_lem c.args.opened.edition c.args.opened.file.now c.args.k c.if-k-edition.false c.if-behind-edition.true) c.number_line.ensures

pub returns : goal.returns
returns c =
    rw (capability_string c.args.opened.edition c.args.opened.file.now c.args.k c.if-k-edition.false c.if-behind-edition.false) c.string_line.ensures
