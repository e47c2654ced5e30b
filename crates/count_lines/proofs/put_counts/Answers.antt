-- `count_lines::put_counts` meets its contract: words, and three numbers each with a text behind it.
-- Assumes nothing.
use mathlib.Core.List.{◌++◌}
use native.Mathlib.Omega.{arith}
use Rattle.names.specs.Names.{ascii}
use Rattle.shown.proofs.PutsLaws.{puts_most}
use Rattle.show_names.specs.Naming.{decimal}
use Rattle.show_names.specs.Line.{line_end}
use Rattle.count_lines.specs.Counts.{counts_line}
use Rattle.count_lines.proofs.Laws.{counts_puts}
use Rattle.count_lines.proofs.put_counts.Goals as goal

pub returns : goal.returns
unfolding counts_line ascii
returns c =
    puts_most (counts_puts (decimal c.args.booleans) (ascii " booleans, ") (decimal c.args.numbers) (ascii " numbers, ") (decimal c.args.strings) (ascii " strings" ++ line_end) c.put_text-a.ensures c.put_number-b.ensures c.put_number-c.ensures c.put_number.ensures (omega (arith, c.requires))) (omega arith)
