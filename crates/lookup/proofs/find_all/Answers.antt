-- `lookup::find_all` meets its contract: the place of the name's number in the table tells its list and its place there.
-- ---- what is known behind the call of `place_of`
-- ---- the needs
use mathlib.Core.Path.{ap, ◌∙◌}
use native.Mathlib.Omega.{arith}
use Rattle.names.specs.Searching.{searching}
use Rattle.names.proofs.LookupLaws.{Bytes, TablePlace, found_boolean, found_number, found_string, found_none}
use Rattle.names.specs.Names.{second_edition, all_named}
use Rattle.lookup.proofs.find_all.Goals as goal

pub returns-then-k-lt-BOOLEANS : goal.returns-then-k-lt-BOOLEANS
returns-then-k-lt-BOOLEANS c =
    let are-bytes : Bytes c.args.name.now = λ j. ((c.type_inv.name j).fits) in
    let placed : TablePlace c.args.name.now c.place_of-k.result = c.place_of-k.ensures ∙ ap (searching 0 all_named) c.pack.ensures in
    found_boolean second_edition _ are-bytes c.place_of-k.result placed (omega arith) (omega arith)

pub returns-then-k-numbers_end : goal.returns-then-k-numbers_end
returns-then-k-numbers_end c =
    let are-bytes : Bytes c.args.name.now = λ j. ((c.type_inv.name j).fits) in
    let placed : TablePlace c.args.name.now c.place_of-k.result = c.place_of-k.ensures ∙ ap (searching 0 all_named) c.pack.ensures in
    found_number second_edition _ are-bytes c.place_of-k.result placed (omega arith) (omega arith) (omega arith)

pub returns-then-k-lt-ALL : goal.returns-then-k-lt-ALL
returns-then-k-lt-ALL c =
    let are-bytes : Bytes c.args.name.now = λ j. ((c.type_inv.name j).fits) in
    let placed : TablePlace c.args.name.now c.place_of-k.result = c.place_of-k.ensures ∙ ap (searching 0 all_named) c.pack.ensures in
    found_string second_edition _ are-bytes c.place_of-k.result placed (omega arith) (omega arith) (omega arith)

pub returns : goal.returns
returns c =
    let are-bytes : Bytes c.args.name.now = λ j. ((c.type_inv.name j).fits) in
    let placed : TablePlace c.args.name.now c.place_of-k.result = c.place_of-k.ensures ∙ ap (searching 0 all_named) c.pack.ensures in
    found_none second_edition _ are-bytes c.place_of-k.result placed (λ h. omega arith) (λ h g. omega arith) (λ h g. omega arith)
