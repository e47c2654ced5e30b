-- `lookup::find` meets its contract: an edition means what the second means, if it knows the place.
use mathlib.Core.Path.{sym}
use Rattle.names.proofs.Editions.{found_means}
use Rattle.lookup.proofs.find.Goals as goal

pub returns : goal.returns
returns c =
    sym (found_means c.args.edition c.args.name.now c.find_all.result c.known_in.result c.find_all.ensures c.known_in.ensures)
