-- `lookup::known_in` meets its contract: nothing is known of what isn't found.
use Rattle.names.specs.Searching.{known_in}
use Rattle.lookup.proofs.known_in.Goals as goal

pub returns-in_err-found : goal.returns-in_err-found
unfolding known_in
returns-in_err-found c = rw c.in_err-found.was (cc)
