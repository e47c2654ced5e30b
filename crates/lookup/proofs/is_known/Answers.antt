-- `lookup::is_known` meets its contract, kind by kind.
use mathlib.Core.Path.{refl}
use Rattle.names.specs.Searching.{known_in}
use Rattle.lookup.proofs.is_known.Goals as goal

pub returns-in-Boolean : goal.returns-in-Boolean
unfolding known_in
returns-in-Boolean c = rw c.in-Boolean.is refl

pub returns-in-Number : goal.returns-in-Number
unfolding known_in
returns-in-Number c = rw c.in-Number.is refl

pub returns-in-String : goal.returns-in-String
unfolding known_in
returns-in-String c = rw c.in-String.is refl
