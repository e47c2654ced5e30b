-- `terminfo_c::list::listed_number` meets its contract: a position and a count are within their bits.
use mathlib.Core.Path.{subst}
use native.Mathlib.Omega.{arith}
use Rattle.list_states.specs.Listing.{ValueFits}
use Rattle.terminfo_c.proofs.Laws.{list_bits}
use Rattle.terminfo_c.proofs.list.listed_number.Goals as goal

pub refusal-requires : goal.refusal-requires
refusal-requires c = list_bits c.in-Err.why (subst ValueFits c.in-Err.is c.requires)
