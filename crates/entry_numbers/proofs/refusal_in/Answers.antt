-- `entry_numbers::refusal_in` meets its contract: what opening said, or an edition's refusal.
use mathlib.Core.Path.{ap, ◌∙◌, sym}
use Rattle.entry_numbers.specs.Entries.{refusal_of, entry_refusal}
use Rattle.entry_numbers.proofs.refusal_in.Goals as goal

pub returns-in-Some : goal.returns-in-Some
unfolding entry_refusal
returns-in-Some c = rw c.in-Some.ensures.1 (c.refusal_of.ensures ∙ ap refusal_of c.in-Some.ensures.0)

pub returns-in-None : goal.returns-in-None
unfolding entry_refusal
returns-in-None c = rw c.in-None.ensures c.refusal_else.ensures
