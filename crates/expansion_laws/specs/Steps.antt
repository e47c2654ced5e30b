-- A run as a chain of steps, one for each item taken, and where the chain ends. No count bounds it.
-- Assumes nothing.
use Rattle.std.specs.Prelude.{◌≡◌, true, false, List, [], ◌++◌, ℕ, ◌+◌, ◌≤◌, ◌<◌, ℤ, length}
use Rattle.expansion.specs.Items.{item_at}
use Rattle.expansion.specs.Values.{Value}
use Rattle.expansion.specs.Machine.{Machine, started, Outcome, finished, failed}
use Rattle.expansion.specs.Machine.{Taken, goes_on, goes_to_else, goes_to_end, empty, full, mismatched, taking}
use Rattle.expansion_laws.specs.Passes.{passed_to}

-- how far a run has come: the place of the next item, the machine, the bytes printed and the items taken
pub record Point : Type 0 where
  pub place : ℕ
  pub machine : Machine
  pub output : List ℕ
  pub steps : ℕ

abbrev pub start_of : List Value → List ℤ → Point
start_of arguments lasting = record { place = 0; machine = started arguments lasting; output = []; steps = 0 }

-- one item later: at place i, with the machine m and these bytes more
abbrev pub further : Point → ℕ → Machine → List ℕ → Point
further p i m bytes = record { place = i; machine = m; output = p.output ++ bytes; steps = p.steps + 1 }

-- what the item at a point comes to: the point that it leads to, or the number of a refusal
pub data Step : Type 0 where
  leads : Point → Step
  refuses : ℕ → Step

-- by what taking the item comes to; next is the place behind the item
abbrev pub step_by : List ℕ → Point → ℕ → Taken → Step
step_by s p next (goes_on m bytes) = leads (further p next m bytes)
step_by s p next (goes_to_else m) = leads (further p (passed_to true s next 0) m [])
step_by s p next (goes_to_end m) = leads (further p (passed_to false s next 0) m [])
step_by s p next empty = refuses 15
step_by s p next full = refuses 16
step_by s p next mismatched = refuses 21

unfoldable pub step : List ℕ → Point → Step
step s p = step_by s p (item_at s p.place).next (taking (item_at s p.place).item p.machine)

-- steps lead from one point to another, each at a place of the string
pub data Reaches (s : List ℕ) : Point → Point → Type 0 where
  here : (p : Point) → Reaches s p p
  onward : (p q r : Point) → p.place < length s → step s p ≡ leads q → Reaches s q r → Reaches s p r

-- a run ends at a point with an outcome: finished at the string's end and nowhere before it, or at an item that is
-- refused
abbrev pub EndsAt : List ℕ → Point → Outcome → Type 0
EndsAt s p (finished m out n) = (length s ≤ p.place) × (p.machine ≡ m) × (p.output ≡ out) × (p.steps ≡ n)
EndsAt s p (failed n i) = (p.place < length s) × (p.place ≡ i) × (step s p ≡ refuses n)

-- the steps from p on reach a point at which the run ends with an outcome
abbrev pub Ends : List ℕ → Point → Outcome → Type 0
Ends s p y = (q : Point) × Reaches s p q × EndsAt s q y
