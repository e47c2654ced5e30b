-- What a step of the machine promises.
-- Assumes nothing.
use Rattle.std.specs.Prelude.{◌≡◌, List, ℕ, ◌+◌, length}
use Rattle.print.specs.Emit.{emitted}
use Rattle.expansion.specs.Machine.{Machine, Effect, prints, pushes, stores, increments, to_else, to_end, stored}
use Rattle.expansion.specs.Machine.{printed_by}
use Rattle.expansion.specs.Values.{number, text}
use Rattle.machine.specs.declared.Step.{Step}
use Rattle.machine.specs.declared.Step.TheVariants.{Push, Go}

-- what a step answers, and the machine that it leaves; w is the output's length before it. No effect of an item that
-- is Simple pushes a text or is one of the last three
unfoldable pub step_of : Effect → ℕ → Step
step_of (prints bytes) w = Go (w + length bytes)
step_of (pushes (number v)) w = Push v
step_of (pushes (text bytes)) w = Go w
step_of (stores c v) w = Go w
step_of increments w = Go w
step_of to_else w = Go w
step_of to_end w = Go w

unfoldable pub machine_after : Effect → Machine → Machine
machine_after (prints bytes) m = m
machine_after (pushes v) m = m
machine_after (stores c v) m = stored m c v
machine_after increments m = m
machine_after to_else m = m
machine_after to_end m = m

-- a step of this effect answers r; it leads from m to m', and a buffer's bytes from b to b'
pub record SteppedAs (e : Effect) (w : ℕ) (m m' : Machine) (b b' : List ℕ) (r : Step) : Type 0 where
  pub step : r ≡ step_of e w
  pub after : m' ≡ machine_after e m
  pub output : b' ≡ emitted b w (printed_by e)
