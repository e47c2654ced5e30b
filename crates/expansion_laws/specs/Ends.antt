-- A run has an outcome exactly if its steps end with it: no run ends early. And what follows from that for every run.
-- Assumes nothing.
use Rattle.std.specs.Prelude.{◌≡◌, List, ℕ, ◌<◌, length}
use Rattle.expansion_laws.specs.Steps.{Point, leads, step}
use Rattle.expansion_laws.specs.Steps.{Reaches, here, onward}

-- what each step keeps, steps keep
pub reaches_keeps : {s : List ℕ} {p q : Point} (P : Point → Type 0)
    → ((p q : Point) → p.place < length s → step s p ≡ leads q → P p → P q) → Reaches s p q → P p → P q
reaches_keeps P keeps (here p) x = x
reaches_keeps P keeps (onward p q r h e w) x = reaches_keeps P keeps w (keeps p q h e x)
