-- Document 02, 2026-06: "show that the walk always ends past the `%e` or `%;` that document 01 names", of a run:
-- wherever the steps of a string whose form is right lead, `%t` on 0 and `%e` go where document 01 says. `jumps_end`
-- of proofs/Jumps.antt says that this is so for every string, all arguments and all variables.
-- Assumes nothing.
use Rattle.std.specs.Prelude.{◌≡◌, true, false, List, [], ◌∷◌, ℕ, ◌<◌, ℤ, pos, length, Ok}
use Rattle.expansion.specs.declared.Item.TheVariants.{Then, Else}
use Rattle.expansion.specs.Items.{item_at}
use Rattle.expansion.specs.Form.{form_of}
use Rattle.expansion.specs.Values.{Value, number}
use Rattle.expansion.specs.Machine.{with_stack}
use Rattle.expansion_laws.specs.Steps.{Point, start_of, further, leads, step, Reaches}
use Rattle.level_laws.specs.Levels.{PastLevel}

-- where the item at a point leads, one step later
pub record Jumps (s : List ℕ) (p : Point) : Type 0 where
  -- "`%t` pops: on 0 go past the next `%e` of this level, or past its `%;` if there is none"
  pub on_zero : (rest : List Value) → (item_at s p.place).item ≡ Then → p.machine.stack ≡ number (pos 0) ∷ rest
      → (r : ℕ) × PastLevel true s (item_at s p.place).next r
      × (step s p ≡ leads (further p r (with_stack p.machine rest) []))
  -- "A reached `%e` goes past the `%;`"
  pub at_else : (item_at s p.place).item ≡ Else
      → (r : ℕ) × PastLevel false s (item_at s p.place).next r
      × (step s p ≡ leads (further p r p.machine []))

abbrev pub JumpsEnd : Type 0
JumpsEnd = (s : List ℕ) (arguments : List Value) (lasting : List ℤ) (p : Point) → form_of s ≡ Ok tt
    → Reaches s (start_of arguments lasting) p → p.place < length s → Jumps s p
