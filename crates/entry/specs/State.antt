-- A capability's state, and how slots and boolean bytes say it (document 01: Three ordered lists, Compiled entry).
-- Slots are stated once, over their width of w bytes; booleans have a code of their own.
-- Assumes nothing.
use Rattle.std.specs.Prelude.{Bool, ◌||◌, ℕ, ◌-◌, ◌/◌, ◌^◌, eqb}
use Rattle.base.specs.If.{when◌then◌else◌}
use Rattle.entry.specs.Limits.{cancelled_byte}

-- "A capability is absent, cancelled, or present": a boolean bare (Unit), a number with its value, a string with its
-- bytes
pub data State (A : Type 0) : Type 0 where
  absent : State A
  cancelled : State A
  present : A → State A

-- the same state with its content put another way
abbrev pub map_state : {A B : Type 0} → (A → B) → State A → State B
map_state g absent = absent
map_state g cancelled = cancelled
map_state g (present x) = present (g x)

-- ---- slots

-- "65,535 absent; 65,534 cancelled" where w is 2
abbrev pub absent_mark : ℕ → ℕ
absent_mark w = 256 ^ w - 1

abbrev pub cancelled_mark : ℕ → ℕ
cancelled_mark w = 256 ^ w - 2

-- "0 to 32,767 present": the numbers below this one
abbrev pub half : ℕ → ℕ
half w = 256 ^ w / 2

-- what a slot of code c says
unfoldable pub slot_of : ℕ → ℕ → State ℕ
slot_of w c =
    when eqb c (absent_mark w) then absent
    else when eqb c (cancelled_mark w) then cancelled
    else present c

-- the code of the slot that says a state
unfoldable pub code_of : ℕ → State ℕ → ℕ
code_of w absent = absent_mark w
code_of w cancelled = cancelled_mark w
code_of w (present c) = c

-- a slot is one of the two marks, or its code passes the test of its list
unfoldable pub ok_slot : ℕ → (ℕ → Bool) → ℕ → Bool
ok_slot w ok c = ok c || (eqb c (absent_mark w) || eqb c (cancelled_mark w))

-- ---- boolean bytes: "0 absent, 1 present, 254 cancelled (ours)"

unfoldable pub ok_boolean : ℕ → Bool
ok_boolean c = eqb c 0 || (eqb c 1 || eqb c cancelled_byte)

unfoldable pub boolean_of : ℕ → State Unit
boolean_of c =
    when eqb c 0 then absent
    else when eqb c cancelled_byte then cancelled
    else present tt

unfoldable pub boolean_code : State Unit → ℕ
boolean_code absent = 0
boolean_code cancelled = cancelled_byte
boolean_code (present x) = 1
