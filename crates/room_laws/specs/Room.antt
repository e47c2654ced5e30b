-- Document 02, 2026-06: "Show that an accepted string of n bytes never takes more than n steps, and never produces
-- more than 25 times n bytes, so that with such room 8 cannot be given"; 2026-07: "The room bound of 2026-06 becomes
-- 25 times n plus 1,000 per `%s` item". `bounded` of proofs/Bounded.antt says that this is so for every string, all
-- arguments and all variables, and `numbers_bounded` that for numbers it is 25 times n as before. No count of a
-- definition's turns bounds it: a run is the chain of its steps (`run_ends` of expansion_laws).
-- Assumes nothing.
use Rattle.std.specs.Prelude.{◌≡◌, List, ℕ, ◌+◌, ◌-◌, ◌*◌, ◌^◌, ◌≤◌, ◌<◌, ℤ, pos, negsuc, length, Ok}
use Rattle.base.specs.If.{when◌then◌else◌}
use Rattle.base.specs.Answer.{refused}
use Rattle.base.specs.Tabulate.{Each}
use Rattle.expansion.specs.Limits.{room_for, text_most}
use Rattle.expansion.specs.declared.Argument.{Argument}
use Rattle.expansion.specs.Items.{item_at}
use Rattle.expansion.specs.Form.{form_of}
use Rattle.expansion.specs.Values.{Value, number, text}
use Rattle.expansion.specs.Machine.{Machine, printed_by, effect, finished, run}
use Rattle.expansion.specs.Counting.{prints_text, room_with}
use Rattle.expansion.specs.Arguments.{values_of, numbers_given}
use Rattle.expansion.specs.Expanding.{expanding}

-- "Values are 32-bit signed"
abbrev pub Value32 : ℤ → Type 0
Value32 (pos n) = n < 2 ^ 31
Value32 (negsuc n) = n < 2 ^ 31

-- a number of 32 bits, or a text of at most so many bytes
abbrev pub ValueWithin : ℕ → Value → Type 0
ValueWithin most (number v) = Value32 v
ValueWithin most (text bytes) = length bytes ≤ most

abbrev pub Byte : ℕ → Type 0
Byte c = c < 256

-- an item of s prints at most 25 times its own bytes, whatever machine takes it, and `%s` a text more: a width of at
-- most 99 is spelled by two bytes, behind `%` and before a letter. `item_bounded` of proofs/Items.antt says that this
-- is so
abbrev pub ItemBounded : ℕ → List ℕ → Type 0
ItemBounded most s = (i : ℕ) (m : Machine) (a b : Value) → i < length s → ValueWithin most b
    → length (printed_by (effect (item_at s i).item m a b))
    ≤ room_for ((item_at s i).next - i) + most * (when prints_text (item_at s i).item then 1 else 0)

-- what is said of a string with these arguments and variables, where no text has more than so many bytes
pub record Bounded (most : ℕ) (s : List ℕ) (arguments : List Argument) (lent : List ℕ) (lasting : List ℤ) : Type 0
  where
    -- "never takes more than n steps"
    pub steps : (m : Machine) (out : List ℕ) (k : ℕ) → run s (values_of lent arguments) lasting ≡ finished m out k
        → k ≤ length s
    -- "25 times n plus 1,000 per `%s` item"
    pub output : (m : Machine) (out : List ℕ) (k : ℕ) → run s (values_of lent arguments) lasting ≡ finished m out k
        → length out ≤ room_with most s
    -- "with such room 8 cannot be given"
    pub room : (size at : ℕ) (v : List ℕ) → at + room_with most s ≤ size
        → expanding s arguments lent lasting size at ≡ refused 8 v → ⊥

-- a string of bytes that the check for 14 accepts, with numbers and variables of 32 bits and texts of at most so many
-- bytes each, up to 1,000
abbrev pub AlwaysBounded : Type 0
AlwaysBounded = (most : ℕ) (s : List ℕ) (arguments : List Argument) (lent : List ℕ) (lasting : List ℤ)
    → most ≤ text_most → Each Byte s → form_of s ≡ Ok tt → Each (ValueWithin most) (values_of lent arguments)
    → Each Value32 lasting → Bounded most s arguments lent lasting

-- with numbers alone "never produces more than 25 times n bytes", so that "with such room 8 cannot be given"
pub record NumbersBounded (s : List ℕ) (arguments : List ℤ) (lent : List ℕ) (lasting : List ℤ) : Type 0 where
  pub output : (m : Machine) (out : List ℕ) (k : ℕ)
      → run s (values_of lent (numbers_given arguments)) lasting ≡ finished m out k → length out ≤ room_for (length s)
  pub room : (size at : ℕ) (v : List ℕ) → at + room_for (length s) ≤ size
      → expanding s (numbers_given arguments) lent lasting size at ≡ refused 8 v → ⊥

abbrev pub AlwaysNumbersBounded : Type 0
AlwaysNumbersBounded = (s : List ℕ) (arguments : List ℤ) (lent : List ℕ) (lasting : List ℤ) → Each Byte s
    → form_of s ≡ Ok tt → Each Value32 arguments → Each Value32 lasting → NumbersBounded s arguments lent lasting
