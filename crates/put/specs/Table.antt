-- States by kinds and contents, strings as parts of lent bytes, and the string table's sizes from kinds and lengths
-- alone.
-- Assumes nothing.
use Rattle.std.specs.Prelude.{◌≡◌, List, ◌++◌, ℕ, zero, suc, ◌+◌, ◌≤◌, ◌<◌, length, get_or, take, drop}
use Rattle.base.specs.Tabulate.{tabulate}
use Rattle.entry.specs.declared.Offset.{Offset}
use Rattle.entry.specs.State.{State, absent, cancelled, present, map_state}
use Rattle.entry.specs.Reading.{offset}
use Rattle.entry.specs.Writing.{state_of}

-- ---- the states of the first n places

abbrev pub booleans_of : List ℕ → ℕ → List (State Unit)
booleans_of kinds n = tabulate (λ i. state_of (get_or kinds i 0) tt) n

abbrev pub numbers_of : List ℕ → List ℕ → ℕ → List (State ℕ)
numbers_of kinds values n = tabulate (λ i. state_of (get_or kinds i 0) (get_or values i 0)) n

-- a string of a kind: size bytes of what is lent, from start on
abbrev pub string_of : ℕ → ℕ → ℕ → List ℕ → State (List ℕ)
string_of kind start size lent = state_of kind (take size (drop start lent))

abbrev pub string_at : (kinds starts lengths lent : List ℕ) → ℕ → State (List ℕ)
string_at kinds starts lengths lent i = string_of (get_or kinds i 0) (get_or starts i 0) (get_or lengths i 0) lent

abbrev pub strings_of : (kinds starts lengths lent : List ℕ) → ℕ → List (State (List ℕ))
strings_of kinds starts lengths lent n = tabulate (string_at kinds starts lengths lent) n

-- ---- sizes, from kinds and lengths alone

-- how many bytes of the string table a string takes, by its length: the content and its NUL
unfoldable pub table_bytes : State ℕ → ℕ
table_bytes absent = 0
table_bytes cancelled = 0
table_bytes (present n) = n + 1

-- the state of the string at a place, with its length for its content
abbrev pub length_at : (kinds lengths : List ℕ) → ℕ → State ℕ
length_at kinds lengths i = state_of (get_or kinds i 0) (get_or lengths i 0)

-- how many bytes of the string table the first n strings take: the offset at which the next one starts
unfoldable pub total : (kinds lengths : List ℕ) → ℕ → ℕ
total kinds lengths zero = 0
total kinds lengths (suc n) = total kinds lengths n + table_bytes (length_at kinds lengths n)

abbrev pub slot_at : (kinds lengths : List ℕ) → ℕ → State Offset
slot_at kinds lengths i = state_of (get_or kinds i 0) (offset (total kinds lengths i))

abbrev pub slots_of : (kinds lengths : List ℕ) → ℕ → List (State Offset)
slots_of kinds lengths n = tabulate (slot_at kinds lengths) n

-- the first n strings of g are of these kinds and lengths
abbrev pub HasLengths : (kinds lengths : List ℕ) → (ℕ → State (List ℕ)) → ℕ → Type 0
HasLengths kinds lengths g n = (i : ℕ) → i < n → map_state length (g i) ≡ length_at kinds lengths i

-- ---- two lent slices, read one behind the other

-- size bytes from start on lie in what is lent, and in one of the two slices
abbrev pub InPools : ℕ → ℕ → List ℕ → List ℕ → Type 0
InPools start size first second =
    (start + size ≤ length (first ++ second)) × (start < length first → start + size ≤ length first)

-- each present string of the first n
abbrev pub AllInPools : (kinds starts lengths first second : List ℕ) → ℕ → Type 0
AllInPools kinds starts lengths first second n =
    (i : ℕ) → i < n → get_or kinds i 0 ≡ 1 → InPools (get_or starts i 0) (get_or lengths i 0) first second

-- the strings are given, lie in what is lent, and their table fits into b from at on
pub record TableFits (b : List ℕ) (at : ℕ) (kinds starts lengths first second : List ℕ) (n : ℕ) : Type 0 where
  pub kinds_given : n ≤ length kinds
  pub starts_given : n ≤ length starts
  pub lengths_given : n ≤ length lengths
  pub lent : AllInPools kinds starts lengths first second n
  pub fits : at + total kinds lengths n ≤ length b
