-- Each answer as one 64-bit number (include/terminfo_c.h says the same in words). Assumes nothing.
use Rattle.std.specs.Prelude.{List, [], ◌∷◌, ℕ, ◌+◌, ◌*◌, ◌^◌, ◌≤◌, ◌<◌, leb, get_or}
use Rattle.std.specs.Prelude.{Option, Some, None, Result, Ok, Err}
use Rattle.base.specs.If.{when◌then◌else◌}
use Rattle.entry.specs.declared.Part.{Part}
use Rattle.entry.specs.State.{State, absent, cancelled, present}
use Rattle.entry.specs.declared.State as S
use Rattle.entry.specs.declared.Opening.{Opening}
use Rattle.entry.specs.declared.FileRefusal.{FileRefusal}
use Rattle.entry.specs.declared.WriteRefusal.{WriteRefusal}
use Rattle.entry.specs.declared.MergeRefusal.{MergeRefusal}
use Rattle.entry.specs.declared.MergeRefusal.TheVariants as G
use Rattle.entry.specs.Limits.{file_most}
use Rattle.base.specs.Answer.{Answer, refused, gives}
use Rattle.entry.specs.Says.{file_position, write_values}
use Rattle.edition.specs.declared.Kind.{Kind}
use Rattle.edition.specs.declared.Kind.TheVariants as K
use Rattle.edition.specs.declared.Place.{Place}
use Rattle.names.specs.declared.Found.{Found}
use Rattle.names.specs.declared.Found.TheVariants as F
use Rattle.names.specs.Finding.{Capability}
use Rattle.expansion.specs.Expanding.{Counts}

-- the refusal's number in the top byte and the first value that it gives below it; or what the call gives, by its own
-- code
unfoldable pub numbered : {A : Type 0} → (A → ℕ) → Answer A → ℕ
numbered code (refused n v) = n * 2 ^ 56 + get_or v 0 0
numbered code (gives x) = code x

-- merging: below a file's refusal, 1 to 7, which file in the byte below the top one, and the position below it
unfoldable pub merging_number : {A : Type 0} → (A → ℕ) → Answer A → ℕ
merging_number code (refused n v) =
    n * 2 ^ 56 + (when leb n 7 then get_or v 0 0 * 2 ^ 48 + get_or v 1 0 else get_or v 0 0)
merging_number code (gives x) = code x

-- a call that gives nothing in its number
abbrev pub none : {A : Type 0} → A → ℕ
none x = 0

-- a state: its kind (0 absent, 1 present, 2 cancelled) in the byte below the top one, and a present one's content
-- below it
unfoldable pub state_code : {A : Type 0} → (A → ℕ) → State A → ℕ
state_code code absent = 0
state_code code (present x) = 2 ^ 48 + code x
state_code code cancelled = 2 * 2 ^ 48

-- a part: its start above its length, which has 24 bits
abbrev pub part_code : Part → ℕ
part_code p = p.start * 2 ^ 24 + p.length

-- where the byte below the top one tells a kind, a refusal has a kind of its own there, 3, so that nobody reads it as
-- absent
abbrev pub refused_number : ℕ → ℕ
refused_number n = n * 2 ^ 56 + 3 * 2 ^ 48

unfoldable pub kinded : {A : Type 0} → (A → ℕ) → Answer A → ℕ
kinded code (refused n v) = refused_number n
kinded code (gives x) = code x

abbrev pub boolean_number : Answer (State Unit) → ℕ
boolean_number a = kinded (state_code none) a

abbrev pub number_number : Answer (State ℕ) → ℕ
number_number a = kinded (state_code (λ n. n)) a

abbrev pub string_number : Answer (State Part) → ℕ
string_number a = kinded (state_code part_code) a

-- a kind of capability
abbrev pub kind_code : Kind → ℕ
kind_code K.Boolean = 0
kind_code K.Number = 1
kind_code K.String = 2

-- a capability: its kind in the byte below the top one, its place below it
abbrev pub capability_code : Capability → ℕ
capability_code c = kind_code c.kind * 2 ^ 48 + c.place.0

abbrev pub capability_number : Answer Capability → ℕ
capability_number a = kinded capability_code a

-- the array that opening fills: slots of each list, where each table starts, slots beyond the edition
abbrev pub opening_array : Opening → List ℕ
opening_array o =
    o.tables.booleans ∷ o.tables.numbers ∷ o.tables.strings
    ∷ o.tables.booleans_at ∷ o.tables.numbers_at ∷ o.tables.strings_at ∷ o.tables.table_at
    ∷ o.beyond.booleans ∷ o.beyond.numbers ∷ o.beyond.strings ∷ []

-- an expansion's steps above its output's length, in 24 bits each
abbrev pub counts_code : Counts → ℕ
counts_code c = c.steps * 2 ^ 24 + c.length

-- ---- what keeps the numbers below their bits: parts lie in a file, and so does what is written

abbrev pub PartWithin : Part → Type 0
PartWithin p = p.start + p.length ≤ file_most

abbrev pub NamesWithin : Option Part → Type 0
NamesWithin (Some p) = PartWithin p
NamesWithin None = Unit {0}

-- any content
abbrev pub Any : {A : Type 0} → A → Type 0
Any x = Unit {0}

abbrev pub StateWithin : {A : Type 0} → (A → Type 0) → Option (S.State A) → Type 0
StateWithin within (Some (S.TheVariants.Present x)) = within x
StateWithin within (Some S.TheVariants.Absent) = Unit {0}
StateWithin within (Some S.TheVariants.Cancelled) = Unit {0}
StateWithin within None = Unit {0}

-- what a refusal gives first
abbrev pub LengthWithin : {R : Type 0} → (R → List ℕ) → Result ℕ R → Type 0
LengthWithin values (Ok n) = Unit {0}
LengthWithin values (Err why) = get_or (values why) 0 0 < 2 ^ 48

abbrev pub WrittenWithin : Result ℕ WriteRefusal → Type 0
WrittenWithin (Ok n) = n ≤ file_most
WrittenWithin (Err r) = get_or (write_values r) 0 0 ≤ file_most

-- a position is below the most bytes of a file
abbrev pub FileWithin : FileRefusal → Type 0
FileWithin r = file_position r < file_most

abbrev pub MergedWithin : Result ℕ MergeRefusal → Type 0
MergedWithin (Ok n) = n ≤ file_most
MergedWithin (Err G.Edition) = Unit {0}
MergedWithin (Err (G.First r)) = FileWithin r
MergedWithin (Err (G.Second r)) = FileWithin r
MergedWithin (Err G.Size) = Unit {0}
MergedWithin (Err (G.Room n)) = n ≤ file_most

-- a place lies in its list
abbrev pub PlaceWithin : Place → Type 0
PlaceWithin p = p.0 < 2 ^ 48

abbrev pub FoundWithin : Option Found → Type 0
FoundWithin (Some (F.Boolean p)) = PlaceWithin p
FoundWithin (Some (F.Number p)) = PlaceWithin p
FoundWithin (Some (F.String p)) = PlaceWithin p
FoundWithin None = Unit {0}
