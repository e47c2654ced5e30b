-- Every state of an edition in one call: what it answers and what it leaves in the lent arrays (document 01: Compiled
-- entry; Numbers of refusal). Each array has a number for each place of its list, as the writer takes them.
-- Assumes nothing.
use Rattle.std.specs.Prelude.{◌≡◌, ◌&&◌, not, List, [], ◌∷◌, ℕ, ◌≤◌, ◌<◌, leb, length, Result, Ok, Err}
use Rattle.base.specs.If.{when◌then◌else◌}
use Rattle.base.specs.Tabulate.{tabulate}
use Rattle.base.specs.Overwrite.{put_at}
use Rattle.base.specs.Answer.{Answer, refused, gives, map_answer, and_then}
use Rattle.edition.specs.declared.Edition.{Edition}
use Rattle.edition.specs.Edition.{place, strings_most}
use Rattle.entry.specs.State.{State}
use Rattle.entry.specs.Asking.{opening, asking_boolean, asking_number, asking_string, part_given}
use Rattle.entry.specs.Limits.{file_most}
use Rattle.entry.specs.Says.{file_position, refused_file}
use Rattle.list_states.specs.declared.ListRefusal.{ListRefusal}
use Rattle.list_states.specs.declared.ListRefusal.TheVariants as L
pub use Rattle.opened_file.specs.Kinds.{kind_given, present_or}

-- ---- the lent arrays

pub record Arrays : Type 0 where
  pub boolean_kinds : List ℕ
  pub number_kinds : List ℕ
  pub number_values : List ℕ
  pub string_kinds : List ℕ
  pub string_starts : List ℕ
  pub string_lengths : List ℕ

abbrev pub arrays : (boolean_kinds number_kinds number_values string_kinds string_starts string_lengths : List ℕ)
    → Arrays
arrays boolean_kinds number_kinds number_values string_kinds string_starts string_lengths =
    record {
      boolean_kinds = boolean_kinds;
      number_kinds = number_kinds;
      number_values = number_values;
      string_kinds = string_kinds;
      string_starts = string_starts;
      string_lengths = string_lengths;
    }

-- how many places each of them has
pub record Rooms : Type 0 where
  pub boolean_kinds : ℕ
  pub number_kinds : ℕ
  pub number_values : ℕ
  pub string_kinds : ℕ
  pub string_starts : ℕ
  pub string_lengths : ℕ

abbrev pub rooms : (boolean_kinds number_kinds number_values string_kinds string_starts string_lengths : ℕ) → Rooms
rooms boolean_kinds number_kinds number_values string_kinds string_starts string_lengths =
    record {
      boolean_kinds = boolean_kinds;
      number_kinds = number_kinds;
      number_values = number_values;
      string_kinds = string_kinds;
      string_starts = string_starts;
      string_lengths = string_lengths;
    }

abbrev pub rooms_of : Arrays → Rooms
rooms_of a =
    rooms (length a.boolean_kinds) (length a.number_kinds) (length a.number_values) (length a.string_kinds)
    (length a.string_starts) (length a.string_lengths)

-- ---- a state by numbers

-- Its kind is `kind_given`. A present number; in every other case 0. A string's part is `part_given`, whose start and
-- length are 0 likewise. Nothing is refused at a place that the edition knows
abbrev pub value_given : Answer (State ℕ) → ℕ
value_given a = present_or 0 a

-- ---- the states of an edition: at each place that it knows, what asking gives there

abbrev pub boolean_kinds : Edition → List ℕ → List ℕ
boolean_kinds e f = tabulate (λ i. kind_given (asking_boolean e f (place i))) e.booleans

abbrev pub number_kinds : Edition → List ℕ → List ℕ
number_kinds e f = tabulate (λ i. kind_given (asking_number e f (place i))) e.numbers

abbrev pub number_values : Edition → List ℕ → List ℕ
number_values e f = tabulate (λ i. value_given (asking_number e f (place i))) e.numbers

abbrev pub string_kinds : Edition → List ℕ → List ℕ
string_kinds e f = tabulate (λ i. kind_given (asking_string e f (place i))) e.strings

abbrev pub string_starts : Edition → List ℕ → List ℕ
string_starts e f = tabulate (λ i. (part_given (asking_string e f (place i))).start) e.strings

abbrev pub string_lengths : Edition → List ℕ → List ℕ
string_lengths e f = tabulate (λ i. (part_given (asking_string e f (place i))).length) e.strings

abbrev pub states_of : Edition → List ℕ → Arrays
states_of e f =
    arrays (boolean_kinds e f) (number_kinds e f) (number_values e f) (string_kinds e f) (string_starts e f)
    (string_lengths e f)

-- 8, with the edition's count, where an array of the booleans, then of the numbers, then of the strings has fewer
-- places
unfoldable pub room_for : Edition → Rooms → Answer (Unit {0})
room_for e r =
    when not (leb e.booleans r.boolean_kinds) then refused 8 (e.booleans ∷ [])
    else when not (leb e.numbers r.number_kinds && leb e.numbers r.number_values) then
    refused 8 (e.numbers ∷ [])
    else when not (leb e.strings r.string_kinds
    && (leb e.strings r.string_starts && leb e.strings r.string_lengths)) then refused 8 (e.strings ∷ [])
    else gives tt

-- refused as opening is, then by the arrays' rooms
unfoldable pub listing : Edition → List ℕ → Rooms → Answer Arrays
listing e f r = and_then (opening e f) (and_then (room_for e r) (gives (states_of e f)))

-- ---- the call

-- the states stand at each array's start, and the places past them stay; a refusal "changes nothing lent"
abbrev pub arrays_after : Arrays → Answer Arrays → Arrays
arrays_after before (refused n v) = before
arrays_after before (gives a) =
    arrays (put_at before.boolean_kinds 0 a.boolean_kinds) (put_at before.number_kinds 0 a.number_kinds)
    (put_at before.number_values 0 a.number_values) (put_at before.string_kinds 0 a.string_kinds)
    (put_at before.string_starts 0 a.string_starts) (put_at before.string_lengths 0 a.string_lengths)

-- a call that is done says nothing more
abbrev pub done : {A : Type 0} → A → Unit {0}
done x = tt

abbrev pub says_listed : Result (Unit {0}) ListRefusal → Answer (Unit {0})
says_listed (Ok x) = gives tt
says_listed (Err (L.File r)) = refused_file r
says_listed (Err (L.Room n)) = refused 8 (n ∷ [])

-- what a call says, and the arrays before it and after it
pub record Lists (e : Edition) (f : List ℕ) (before after : Arrays) (says : Answer (Unit {0})) : Type 0 where
  pub answer : says ≡ map_answer done (listing e f (rooms_of before))
  pub lent : after ≡ arrays_after before (listing e f (rooms_of before))

-- a position is one of a file, and the count of a refusal 8 one of an edition's
abbrev pub ValueFits : Result (Unit {0}) ListRefusal → Type 0
ValueFits (Ok x) = Unit {0}
ValueFits (Err (L.File r)) = file_position r < file_most
ValueFits (Err (L.Room n)) = n ≤ strings_most
