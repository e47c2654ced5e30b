-- What opening and asking give (document 01: Compiled entry; Numbers of refusal, order of reading and 17).
-- Assumes nothing.
use Rattle.std.specs.Prelude.{Bool, true, ◌&&◌, not, List, [], ℕ}
use Rattle.base.specs.If.{when◌then◌else◌}
use Rattle.edition.specs.declared.Edition.{Edition}
use Rattle.edition.specs.declared.Place.{Place}
use Rattle.edition.specs.Edition.{ok_edition, knows}
use Rattle.entry.specs.declared.Sizes.{Sizes}
use Rattle.entry.specs.declared.Opening.{Opening}
use Rattle.entry.specs.declared.Part.{Part}
use Rattle.entry.specs.State.{State}
use Rattle.base.specs.Answer.{Answer, refused, gives, map_answer, is_given}
use Rattle.entry.specs.Layout.{sizes_of, tables_of, beyond_of}
use Rattle.entry.specs.Reading.{reading, names_part, boolean_in, number_in, part_in}

-- what opening gives: the tables' places and, per list, how many slots lie beyond the edition
abbrev pub opening_of : Edition → Sizes → Opening
opening_of e s = record { tables = tables_of s; beyond = beyond_of e s }

-- "Order of reading: edition 3, then .."
unfoldable pub opening : Edition → List ℕ → Answer Opening
opening e f = when not (ok_edition e) then refused 3 [] else map_answer (opening_of e) (reading f)

-- "An asked place beyond the edition is 17". Left free by document 01: a place of a file that opening refuses. It is 17
-- too, since a file with an edition is an entry made without opening, "one that opening wouldn't give for its bytes"
unfoldable pub asking : {A : Type 0} → Edition → List ℕ → Bool → A → Answer A
asking e f known x = when is_given (opening e f) && known then gives x else refused 17 []

abbrev pub asking_names : Edition → List ℕ → Answer Part
asking_names e f = asking e f true (names_part (sizes_of f))

abbrev pub asking_boolean : Edition → List ℕ → Place → Answer (State Unit)
asking_boolean e f p = asking e f (knows e.booleans p) (boolean_in f (sizes_of f) p)

abbrev pub asking_number : Edition → List ℕ → Place → Answer (State ℕ)
asking_number e f p = asking e f (knows e.numbers p) (number_in f (sizes_of f) p)

abbrev pub asking_string : Edition → List ℕ → Place → Answer (State Part)
asking_string e f p = asking e f (knows e.strings p) (part_in f (sizes_of f) p)

-- "A present string is handed back as that part of the caller's bytes": in every other case the empty part at the
-- file's start
abbrev pub part_given : Answer (State Part) → Part
part_given (refused n v) = record { start = 0; length = 0 }
part_given (gives State.absent) = record { start = 0; length = 0 }
part_given (gives State.cancelled) = record { start = 0; length = 0 }
part_given (gives (State.present p)) = p

-- the names as a part, and the empty part at the file's start where they are refused
abbrev pub names_given : Answer Part → Part
names_given (refused n v) = record { start = 0; length = 0 }
names_given (gives p) = p
