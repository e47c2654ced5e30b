-- Entries that hold their file: which numbers opening gives them, and what asking them gives (document 01: Compiled
-- entry).
-- Assumes nothing.
use Rattle.std.specs.Prelude.{◌≡◌, Bool, true, false, ◌&&◌, ◌||◌, List, [], ℕ, eqb, get_or}
use Rattle.std.specs.Prelude.{Option, Some, None, Result, Ok, Err}
use Rattle.base.specs.If.{when◌then◌else◌}
use Rattle.edition.specs.declared.Edition.{Edition}
use Rattle.edition.specs.declared.Place.{Place}
use Rattle.entry.specs.declared.Tables.{Tables}
use Rattle.entry.specs.declared.Beyond.{Beyond}
use Rattle.entry.specs.declared.Part.{Part}
use Rattle.entry.specs.State.{State}
use Rattle.base.specs.Answer.{Answer, refused, gives}
use Rattle.entry.specs.Layout.{sizes_of, beyond_of}
use Rattle.entry.specs.declared.Opening.{Opening}
use Rattle.entry.specs.declared.FileRefusal.{FileRefusal}
use Rattle.entry.specs.Asking.{opening, asking, asking_names, asking_boolean, asking_number, asking_string}
use Rattle.entry_numbers.specs.declared.EntryNumbers.{EntryNumbers}
use Rattle.entry.specs.Says.{refused_file, says_file}
use Rattle.entry_numbers.specs.declared.EntryRefusal.{EntryRefusal}
use Rattle.entry_numbers.specs.declared.EntryRefusal.TheVariants as E

-- what opening answers, as an entry's numbers: on a refusal all are 0 but the refusal's own and its position, which is
-- 0 where it gives none
abbrev pub numbers_of : Edition → Answer Opening → EntryNumbers
numbers_of e (refused n v) =
    record {
      edition = record { booleans = 0; numbers = 0; strings = 0 };
      tables =
          record {
            booleans = 0;
            numbers = 0;
            strings = 0;
            booleans_at = 0;
            numbers_at = 0;
            strings_at = 0;
            table_at = 0;
          };
      beyond = record { booleans = 0; numbers = 0; strings = 0 };
      refusal = n;
      position = get_or v 0 0;
    }
numbers_of e (gives o) = record { edition = e; tables = o.tables; beyond = o.beyond; refusal = 0; position = 0 }

-- the numbers that opening gives for a file's bytes
abbrev pub opened : Edition → List ℕ → EntryNumbers
opened e f = numbers_of e (opening e f)

-- ---- whether two entries have the same numbers

unfoldable pub same_edition : Edition → Edition → Bool
same_edition a b = eqb a.booleans b.booleans && (eqb a.numbers b.numbers && eqb a.strings b.strings)

unfoldable pub same_tables : Tables → Tables → Bool
same_tables a b =
    eqb a.booleans b.booleans && (eqb a.numbers b.numbers && (eqb a.strings b.strings
    && (eqb a.booleans_at b.booleans_at && (eqb a.numbers_at b.numbers_at
    && (eqb a.strings_at b.strings_at && eqb a.table_at b.table_at)))))

unfoldable pub same_beyond : Beyond → Beyond → Bool
same_beyond a b = eqb a.booleans b.booleans && (eqb a.numbers b.numbers && eqb a.strings b.strings)

unfoldable pub same : EntryNumbers → EntryNumbers → Bool
same a b =
    same_edition a.edition b.edition && (same_tables a.tables b.tables
    && (same_beyond a.beyond b.beyond && (eqb a.refusal b.refusal && eqb a.position b.position)))

-- ---- asking an entry of file f and numbers n

-- whether opening gives these numbers for f, in some edition: in their own, or refused where the edition was too
-- large (3)
unfoldable pub from_opening : List ℕ → EntryNumbers → Bool
from_opening f n = same n (opened n.edition f) || same n (numbers_of n.edition (refused 3 []))

-- an answer, but for what it gives
abbrev pub refusal_of : {A : Type 0} → Answer A → Answer (Unit {0})
refusal_of (refused n v) = refused n v
refusal_of (gives x) = gives tt

-- other numbers than opening gives in their edition: those of an edition that was too large, or 17, "entry not from
-- opening"
abbrev pub refusal_else : EntryNumbers → Answer (Unit {0})
refusal_else n = when same n (numbers_of n.edition (refused 3 [])) then refused 3 [] else refused 17 []

-- what opening said of the file
unfoldable pub entry_refusal : List ℕ → EntryNumbers → Answer (Unit {0})
entry_refusal f n =
    when same n (opened n.edition f) then refusal_of (opening n.edition f)
    else refusal_else n

abbrev pub says_refusal : Result (Unit {0}) EntryRefusal → Answer (Unit {0})
says_refusal (Ok _) = gives tt
says_refusal (Err (E.File r)) = refused_file r
says_refusal (Err E.NotOpened) = refused 17 []

-- "If callers can make an entry without opening, one that opening wouldn't give for its bytes is answered 17 too"
unfoldable pub asked : {A : Type 0} → List ℕ → EntryNumbers → Answer A → Answer A
asked f n a = when same n (opened n.edition f) then a else refused 17 []

abbrev pub entry_names : List ℕ → EntryNumbers → Answer Part
entry_names f n = asked f n (asking_names n.edition f)

abbrev pub entry_boolean : List ℕ → EntryNumbers → Place → Answer (State Unit)
entry_boolean f n p = asked f n (asking_boolean n.edition f p)

abbrev pub entry_number : List ℕ → EntryNumbers → Place → Answer (State ℕ)
entry_number f n p = asked f n (asking_number n.edition f p)

abbrev pub entry_string : List ℕ → EntryNumbers → Place → Answer (State Part)
entry_string f n p = asked f n (asking_string n.edition f p)

-- "per list, how many slots lie beyond the reader's edition"
abbrev pub entry_beyond : List ℕ → EntryNumbers → Answer Beyond
entry_beyond f n = asked f n (asking n.edition f true (beyond_of n.edition (sizes_of f)))

-- what opening answers for the file of an entry that has the numbers which it gives
abbrev pub OpenedAs : List ℕ → EntryNumbers → Option (Result Opening FileRefusal) → Type 0
OpenedAs f n (Some r) = (says_file r ≡ opening n.edition f) × (same n (opened n.edition f) ≡ true)
OpenedAs f n None = same n (opened n.edition f) ≡ false
