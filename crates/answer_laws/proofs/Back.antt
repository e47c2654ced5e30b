-- For each enum of answers, the answer that says a thing: a left inverse of what answers say. It looks at a refusal's
-- number and first value only, in merging at two, so that it serves numbers for C too.
-- Assumes nothing.
use Rattle.std.specs.Prelude.{Option, Some, None, Result, Ok, Err}
use mathlib.Core.Path.{◌≡◌, refl}
use mathlib.Core.List.{[], ◌∷◌}
use Prim.Native.Nat.{ℕ}
use lib.Dec.{eqb}
use lib.ListN.{get_or}
use Rattle.base.specs.If.{when◌then◌else◌}
use Rattle.base.specs.Answer.{Answer, refused, gives}
use Rattle.entry.specs.declared.FileRefusal.{FileRefusal}
use Rattle.entry.specs.declared.FileRefusal.TheVariants as R
use Rattle.entry.specs.declared.State as S
use Rattle.entry.specs.declared.WriteRefusal.{WriteRefusal}
use Rattle.entry.specs.declared.WriteRefusal.TheVariants as W
use Rattle.entry.specs.declared.MergeRefusal.{MergeRefusal}
use Rattle.entry.specs.declared.MergeRefusal.TheVariants as G
use Rattle.entry.specs.State.{State, absent, cancelled, present}
use Rattle.entry.specs.Says.{file_number, file_position, says_file, says_asked, says_state, says_written, says_merged}
use Rattle.entry_numbers.specs.declared.EntryRefusal.{EntryRefusal}
use Rattle.entry_numbers.specs.declared.EntryRefusal.TheVariants as Q
use Rattle.entry_numbers.specs.Entries.{says_refusal}
use Rattle.list_states.specs.declared.ListRefusal.{ListRefusal}
use Rattle.list_states.specs.declared.ListRefusal.TheVariants as L
use Rattle.list_states.specs.Listing.{says_listed}
use Rattle.names.specs.Naming.{says_name}
use Rattle.names.specs.declared.Found.{Found}
use Rattle.names.specs.declared.Found.TheVariants as F
use Rattle.names.specs.Finding.{Capability, says_found}
use Rattle.edition.specs.declared.Kind.{Kind}
use Rattle.edition.specs.declared.Kind.TheVariants as K
use Rattle.edition.specs.declared.Place.{Place}
use Rattle.text.specs.declared.TextRefusal.{TextRefusal}
use Rattle.text.specs.declared.TextRefusal.TheVariants as T
use Rattle.text.specs.declared.CompileRefusal.{CompileRefusal}
use Rattle.text.specs.declared.CompileRefusal.TheVariants as C
use Rattle.text.specs.Compiling.{text_number, says_compiled}
use Rattle.expansion.specs.declared.Output.{Output}
use Rattle.expansion.specs.declared.ExpansionRefusal.{ExpansionRefusal}
use Rattle.expansion.specs.declared.ExpansionRefusal.TheVariants as E
use Rattle.expansion.specs.Expanding.{Counts, says_expansion}

-- a refusal's number with its first value, 0 where it gives none
abbrev pub plain : {A : Type 0} → Answer A → Answer A
plain (refused n v) = refused n (get_or v 0 0 ∷ [])
plain (gives x) = gives x

abbrev pub file : ℕ → ℕ → FileRefusal
file n at =
    when eqb n 1 then R.Length else when eqb n 2 then R.Magic else when eqb n 3 then R.Counts else when eqb n 4 then R.Names at
    else when eqb n 5 then R.Boolean at else when eqb n 6 then R.Number at else R.Slot at

pub file_back : (r : FileRefusal) → file (file_number r) (file_position r) ≡ r
file_back R.Length = refl
file_back R.Magic = refl
file_back R.Counts = refl
file_back (R.Names at) = refl
file_back (R.Boolean at) = refl
file_back (R.Number at) = refl
file_back (R.Slot at) = refl

abbrev pub text : ℕ → TextRefusal
text n =
    when eqb n 10 then T.Malformed else when eqb n 11 then T.Unknown else when eqb n 13 then T.Limit
    else when eqb n 18 then T.NotFound else when eqb n 19 then T.Circular else T.NinthUse

pub text_back : (r : TextRefusal) → text (text_number r) ≡ r
text_back T.Malformed = refl
text_back T.Unknown = refl
text_back T.Limit = refl
text_back T.NotFound = refl
text_back T.Circular = refl
text_back T.NinthUse = refl

-- judging and opening
abbrev pub read : {A : Type 0} → Answer A → Result A FileRefusal
read (gives x) = Ok x
read (refused n v) = Err (file n (get_or v 0 0))

pub read_back : {A : Type 0} (r : Result A FileRefusal) → read (plain (says_file r)) ≡ r
read_back (Ok x) = refl
read_back (Err r) = rw (file_back r)

abbrev pub asked : {A : Type 0} → Answer A → Option A
asked (gives x) = Some x
asked (refused n v) = None

pub asked_back : {A : Type 0} (r : Option A) → asked (plain (says_asked r)) ≡ r
asked_back (Some x) = refl
asked_back None = refl

abbrev pub state : {A : Type 0} → Answer (State A) → Option (S.State A)
state (gives absent) = Some S.TheVariants.Absent
state (gives cancelled) = Some S.TheVariants.Cancelled
state (gives (present x)) = Some (S.TheVariants.Present x)
state (refused n v) = None

pub state_back : {A : Type 0} (r : Option (S.State A)) → state (plain (says_state r)) ≡ r
state_back (Some S.TheVariants.Absent) = refl
state_back (Some S.TheVariants.Cancelled) = refl
state_back (Some (S.TheVariants.Present x)) = refl
state_back None = refl

abbrev pub refusal : Answer (Unit {0}) → Result (Unit {0}) EntryRefusal
refusal (gives x) = Ok x
refusal (refused n v) = Err (when eqb n 17 then Q.NotOpened else Q.File (file n (get_or v 0 0)))

pub refusal_back : (r : Result (Unit {0}) EntryRefusal) → refusal (plain (says_refusal r)) ≡ r
refusal_back (Ok x) = refl
refusal_back (Err (Q.File R.Length)) = refl
refusal_back (Err (Q.File R.Magic)) = refl
refusal_back (Err (Q.File R.Counts)) = refl
refusal_back (Err (Q.File (R.Names at))) = refl
refusal_back (Err (Q.File (R.Boolean at))) = refl
refusal_back (Err (Q.File (R.Number at))) = refl
refusal_back (Err (Q.File (R.Slot at))) = refl
refusal_back (Err Q.NotOpened) = refl

abbrev pub listed : Answer (Unit {0}) → Result (Unit {0}) ListRefusal
listed (gives x) = Ok x
listed (refused n v) = Err (when eqb n 8 then L.Room (get_or v 0 0) else L.File (file n (get_or v 0 0)))

pub listed_back : (r : Result (Unit {0}) ListRefusal) → listed (plain (says_listed r)) ≡ r
listed_back (Ok x) = refl
listed_back (Err (L.File R.Length)) = refl
listed_back (Err (L.File R.Magic)) = refl
listed_back (Err (L.File R.Counts)) = refl
listed_back (Err (L.File (R.Names at))) = refl
listed_back (Err (L.File (R.Boolean at))) = refl
listed_back (Err (L.File (R.Number at))) = refl
listed_back (Err (L.File (R.Slot at))) = refl
listed_back (Err (L.Room n)) = refl

abbrev pub written : Answer ℕ → Result ℕ WriteRefusal
written (gives n) = Ok n
written (refused n v) =
    Err (when eqb n 3 then W.Counts else when eqb n 4 then W.Names else when eqb n 7 then W.Lent
    else when eqb n 13 then W.Limit else when eqb n 9 then W.Size else W.Room (get_or v 0 0))

pub written_back : (r : Result ℕ WriteRefusal) → written (plain (says_written r)) ≡ r
written_back (Ok n) = refl
written_back (Err W.Counts) = refl
written_back (Err W.Names) = refl
written_back (Err W.Lent) = refl
written_back (Err W.Limit) = refl
written_back (Err W.Size) = refl
written_back (Err (W.Room n)) = refl

-- which file, 0 for the edition, its refusal's number and position
abbrev pub of_file : ℕ → ℕ → ℕ → MergeRefusal
of_file k n at = when eqb k 0 then G.Edition else when eqb k 1 then G.First (file n at) else G.Second (file n at)

abbrev pub merged : Answer ℕ → Result ℕ MergeRefusal
merged (gives n) = Ok n
merged (refused n v) =
    Err (when eqb n 9 then G.Size else when eqb n 8 then G.Room (get_or v 0 0)
    else of_file (get_or v 0 0) n (get_or v 1 0))

pub merged_back : (r : Result ℕ MergeRefusal) → merged (says_merged r) ≡ r
merged_back (Ok n) = refl
merged_back (Err G.Edition) = refl
merged_back (Err (G.First R.Length)) = refl
merged_back (Err (G.First R.Magic)) = refl
merged_back (Err (G.First R.Counts)) = refl
merged_back (Err (G.First (R.Names at))) = refl
merged_back (Err (G.First (R.Boolean at))) = refl
merged_back (Err (G.First (R.Number at))) = refl
merged_back (Err (G.First (R.Slot at))) = refl
merged_back (Err (G.Second R.Length)) = refl
merged_back (Err (G.Second R.Magic)) = refl
merged_back (Err (G.Second R.Counts)) = refl
merged_back (Err (G.Second (R.Names at))) = refl
merged_back (Err (G.Second (R.Boolean at))) = refl
merged_back (Err (G.Second (R.Number at))) = refl
merged_back (Err (G.Second (R.Slot at))) = refl
merged_back (Err G.Size) = refl
merged_back (Err (G.Room n)) = refl

abbrev pub compiled : Answer ℕ → Result ℕ CompileRefusal
compiled (gives n) = Ok n
compiled (refused n v) =
    Err (when eqb n 3 then C.Edition else when eqb n 1 then C.Length else when eqb n 9 then C.Size
    else when eqb n 8 then C.Room (get_or v 0 0) else C.Refused (record { why = text n; at = get_or v 0 0 }))

refused_back : (w : TextRefusal) (at : ℕ)
    → compiled (refused (text_number w) (at ∷ [])) ≡ Err (C.Refused (record { why = w; at = at }))
refused_back T.Malformed at = refl
refused_back T.Unknown at = refl
refused_back T.Limit at = refl
refused_back T.NotFound at = refl
refused_back T.Circular at = refl
refused_back T.NinthUse at = refl

pub compiled_back : (r : Result ℕ CompileRefusal) → compiled (plain (says_compiled r)) ≡ r
compiled_back (Ok n) = refl
compiled_back (Err C.Edition) = refl
compiled_back (Err C.Length) = refl
compiled_back (Err (C.Refused r)) = refused_back r.why r.at
compiled_back (Err C.Size) = refl
compiled_back (Err (C.Room n)) = refl

abbrev of_kind : Kind → Place → Found
of_kind K.Boolean p = F.Boolean p
of_kind K.Number p = F.Number p
of_kind K.String p = F.String p

abbrev pub found : Answer Capability → Option Found
found (gives c) = Some (of_kind c.kind c.place)
found (refused n v) = None

pub found_back : (r : Option Found) → found (plain (says_found r)) ≡ r
found_back (Some (F.Boolean p)) = refl
found_back (Some (F.Number p)) = refl
found_back (Some (F.String p)) = refl
found_back None = refl

abbrev pub expansion : Answer Counts → Result Output ExpansionRefusal
expansion (gives c) = Ok (record { length = c.length; steps = c.steps })
expansion (refused n v) =
    Err (when eqb n 17 then E.Place else when eqb n 1 then E.Length else when eqb n 14 then E.Malformed (get_or v 0 0)
    else when eqb n 15 then E.Empty (get_or v 0 0) else when eqb n 16 then E.Full (get_or v 0 0)
    else when eqb n 21 then E.Kind (get_or v 0 0) else E.Room (get_or v 0 0))

pub expansion_back : (r : Result Output ExpansionRefusal) → expansion (plain (says_expansion r)) ≡ r
expansion_back (Ok o) = refl
expansion_back (Err E.Place) = refl
expansion_back (Err E.Length) = refl
expansion_back (Err (E.Malformed i)) = refl
expansion_back (Err (E.Empty i)) = refl
expansion_back (Err (E.Full i)) = refl
expansion_back (Err (E.Kind i)) = refl
expansion_back (Err (E.Room n)) = refl
