-- The cases of the numbers of the C calls that ask, as their code meets them.
-- Assumes nothing.
use mathlib.Core.Path.{◌≡◌, refl}
use mathlib.Core.Bool.{Bool, true, false}
use mathlib.Core.List.{List}
use Prim.Native.Nat.{ℕ, ◌+◌, ◌^◌, ◌≤◌, ◌<◌}
use native.Mathlib.Omega.{arith}
use lib.Dec.{ltb}
use lib.ListN.{length, take, length-take}
use borrow.Author.Tests.{ltb-true}
use Rattle.base.specs.If.{when◌then◌else◌}
use Rattle.edition.specs.declared.Edition.{Edition}
use Rattle.edition.specs.declared.Place.{Place}
use Rattle.edition.specs.Edition.{place}
use Rattle.std.specs.Prelude.{Option, Some, None}
use Rattle.entry.specs.declared.Part.{Part}
use Rattle.entry.specs.declared.State as S
use Rattle.entry.specs.Limits.{file_most}
use Rattle.entry.specs.State.{present}
use Rattle.base.specs.Answer.{is_given}
use Rattle.entry.specs.Asking.{opening, asking_names, asking_string}
use Rattle.entry.specs.Says.{says_asked, says_state}
use Rattle.names.specs.declared.Found.TheVariants as F
use Rattle.names.specs.Names.{boolean_names, number_names, string_names, booleans_named, numbers_named, strings_named, all_named}
use Rattle.names.specs.Lookup.{looking_up}
use Rattle.names.proofs.LookupLaws.{booleans_length, numbers_length, strings_length}
use Rattle.opened_file.proofs.Laws.{asking_given, opened_accepted, names_inside, string_inside}
use Rattle.c_numbers.specs.Numbers.{NamesWithin, PartWithin, StateWithin, FoundWithin}

-- ---- parts lie in a file

file_most_lem : (e : Edition) (f : List ℕ) → is_given (opening e f) ≡ true → length f ≤ file_most
file_most_lem e f h = (opened_accepted e f h).most

pub names_within : (e : Edition) (f : List ℕ) (r : Option Part) → says_asked r ≡ asking_names e f → NamesWithin r
names_within e f (Some p) h =
    let l : p.start + p.length ≤ length f = names_inside e f p h in
    let m : length f ≤ file_most = file_most_lem e f (asking_given _ _ _ _ p h).0 in
    omega arith
names_within e f None h = tt

pub string_within : (e : Edition) (f : List ℕ) (p : Place) (r : Option (S.State Part)) → says_state r ≡ asking_string e f p
    → StateWithin PartWithin r
string_within e f p (Some S.TheVariants.Absent) h = tt
string_within e f p (Some S.TheVariants.Cancelled) h = tt
string_within e f p (Some (S.TheVariants.Present q)) h =
    let l : q.start + q.length ≤ length f = string_inside e f p q h in
    let m : length f ≤ file_most = file_most_lem e f (asking_given _ _ _ _ (present q) h).0 in
    omega arith
string_within e f p None h = tt

-- ---- a name's place lies in its list

there_below : (c n : ℕ) (names : List (List ℕ)) (i : ℕ) → length names ≡ n → n ≤ all_named
    → ltb i (length (take c names)) ≡ true → i < 2 ^ 48
there_below c n names i e b h =
    let l = ltb-true i (length (take c names)) h in
    let m = length-take c names in
    omega arith

by_tests : (x y z : Bool) (i j k : ℕ) → (x ≡ true → i < 2 ^ 48) → (y ≡ true → j < 2 ^ 48) → (z ≡ true → k < 2 ^ 48)
    → FoundWithin (when x then Some (F.Boolean (place i)) else when y then Some (F.Number (place j))
    else when z then Some (F.String (place k)) else None)
by_tests true y z i j k f g h = f refl
by_tests false true z i j k f g h = g refl
by_tests false false true i j k f g h = h refl
by_tests false false false i j k f g h = tt

pub found_within : (e : Edition) (n : List ℕ) → FoundWithin (looking_up e n)
unfolding looking_up
found_within e n =
    by_tests _ _ _ _ _ _
    (there_below e.booleans booleans_named boolean_names _ booleans_length (omega arith))
    (there_below e.numbers numbers_named number_names _ numbers_length (omega arith))
    (there_below e.strings strings_named string_names _ strings_length (omega arith))
