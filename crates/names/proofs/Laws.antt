-- A kind's list within all names.
-- Assumes nothing.
use mathlib.Core.Path.{◌≡◌}
use mathlib.Core.List.{List, []}
use Prim.Native.Nat.{ℕ, ◌+◌, ◌<◌}
use lib.Dec.{ltb}
use lib.ListN.{length, get_or}
use borrow.Author.Tests.{lt-ltb, le-ltb}
use Rattle.base.specs.If.{when◌then◌else◌}
use Rattle.base.proofs.IfLaws.{below_or}
use Rattle.edition.specs.declared.Place.{Place}
use Rattle.edition.specs.declared.Kind.TheVariants as Kinds
use Rattle.base.specs.Answer.{Answer, refused, gives}
use Rattle.names.specs.Names.{boolean_names, number_names, string_names, all_names, booleans_named, numbers_named, strings_named, strings_from}
use Rattle.names.specs.Naming.{packed, naming}
use Rattle.names.proofs.LookupLaws.{booleans_length, numbers_length, strings_length, booleans_listed, numbers_listed, strings_listed}

-- a list that stands in all names from first on
listed : (names all : List (List ℕ)) (first count : ℕ) → length names ≡ count → ((i : ℕ) → i < count → get_or all (first + i) [] ≡ get_or names i []) → (p : Place)
    → ◌≡◌ {A = Answer ℕ} (when ltb p.0 count then gives (packed (get_or all (first + p.0) [])) else refused 17 []) (when ltb p.0 (length names) then gives (packed (get_or names p.0 [])) else refused 17 [])
listed names all first count e h p =
    rw e (below_or p.0 count (λ l. rw (lt-ltb p.0 count l, h p.0 l)) (λ l. rw (le-ltb p.0 count l)))

pub named_boolean : (p : Place) → (when ltb p.0 booleans_named then gives (packed (get_or all_names (0 + p.0) [])) else refused 17 []) ≡ naming Kinds.Boolean p
unfolding naming
named_boolean p = listed boolean_names all_names 0 booleans_named booleans_length booleans_listed p

pub named_number : (p : Place) → (when ltb p.0 numbers_named then gives (packed (get_or all_names (booleans_named + p.0) [])) else refused 17 []) ≡ naming Kinds.Number p
unfolding naming
named_number p = listed number_names all_names booleans_named numbers_named numbers_length numbers_listed p

pub named_string : (p : Place) → (when ltb p.0 strings_named then gives (packed (get_or all_names (strings_from + p.0) [])) else refused 17 []) ≡ naming Kinds.String p
unfolding naming
named_string p = listed string_names all_names strings_from strings_named strings_length strings_listed p
