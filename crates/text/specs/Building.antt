-- Descriptions that build on others (document 02, 2026-02): names and uses, the names' totals, the wanted description,
-- and the entry that it comes to.
-- Assumes nothing.
use Rattle.std.specs.Prelude.{Bool, false, ◌||◌, List, [], ◌∷◌, map, ℕ, suc, leb, length, get_or}
use Rattle.base.specs.If.{when◌then◌else◌}
use Rattle.base.specs.Tabulate.{tabulate}
use Rattle.base.specs.Answer.{Answer, refused, gives, and_then}
use Rattle.edition.specs.declared.Edition.{Edition}
use Rattle.edition.specs.Edition.{place}
use Rattle.entry.specs.Limits.{given_names_most}
use Rattle.entry.specs.Reading.{Entry, held_boolean, held_number, held_string}
use Rattle.entry.specs.Merging.{over}
use Rattle.names.specs.Lookup.{same_bytes}
use Rattle.uses.specs.Walk.{Use, missing, found, Graph, bind, built}
use Rattle.text.specs.Heading.{names_in}
use Rattle.text.specs.Describing.{Saying, nothing, boolean, number, string, uses, SayingAt, described, bare}
use Rattle.text.specs.Describing.{Description, description, describing}

-- ---- names: "names one by any name but its last"

unfoldable pub all_but_last : List (List ℕ) → List (List ℕ)
all_but_last [] = []
all_but_last (n ∷ []) = []
all_but_last (n ∷ m ∷ ns) = n ∷ all_but_last (m ∷ ns)

unfoldable pub is_among : List ℕ → List (List ℕ) → Bool
is_among n [] = false
is_among n (m ∷ ms) = same_bytes n m || is_among n ms

-- the names of a header have the name
unfoldable pub has_name : List ℕ → List ℕ → Bool
has_name n names = is_among n (all_but_last (names_in names))

-- the description that has a name, by its number in the text, or none
pub data Having : Type 0 where
  nobody : Having
  numbered : ℕ → Having

-- "of two with one name the earlier counts": the first that has the name, where the first of these is the k-th
unfoldable pub having_from : ℕ → List ℕ → List Description → Having
having_from k n [] = nobody
having_from k n (d ∷ ds) = when has_name n d.names then numbered k else having_from (suc k) n ds

abbrev pub having : List ℕ → List Description → Having
having n ds = having_from 0 n ds

-- ---- uses

-- a `use` field: its first byte, and the name in it
pub record UseAt : Type 0 where
  pub place : ℕ
  pub name : List ℕ

abbrev pub with_use : ℕ → Saying → List UseAt → List UseAt
with_use p nothing us = us
with_use p (boolean q s) us = us
with_use p (number q s) us = us
with_use p (string q s) us = us
with_use p (uses n) us = record { place = p; name = n } ∷ us

-- the `use` fields among the fields, from left to right
unfoldable pub uses_in : List SayingAt → List UseAt
uses_in [] = []
uses_in (s ∷ ss) = with_use s.place s.saying (uses_in ss)

abbrev pub found_as : ℕ → Having → Use
found_as p nobody = missing p
found_as p (numbered d) = found p d

abbrev pub description_at : List Description → ℕ → Description
description_at ds d = get_or ds d (description 0 [] [])

-- the uses of each description of a text
unfoldable pub uses_of : List Description → Graph
uses_of ds d =
    map (λ (u : UseAt). found_as u.place (having u.name ds)) (uses_in (description_at ds d).sayings)

-- ---- states

-- "A's names; each state is A's unless absent, then B's", at the places that an edition knows
unfoldable pub over_in : Edition → Entry → Entry → Entry
over_in e a b =
    record {
      names = a.names;
      booleans = tabulate (λ i. over (held_boolean a (place i)) (held_boolean b (place i))) e.booleans;
      numbers = tabulate (λ i. over (held_number a (place i)) (held_number b (place i))) e.numbers;
      strings = tabulate (λ i. over (held_string a (place i)) (held_string b (place i))) e.strings;
    }

-- "A description's own fields", wherever they stand
unfoldable pub own_of : Edition → List Description → ℕ → Entry
own_of e ds d = described (bare e (description_at ds d).names) (description_at ds d).sayings

-- "The states must equal document 01's merge of states applied along the tree"
abbrev pub outcome : Edition → List Description → ℕ → Answer Entry
outcome e ds d = built (over_in e) (own_of e ds) (uses_of ds) d

-- ---- the order: "after all of 10, 11 and 13 in the whole text, each names total included (those after every field,
-- the earliest first): first 18 for the wanted name, then along what it reaches"

-- "names total": all names of a header, with the bars
unfoldable pub totals : List Description → Answer Unit
totals [] = gives tt
totals (d ∷ ds) = when leb (length d.names) given_names_most then totals ds else refused 13 (d.place ∷ [])

-- "The compile call names the one wanted likewise (the program: the text's first)"
pub data Wanted : Type 0 where
  first : Wanted
  named : List ℕ → Wanted

abbrev pub wanted_as : Having → Answer ℕ
wanted_as nobody = refused 18 (0 ∷ [])
wanted_as (numbered d) = gives d

abbrev pub wanted_in : List Description → Wanted → Answer ℕ
wanted_in ds first = gives 0
wanted_in ds (named n) = wanted_as (having n ds)

-- the entry that the wanted description of some descriptions comes to
unfoldable pub building : Edition → Wanted → List Description → Answer Entry
building e w ds = and_then (totals ds) (bind (wanted_in ds w) (outcome e ds))

-- the entry that the wanted description of a text comes to
unfoldable pub building_text : Edition → List ℕ → Wanted → Answer Entry
building_text e t w = bind (describing e t) (building e w)
