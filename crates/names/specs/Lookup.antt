-- The capability of a name (document 01: Three ordered lists).
-- Assumes nothing.
use Rattle.std.specs.Prelude.{Bool, true, false, ◌&&◌, not, List, [], ◌∷◌, ℕ, eqb, ltb, length, get_or, take}
use Rattle.std.specs.Prelude.{Option, Some, None}
use Rattle.base.specs.If.{when◌then◌else◌}
use Rattle.base.specs.Scan.{scan}
use Rattle.edition.specs.declared.Edition.{Edition}
use Rattle.edition.specs.Edition.{place}
use Rattle.names.specs.declared.Found.{Found}
use Rattle.names.specs.declared.Found.TheVariants as F
use Rattle.names.specs.Names.{boolean_names, number_names, string_names}

unfoldable pub same_bytes : List ℕ → List ℕ → Bool
same_bytes [] [] = true
same_bytes [] (y ∷ ys) = false
same_bytes (x ∷ xs) [] = false
same_bytes (x ∷ xs) (y ∷ ys) = eqb x y && same_bytes xs ys

-- the place of a name in a list; the list's length where it isn't there
unfoldable pub place_in : List (List ℕ) → List ℕ → ℕ
place_in ns n = scan (λ i. not (same_bytes (get_or ns i []) n)) 0 (length ns)

abbrev pub is_there : List (List ℕ) → List ℕ → Bool
is_there ns n = ltb (place_in ns n) (length ns)

-- an edition knows the beginning of each list that it counts
unfoldable pub looking_up : Edition → List ℕ → Option Found
looking_up e n =
    when is_there (take e.booleans boolean_names) n then
    Some (F.Boolean (place (place_in (take e.booleans boolean_names) n)))
    else when is_there (take e.numbers number_names) n then
    Some (F.Number (place (place_in (take e.numbers number_names) n)))
    else when is_there (take e.strings string_names) n then
    Some (F.String (place (place_in (take e.strings string_names) n)))
    else None
