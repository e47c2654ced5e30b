-- Merging two compiled entries (document 01: Compiled entry; Numbers of refusal, order of merging; document 02,
-- 2026-05).
-- Assumes nothing.
use Rattle.std.specs.Prelude.{not, List, [], ◌∷◌, ℕ}
use Rattle.base.specs.If.{when◌then◌else◌}
use Rattle.base.specs.Tabulate.{tabulate}
use Rattle.edition.specs.declared.Edition.{Edition}
use Rattle.edition.specs.declared.Place.{Place}
use Rattle.edition.specs.Edition.{ok_edition, place}
use Rattle.entry.specs.State.{State, absent, cancelled, present}
use Rattle.base.specs.Answer.{Answer, refused, gives, and_then}
use Rattle.entry.specs.Layout.{sizes_of}
use Rattle.entry.specs.Reading.{Entry, bytes_of, reading, names_part, boolean_in, number_in, string_in}
use Rattle.entry.specs.Writing.{encode, fitting}

-- "each state is A's unless absent, then B's"
unfoldable pub over : {A : Type 0} → State A → State A → State A
over absent b = b
over cancelled b = cancelled
over (present x) b = present x

-- the state at a place, A's over B's
abbrev pub merged_boolean : List ℕ → List ℕ → Place → State Unit
merged_boolean a b p = over (boolean_in a (sizes_of a) p) (boolean_in b (sizes_of b) p)

abbrev pub merged_number : List ℕ → List ℕ → Place → State ℕ
merged_number a b p = over (number_in a (sizes_of a) p) (number_in b (sizes_of b) p)

abbrev pub merged_string : List ℕ → List ℕ → Place → State (List ℕ)
merged_string a b p = over (string_in a (sizes_of a) p) (string_in b (sizes_of b) p)

-- "What merging two accepted files in an edition gives is A's names and, at each place that it knows, A's state there
-- unless absent, then B's": slots past the edition are dropped, contents of any length are kept
unfoldable pub merged : Edition → List ℕ → List ℕ → Entry
merged e a b =
    record {
      names = bytes_of a (names_part (sizes_of a));
      booleans = tabulate (λ i. merged_boolean a b (place i)) e.booleans;
      numbers = tabulate (λ i. merged_number a b (place i)) e.numbers;
      strings = tabulate (λ i. merged_string a b (place i)) e.strings;
    }

-- "for every refusal of a file, 1 to 3 included, which of its two files it was", before the position
abbrev pub of_file : {A : Type 0} → ℕ → Answer A → Answer A
of_file k (refused n v) = refused n (k ∷ v)
of_file k (gives x) = gives x

-- "Merging: edition 3, first file, second file, 9, 8"; "the edition's 3 says neither", and neither do 9 and 8. Room is
-- the buffer's length, and what is given is the file
unfoldable pub merging : Edition → List ℕ → List ℕ → ℕ → Answer (List ℕ)
merging e a b room =
    when not (ok_edition e) then refused 3 []
    else and_then (of_file 1 (reading a))
    (and_then (of_file 2 (reading b))
    (fitting room (encode (merged e a b))))
