-- What is written from the arrays that listing leaves: statements, whose laws stand in proofs/WrittenLaws.antt.
-- Assumes nothing.
use Rattle.std.specs.Prelude.{◌≡◌, true, List, ℕ}
use Rattle.base.specs.Tabulate.{tabulate}
use Rattle.base.specs.Answer.{map_answer, is_given}
use Rattle.edition.specs.declared.Edition.{Edition}
use Rattle.edition.specs.declared.Place.{Place}
use Rattle.edition.specs.Edition.{place}
use Rattle.entry.specs.State.{map_state}
use Rattle.entry.specs.Layout.{sizes_of}
use Rattle.entry.specs.Reading.{Entry, bytes_of, names_part, boolean_in, number_in, string_in}
use Rattle.entry.specs.Asking.{opening, asking_names, asking_boolean, asking_number, asking_string}
use Rattle.entry.specs.Writing.{Handed}
use Rattle.entry.specs.Handed.{handed}
use Rattle.list_states.specs.Listing.{Arrays}

-- the arrays handed to the writer under the file's own names, with the file as the lent bytes
abbrev pub handed_back : List ℕ → Arrays → Handed
handed_back f a =
    handed (bytes_of f (names_part (sizes_of f))) a.boolean_kinds a.number_kinds a.number_values a.string_kinds
    a.string_starts a.string_lengths f

-- what a file holds, as an edition reads it
unfoldable pub entry_read : Edition → List ℕ → Entry
entry_read e f =
    record {
      names = bytes_of f (names_part (sizes_of f));
      booleans = tabulate (λ i. boolean_in f (sizes_of f) (place i)) e.booleans;
      numbers = tabulate (λ i. number_in f (sizes_of f) (place i)) e.numbers;
      strings = tabulate (λ i. string_in f (sizes_of f) (place i)) e.strings;
    }

-- two files that an edition opens and reads alike: the same names and, at each place, the same state. A place that it
-- does not know is 17 of both
pub record SameStates (e : Edition) (f g : List ℕ) : Type 0 where
  pub opens : is_given (opening e g) ≡ true
  pub names : map_answer (bytes_of g) (asking_names e g) ≡ map_answer (bytes_of f) (asking_names e f)
  pub booleans : (p : Place) → asking_boolean e g p ≡ asking_boolean e f p
  pub numbers : (p : Place) → asking_number e g p ≡ asking_number e f p
  pub strings : (p : Place)
      → map_answer (map_state (bytes_of g)) (asking_string e g p)
      ≡ map_answer (map_state (bytes_of f)) (asking_string e f p)
