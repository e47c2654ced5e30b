-- The lines that `ti show` prints of a file in an edition: its names, each capability that is present or cancelled.
-- Assumes nothing.
use Rattle.std.specs.Prelude.{List, [], ◌∷◌, ◌++◌, ℕ, ◌+◌, ◌-◌, ltb, Option, Some, None}
use Rattle.base.specs.If.{when◌then◌else◌}
use Rattle.edition.specs.declared.Edition.{Edition}
use Rattle.edition.specs.declared.Kind.TheVariants.{Boolean, String}
use Rattle.edition.specs.declared.Place.{Place}
use Rattle.edition.specs.Edition.{place}
use Rattle.entry.specs.Limits.{file_most}
use Rattle.base.specs.Answer.{Answer, refused, gives}
use Rattle.entry.specs.Reading.{bytes_of}
use Rattle.entry.specs.declared.Opening.{Opening}
use Rattle.entry.specs.Asking.{asking_names, asking_boolean, asking_string, names_given}
use Rattle.names.specs.Names.{ascii}
use Rattle.names.specs.declared.Found.{Found}
use Rattle.names.specs.declared.Found.TheVariants as Capability
use Rattle.shown.specs.Shown.{shown}
use Rattle.show_names.specs.Line.{line_end, line_of}
use Rattle.show_names.specs.Naming.{name_of}
use Rattle.number_lines.specs.Numbers.{number_line}

-- bytes as they are shown: in contents 33 to 126 stand for themselves, in names, which hold spaces, 32 to 126
abbrev pub shown_content : List ℕ → List ℕ
shown_content s = shown 33 s

abbrev pub shown_names : List ℕ → List ℕ
shown_names s = shown 32 s

-- a present boolean stands alone
unfoldable pub boolean_line : Edition → List ℕ → Place → List ℕ
boolean_line e f p = line_of (name_of Boolean p) (λ x. []) (asking_boolean e f p)

-- a string stands after `=` (61)
unfoldable pub string_line : Edition → List ℕ → Place → List ℕ
string_line e f p = line_of (name_of String p) (λ q. 61 ∷ shown_content (bytes_of f q)) (asking_string e f p)

-- the k-th capability of the edition, from 0: its booleans, its numbers, then its strings
unfoldable pub capability_line : Edition → List ℕ → ℕ → List ℕ
capability_line e f k =
    when ltb k e.booleans then boolean_line e f (place k)
    else when ltb k (e.booleans + e.numbers) then number_line e f (place (k - e.booleans))
    else string_line e f (place (k - (e.booleans + e.numbers)))

-- how many capabilities are shown; none of a refused file
abbrev pub count_in : Edition → Answer Opening → ℕ
count_in e (refused n v) = 0
count_in e (gives o) = (e.booleans + e.numbers) + e.strings

-- the capability that looking a name up gave
abbrev pub found_line : Edition → List ℕ → Option Found → List ℕ
found_line e f (Some (Capability.Boolean p)) = boolean_line e f p
found_line e f (Some (Capability.Number p)) = number_line e f p
found_line e f (Some (Capability.String p)) = string_line e f p
found_line e f None = []

unfoldable pub names_line : Edition → List ℕ → List ℕ
names_line e f = ascii "names: " ++ (shown_names (bytes_of f (names_given (asking_names e f))) ++ line_end)

-- the most bytes of a file that the program reads: one more than a file may have, so that a longer one is refused and
-- never cut
abbrev pub file_room : ℕ
file_room = file_most + 1
