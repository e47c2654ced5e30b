-- Capabilities as `ti show` names them, and decimal numbers.
-- Assumes nothing.
use Rattle.std.specs.Prelude.{List, [], ◌++◌, ℕ, length, get_or}
use Rattle.base.specs.If.{when◌then◌else◌}
use Rattle.edition.specs.declared.Kind.{Kind}
use Rattle.edition.specs.declared.Kind.TheVariants as Kinds
use Rattle.edition.specs.declared.Place.{Place}
use Rattle.edition.specs.Edition.{knows}
use Rattle.names.specs.Names.{ascii, names_of}
use Rattle.expansion.specs.Print.{digits}

-- a number in base 10
abbrev pub decimal : ℕ → List ℕ
decimal n = digits 10 97 n

-- what stands before a place
abbrev pub kind_word : Kind → List ℕ
kind_word Kinds.Boolean = ascii "boolean "
kind_word Kinds.Number = ascii "number "
kind_word Kinds.String = ascii "string "

-- the name at a place of a kind's list; where the list has none, the kind and the place
unfoldable pub name_of : Kind → Place → List ℕ
name_of k p = when knows (length (names_of k)) p then get_or (names_of k) p.0 [] else kind_word k ++ decimal p.0

-- room for either: a name has at most 8 bytes, a kind's word too, and a place at most 20 digits
abbrev pub name_room : ℕ
name_room = 28
