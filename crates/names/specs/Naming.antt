-- Names by kind and place, and as the code's table has them.
-- Assumes nothing.
use Rattle.std.specs.Prelude.{List, [], ◌∷◌, map, ℕ, eqb, length, get_or, Option, Some, None}
use Rattle.base.specs.If.{when◌then◌else◌}
use Rattle.word.specs.Word.{word, bytes}
use Rattle.edition.specs.declared.Kind.{Kind}
use Rattle.edition.specs.declared.Place.{Place}
use Rattle.edition.specs.Edition.{knows}
use Rattle.base.specs.Answer.{Answer, refused, gives}
use Rattle.names.specs.Names.{names_of, all_names}

-- a name of at most eight bytes as a number, low byte first
unfoldable pub packed : List ℕ → ℕ
packed n = word 8 n 0

-- the bytes before the first NUL
unfoldable pub before_nul : List ℕ → List ℕ
before_nul [] = []
before_nul (b ∷ s) = when eqb b 0 then [] else b ∷ before_nul s

unfoldable pub unpacked : ℕ → List ℕ
unpacked w = before_nul (bytes 8 w)

-- the name at a place of a kind's list, as a number; 17 beyond the list
unfoldable pub naming : Kind → Place → Answer ℕ
naming k p = when knows (length (names_of k)) p then gives (packed (get_or (names_of k) p.0 [])) else refused 17 []

abbrev pub says_name : Option ℕ → Answer ℕ
says_name (Some w) = gives w
says_name None = refused 17 []

-- all names as the code's table has them
unfoldable pub packed_names : List ℕ
packed_names = map packed all_names
