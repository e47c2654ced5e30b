-- The name of a temporary file in the folder of another file.
-- Assumes nothing.
use Rattle.std.specs.Prelude.{List, ◌++◌, ℕ, zero, suc, eqb, length, get_or, take}
use Rattle.base.specs.If.{when◌then◌else◌}
use Rattle.names.specs.Names.{ascii}

-- the room for a path
abbrev pub path_room : ℕ
path_room = 4096

-- of the first n bytes of a path, those up to the last slash (47), with it
unfoldable pub folder_in : List ℕ → ℕ → ℕ
folder_in p zero = 0
folder_in p (suc i) = when eqb (get_or p i 0) 47 then suc i else folder_in p i

-- the path's folder, and in it a name that holds the number
unfoldable pub beside : List ℕ → List ℕ → List ℕ
beside path number = take (folder_in path (length path)) path ++ (ascii ".ti-" ++ number)
