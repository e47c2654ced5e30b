-- What compiling gives (document 01: Source text; Numbers of refusal, order of text; document 02, 2026-01 and 2026-02).
-- Assumes nothing.
use Rattle.std.specs.Prelude.{not, List, [], ◌∷◌, ℕ, leb, length, Result, Ok, Err}
use Rattle.base.specs.If.{when◌then◌else◌}
use Rattle.edition.specs.declared.Edition.{Edition}
use Rattle.edition.specs.Edition.{ok_edition}
use Rattle.entry.specs.Limits.{given_names_most}
use Rattle.base.specs.Answer.{Answer, refused, gives}
use Rattle.entry.specs.Reading.{Entry}
use Rattle.entry.specs.Writing.{encode, fitting}
use Rattle.text.specs.declared.CompileRefusal.{CompileRefusal}
use Rattle.text.specs.declared.CompileRefusal.TheVariants as C
use Rattle.text.specs.Bytes.{text_most}
unfoldable pub use Rattle.text.specs.Refusals.{text_number, text_refused}
use Rattle.text.specs.Building.{Wanted, building_text}

-- "9, 8", "judged on the outcome only"; room is the buffer's length, and what is given is the file
abbrev pub fitted : ℕ → Answer Entry → Answer (List ℕ)
fitted room (refused n v) = refused n v
fitted room (gives x) = fitting room (encode x)

-- document 02, 2026-01: "an edition too large is 3, before all else"; "Text: 1 first"; then 10, 11 and 13 in the whole
-- text, the totals, 18 to 20, 9 and 8. Left free by document 02: an edition of more places than the lists have names.
-- It is not too large up to 64, 64 and 512, and what it counts beyond the names is absent
unfoldable pub compiling : Edition → List ℕ → Wanted → ℕ → Answer (List ℕ)
compiling e t w room =
    when not (ok_edition e) then refused 3 []
    else when not (leb (length t) text_most) then refused 1 []
    else fitted room (building_text e t w)

-- the same for an entry whose names are the text's only ones: "then names total above 127 (13), 9, 8"
unfoldable pub fitting_named : ℕ → Entry → Answer (List ℕ)
fitting_named room x =
    when not (leb (length x.names) given_names_most) then refused 13 (0 ∷ [])
    else fitting room (encode x)

-- ---- what each case of an answer says

-- what is given is the file's length
abbrev pub says_compiled : Result ℕ CompileRefusal → Answer ℕ
says_compiled (Ok n) = gives n
says_compiled (Err C.Edition) = refused 3 []
says_compiled (Err C.Length) = refused 1 []
says_compiled (Err (C.Refused r)) = text_refused r
says_compiled (Err C.Size) = refused 9 []
says_compiled (Err (C.Room n)) = refused 8 (n ∷ [])
