-- What each case of an answer says: document 01's number and values, or what is given. The contracts are stated
-- through these, and no two answers of a call say the same, so that they determine the answer.
-- Assumes nothing.
use Rattle.std.specs.Prelude.{List, [], ◌∷◌, ℕ, get_or, Option, Some, None, Result, Ok, Err}
use Rattle.entry.specs.declared.Sizes.{Sizes}
use Rattle.entry.specs.declared.Part.{Part}
use Rattle.entry.specs.declared.FileRefusal.{FileRefusal}
use Rattle.entry.specs.declared.FileRefusal.TheVariants as R
use Rattle.entry.specs.declared.Opening.{Opening}
use Rattle.entry.specs.declared.State as S
use Rattle.entry.specs.declared.WriteRefusal.{WriteRefusal}
use Rattle.entry.specs.declared.WriteRefusal.TheVariants as W
use Rattle.entry.specs.declared.MergeRefusal.{MergeRefusal}
use Rattle.entry.specs.declared.MergeRefusal.TheVariants as G
use Rattle.entry.specs.State.{State, absent, cancelled, present}
use Rattle.base.specs.Answer.{Answer, refused, gives}
use Rattle.entry.specs.Merging.{of_file}

-- a file's refusal, and the position that it gives
abbrev pub file_number : FileRefusal → ℕ
file_number R.Length = 1
file_number R.Magic = 2
file_number R.Counts = 3
file_number (R.Names at) = 4
file_number (R.Boolean at) = 5
file_number (R.Number at) = 6
file_number (R.Slot at) = 7

abbrev pub file_values : FileRefusal → List ℕ
file_values R.Length = []
file_values R.Magic = []
file_values R.Counts = []
file_values (R.Names at) = at ∷ []
file_values (R.Boolean at) = at ∷ []
file_values (R.Number at) = at ∷ []
file_values (R.Slot at) = at ∷ []

-- 0 where it gives none
abbrev pub file_position : FileRefusal → ℕ
file_position r = get_or (file_values r) 0 0

abbrev pub refused_file : {A : Type 0} → FileRefusal → Answer A
refused_file r = refused (file_number r) (file_values r)

-- what is given, or a file's refusal
abbrev pub says_file : {A : Type 0} → Result A FileRefusal → Answer A
says_file (Ok x) = gives x
says_file (Err r) = refused_file r

-- what is given, or 17
abbrev pub says_asked : {A : Type 0} → Option A → Answer A
says_asked (Some x) = gives x
says_asked None = refused 17 []

abbrev pub state_meant : {A : Type 0} → S.State A → State A
state_meant S.TheVariants.Absent = absent
state_meant S.TheVariants.Cancelled = cancelled
state_meant (S.TheVariants.Present x) = present x

abbrev pub says_state : {A : Type 0} → Option (S.State A) → Answer (State A)
says_state (Some s) = gives (state_meant s)
says_state None = refused 17 []

abbrev pub write_number : WriteRefusal → ℕ
write_number W.Counts = 3
write_number W.Names = 4
write_number W.Lent = 7
write_number W.Limit = 13
write_number W.Size = 9
write_number (W.Room n) = 8

abbrev pub write_values : WriteRefusal → List ℕ
write_values (W.Room n) = n ∷ []
write_values _ = []

-- what is given is the file's length
abbrev pub says_written : Result ℕ WriteRefusal → Answer ℕ
says_written (Ok n) = gives n
says_written (Err r) = refused (write_number r) (write_values r)

abbrev pub refused_merge : MergeRefusal → Answer ℕ
refused_merge G.Edition = refused 3 []
refused_merge (G.First r) = of_file 1 (refused_file r)
refused_merge (G.Second r) = of_file 2 (refused_file r)
refused_merge G.Size = refused 9 []
refused_merge (G.Room n) = refused 8 (n ∷ [])

-- what is given is the file's length
abbrev pub says_merged : Result ℕ MergeRefusal → Answer ℕ
says_merged (Ok n) = gives n
says_merged (Err r) = refused_merge r
