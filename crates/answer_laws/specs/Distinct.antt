-- No two answers of a call say the same, so that a contract that says what an answer says determines the answer.
-- Statements only: proofs/Distinct.antt has the proof. Assumes nothing.
use Rattle.std.specs.Prelude.{◌≡◌, ℕ}
use Rattle.entry.specs.declared.FileRefusal.{FileRefusal}
use Rattle.entry.specs.declared.Sizes.{Sizes}
use Rattle.entry.specs.declared.Opening.{Opening}
use Rattle.entry.specs.declared.Part.{Part}
use Rattle.entry.specs.declared.Beyond.{Beyond}
use Rattle.entry.specs.Says.{file_number, file_position, says_file, says_asked, says_state, says_written, says_merged}
use Rattle.names.specs.Naming.{says_name}
use Rattle.names.specs.Finding.{says_found}
use Rattle.text.specs.Compiling.{text_number, says_compiled}
use Rattle.expansion.specs.Expanding.{says_expansion}
use Rattle.entry_numbers.specs.Entries.{says_refusal}
use Rattle.list_states.specs.Listing.{says_listed}

abbrev pub Injective : {A B : Type 0} → (A → B) → Type 0
Injective {A} f = (x y : A) → f x ≡ f y → x ≡ y

pub record Distinct : Type 0 where
  -- a file's refusal by its number and its position
  pub file : (x y : FileRefusal) → file_number x ≡ file_number y → file_position x ≡ file_position y → x ≡ y
  pub text : Injective text_number
  -- judging and opening
  pub judged : Injective (says_file {A = Sizes})
  pub opened : Injective (says_file {A = Opening})
  pub names : Injective (says_asked {A = Part})
  pub boolean : Injective (says_state {A = Unit {0}})
  pub number : Injective (says_state {A = ℕ})
  pub string : Injective (says_state {A = Part})
  pub beyond : Injective (says_asked {A = Beyond})
  pub refusal : Injective says_refusal
  pub listed : Injective says_listed
  pub written : Injective says_written
  pub merged : Injective says_merged
  pub compiled : Injective says_compiled
  pub name : Injective says_name
  pub found : Injective says_found
  pub expansion : Injective says_expansion
