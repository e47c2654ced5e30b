-- What a number for C tells (c_numbers/specs/Numbers.antt): its top byte is document 01's number, so that a success is
-- below 2 ^ 56 and a refusal isn't; the next byte of a state or a capability is its kind, 3 where it is refused;
-- bits 48 to 55 of a merge's are the file that it refuses; and equal numbers come from equal answers.
-- Statements only: proofs/Numbers.antt has the proof. Assumes nothing.
use Rattle.std.specs.Prelude.{◌≡◌, true, false, ℕ, ◌<◌, ◌≤◌, ◌/◌, ◌%◌, ◌^◌}
use Rattle.std.specs.Prelude.{Option, Some, None, Result, Ok, Err}
use Rattle.base.specs.Answer.{Answer, is_given, number_of}
use Rattle.edition.specs.declared.Kind.{Kind}
use Rattle.edition.specs.declared.Place.{Place}
use Rattle.entry.specs.declared.FileRefusal.{FileRefusal}
use Rattle.entry.specs.declared.Opening.{Opening}
use Rattle.entry.specs.declared.Part.{Part}
use Rattle.entry.specs.declared.State as S
use Rattle.entry.specs.declared.MergeRefusal.{MergeRefusal}
use Rattle.entry.specs.declared.MergeRefusal.TheVariants as G
use Rattle.entry.specs.Says.{file_position}
use Rattle.entry.specs.Says.{says_file, says_asked, says_state, says_written, says_merged}
use Rattle.list_states.specs.Listing.{says_listed, ValueFits}
use Rattle.names.specs.Naming.{naming, says_name}
use Rattle.names.specs.Finding.{says_found}
use Rattle.text.specs.Compiling.{says_compiled}
use Rattle.building_laws.specs.Values.{Bounded}
use Rattle.expansion.specs.declared.Output.{Output}
use Rattle.expansion.specs.declared.ExpansionRefusal.{ExpansionRefusal}
use Rattle.expansion.specs.Limits.{string_most, expansion_most}
use Rattle.expansion.specs.Expanding.{says_expansion, Within}
use Rattle.c_numbers.specs.Numbers.{numbered, merging_number, none, part_code, boolean_number, number_number}
use Rattle.c_numbers.specs.Numbers.{string_number}
use Rattle.c_numbers.specs.Numbers.{opening_array, counts_code, capability_number}
use Rattle.c_numbers.specs.Numbers.{Any, PartWithin, NamesWithin, StateWithin, WrittenWithin, FileWithin, MergedWithin}
use Rattle.c_numbers.specs.Numbers.{FoundWithin}
use Rattle.answer_laws.specs.Distinct.{Injective}

-- ---- bounds for answers whose contracts in c_numbers ask none

-- a number's value is a u32
abbrev pub NumberWithin : Option (S.State ℕ) → Type 0
NumberWithin s = StateWithin (λ n. n < 2 ^ 32) s

abbrev pub StringWithin : Option (S.State Part) → Type 0
StringWithin s = StateWithin PartWithin s

-- a refused file's position is below the most bytes of a file
abbrev pub OpenedWithin : Result Opening FileRefusal → Type 0
OpenedWithin (Ok o) = Unit {0}
OpenedWithin (Err r) = FileWithin r

-- a name of at most seven bytes, as all names of the three lists are (`listed`, below)
abbrev pub NameWithin : Option ℕ → Type 0
NameWithin (Some w) = w < 2 ^ 56
NameWithin None = Unit {0}

-- an expansion of a string of at most 1,000 bytes, as the contracts of `expand` have it (`within` of LentAs)
abbrev pub ExpansionWithin : Result Output ExpansionRefusal → Type 0
ExpansionWithin r = Within string_most expansion_most r

-- ---- statements

-- the number of each answer r that lies within its bounds
pub record TopByte {R A : Type 0} (says : R → Answer A) (Fits : R → Type 0) (number : Answer A → ℕ) : Type 0 where
  pub top : (r : R) → Fits r → number (says r) / 2 ^ 56 ≡ number_of (says r)
  pub success : (r : R) → Fits r → is_given (says r) ≡ true → number (says r) < 2 ^ 56
  pub refusal : (r : R) → Fits r → is_given (says r) ≡ false → 2 ^ 56 ≤ number (says r)

pub record Tells {R A : Type 0} (says : R → Answer A) (Fits : R → Type 0) (number : Answer A → ℕ) : Type 0 where
  pub byte : TopByte says Fits number
  pub tells : (r s : R) → Fits r → Fits s → number (says r) ≡ number (says s) → r ≡ s

-- bits 48 to 55 of the number of a state or a capability
pub record KindByte {R A : Type 0} (says : R → Answer A) (Fits : R → Type 0) (number : Answer A → ℕ) : Type 0 where
  pub refused : (r : R) → Fits r → is_given (says r) ≡ false → number (says r) / 2 ^ 48 % 256 ≡ 3
  pub given : (r : R) → Fits r → is_given (says r) ≡ true → number (says r) / 2 ^ 48 % 256 ≤ 2

-- which file a merge refuses, and the position in it
abbrev pub which_of : Result ℕ MergeRefusal → ℕ
which_of (Ok n) = 0
which_of (Err G.Edition) = 0
which_of (Err (G.First r)) = 1
which_of (Err (G.Second r)) = 2
which_of (Err G.Size) = 0
which_of (Err (G.Room n)) = 0

pub record FileByte (number : Answer ℕ → ℕ) : Type 0 where
  pub which : (r : Result ℕ MergeRefusal) → MergedWithin r → number (says_merged r) / 2 ^ 48 % 256 ≡ which_of r
  pub first : (r : FileRefusal) → FileWithin r → number (says_merged (Err (G.First r))) % 2 ^ 48 ≡ file_position r
  pub second : (r : FileRefusal) → FileWithin r → number (says_merged (Err (G.Second r))) % 2 ^ 48 ≡ file_position r

pub record Numbers : Type 0 where
  pub names : Tells (says_asked {A = Part}) NamesWithin (numbered part_code)
  pub boolean : Tells (says_state {A = Unit {0}}) Any boolean_number
  pub number : Tells (says_state {A = ℕ}) NumberWithin number_number
  pub string : Tells (says_state {A = Part}) StringWithin string_number
  pub boolean_kind : KindByte (says_state {A = Unit {0}}) Any boolean_number
  pub number_kind : KindByte (says_state {A = ℕ}) NumberWithin number_number
  pub string_kind : KindByte (says_state {A = Part}) StringWithin string_number
  pub found : Tells says_found FoundWithin capability_number
  pub found_kind : KindByte says_found FoundWithin capability_number
  pub written : Tells says_written WrittenWithin (numbered (λ n. n))
  pub merged : Tells says_merged MergedWithin (merging_number (λ n. n))
  pub merged_file : FileByte (merging_number (λ n. n))
  pub compiled : Tells says_compiled (λ r. Bounded (says_compiled r)) (numbered (λ n. n))
  pub name : Tells says_name NameWithin (numbered (λ w. w))
  pub listed : (k : Kind) (p : Place) → is_given (naming k p) ≡ true → numbered (λ w. w) (naming k p) < 2 ^ 56
  pub expansion : Tells says_expansion ExpansionWithin (numbered counts_code)
  -- opening answers 0 and fills an array, which tells what it gives; a refusal's number tells the refusal
  pub opened : TopByte (says_file {A = Opening}) OpenedWithin (numbered none)
  -- a refused file's position stands in the bits below
  pub position : (r : FileRefusal) → FileWithin r
      → numbered none (says_file {A = Opening} (Err r)) % 2 ^ 48 ≡ file_position r
  pub list : Tells says_listed ValueFits (numbered none)
  pub array : Injective opening_array
  pub refusal : (r s : Result Opening FileRefusal) → OpenedWithin r → OpenedWithin s → is_given (says_file r) ≡ false
      → numbered none (says_file r) ≡ numbered none (says_file s) → r ≡ s
