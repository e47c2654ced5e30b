-- No two answers of a call say the same: each definition of what answers say has a left inverse.
-- Assumes nothing.
use mathlib.Core.Path.{◌≡◌, sym, ◌∙◌}
use Rattle.base.specs.Answer.{Answer}
use Rattle.entry.specs.Says.{says_file, says_asked, says_state, says_written, says_merged}
use Rattle.names.specs.Naming.{says_name}
use Rattle.names.specs.Finding.{says_found}
use Rattle.text.specs.Compiling.{text_number, says_compiled}
use Rattle.expansion.specs.Expanding.{says_expansion}
use Rattle.entry_numbers.specs.Entries.{says_refusal}
use Rattle.list_states.specs.Listing.{says_listed}
use Rattle.answer_laws.specs.Distinct.{Injective, Distinct}
use Rattle.answer_laws.proofs.Back as back

pub by_inverse : {A B : Type 0} (f : A → B) (g : B → A) → ((x : A) → g (f x) ≡ x) → Injective f
by_inverse f g law x y e = cc (law x, law y)

by_back : {R A : Type 0} (says : R → Answer A) (b : Answer A → R) → ((r : R) → b (back.plain (says r)) ≡ r)
    → Injective says
by_back says b law = by_inverse says (λ a. b (back.plain a)) law

pub distinct : Distinct
distinct = record {
  file = λ x y n p. sym (back.file_back x) ∙ (λ i. back.file (n i) (p i)) ∙ back.file_back y;
  text = by_inverse text_number back.text back.text_back;
  judged = by_back says_file back.read back.read_back;
  opened = by_back says_file back.read back.read_back;
  names = by_back says_asked back.asked back.asked_back;
  boolean = by_back says_state back.state back.state_back;
  number = by_back says_state back.state back.state_back;
  string = by_back says_state back.state back.state_back;
  beyond = by_back says_asked back.asked back.asked_back;
  refusal = by_back says_refusal back.refusal back.refusal_back;
  listed = by_back says_listed back.listed back.listed_back;
  written = by_back says_written back.written back.written_back;
  merged = by_inverse says_merged back.merged back.merged_back;
  compiled = by_back says_compiled back.compiled back.compiled_back;
  name = by_back says_name back.asked back.asked_back;
  found = by_back says_found back.found back.found_back;
  expansion = by_back says_expansion back.expansion back.expansion_back;
}
