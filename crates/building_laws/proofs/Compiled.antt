-- Demand 2 for compiled files: what a compiled file holds.
-- Assumes nothing.
use Rattle.std.specs.Prelude.{◌≡◌, true, List, ℕ}
use Rattle.std.proofs.Common.{sym, subst}
use Rattle.base.specs.Answer.{gives}
use Rattle.edition.specs.declared.Edition.{Edition}
use Rattle.edition.specs.Edition.{ok_edition}
use Rattle.entry_laws.specs.Sound.{WrittenIn}
use Rattle.text.specs.Building.{Wanted}
use Rattle.text.specs.Compiling.{compiling}
use Rattle.building_laws.proofs.Built.{built_sound}
use Rattle.building_laws.specs.Compiled.{compiled_only_if}

-- ---- a compiled file is written in its edition and holds what the text's definition gives

pub compiled_holds : (e : Edition) (t : List ℕ) (w : Wanted) (room : ℕ) (f : List ℕ)
    → (c : compiling e t w room ≡ gives f) → WrittenIn e (compiled_only_if e t w room f c).entry f
compiled_holds e t w room f c =
    let k = compiled_only_if e t w room f c in
    let m = k.meets in
    let d = built_sound e t w k.entry m.describes in
    record {
      sound =
          record {
            edition = subst (λ (i : Edition). ok_edition i ≡ true) (sym d.states.edition) m.edition;
            named = d.named;
            names_most = d.names_most;
            names_free = d.names_free;
            numbers_fit = d.states.numbers;
            strings_free = d.states.strings;
            fits = m.size;
          };
      edition = d.states.edition;
      file = k.file;
    }
