-- What fields make of an entry: the entry that they describe has a written form, but for its size and its names'
-- total.
-- Assumes nothing.
use Rattle.std.specs.Prelude.{◌≡◌, List, [], ◌∷◌, ℕ, zero, suc, length, get_or, replicate}
use Rattle.std.proofs.lemmas.List.{length-replicate}
use Rattle.base.specs.Tabulate.{Each}
use Rattle.base.proofs.TabulateLaws.{each_replicate}
use Rattle.edition.specs.declared.Edition.{Edition}
use Rattle.entry.specs.State.{absent}
use Rattle.entry.specs.Reading.{Entry, edition_of}
use Rattle.entry_laws.specs.Sound.{NumberFits, ContentFree}
use Rattle.text.specs.Describing.{SayingAt}
use Rattle.text.specs.Describing.{bare}
use Rattle.text_laws.specs.JudgingLaws.{Fits}

-- ---- the entry has a written form, but for its size and its names' total

-- states of an edition, each with a written form
pub record Sound-states (e : Edition) (x : Entry) : Type 0 where
  pub edition : edition_of x ≡ e
  pub numbers : Each NumberFits x.numbers
  pub strings : Each ContentFree x.strings

pub each_get_d : {A : Type 0} (P : A → Type 0) (xs : List A) (p : ℕ) (d : A) → Each P xs → P d → P (get_or xs p d)
each_get_d P [] p d h w = w
each_get_d P (x ∷ xs) zero d h w = h.0
each_get_d P (x ∷ xs) (suc p) d h w = each_get_d P xs p d h.1 w

-- what is said has a written form
abbrev pub SaidFits : SayingAt → Type 0
SaidFits s = Fits s.saying

pub bare_sound : (e : Edition) (names : List ℕ) → Sound-states e (bare e names)
bare_sound e names =
    let b : length (replicate e.booleans absent) ≡ e.booleans = length-replicate e.booleans absent in
    let n : length (replicate e.numbers absent) ≡ e.numbers = length-replicate e.numbers absent in
    let s : length (replicate e.strings absent) ≡ e.strings = length-replicate e.strings absent in
    record {
      edition = λ i. record { booleans = b i; numbers = n i; strings = s i };
      numbers = each_replicate NumberFits e.numbers absent tt;
      strings = each_replicate ContentFree e.strings absent tt;
    }
