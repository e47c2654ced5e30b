-- What opening a file and expanding its string gives holds no NUL, where no text among its arguments does (document
-- 02, 2026-04 and 2026-07).
-- Assumes nothing.
use Rattle.std.specs.Prelude.{◌≡◌, refl, not, List, ℕ, leb, ℤ}
use Rattle.base.proofs.IfLaws.{if_both}
use Rattle.base.specs.Answer.{Answer, refused, gives, map_answer}
use Rattle.word.specs.Nul.{NoNul}
use Rattle.edition.specs.declared.Edition.{Edition}
use Rattle.edition.specs.declared.Place.{Place}
use Rattle.entry.specs.declared.Part.{Part}
use Rattle.entry.specs.State.{State, absent, cancelled, present}
use Rattle.entry.specs.Reading.{bytes_of}
use Rattle.entry.specs.Asking.{asking_string}
use Rattle.expansion.specs.declared.Argument.{Argument}
use Rattle.expansion.specs.Arguments.{lies_in, each_passes, numbers_given}
use Rattle.expansion.specs.Expanding.{Expanding, expanding}
use Rattle.output_laws.specs.NeverNul.{NeverNul, FreeTexts}
use Rattle.output_laws.proofs.NoNul.{expanding_no_nul, numbers_no_nul}
use Rattle.terminfo.specs.Lent.{zero_lasting, expanding_asked, expanding_at}

abbrev OutputFree : Answer (State Expanding) → Type 0
OutputFree (refused n v) = Unit {0}
OutputFree (gives absent) = Unit {0}
OutputFree (gives cancelled) = Unit {0}
OutputFree (gives (present x)) = NoNul x.output

-- no string's output with these arguments holds a NUL
abbrev NeverAny : List Argument → List ℕ → Type 0
NeverAny arguments lent = (s : List ℕ) → NeverNul s arguments lent zero_lasting

module _ (arguments : List Argument) (lent : List ℕ) (never : NeverAny arguments lent) (size at : ℕ) where
  present_free : (s : List ℕ) (a : Answer Expanding) → expanding s arguments lent zero_lasting size at ≡ a
      → OutputFree (map_answer present a)
  present_free s (refused n v) e = tt
  present_free s (gives x) e = never s size at x e

  asked_free : (f : List ℕ) (a : Answer (State Part)) → OutputFree (expanding_asked f arguments lent size at a)
  asked_free f (refused n v) = tt
  asked_free f (gives absent) = tt
  asked_free f (gives cancelled) = tt
  asked_free f (gives (present q)) =
      present_free (bytes_of f q) (expanding (bytes_of f q) arguments lent zero_lasting size at) refl

  at_free : (e : Edition) (f : List ℕ) (p : Place) → OutputFree (expanding_at e f p arguments lent size at)
  unfolding expanding_at
  at_free e f p =
      if_both OutputFree (not (leb at size)) (λ _. tt)
      (λ _. if_both OutputFree (not (each_passes (lies_in lent) arguments)) (λ _. tt)
      (λ _. asked_free f (asking_string e f p)))

-- whatever the edition, the file, the place and the buffer, no byte of a present string's output is 0, where no text
-- holds a NUL
pub expanding_at_no_nul : (e : Edition) (f : List ℕ) (p : Place) (arguments : List Argument) (lent : List ℕ)
    (size at : ℕ) (x : Expanding) → FreeTexts arguments lent
    → expanding_at e f p arguments lent size at ≡ gives (present x) → NoNul x.output
expanding_at_no_nul e f p arguments lent size at x h q =
    rw q at (at_free arguments lent (λ s. expanding_no_nul s arguments lent zero_lasting h) size at e f p)

-- and whatever the arguments, where they are numbers
pub numbers_at_no_nul : (e : Edition) (f : List ℕ) (p : Place) (arguments : List ℤ) (lent : List ℕ) (size at : ℕ)
    (x : Expanding) → expanding_at e f p (numbers_given arguments) lent size at ≡ gives (present x)
    → NoNul x.output
numbers_at_no_nul e f p arguments lent size at x q =
    rw q at
    (at_free (numbers_given arguments) lent (λ s. numbers_no_nul s arguments lent zero_lasting) size at e f p)
