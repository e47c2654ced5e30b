-- An expansion contains no NUL, where no text among its arguments does.
-- Assumes nothing.
use Rattle.std.specs.Prelude.{◌≡◌, refl, not, List, [], ◌∷◌, ℕ, ◌-◌, leb, ℤ, length, Ok, Err}
use Rattle.base.proofs.IfLaws.{if_both}
use Rattle.base.proofs.TabulateLaws.{each_all}
use Rattle.base.specs.Answer.{Answer}
use Rattle.base.specs.Tabulate.{Each}
use Rattle.word.specs.Nul.{NoNul}
use Rattle.expansion.specs.Limits.{string_most}
use Rattle.expansion.specs.declared.Argument.{Argument}
use Rattle.expansion.specs.Form.{Form, form_of}
use Rattle.expansion.specs.Values.{Value}
use Rattle.expansion.specs.Machine.{Machine, Outcome, finished, failed, run}
use Rattle.expansion.specs.Arguments.{lies_in, is_short, each_passes, values_of, numbers_given}
use Rattle.expansion.specs.Expanding.{Expanding, ended, formed, expanding}
use Rattle.output_laws.specs.NeverNul.{FreeValue, NeverNul, FreeTexts}
use Rattle.output_laws.specs.Outputs.{output_holds}
use Rattle.output_laws.specs.Holding.{started_holding}
use Rattle.output_laws.specs.Printed.{AnyNumber, FreeMachine, item_prints_free}
use Rattle.output_laws.specs.NoNul.{AnswerFree}

run_free : (s : List ℕ) (arguments : List Value) (lasting : List ℤ) → Each FreeValue arguments → (m : Machine)
    (out : List ℕ) (n : ℕ) → run s arguments lasting ≡ finished m out n → NoNul out
run_free s arguments lasting h m out n e =
    (output_holds FreeMachine (λ _. NoNul) s tt (λ _ _ _ x. x) (item_prints_free s) arguments lasting m out n
    (started_holding FreeValue AnyNumber arguments lasting tt h (each_all AnyNumber lasting (λ _. tt))) e).4

ended_free : (y : Outcome) (room : ℕ) → ((m : Machine) (out : List ℕ) (n : ℕ) → y ≡ finished m out n → NoNul out)
    → AnswerFree (ended y room)
unfolding ended
ended_free (failed n i) room f = tt
ended_free (finished m out n) room f =
    if_both AnswerFree (not (leb (length out) room)) (λ _. tt) (λ _. f m out n refl)

formed_free : (f : Form) (a : Answer Expanding) → AnswerFree a → AnswerFree (formed f a)
unfolding formed
formed_free (Err i) a h = tt
formed_free (Ok done) a h = h

expanding_free : (s : List ℕ) (arguments : List Argument) (lent : List ℕ) (lasting : List ℤ) (size at : ℕ)
    → FreeTexts arguments lent → AnswerFree (expanding s arguments lent lasting size at)
unfolding expanding
expanding_free s arguments lent lasting size at h =
    let y : Outcome = run s (values_of lent arguments) lasting in
    if_both AnswerFree (not (leb at size)) (λ _. tt)
    (λ _. if_both AnswerFree (not (each_passes (lies_in lent) arguments)) (λ _. tt)
    (λ _. if_both AnswerFree (not (leb (length s) string_most)) (λ _. tt)
    (λ _. if_both AnswerFree (not (each_passes is_short arguments)) (λ _. tt)
    (λ _. formed_free (form_of s) (ended y (size - at))
    (ended_free y (size - at) (run_free s (values_of lent arguments) lasting h))))))

-- ---- the theorems

pub expanding_no_nul : (s : List ℕ) (arguments : List Argument) (lent : List ℕ) (lasting : List ℤ)
    → FreeTexts arguments lent → NeverNul s arguments lent lasting
expanding_no_nul s arguments lent lasting h size at x e = rw e at (expanding_free s arguments lent lasting size at h)

numbers_free : (arguments : List ℤ) (lent : List ℕ) → FreeTexts (numbers_given arguments) lent
numbers_free [] lent = tt
numbers_free (v ∷ vs) lent = (tt, numbers_free vs lent)

pub numbers_no_nul : (s : List ℕ) (arguments : List ℤ) (lent : List ℕ) (lasting : List ℤ)
    → NeverNul s (numbers_given arguments) lent lasting
numbers_no_nul s arguments lent lasting =
    expanding_no_nul s (numbers_given arguments) lent lasting (numbers_free arguments lent)
