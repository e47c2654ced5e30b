-- Laws of a call's answer: each test's refusal, and what the run gives where no test refuses.
-- Assumes nothing.
use mathlib.Core.Path.{◌≡◌, refl}
use mathlib.Core.Bool.{true, false}
use mathlib.Core.List.{List}
use Prim.Native.Nat.{ℕ, ◌-◌, ◌≤◌, ◌<◌}
use native.Mathlib.Omega.{arith}
use lib.IntN.{ℤ}
use lib.ListN.{length}
use borrow.Author.Tests.{le-leb, lt-leb}
use Rattle.expansion.specs.Limits.{string_most, room_for}
use Rattle.expansion.specs.declared.Argument.{Argument}
use Rattle.std.specs.Prelude.{Result, Ok, Err}
use Rattle.expansion.specs.declared.Output.{Output}
use Rattle.expansion.specs.declared.ExpansionRefusal.{ExpansionRefusal}
use Rattle.expansion.specs.declared.ExpansionRefusal.TheVariants as E
use Rattle.expansion.specs.Form.{form_of}
use Rattle.expansion.specs.Machine.{run}
use Rattle.expansion.specs.Counting.{room_with}
use Rattle.expansion.specs.Arguments.{lies_in, is_short, each_passes, values_of}
use Rattle.expansion.specs.Expanding.{ended, formed, expanding}
use Rattle.expand_output.specs.Answers.{LentAs}

module _ (room : ℕ) (s : List ℕ) (arguments : List Argument) (lent : List ℕ) (v : List ℤ) (b : List ℕ) (at : ℕ) where
  -- what the call answers, and the variables and the buffer's bytes after it
  abbrev Answers : List ℤ → List ℕ → Result Output ExpansionRefusal → Type 0
  Answers v' b' r = LentAs (length s) room (expanding s arguments lent v (length b) at) v v' b at b' r

  pub place_refused : length b < at → Answers v b (Err E.Place)
  unfolding expanding
  place_refused h = rw (lt-leb at (length b) h) (record { answer = refl; lasting = refl; output = refl; within = tt })

  module _ (h : at ≤ length b) where
    pub texts_refused : each_passes (lies_in lent) arguments ≡ false → Answers v b (Err E.Place)
    unfolding expanding
    texts_refused e = rw (le-leb at (length b) h, e) (record { answer = refl; lasting = refl; output = refl; within = tt })

    module _ (t : each_passes (lies_in lent) arguments ≡ true) where
      pub length_refused : string_most < length s → Answers v b (Err E.Length)
      unfolding expanding
      length_refused l =
          rw (le-leb at (length b) h, t, lt-leb (length s) string_most l) (record { answer = refl; lasting = refl; output = refl; within = tt })

      module _ (l : length s ≤ string_most) where
        pub long_refused : each_passes is_short arguments ≡ false → Answers v b (Err E.Length)
        unfolding expanding
        long_refused e =
            rw (le-leb at (length b) h, t, le-leb (length s) string_most l, e) (record { answer = refl; lasting = refl; output = refl; within = tt })

        pub run_answers : each_passes is_short arguments ≡ true → {v' : List ℤ} {b' : List ℕ} {r : Result Output ExpansionRefusal}
            → LentAs (length s) room (formed (form_of s) (ended (run s (values_of lent arguments) v) (length b - at))) v v' b at b' r → Answers v' b' r
        unfolding expanding
        run_answers e a = rw (le-leb at (length b) h, t, le-leb (length s) string_most l, e) a

-- where no text has a byte, there is no room for one
pub no_texts : (s : List ℕ) → room_with 0 s ≡ room_for (length s)
no_texts s = omega arith
