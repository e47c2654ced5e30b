-- What a run promises.
-- Assumes nothing.
use Rattle.std.specs.Prelude.{◌≡◌, List, [], ◌∷◌, ℕ, ◌≤◌, ℤ, length, Result, Ok, Err}
use Rattle.base.specs.Overwrite.{put_at}
use Rattle.base.specs.Answer.{Answer, refused}
use Rattle.expansion.specs.declared.Argument.{Argument}
use Rattle.expansion.specs.Machine.{Outcome, finished, failed}
use Rattle.expansion.specs.Counting.{room_with}
use Rattle.expansion.specs.declared.Output.{Output}
use Rattle.expansion.specs.declared.ExpansionRefusal.{ExpansionRefusal}
use Rattle.expansion.specs.declared.ExpansionRefusal.TheVariants as E
use Rattle.expansion.specs.Expanding.{Counts, says_expansion, Within}
use Rattle.arguments.specs.Judged.{NoneLonger}
use Rattle.expand_run.specs.declared.RunRefusal.{RunRefusal}
use Rattle.expand_run.specs.declared.RunRefusal.TheVariants.{Empty, Full, Kind}

-- what a run's refusal is for the call
abbrev pub refusal_of : RunRefusal → ExpansionRefusal
refusal_of (Empty i) = E.Empty i
refusal_of (Full i) = E.Full i
refusal_of (Kind i) = E.Kind i

abbrev pub expansion_of : Result Output RunRefusal → Result Output ExpansionRefusal
expansion_of (Ok o) = Ok o
expansion_of (Err r) = Err (refusal_of r)

-- the output's length and the steps, or document 01's number with the item's place
abbrev pub says_ran : Result Output RunRefusal → Answer Counts
says_ran r = says_expansion (expansion_of r)

-- a buffer's bytes are b before a run with this outcome and b' after it: its output is put where it fits
abbrev pub PutAs : Outcome → List ℕ → List ℕ → Type 0
PutAs (finished m o n) b b' = length o ≤ length b → b' ≡ put_at b 0 o
PutAs (failed k i) b b' = Unit {0}

-- a run with this outcome answers r, and A to Z are v after it
abbrev pub RanAs : Outcome → Result Output RunRefusal → List ℤ → Type 0
RanAs (finished m o n) r v = (r ≡ Ok (record { length = length o; steps = n })) × (v ≡ m.lasting)
RanAs (failed k i) r v = says_ran r ≡ refused k (i ∷ [])

-- a run of the string s with these arguments and this outcome answers r; A to Z are v after it, and a buffer's bytes
-- are b before it and b' after it
pub record RunAs (s : List ℕ) (arguments : List Argument) (y : Outcome) (b : List ℕ) (r : Result Output RunRefusal)
    (v : List ℤ) (b' : List ℕ) : Type 0 where
  pub answer : RanAs y r v
  pub output : PutAs y b b'
  -- document 02, 2026-06 and 2026-07: the output has room enough in so many bytes where no text is longer than most
  pub within : (most : ℕ) → NoneLonger most arguments → Within (length s) (room_with most s) (expansion_of r)
