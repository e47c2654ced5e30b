-- What expanding a file's string gives, and what a call that does so promises (document 01: Expansion).
-- Assumes nothing.
use Rattle.std.specs.Prelude.{◌≡◌, not, List, [], ℕ, leb, ℤ, pos, replicate, Result, Ok, Err}
use Rattle.edition.specs.declared.Edition.{Edition}
use Rattle.edition.specs.declared.Place.{Place}
use Rattle.base.specs.If.{when◌then◌else◌}
use Rattle.base.specs.Answer.{Answer, refused, gives, map_answer}
use Rattle.base.specs.Overwrite.{put_at}
use Rattle.entry.specs.declared.Part.{Part}
use Rattle.entry.specs.declared.State as S
use Rattle.entry.specs.State.{State, absent, cancelled, present, map_state}
use Rattle.entry.specs.Says.{state_meant}
use Rattle.entry.specs.Reading.{bytes_of}
use Rattle.entry.specs.Asking.{asking_string}
use Rattle.expansion.specs.declared.Argument.{Argument}
use Rattle.expansion.specs.Arguments.{lies_in, each_passes}
use Rattle.expansion.specs.declared.Output.{Output}
use Rattle.expansion.specs.declared.ExpansionRefusal.{ExpansionRefusal}
use Rattle.expansion.specs.Expanding.{Expanding, expanding, Counts, counted, refused_expansion}

-- the variables A to Z, all 0
abbrev pub zero_lasting : List ℤ
zero_lasting = replicate 26 (pos 0)

-- what expanding gives, the variables all 0, by what asking file f for the string gave. Left free by document 01: a
-- string that isn't present. It is not expanded, and its state is the answer
abbrev pub expanding_asked : List ℕ → List Argument → List ℕ → ℕ → ℕ → Answer (State Part) → Answer (State Expanding)
expanding_asked f arguments lent size at (refused n v) = refused n v
expanding_asked f arguments lent size at (gives absent) = gives absent
expanding_asked f arguments lent size at (gives cancelled) = gives cancelled
expanding_asked f arguments lent size at (gives (present q)) =
    map_answer present (expanding (bytes_of f q) arguments lent zero_lasting size at)

-- "place beyond the edition, or above the buffer's length; entry not from opening": 17; document 02, 2026-07: "A text
-- that doesn't lie in what was lent is 17, judged after the output place", whatever the string's state is; else what
-- the string at place p of file f gives
unfoldable pub expanding_at : Edition → List ℕ → Place → List Argument → List ℕ → ℕ → ℕ → Answer (State Expanding)
expanding_at e f p arguments lent size at =
    when not (leb at size) then refused 17 []
    else when not (each_passes (lies_in lent) arguments) then refused 17 []
    else expanding_asked f arguments lent size at (asking_string e f p)

-- "bytes before it and after the output stay"; a refusal, an absent and a cancelled string change nothing
abbrev pub state_output : List ℕ → ℕ → Answer (State Expanding) → List ℕ
state_output b at (refused n v) = b
state_output b at (gives absent) = b
state_output b at (gives cancelled) = b
state_output b at (gives (present x)) = put_at b at x.output

-- what the code's answer says: the string's state, a present one with its output's length and the steps
abbrev pub counts_of : Output → Counts
counts_of o = record { length = o.length; steps = o.steps }

abbrev pub says_expanded_string : Result (S.State Output) ExpansionRefusal → Answer (State Counts)
says_expanded_string (Ok s) = gives (map_state counts_of (state_meant s))
says_expanded_string (Err r) = map_answer present (refused_expansion r)

-- a call that comes to a, over a buffer with bytes b before and b' after, answers r
pub record WrittenAs (a : Answer (State Expanding)) (b : List ℕ) (at : ℕ) (b' : List ℕ)
    (r : Result (S.State Output) ExpansionRefusal) : Type 0 where
  pub answer : says_expanded_string r ≡ map_answer (map_state counted) a
  pub output : b' ≡ state_output b at a
