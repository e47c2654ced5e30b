-- What expanding gives (document 01: Expansion; Numbers of refusal, order of expansion), and what the code's answer
-- says.
-- Assumes nothing.
use Rattle.std.specs.Prelude.{not, List, [], ◌∷◌, ℕ, ◌-◌, ◌≤◌, ◌<◌, leb, ℤ, length, Result, Ok, Err}
use Rattle.base.specs.If.{when◌then◌else◌}
use Rattle.base.specs.Overwrite.{put_at}
use Rattle.base.specs.Answer.{Answer, refused, gives}
use Rattle.expansion.specs.Limits.{string_most}
use Rattle.expansion.specs.declared.Argument.{Argument}
use Rattle.expansion.specs.declared.Output.{Output}
use Rattle.expansion.specs.declared.ExpansionRefusal.{ExpansionRefusal}
use Rattle.expansion.specs.declared.ExpansionRefusal.TheVariants as E
use Rattle.expansion.specs.Form.{Form, form_of}
use Rattle.expansion.specs.Machine.{Outcome, finished, failed, run}
use Rattle.expansion.specs.Arguments.{lies_in, is_short, each_passes, values_of}

-- what expanding gives: the bytes, the steps, and A to Z afterwards
pub record Expanding : Type 0 where
  pub output : List ℕ
  pub steps : ℕ
  pub lasting : List ℤ

-- "then the first failing step (15 and 16 with its item's place), then 8, only if all else succeeded"; 21 "ranks with
-- 15 and 16, gives its item's place" (document 02, 2026-07). Room bytes are free. Left free by document 01: what 8
-- gives. It is the output's own length, without the bytes before its place
unfoldable pub ended : Outcome → ℕ → Answer Expanding
ended (failed n i) room = refused n (i ∷ [])
ended (finished m out n) room =
    when not (leb (length out) room) then refused 8 (length out ∷ [])
    else gives (record { output = out; steps = n; lasting = m.lasting })

-- "14 over the whole string with the place of the first wrong item"
unfoldable pub formed : Form → Answer Expanding → Answer Expanding
formed (Err i) a = refused 14 (i ∷ [])
formed (Ok done) a = a

-- "Expansion: 17, 1, 14 .., then the first failing step, then 8"; document 02, 2026-07: "A text that doesn't lie in
-- what was lent is 17, judged after the output place"; "at most 1,000 each, else 1, judged after the string's own
-- length". The texts of the arguments lie in lent, and output goes from place at on into a buffer of size bytes
unfoldable pub expanding : List ℕ → List Argument → List ℕ → List ℤ → ℕ → ℕ → Answer Expanding
expanding s arguments lent lasting size at =
    when not (leb at size) then refused 17 []
    else when not (each_passes (lies_in lent) arguments) then refused 17 []
    else when not (leb (length s) string_most) then refused 1 []
    else when not (each_passes is_short arguments) then refused 1 []
    else formed (form_of s) (ended (run s (values_of lent arguments) lasting) (size - at))

-- "bytes before it and after the output stay"; a refusal changes nothing
abbrev pub output_after : List ℕ → ℕ → Answer Expanding → List ℕ
output_after b at (refused n v) = b
output_after b at (gives x) = put_at b at x.output

-- the lasting variables, "changed in place"; a refusal changes nothing
abbrev pub lasting_after : List ℤ → Answer Expanding → List ℤ
lasting_after v (refused n w) = v
lasting_after v (gives x) = x.lasting

-- ---- what the code's answer says: the output's length and the steps, or document 01's number and values

pub record Counts : Type 0 where
  pub length : ℕ
  pub steps : ℕ

abbrev pub counted : Expanding → Counts
counted x = record { length = length x.output; steps = x.steps }

abbrev pub refused_expansion : ExpansionRefusal → Answer Counts
refused_expansion E.Place = refused 17 []
refused_expansion E.Length = refused 1 []
refused_expansion (E.Malformed i) = refused 14 (i ∷ [])
refused_expansion (E.Empty i) = refused 15 (i ∷ [])
refused_expansion (E.Full i) = refused 16 (i ∷ [])
refused_expansion (E.Kind i) = refused 21 (i ∷ [])
refused_expansion (E.Room n) = refused 8 (n ∷ [])

abbrev pub says_expansion : Result Output ExpansionRefusal → Answer Counts
says_expansion (Ok o) = gives (record { length = o.length; steps = o.steps })
says_expansion (Err r) = refused_expansion r

-- document 02, 2026-06: what the answer for a string of n bytes, whose output has room enough in so many bytes, is
-- within: "never takes more than n steps". A wrong item stands in the string, an open conditional at its length; an
-- item at which a step fails stands in the string
abbrev pub RefusedWithin : ℕ → ℕ → ExpansionRefusal → Type 0
RefusedWithin n room E.Place = Unit {0}
RefusedWithin n room E.Length = Unit {0}
RefusedWithin n room (E.Malformed i) = i ≤ n
RefusedWithin n room (E.Empty i) = i < n
RefusedWithin n room (E.Full i) = i < n
RefusedWithin n room (E.Kind i) = i < n
RefusedWithin n room (E.Room l) = l ≤ room

abbrev pub Within : ℕ → ℕ → Result Output ExpansionRefusal → Type 0
Within n room (Ok o) = (o.length ≤ room) × (o.steps ≤ n)
Within n room (Err r) = RefusedWithin n room r
