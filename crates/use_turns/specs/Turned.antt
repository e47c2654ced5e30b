-- What the turns of the walk answer: of what is left of a walk, whatever is put at each description.
-- Assumes nothing.
use Rattle.std.specs.Prelude.{◌≡◌, ℕ, ◌≤◌, ◌<◌, Option, None, Some, Result, Ok, Err}
use Rattle.base.specs.Answer.{gives, map_answer}
use Rattle.entry.specs.Reading.{Entry}
use Rattle.text.specs.declared.TextRefused.{TextRefused}
use Rattle.text.specs.Refusals.{text_refused}
use Rattle.uses.specs.Heights.{height_of, low}
use Rattle.use_turns.specs.declared.Next.{Next}
use Rattle.use_turns.specs.declared.Next.TheVariants as N
use Rattle.use_turns.specs.declared.Frames.{Frames}
use Rattle.use_turns.specs.Frames.{UseArrays, end_of, graph_of, last_of, next_of, Framed, kept_as, heights_of}
use Rattle.use_turns.specs.Frames.{resume_at, finished, passed, entered}
use Rattle.use_turns.specs.Weight.{weight_at}

-- it goes on from other frames, with less weight; what becomes of the state is f
pub record Went {S : Type 0} (put : S → ℕ → S) (u : UseArrays) (o o' : Frames) (f : S → S) : Type 0 where
  pub same : (s : S) → resume_at put u o s ≡ resume_at put u o' (f s)
  pub framed : Framed u o'
  pub falls : weight_at u o' < weight_at u o

abbrev pub Put : Type 0
Put = Entry → ℕ → Entry

-- it is refused
abbrev pub Stops : UseArrays → Frames → TextRefused → Type 0
Stops u o r = (put : Put) (s : Entry) → resume_at put u o s ≡ text_refused r

-- it goes on from other frames, where t is entered
abbrev pub Enters : UseArrays → (o o' : Frames) → ℕ → Type 0
Enters u o o' t = (put : Put) → Went put u o o' (λ s. put s t)

-- it is at its end
abbrev pub Ends : UseArrays → Frames → Type 0
Ends u o = (put : Put) (s : Entry) → map_answer (λ r. r.state) (resume_at put u o s) ≡ gives s

-- what the last open description's next use comes to
abbrev pub Judged : UseArrays → Frames → Result Next TextRefused → Type 0
Judged u o (Ok N.End) = end_of u (last_of o) ≤ next_of o
Judged u o (Ok N.Pass) = (next_of o < end_of u (last_of o)) × ((put : Put) → Went put u o (passed o) (λ s. s))
Judged u o (Ok (N.Enter t)) =
    (next_of o < end_of u (last_of o)) × ((t < u.count) × ((o.depth < 9) × Enters u o (entered u o t) t))
Judged u o (Err r) = Stops u o r

-- the last open description is finished, with its height
abbrev pub Finishes : UseArrays → (o o' : Frames) → Type 0
Finishes u o o' =
    (x : ℕ) × (o' ≡ finished o x) × (kept_as x ≡ low (height_of (heights_of o.heights) (graph_of u (last_of o))))

-- what comes before the next description that is to be entered, with the frames after it
abbrev pub Advances : UseArrays → (o o' : Frames) → Result (Option ℕ) TextRefused → Type 0
Advances u o o' (Ok (Some t)) = (t < u.count) × Enters u o o' t
Advances u o o' (Ok None) = Ends u o
Advances u o o' (Err r) = Stops u o r
