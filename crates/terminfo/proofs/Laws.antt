-- What expanding at a place gives, by the cases of the code; no two answers say the same.
-- Assumes nothing.
use mathlib.Core.Path.{◌≡◌, refl, sym, ap, subst, ◌∙◌}
use mathlib.Core.Bool.{true, false}
use mathlib.Core.List.{List, [], ◌∷◌}
use Prim.Native.Nat.{ℕ, ◌+◌, ◌≤◌, ◌<◌}
use lib.Dec.{eqb}
use lib.ListN.{length}
use lib.IntN.{ℤ}
use borrow.Author.Tests.{le-leb, lt-leb}
use Rattle.edition.specs.declared.Edition.{Edition}
use Rattle.edition.specs.declared.Place.{Place}
use Rattle.base.specs.If.{when◌then◌else◌}
use Rattle.base.specs.Answer.{Answer, refused, gives, map_answer}
use Rattle.entry.specs.Asking.{asking_string, part_given}
use Rattle.entry.specs.Says.{state_meant}
use Rattle.opened_file.proofs.Laws.{string_inside}
use native.Mathlib.Omega.{arith}
use Rattle.entry.specs.Reading.{bytes_of}
use Rattle.entry.specs.declared.Part.{Part}
use Rattle.entry.specs.State.{State, absent, cancelled, present, map_state}
use Rattle.expand_output.specs.Answers.{ExpandedAs}
use Rattle.expansion.specs.declared.Argument.{Argument}
use Rattle.std.specs.Prelude.{Result, Ok, Err}
use Rattle.expansion.specs.declared.Output.{Output}
use Rattle.expansion.specs.declared.ExpansionRefusal.{ExpansionRefusal}
use Rattle.expansion.specs.declared.ExpansionRefusal.TheVariants as E
use Rattle.entry.specs.declared.State as S
use Rattle.expansion.specs.declared.Expanded.{Expanded}
use Rattle.expansion.specs.Arguments.{lies_in, each_passes}
use Rattle.expansion.specs.Expanding.{Expanding, expanding, Counts, counted, says_expansion, output_after}
use Rattle.terminfo.specs.Lent.{WrittenAs, zero_lasting, expanding_asked, expanding_at, state_output, says_expanded_string}

-- a present string's expansion counts and writes as the expansion does
present_counted : (a : Answer Expanding) → map_answer present (map_answer counted a) ≡ map_answer (map_state counted) (map_answer present a)
present_counted (refused n v) = refl
present_counted (gives x) = refl

present_output : (b : List ℕ) (at : ℕ) (a : Answer Expanding) → output_after b at a ≡ state_output b at (map_answer present a)
present_output b at (refused n v) = refl
present_output b at (gives x) = refl

-- the answer of expanding, where the string is present
abbrev pub present_of : Result Output ExpansionRefusal → Result (S.State Output) ExpansionRefusal
present_of (Ok o) = Ok (S.TheVariants.Present o)
present_of (Err r) = Err r

says_present : (r : Result Output ExpansionRefusal)
    → says_expanded_string (present_of r) ≡ map_answer present (says_expansion r)
says_present (Ok o) = refl
says_present (Err r) = refl

module _ (e : Edition) (f : List ℕ) (p : Place) (arguments : List Argument) (lent : List ℕ) (size at : ℕ) (b : List ℕ) where
  -- a place above the buffer's length
  pub written_above : size < at → WrittenAs (expanding_at e f p arguments lent size at) b at b (Err E.Place)
  unfolding expanding_at
  written_above h = rw (lt-leb at size h) (record { answer = refl; output = refl })

  -- a text that does not lie in what was lent
  pub written_beyond : at ≤ size → each_passes (lies_in lent) arguments ≡ false → WrittenAs (expanding_at e f p arguments lent size at) b at b (Err E.Place)
  unfolding expanding_at
  written_beyond h t = rw (le-leb at size h, t) (record { answer = refl; output = refl })

  -- what the file says of the string, at a place in the buffer and with texts in what was lent
  pub written_asked : (b' : List ℕ) (r : Result (S.State Output) ExpansionRefusal) (a : Answer (State Part)) → at ≤ size → each_passes (lies_in lent) arguments ≡ true
      → a ≡ asking_string e f p → WrittenAs (expanding_asked f arguments lent size at a) b at b' r
      → WrittenAs (expanding_at e f p arguments lent size at) b at b' r
  unfolding expanding_at
  written_asked b' r a h t q w = rw (le-leb at size h, t, ← q) w

-- a present string, expanded
module _ (f : List ℕ) (arguments : List Argument) (lent : List ℕ) (size at : ℕ) (b : List ℕ) where
  pub present_written : (b' s : List ℕ) (r : Expanded) (v : List ℤ) (q : Part) {room : ℕ} → s ≡ bytes_of f q
      → v ≡ zero_lasting → ExpandedAs (length s) room (expanding s arguments lent v size at) v b at b' r
      → WrittenAs (expanding_asked f arguments lent size at (gives (present q))) b at b' (present_of r.answer)
  present_written b' s r v q h z w =
      let a = expanding s arguments lent v size at in
      let i : a ≡ expanding (bytes_of f q) arguments lent zero_lasting size at = λ k. expanding (h k) arguments lent (z k) size at in
      record {
        answer = says_present r.answer ∙ ap (map_answer present) w.answer ∙ present_counted a ∙ ap (λ (x : Answer Expanding). map_answer (map_state counted) (map_answer present x)) i;
        output = w.output ∙ present_output b at a ∙ ap (λ (x : Answer Expanding). state_output b at (map_answer present x)) i;
      }

  -- by what expanding answered
  pub present_ok : (b' s : List ℕ) (r : Expanded) (v : List ℤ) (q : Part) (o : Output) {room : ℕ} → r.answer ≡ Ok o
      → s ≡ bytes_of f q → v ≡ zero_lasting → ExpandedAs (length s) room (expanding s arguments lent v size at) v b at b' r
      → WrittenAs (expanding_asked f arguments lent size at (gives (present q))) b at b' (Ok (S.TheVariants.Present o))
  present_ok b' s r v q o e h z w =
      subst (λ (x : Result Output ExpansionRefusal).
      WrittenAs (expanding_asked f arguments lent size at (gives (present q))) b at b' (present_of x)) e
      (present_written b' s r v q h z w)

  pub present_err : (b' s : List ℕ) (r : Expanded) (v : List ℤ) (q : Part) (y : ExpansionRefusal) {room : ℕ}
      → r.answer ≡ Err y → s ≡ bytes_of f q → v ≡ zero_lasting
      → ExpandedAs (length s) room (expanding s arguments lent v size at) v b at b' r
      → WrittenAs (expanding_asked f arguments lent size at (gives (present q))) b at b' (Err y)
  present_err b' s r v q y e h z w =
      subst (λ (x : Result Output ExpansionRefusal).
      WrittenAs (expanding_asked f arguments lent size at (gives (present q))) b at b' (present_of x)) e
      (present_written b' s r v q h z w)

-- a string's content lies in the file
pub state_inside : (e : Edition) (f : List ℕ) (p : Place) (s : S.State Part) → gives (state_meant s) ≡ asking_string e f p
    → (part_given (gives (state_meant s))).start + (part_given (gives (state_meant s))).length ≤ length f
state_inside e f p S.TheVariants.Absent h = omega arith
state_inside e f p S.TheVariants.Cancelled h = omega arith
state_inside e f p (S.TheVariants.Present q) h = string_inside e f p q h

-- ---- the answer that says so

abbrev first_of : List ℕ → ℕ
first_of [] = 0
first_of (x ∷ xs) = x

abbrev refusal_of : ℕ → List ℕ → ExpansionRefusal
refusal_of n v =
    when eqb n 17 then E.Place
    else when eqb n 1 then E.Length
    else when eqb n 14 then E.Malformed (first_of v)
    else when eqb n 15 then E.Empty (first_of v)
    else when eqb n 16 then E.Full (first_of v)
    else when eqb n 21 then E.Kind (first_of v)
    else E.Room (first_of v)

abbrev answer_of : Answer (State Counts) → Result (S.State Output) ExpansionRefusal
answer_of (refused n v) = Err (refusal_of n v)
answer_of (gives absent) = Ok S.TheVariants.Absent
answer_of (gives cancelled) = Ok S.TheVariants.Cancelled
answer_of (gives (present c)) = Ok (S.TheVariants.Present (record { length = c.length; steps = c.steps }))

answer_of_lem : (r : Result (S.State Output) ExpansionRefusal) → answer_of (says_expanded_string r) ≡ r
answer_of_lem (Ok S.TheVariants.Absent) = refl
answer_of_lem (Ok S.TheVariants.Cancelled) = refl
answer_of_lem (Ok (S.TheVariants.Present o)) = refl
answer_of_lem (Err E.Place) = refl
answer_of_lem (Err E.Length) = refl
answer_of_lem (Err (E.Malformed i)) = refl
answer_of_lem (Err (E.Empty i)) = refl
answer_of_lem (Err (E.Full i)) = refl
answer_of_lem (Err (E.Kind i)) = refl
answer_of_lem (Err (E.Room n)) = refl

-- what an answer says determines it
pub says_expanded_one : (r s : Result (S.State Output) ExpansionRefusal) → says_expanded_string r ≡ says_expanded_string s
    → r ≡ s
says_expanded_one r s h = sym (answer_of_lem r) ∙ ap answer_of h ∙ answer_of_lem s
