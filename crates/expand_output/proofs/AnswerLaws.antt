-- Laws of the answers to a call: what a run's answer says of them, and output that goes into a part of a buffer.
-- Assumes nothing.
use mathlib.Core.Path.{◌≡◌, refl, sym, ap, ◌∙◌}
use mathlib.Core.Bool.{Bool, true, false}
use mathlib.Core.List.{List, ◌∷◌, []}
use Prim.Native.Nat.{ℕ, ◌+◌, ◌-◌, ◌≤◌, ◌<◌}
use native.Mathlib.Omega.{arith}
use lib.Dec.{leb}
use lib.IntN.{ℤ}
use lib.ListN.{length}
use borrow.Author.Tests.{le-leb, lt-leb, leb-true}
use borrow.Rule.Slice.PartMut.{mid_of, put_mid, mid_len, put_same}
use Rattle.base.specs.Overwrite.{put_at}
use Rattle.base.specs.Answer.{Answer, refused, gives}
use Rattle.std.specs.Prelude.{Result, Ok, Err}
use Rattle.expansion.specs.declared.Output.{Output}
use Rattle.expansion.specs.declared.ExpansionRefusal.{ExpansionRefusal}
use Rattle.expansion.specs.declared.ExpansionRefusal.TheVariants as E
use Rattle.expansion.specs.Form.{Form, form_of}
use Rattle.expansion.specs.Machine.{Machine, Outcome, finished, failed}
use Rattle.expansion.specs.Expanding.{Expanding, ended, formed, Within, RefusedWithin}
use Rattle.level_laws.proofs.RightLaws.{wrong_inside}
use Rattle.expand_run.specs.declared.RunRefusal.{RunRefusal}
use Rattle.expand_run.specs.Runs.{refusal_of, says_ran, RanAs}
use Rattle.expand_output.specs.Answers.{LentAs}
use Rattle.expand_output.proofs.BufferLaws.{part_put}

-- a run that ends well does not fail
pub no_failure : {r : Result Output RunRefusal} {o : Output} {j : ℕ} {is : List ℕ} → r ≡ Ok o → says_ran r ≡ refused j is → ⊥
no_failure d h = let e = ap says_ran d in let y : ◌≡◌ {A = ℕ} 0 1 = cc in (let z : ⊥ = omega arith in z)

-- a run that ends well has finished
pub record Finished (y : Outcome) (v : List ℤ) (l k : ℕ) : Type 0 where
  pub end : Machine
  pub output : List ℕ
  pub is : y ≡ finished end output k
  pub lasting : v ≡ end.lasting
  pub long : length output ≡ l

pub done_finished : (y : Outcome) (v : List ℤ) {r : Result Output RunRefusal} {o : Output} → r ≡ Ok o → RanAs y r v → Finished y v o.length o.steps
done_finished (finished m b j) v {r} {o} d h =
    let q = h.0 in
    let z : ◌≡◌ {A = Output} (record { length = length b; steps = j }) o = cc in
    record {
      end = m;
      output = b;
      is = ap (λ (x : Output). finished m b x.steps) z;
      lasting = h.1;
      long = ap (λ (x : Output). x.length) z;
    }
done_finished (failed j i) v d h = absurd (no_failure d h)

-- a string of n bytes whose output has at most `most` bytes, and a buffer of `room` bytes
module _ (n most room : ℕ) (v : List ℤ) (b : List ℕ) where
  -- a run that fails
  pub answer_refused : (y : Outcome) {r : Result Output RunRefusal} (w : List ℤ) {f : RunRefusal} → RanAs y r w → r ≡ Err f
      → RefusedWithin n most (refusal_of f) → LentAs n most (ended y room) v v b 0 b (Err (refusal_of f))
  unfolding ended
  answer_refused (finished m o j) w h e u = absurd (let q = h.0 in let z : ◌≡◌ {A = ℕ} 0 1 = cc in (let x : ⊥ = omega arith in x))
  answer_refused (failed j i) w h e u = record { answer = rw e at h; lasting = refl; output = refl; within = u }

  -- a run that ends well, and its output
  pub answer_room : {y : Outcome} {w : List ℤ} {l k : ℕ} → Finished y w l k → room < l → l ≤ most
      → LentAs n most (ended y room) v v b 0 b (Err (E.Room l))
  unfolding ended
  answer_room {y} {w} {l} {k} f h u =
      rw (f.is, lt-leb (length f.output) room (omega (arith, f.long)))
      (record { answer = ap (λ (x : ℕ). refused 8 (x ∷ [])) (sym f.long); lasting = refl; output = refl; within = u })

  pub answer_given : {y : Outcome} {w : List ℤ} {b' : List ℕ} {o : Output} (f : Finished y w o.length o.steps) → o.length ≤ room → Within n most (Ok o)
      → b' ≡ put_at b 0 f.output → LentAs n most (ended y room) v w b 0 b' (Ok o)
  unfolding ended
  answer_given {y} {w} {b'} {o} f h u e =
      rw (f.is, le-leb (length f.output) room (omega (arith, f.long)))
      (record { answer = rw f.long; lasting = f.lasting; output = e; within = u })

-- a string whose form is wrong
pub answer_malformed : (s : List ℕ) {most : ℕ} (a : Answer Expanding) (v : List ℤ) (b : List ℕ) {p : ℕ} → form_of s ≡ Err p
    → LentAs (length s) most (formed (form_of s) a) v v b 0 b (Err (E.Malformed p))
unfolding formed
answer_malformed s a v b e = rw e (record { answer = refl; lasting = refl; output = refl; within = wrong_inside s e })

-- ---- a part of a buffer

-- what is given fits the room
given_fits : (f : Form) (y : Outcome) (room : ℕ) (x : Expanding) → formed f (ended y room) ≡ gives x → length x.output ≤ room
unfolding formed ended
given_fits (Err i) y room x e = absurd (let z : ◌≡◌ {A = ℕ} 0 1 = cc in (let u : ⊥ = omega arith in u))
given_fits (Ok done) (failed n i) room x e = absurd (let z : ◌≡◌ {A = ℕ} 0 1 = cc in (let u : ⊥ = omega arith in u))
given_fits (Ok done) (finished m o n) room x e = by_test (leb (length o) room) refl e
  where
    by_test : (t : Bool) → leb (length o) room ≡ t → ended (finished m o n) room ≡ gives x → length x.output ≤ room
    by_test true t q = let u = rw t at q in let w : o ≡ x.output = cc in rw (← w) (leb-true (length o) room t)
    by_test false t q = let u = rw t at q in absurd (let z : ◌≡◌ {A = ℕ} 0 1 = cc in (let w : ⊥ = omega arith in w))

-- an answer whose output fits the part of k bytes from at on
part_answer : (a : Answer Expanding) {n most : ℕ} {v v' : List ℤ} (b : List ℕ) {p : List ℕ} (at k : ℕ) {r : Result Output ExpansionRefusal} → at + k ≤ length b
    → ((x : Expanding) → a ≡ gives x → length x.output ≤ k)
    → LentAs n most a v v' (mid_of at k b) 0 p r → LentAs n most a v v' b at (put_mid at k b p) r
part_answer (refused m is) b at k h f l =
    record { answer = l.answer; lasting = l.lasting; output = ap (put_mid at k b) l.output ∙ put_same at k b; within = l.within }
part_answer (gives x) b at k h f l =
    record { answer = l.answer; lasting = l.lasting; output = ap (put_mid at k b) l.output ∙ part_put at k b x.output h (f x refl); within = l.within }

-- a call that is lent the part from at on
pub answer_part : (f : Form) (y : Outcome) {n most : ℕ} {v v' : List ℤ} (b : List ℕ) {p : List ℕ} (at : ℕ) {r : Result Output ExpansionRefusal} → at ≤ length b
    → LentAs n most (formed f (ended y (length (mid_of at (length b - at) b)))) v v' (mid_of at (length b - at) b) 0 p r
    → LentAs n most (formed f (ended y (length b - at))) v v' b at (put_mid at (length b - at) b p) r
answer_part f y b at h l =
    let e : length (mid_of at (length b - at) b) ≡ length b - at = mid_len at (length b) b (omega arith) in
    part_answer (formed f (ended y (length b - at))) b at (length b - at) (omega arith) (given_fits f y (length b - at)) (rw e at l)
