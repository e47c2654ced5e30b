-- The turns of a call's loop: a run is lent the buffer's first bytes, which are kept elsewhere too; where its output is longer and fits the buffer,
-- a second run is lent as many bytes as the output has.
-- Assumes nothing.
use mathlib.Core.Path.{◌≡◌, refl, sym, ap, ◌∙◌, subst}
use mathlib.Core.List.{List}
use Prim.Native.Nat.{ℕ, ◌+◌, ◌-◌, ◌≤◌, ◌<◌}
use native.Mathlib.Omega.{arith}
use lib.IntN.{ℤ}
use lib.ListN.{length, take, drop}
use lib.Seq.{drop-drop, length-take-le}
use borrow.Rule.Slice.PartMut.{mid_of, put_mid, mid_len, same_len_mid, drop_put}
use Rattle.base.specs.Overwrite.{put_at}
use Rattle.expansion.specs.declared.Argument.{Argument}
use Rattle.std.specs.Prelude.{Result, Ok, Err}
use Rattle.expansion.specs.declared.Output.{Output}
use Rattle.expansion.specs.declared.ExpansionRefusal.{ExpansionRefusal}
use Rattle.expansion.specs.declared.ExpansionRefusal.TheVariants as E
use Rattle.expansion.specs.Machine.{Machine, Outcome, finished}
use Rattle.expansion.specs.Counting.{room_with}
use Rattle.expansion.specs.Expanding.{ended}
use Rattle.arguments.specs.Judged.{NoneLonger}
use Rattle.expand_run.specs.declared.RunRefusal.{RunRefusal}
use Rattle.expand_run.specs.Runs.{refusal_of, RanAs, PutAs, RunAs}
use Rattle.expand_output.specs.Answers.{LentAs, KeptAs}
use Rattle.expand_output.proofs.BufferLaws.{front_is, part_put, put_back, put_over}
use Rattle.expand_output.proofs.AnswerLaws as A
use Rattle.expand_output.proofs.AnswerLaws.{Finished, done_finished}

-- a buffer's bytes were b₀ and are b, and its first `end` bytes are lent to a run with outcome y: in the first turn as many as are kept, in the
-- second as many as the output has
pub data Turn (y : Outcome) (b₀ b : List ℕ) (first end : ℕ) : Type 0 where
  one : b ≡ b₀ → end ≡ first → Turn y b₀ b first end
  two : (m : Machine) (o : List ℕ) (k : ℕ) → y ≡ finished m o k → end ≡ length o → drop end b ≡ drop end b₀ → Turn y b₀ b first end

-- what holds before a turn: the variables are v, as they came, v₀; the outcome of a run with them is f of them, and the buffer's first bytes are kept
pub record Trying (f : List ℤ → Outcome) (v₀ v : List ℤ) (kept b₀ b : List ℕ) (first end : ℕ) : Type 0 where
  pub lasting : v ≡ v₀
  pub bytes : take first kept ≡ take first b₀
  pub held : first ≤ length kept
  pub enough : first ≤ length b₀
  pub inside : end ≤ length b₀
  pub same : length b ≡ length b₀
  pub turn : Turn (f v₀) b₀ b first end

-- the first bytes are kept
pub trying_start : {f : List ℤ → Outcome} {v : List ℤ} {kept₀ kept b : List ℕ} {first : ℕ} → KeptAs b kept₀ kept first
    → length kept ≡ length kept₀ → Trying f v v kept b b first first
trying_start {f} {v} {kept₀} {kept} {b} {first} k l =
    record {
      lasting = refl;
      bytes = ap (take first) k.held ∙ front_is kept₀ (take first b) first (length-take-le first b k.inside);
      held = omega (arith, l, k.room);
      enough = k.inside;
      inside = k.inside;
      same = refl;
      turn = one refl refl;
    }

-- why a turn is refused whose run answers r: the run is, or the buffer has only size bytes
pub data Refuses (r : Result Output RunRefusal) (size : ℕ) (x : ExpansionRefusal) : Type 0 where
  stopped : (f : RunRefusal) → r ≡ Err f → x ≡ refusal_of f → Refuses r size x
  no_room : (o : Output) → r ≡ Ok o → size < o.length → x ≡ E.Room o.length → Refuses r size x

-- the run of a string s answers r, and after it the variables are w, and the part that was lent holds p
module _ {f : List ℤ → Outcome} {v₀ v : List ℤ} {kept b₀ b : List ℕ} {first end : ℕ} (T : Trying f v₀ v kept b₀ b first end)
    {s : List ℕ} {arguments : List Argument} {r : Result Output RunRefusal} {w : List ℤ} {p : List ℕ} (R : RunAs s arguments (f v) (mid_of 0 end b) r w p)
    (q : length p ≡ length (mid_of 0 end b)) where
  abbrev after : List ℕ
  after = put_mid 0 end b p

  lent : length (mid_of 0 end b) ≡ end
  lent = let z : end - 0 ≡ end = omega arith in rw z at (mid_len 0 end b (omega (arith, T.inside, T.same)))

  pub after_same : length after ≡ length b₀
  after_same = same_len_mid 0 end b p q ∙ T.same

  -- the bytes behind the part
  behind : drop end after ≡ drop end b₀
  behind =
      let z : end - 0 ≡ end = omega arith in
      rw z at (drop_put 0 end b p (omega arith) (omega (arith, T.inside, T.same)) (q ∙ lent ∙ sym z)) ∙ by_turn T.turn
    where
      by_turn : Turn (f v₀) b₀ b first end → drop end b ≡ drop end b₀
      by_turn (one e g) = ap (drop end) e
      by_turn (two m o k e g h) = h

  -- no output fits
  abbrev NoneFits : Type 0
  NoneFits = (m : Machine) (o : List ℕ) (k : ℕ) → f v₀ ≡ finished m o k → length o ≤ length b₀ → ⊥

  -- then this is the first turn
  none_first : NoneFits → (b ≡ b₀) × (end ≡ first)
  none_first x = by_turn T.turn
    where
      by_turn : Turn (f v₀) b₀ b first end → (b ≡ b₀) × (end ≡ first)
      by_turn (one e g) = (e, g)
      by_turn (two m o k e g h) = absurd (x m o k e (omega (arith, T.inside)))

  -- all that was lent is kept
  none_held : NoneFits → end ≤ length kept
  none_held x = omega (arith, (none_first x).1, T.held)

  -- and it is put back
  back : NoneFits → put_mid 0 end after (take end kept) ≡ b₀
  back x =
      let e = (none_first x).0 in
      let g : take end kept ≡ take end b = rw ((none_first x).1, e) T.bytes in
      rw g (put_back end b p (omega (arith, T.inside, T.same)) (q ∙ lent) ∙ e)

  ran : RunAs s arguments (f v₀) (mid_of 0 end b) r w p
  ran = rw T.lasting at R

  end_of : {o : Output} → r ≡ Ok o → Finished (f v₀) w o.length o.steps
  end_of d = done_finished (f v₀) w d ran.answer

  -- the output is that of any run that finishes
  one_output : {o : Output} → r ≡ Ok o → {m : Machine} {c : List ℕ} {j : ℕ} → f v₀ ≡ finished m c j → length c ≡ o.length
  one_output d {m} {c} {j} e = let g = end_of d in let x = g.is in let z : c ≡ g.output = cc in ap length z ∙ g.long

  refuses_none : {x : ExpansionRefusal} → Refuses r (length after) x → NoneFits
  refuses_none (stopped g e h) m c j i z =
      let q = (subst (λ (y : Outcome). RanAs y r w) i ran.answer).0 in
      let y : ◌≡◌ {A = ℕ} 0 1 = cc in (let u : ⊥ = omega arith in u)
  refuses_none (no_room o d h g) m c j i z = let x : ⊥ = omega (arith, after_same, one_output d i) in x

  pub refuses_held : {x : ExpansionRefusal} → Refuses r (length after) x → end ≤ length kept
  refuses_held n = none_held (refuses_none n)

  -- x is the answer, and after it the variables are v', and the buffer holds b'
  abbrev Answered : List ℤ → List ℕ → Result Output ExpansionRefusal → Type 0
  Answered v' b' x = (most : ℕ) → NoneLonger most arguments → LentAs (length s) (room_with most s) (ended (f v₀) (length b₀)) v₀ v' b₀ 0 b' x

  refused : {x : ExpansionRefusal} → Refuses r (length after) x → Answered v₀ b₀ (Err x)
  refused (stopped g e h) most j =
      rw h (A.answer_refused (length s) (room_with most s) (length b₀) v₀ b₀ (f v₀) w ran.answer e (rw e at (ran.within most j)))
  refused (no_room o d h g) most j =
      rw g (A.answer_room (length s) (room_with most s) (length b₀) v₀ b₀ (end_of d) (omega (arith, after_same)) (rw d at (ran.within most j)).0)

  pub turn_refused : {x : ExpansionRefusal} {ys : List ℕ} → Refuses r (length after) x → ys ≡ take end kept
      → Answered v₀ (put_mid 0 end after ys) (Err x)
  turn_refused n e = rw (e, back (refuses_none n)) (refused n)

  module _ {o : Output} (d : r ≡ Ok o) where
    -- a run whose output is in the part
    pub turn_done : o.length ≤ end → Answered w after (Ok o)
    turn_done h most j =
        A.answer_given (length s) (room_with most s) (length b₀) v₀ b₀ (end_of d) (omega (arith, T.inside)) (rw d at (ran.within most j))
        (ap (put_mid 0 end b) (written (omega (arith, (end_of d).long, lent)))
        ∙ part_put 0 end b (end_of d).output (omega (arith, T.inside, T.same)) (omega (arith, (end_of d).long))
        ∙ put_over b b₀ (end_of d).output (by_turn T.turn))
      where
        written : length (end_of d).output ≤ length (mid_of 0 end b) → p ≡ put_at (mid_of 0 end b) 0 (end_of d).output
        written = subst (λ (y : Outcome). PutAs y (mid_of 0 end b) p) (end_of d).is ran.output

        by_turn : Turn (f v₀) b₀ b first end → drop (length (end_of d).output) b ≡ drop (length (end_of d).output) b₀
        by_turn (one e g) = ap (drop (length (end_of d).output)) e
        by_turn (two m c k i g z) =
            let x : length (end_of d).output ≡ end = omega (arith, one_output d i, (end_of d).long) in
            rw x z

    -- a run whose output needs a longer part, and the variables as they came
    pub turn_again : o.length ≤ length after → end < o.length → Trying f v₀ v₀ kept b₀ after first o.length
    turn_again h g =
        record {
          lasting = refl;
          bytes = T.bytes;
          held = T.held;
          enough = T.enough;
          inside = omega (arith, after_same);
          same = after_same;
          turn = two (end_of d).end (end_of d).output o.steps (end_of d).is (sym (end_of d).long) further;
        }
      where
        further : drop o.length after ≡ drop o.length b₀
        further =
            let e : end + (o.length - end) ≡ o.length = omega arith in
            rw (← e) (sym (drop-drop (o.length - end) end after) ∙ ap (drop (o.length - end)) behind ∙ drop-drop (o.length - end) end b₀)
