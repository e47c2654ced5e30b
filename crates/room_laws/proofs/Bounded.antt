-- An accepted string of n bytes takes at most n steps and produces at most 25 times n bytes, and a text more for each
-- `%s` item.
-- Assumes nothing.
use mathlib.Core.Path.{◌≡◌, refl, ap}
use mathlib.Core.Bool.{Bool, true, false, not}
use mathlib.Core.List.{List, [], ◌∷◌, ◌++◌}
use Prim.Native.Nat.{ℕ, ◌+◌, ◌-◌, ◌*◌, ◌≤◌, ◌<◌}
use native.Mathlib.Nat.{mul-add, mul-le-mul_left}
use native.Mathlib.Omega.{arith}
use lib.Dec.{leb, ltb}
use lib.IntN.{ℤ}
use lib.ListN.{length, get_or, take, drop, length-append}
use borrow.Author.Tests.{leb-false}
use Rattle.std.specs.Prelude.{Ok}
use Rattle.base.proofs.IfLaws.{if_both, not-true}
use Rattle.base.specs.Answer.{Answer, number_of}
use Rattle.base.specs.Tabulate.{Each}
use Rattle.signed.specs.Signed.{is_zero}
use Rattle.expansion.specs.Limits.{string_most, stack_most, text_most, room_for}
use Rattle.expansion.specs.declared.Argument.{Argument}
use Rattle.expansion.specs.declared.Item.{Item}
use Rattle.expansion.specs.declared.Item.TheVariants as I
use Rattle.expansion.specs.Items.{item_at}
use Rattle.expansion.specs.Form.{form_of}
use Rattle.expansion.specs.Values.{Value, no_value, number_in}
use Rattle.expansion.specs.Machine.{Machine, with_stack, arity, other_kind, printed_by, effect, performed}
use Rattle.expansion.specs.Machine.{Effect, prints, pushes, stores, increments, to_else, to_end}
use Rattle.expansion.specs.Machine.{Taken, goes_on, goes_to_else, goes_to_end, empty, full, mismatched, taking}
use Rattle.expansion.specs.Machine.{Outcome, finished, failed, run}
use Rattle.expansion.specs.Counting.{count_of, prints_text, room_with}
use Rattle.expansion.specs.Arguments.{lies_in, is_short, each_passes, values_of, numbers_given}
use Rattle.expansion.specs.Expanding.{Expanding, ended, formed, expanding}
use Rattle.item_parts.proofs.Laws.{item_on}
use Rattle.expansion_laws.specs.Passes.{passed_to, passed_on}
use Rattle.expansion_laws.specs.Counts.{count_one, count_of_rest, count_start, count_step, count_passed}
use Rattle.expansion_laws.specs.Steps.{Point, Step, leads, refuses, step_by, step}
use Rattle.expansion_laws.specs.Runs.{step_on, step_counts}
use Rattle.expansion_laws.specs.Ends.{reaches_keeps}
use Rattle.expansion_laws.proofs.Ends.{run_ends}
use Rattle.output_laws.specs.Outputs.{output_holds}
use Rattle.level_laws.specs.Levels.{RightAt}
use Rattle.level_laws.proofs.RightLaws.{right_start, right_on, right_then, right_else, passed_right}
use Rattle.room_laws.specs.Room.{Value32, ValueWithin, Byte, AlwaysBounded, AlwaysNumbersBounded}
use Rattle.room_laws.proofs.Items.{item_bounded}
use Rattle.room_laws.proofs.Values.{Held, started_held, item_held}

-- ---- only `%t` goes to an else, and only `%e` to the end

abbrev EffectOf : Item → Effect → Type 0
EffectOf k (prints bytes) = Unit {0}
EffectOf k (pushes v) = Unit {0}
EffectOf k (stores c v) = Unit {0}
EffectOf k increments = Unit {0}
EffectOf k to_else = k ≡ I.Then
EffectOf k to_end = k ≡ I.Else

abbrev TakenOf : Item → Taken → Type 0
TakenOf k (goes_on m bytes) = Unit {0}
TakenOf k (goes_to_else m) = k ≡ I.Then
TakenOf k (goes_to_end m) = k ≡ I.Else
TakenOf k empty = Unit {0}
TakenOf k full = Unit {0}
TakenOf k mismatched = Unit {0}

effect_of : (k : Item) (m : Machine) (a b : Value) → EffectOf k (effect k m a b)
unfolding effect
effect_of (I.Byte c) m a b = tt
effect_of (I.Argument n) m a b = tt
effect_of (I.Number base zeros width) m a b = tt
effect_of I.Character m a b = tt
effect_of I.Text m a b = tt
effect_of I.Length m a b = tt
effect_of (I.Constant v) m a b = tt
effect_of (I.Store c) m a b = tt
effect_of (I.Load c) m a b = tt
effect_of (I.Binary o) m a b = tt
effect_of I.Not m a b = tt
effect_of I.Invert m a b = tt
effect_of I.Increment m a b = tt
effect_of I.If m a b = tt
effect_of I.Then m a b = if_both (EffectOf I.Then) (is_zero (number_in b)) (λ _. refl) (λ _. tt)
effect_of I.Else m a b = refl
effect_of I.End m a b = tt
effect_of I.Wrong m a b = tt

performed_of : (k : Item) (e : Effect) (m : Machine) → EffectOf k e → TakenOf k (performed e m)
unfolding performed
performed_of k (prints bytes) m h = tt
performed_of k (pushes v) m h =
    if_both (TakenOf k) (ltb (length m.stack) stack_most) (λ _. tt) (λ _. tt)
performed_of k (stores c v) m h = tt
performed_of k increments m h = tt
performed_of k to_else m h = h
performed_of k to_end m h = h

taking_of : (k : Item) (m : Machine) → TakenOf k (taking k m)
unfolding taking
taking_of k m =
    let a : Value = get_or m.stack 1 no_value in
    let b : Value = get_or m.stack 0 no_value in
    if_both (TakenOf k) (ltb (length m.stack) (arity k)) (λ _. tt)
    (λ _. if_both (TakenOf k) (other_kind k (take (arity k) m.stack)) (λ _. tt)
    (λ _. performed_of k (effect k m a b) (with_stack m (drop (arity k) m.stack)) (effect_of k m a b)))

-- ---- what a step keeps

-- the string is right from a point's place on, which lies in the string or at its end, and each step so far took a byte
-- at least
abbrev Kept : List ℕ → Point → Type 0
Kept s p = RightAt s p.place × (p.steps ≤ p.place)

abbrev RightBy : List ℕ → Step → Type 0
RightBy s (leads q) = RightAt s q.place
RightBy s (refuses n) = Unit {0}

step_right : (s : List ℕ) (p q : Point) → p.place < length s → step s p ≡ leads q → RightAt s p.place
    → RightAt s q.place
unfolding step
step_right s p q h e r =
    let k : Item = (item_at s p.place).item in
    rw e at (by_taken (taking k p.machine) (taking_of k p.machine))
  where
    by_taken : (t : Taken) → TakenOf (item_at s p.place).item t
        → RightBy s (step_by s p (item_at s p.place).next t)
    by_taken (goes_on m bytes) g = right_on r h
    by_taken (goes_to_else m) g = passed_right true (right_then r h g)
    by_taken (goes_to_end m) g = passed_right false (right_else r h g)
    by_taken empty g = tt
    by_taken full g = tt
    by_taken mismatched g = tt

step_keeps : (s : List ℕ) (p q : Point) → p.place < length s → step s p ≡ leads q → Kept s p → Kept s q
step_keeps s p q h e (r, l) =
    (step_right s p q h e r, omega (arith, l, step_on s p q h e, step_counts s p q h e))

-- ---- refusals

abbrev NotEight : Answer Expanding → Type 0
NotEight a = number_of a ≡ 8 → ⊥

abbrev RefusesOther : Step → Type 0
RefusesOther (leads q) = Unit {0}
RefusesOther (refuses n) = n ≡ 8 → ⊥

-- no step is refused with 8
step_other : (s : List ℕ) (p : Point) → RefusesOther (step s p)
unfolding step
step_other s p = by_taken (taking (item_at s p.place).item p.machine)
  where
    by_taken : (t : Taken) → RefusesOther (step_by s p (item_at s p.place).next t)
    by_taken (goes_on m bytes) = tt
    by_taken (goes_to_else m) = tt
    by_taken (goes_to_end m) = tt
    by_taken empty = λ e. omega arith
    by_taken full = λ e. omega arith
    by_taken mismatched = λ e. omega arith

run_other : (s : List ℕ) (arguments : List Value) (lasting : List ℤ) (n i : ℕ) → run s arguments lasting ≡ failed n i → n ≡ 8 → ⊥
run_other s arguments lasting n i e =
    let (q, _, x) = (run_ends s arguments lasting (failed n i)).0 e in
    rw x.2 at (step_other s q)

-- ---- a run that ends well

-- the bytes x that are printed before the item at i, with a text for each `%s` item that is left, are at most 25 times i,
-- with a text for each `%s` item of the string
abbrev pub Short : ℕ → List ℕ → ℕ → List ℕ → Type 0
Short most s i x = length x + most * count_of_rest prints_text s i ≤ room_for i + most * count_of prints_text s

pub short_none : (most : ℕ) (s : List ℕ) → Short most s 0 []
short_none most s = rw (count_start prints_text s) (omega arith)

pub short_passes : (most : ℕ) (s : List ℕ) (elses : Bool) (i : ℕ) (x : List ℕ) → Short most s i x
    → Short most s (passed_to elses s i 0) x
short_passes most s elses i x h =
    let c = mul-le-mul_left most (count_passed prints_text s elses i 0) in
    omega (arith, h, c, passed_on elses s i 0)

-- with what the item at i prints
pub short_more : (most : ℕ) (s : List ℕ) (i : ℕ) (x y : List ℕ) → i < length s → Short most s i x
    → length y ≤ room_for ((item_at s i).next - i) + most * count_one prints_text s i → Short most s (item_at s i).next (x ++ y)
short_more most s i x y l h k =
    let c = ap (λ n. most * n) (count_step prints_text s i l) in
    let d = mul-add most (count_one prints_text s i) (count_of_rest prints_text s (item_at s i).next) in
    rw (length-append x y) (omega (arith, h, k, c, d, item_on s i l))

module _ (most : ℕ) (s : List ℕ) (arguments : List Argument) (lent : List ℕ) (lasting : List ℤ)
    (fits : most ≤ text_most) (bytes : Each Byte s) (right : form_of s ≡ Ok tt)
    (given : Each (ValueWithin most) (values_of lent arguments)) (kept : Each Value32 lasting) where
  -- the place at which it ends, at the end of the string and not past it: the steps and the output are bounded by it
  run_place : (m : Machine) (out : List ℕ) (k : ℕ) → run s (values_of lent arguments) lasting ≡ finished m out k
      → (i : ℕ) × (i ≤ length s) × (k ≤ i) × Short most s i out
  run_place m out k e =
      let (q, r, x, _, o) =
      output_holds (Held most) (Short most s) s (short_none most s) (short_passes most s)
      (λ i m x l h w.
      item_held most fits s i m (λ y. Short most s (item_at s i).next (x ++ y)) bytes l h
      (λ a b _ v. short_more most s i x (printed_by (effect (item_at s i).item m a b)) l w (item_bounded most s i m a b l v)))
      (values_of lent arguments) lasting m out k (started_held most (values_of lent arguments) lasting given kept) e in
      let (z, l) = reaches_keeps (Kept s) (step_keeps s) r (right_start right, omega arith) in
      let n : q.steps ≡ k = x.3 in
      (q.place, z.inside, omega (arith, l), o)

  run_steps : (m : Machine) (out : List ℕ) (k : ℕ) → run s (values_of lent arguments) lasting ≡ finished m out k
      → k ≤ length s
  run_steps m out k e = let (_, g, l, _) = run_place m out k e in omega (arith, g, l)

  run_output : (m : Machine) (out : List ℕ) (k : ℕ) → run s (values_of lent arguments) lasting ≡ finished m out k
      → length out ≤ room_with most s
  run_output m out k e = let (_, g, _, o) = run_place m out k e in omega (arith, g, o)

  ended_not_eight : (y : Outcome) (room : ℕ) → run s (values_of lent arguments) lasting ≡ y → room_with most s ≤ room
      → NotEight (ended y room)
  unfolding ended
  ended_not_eight (failed n i) room e h = run_other s (values_of lent arguments) lasting n i e
  ended_not_eight (finished m out k) room e h =
      if_both NotEight (not (leb (length out) room))
      (λ t.
      let l : room < length out = leb-false (length out) room (not-true (leb (length out) room) t) in
      absurd (omega (arith, run_output m out k e)))
      (λ _ z. omega arith)

  expanding_not_eight : (size at : ℕ) → at + room_with most s ≤ size
      → NotEight (expanding s arguments lent lasting size at)
  unfolding expanding formed
  expanding_not_eight size at h =
      if_both NotEight (not (leb at size)) (λ _ z. omega arith)
      (λ _. if_both NotEight (not (each_passes (lies_in lent) arguments)) (λ _ z. omega arith)
      (λ _. if_both NotEight (not (leb (length s) string_most)) (λ _ z. omega arith)
      (λ _. if_both NotEight (not (each_passes is_short arguments)) (λ _ z. omega arith)
      (λ _. rw right (ended_not_eight (run s (values_of lent arguments) lasting) (size - at) refl (omega arith))))))

-- ---- the theorems

pub bounded : AlwaysBounded
bounded most s arguments lent lasting fits bytes right given kept =
    record {
      steps = run_steps most s arguments lent lasting fits bytes right given kept;
      output = run_output most s arguments lent lasting fits bytes right given kept;
      room = λ size at v h e.
          expanding_not_eight most s arguments lent lasting fits bytes right given kept size at h (ap number_of e);
    }

numbers_within : (arguments : List ℤ) (lent : List ℕ) → Each Value32 arguments
    → Each (ValueWithin 0) (values_of lent (numbers_given arguments))
numbers_within [] lent h = tt
numbers_within (v ∷ vs) lent h = (h.0, numbers_within vs lent h.1)

-- no text has more than 0 bytes
pub numbers_bounded : AlwaysNumbersBounded
numbers_bounded s arguments lent lasting bytes right given kept =
    let b =
    bounded 0 s (numbers_given arguments) lent lasting (omega arith) bytes right (numbers_within arguments lent given) kept in
    record {
      output = λ m out k e. omega (arith, b.output m out k e);
      room = λ size at v h e. b.room size at v (omega arith) e;
    }
