-- A run of a string whose form is right: it is right wherever its steps lead, and `%t` on 0 and `%e` go past the end of
-- their level.
-- Assumes nothing.
use mathlib.Core.Path.{◌≡◌, refl}
use mathlib.Core.Bool.{true, false}
use mathlib.Core.List.{List, ◌∷◌}
use Prim.Native.Nat.{ℕ, ◌<◌}
use native.Mathlib.Omega.{arith}
use lib.Dec.{ltb}
use lib.IntN.{pos}
use lib.ListN.{length, get_or, take, drop}
use borrow.Author.Tests.{le-ltb}
use Rattle.base.proofs.IfLaws.{if_both}
use Rattle.signed.specs.Signed.{is_zero}
use Rattle.expansion.specs.Limits.{stack_most}
use Rattle.expansion.specs.declared.Item.{Item}
use Rattle.expansion.specs.declared.Item.TheVariants as I
use Rattle.expansion.specs.Items.{item_at}
use Rattle.expansion.specs.Values.{Value, no_value, number, number_in}
use Rattle.expansion.specs.Machine.{Machine, with_stack, arity, pops_text, other_kind, effect, performed}
use Rattle.expansion.specs.Machine.{Effect, prints, pushes, stores, increments, to_else, to_end}
use Rattle.expansion.specs.Machine.{Taken, goes_on, goes_to_else, goes_to_end, empty, full, mismatched, taking}
use Rattle.expansion_laws.specs.Passes.{passed_to}
use Rattle.expansion_laws.specs.Steps.{Point, Step, leads, refuses, step_by, step}
use Rattle.expansion_laws.specs.Ends.{reaches_keeps}
use Rattle.level_laws.specs.Levels.{RightAt}
use Rattle.level_laws.specs.Jumps.{JumpsEnd}
use Rattle.level_laws.proofs.Ends.{levels_end}
use Rattle.level_laws.proofs.RightLaws.{right_start, right_on, right_then, right_else, passed_right}

-- ---- only `%t` goes to an else, and only `%e` to the end

abbrev EffectOf : Item → Effect → Type 0
EffectOf k (prints bytes) = Unit {0}
EffectOf k (pushes v) = Unit {0}
EffectOf k (stores c v) = Unit {0}
EffectOf k increments = Unit {0}
EffectOf k to_else = k ≡ I.Then
EffectOf k to_end = k ≡ I.Else

abbrev TakenOf : Item → Taken → Type 0
TakenOf k (goes_on m bytes) = Unit {0}
TakenOf k (goes_to_else m) = k ≡ I.Then
TakenOf k (goes_to_end m) = k ≡ I.Else
TakenOf k empty = Unit {0}
TakenOf k full = Unit {0}
TakenOf k mismatched = Unit {0}

effect_of : (k : Item) (m : Machine) (a b : Value) → EffectOf k (effect k m a b)
unfolding effect
effect_of (I.Byte c) m a b = tt
effect_of (I.Argument n) m a b = tt
effect_of (I.Number base zeros width) m a b = tt
effect_of I.Character m a b = tt
effect_of I.Text m a b = tt
effect_of I.Length m a b = tt
effect_of (I.Constant v) m a b = tt
effect_of (I.Store c) m a b = tt
effect_of (I.Load c) m a b = tt
effect_of (I.Binary o) m a b = tt
effect_of I.Not m a b = tt
effect_of I.Invert m a b = tt
effect_of I.Increment m a b = tt
effect_of I.If m a b = tt
effect_of I.Then m a b = if_both (EffectOf I.Then) (is_zero (number_in b)) (λ _. refl) (λ _. tt)
effect_of I.Else m a b = refl
effect_of I.End m a b = tt
effect_of I.Wrong m a b = tt

performed_of : (k : Item) (e : Effect) (m : Machine) → EffectOf k e → TakenOf k (performed e m)
unfolding performed
performed_of k (prints bytes) m h = tt
performed_of k (pushes v) m h =
    if_both (TakenOf k) (ltb (length m.stack) stack_most) (λ _. tt) (λ _. tt)
performed_of k (stores c v) m h = tt
performed_of k increments m h = tt
performed_of k to_else m h = h
performed_of k to_end m h = h

taking_of : (k : Item) (m : Machine) → TakenOf k (taking k m)
unfolding taking
taking_of k m =
    let a : Value = get_or m.stack 1 no_value in
    let b : Value = get_or m.stack 0 no_value in
    if_both (TakenOf k) (ltb (length m.stack) (arity k)) (λ _. tt)
    (λ _. if_both (TakenOf k) (other_kind k (take (arity k) m.stack)) (λ _. tt)
    (λ _. performed_of k (effect k m a b) (with_stack m (drop (arity k) m.stack)) (effect_of k m a b)))

-- ---- what a step keeps

abbrev RightBy : List ℕ → Step → Type 0
RightBy s (leads q) = RightAt s q.place
RightBy s (refuses n) = Unit {0}

pub step_right : (s : List ℕ) (p q : Point) → p.place < length s → step s p ≡ leads q → RightAt s p.place
    → RightAt s q.place
unfolding step
step_right s p q h e r =
    let k : Item = (item_at s p.place).item in
    rw e at (by_taken (taking k p.machine) (taking_of k p.machine))
  where
    by_taken : (t : Taken) → TakenOf (item_at s p.place).item t
        → RightBy s (step_by s p (item_at s p.place).next t)
    by_taken (goes_on m bytes) g = right_on r h
    by_taken (goes_to_else m) g = passed_right true (right_then r h g)
    by_taken (goes_to_end m) g = passed_right false (right_else r h g)
    by_taken empty g = tt
    by_taken full g = tt
    by_taken mismatched g = tt

-- ---- where they lead

-- `%t` that pops 0
then_zero : (m : Machine) (rest : List Value) → m.stack ≡ number (pos 0) ∷ rest
    → taking I.Then m ≡ goes_to_else (with_stack m rest)
unfolding taking arity other_kind pops_text effect performed
then_zero m rest h = rw (h, le-ltb (length (number (pos 0) ∷ rest)) 1 (omega arith)) refl

else_end : (m : Machine) → taking I.Else m ≡ goes_to_end m
unfolding taking arity other_kind effect performed
else_end m = rw (le-ltb (length m.stack) 0 (omega arith)) refl

pub jumps_end : JumpsEnd
unfolding step
jumps_end s arguments lasting p right r h =
    let k : ℕ = (item_at s p.place).next in
    let a = reaches_keeps (λ (q : Point). RightAt s q.place) (step_right s) r (right_start right) in
    record {
      on_zero = λ rest e z.
          (passed_to true s k 0, (levels_end s).ends true k (right_then a h e), rw (e, then_zero p.machine rest z) refl);
      at_else = λ e.
          (passed_to false s k 0, (levels_end s).ends false k (right_else a h e), rw (e, else_end p.machine) refl);
    }
