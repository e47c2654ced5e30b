-- Laws of steps.
-- Assumes nothing.
use mathlib.Core.Path.{◌≡◌, refl, sym, ap}
use mathlib.Core.Bool.{Bool, true, false}
use mathlib.Core.List.{List, []}
use Prim.Native.Nat.{ℕ, ◌+◌, ◌<◌}
use native.Mathlib.Omega.{arith}
use lib.Dec.{leb}
use lib.IntN.{ℤ}
use lib.ListN.{length}
use Rattle.base.specs.If.{when◌then◌else◌}
use Rattle.base.specs.Overwrite.{put_at}
use Rattle.base.proofs.OverwriteLaws.{put_nil}
use Rattle.expansion.specs.declared.Item.{Item}
use Rattle.expansion.specs.declared.Item.TheVariants as I
use Rattle.expansion.specs.declared.Operator.{Operator}
use Rattle.item_parts.specs.Right.{Simple}
use Rattle.print.specs.Emit.{emitted}
use Rattle.expansion.specs.Values.{Value}
use Rattle.expansion.specs.Machine.{Machine, arity, effect, loaded}
use Rattle.machine.specs.declared.Step.TheVariants.{Go}
use Rattle.machine.specs.Steps.{SteppedAs, step_of, machine_after}
use Rattle.variables.specs.Machines.{machine}

pub emitted_nothing : (b : List ℕ) (at : ℕ) → b ≡ emitted b at []
unfolding emitted
emitted_nothing b at = by_test (leb (at + 0) (length b))
  where
    by_test : (t : Bool) → b ≡ (when t then put_at b at [] else b)
    by_test true = sym (put_nil b at)
    by_test false = refl

pub no_more : (w : ℕ) → Go w ≡ Go (w + 0)
no_more w = ap Go (omega arith)

-- an item's effect looks at no other values of the stack than those that it pops
pub effect_same : (k : Item) (st st' x : List Value) (y z : List ℤ) (a a' b b' : Value) → (0 < arity k → b ≡ b') → (1 < arity k → a ≡ a')
    → effect k (machine st x y z) a b ≡ effect k (machine st' x y z) a' b'
unfolding effect arity loaded
effect_same (I.Byte c) st st' x y z a a' b b' h g = refl
effect_same (I.Argument n) st st' x y z a a' b b' h g = refl
effect_same (I.Number d f w) st st' x y z a a' b b' h g = rw (h (omega arith))
effect_same I.Character st st' x y z a a' b b' h g = rw (h (omega arith))
effect_same I.Text st st' x y z a a' b b' h g = rw (h (omega arith))
effect_same I.Length st st' x y z a a' b b' h g = rw (h (omega arith))
effect_same (I.Constant v) st st' x y z a a' b b' h g = refl
effect_same (I.Store c) st st' x y z a a' b b' h g = rw (h (omega arith))
effect_same (I.Load c) st st' x y z a a' b b' h g = refl
effect_same (I.Binary o) st st' x y z a a' b b' h g = rw (h (omega arith), g (omega arith))
effect_same I.Not st st' x y z a a' b b' h g = rw (h (omega arith))
effect_same I.Invert st st' x y z a a' b b' h g = rw (h (omega arith))
effect_same I.Increment st st' x y z a a' b b' h g = refl
effect_same I.If st st' x y z a a' b b' h g = refl
effect_same I.Then st st' x y z a a' b b' h g = rw (h (omega arith))
effect_same I.Else st st' x y z a a' b b' h g = refl
effect_same I.End st st' x y z a a' b b' h g = refl
effect_same I.Wrong st st' x y z a a' b b' h g = refl

-- an item that prints, stores and computes nothing does nothing
pub others_go : (k : Item) (m : Machine) (a b : Value) (w : ℕ) (out : List ℕ) → Simple k → ((c : ℕ) → k ≡ I.Byte c → ⊥) → (k ≡ I.Character → ⊥)
    → ((c : ℕ) → k ≡ I.Store c → ⊥) → ((c : ℕ) → k ≡ I.Load c → ⊥) → ((o : Operator) → k ≡ I.Binary o → ⊥) → (k ≡ I.Not → ⊥) → (k ≡ I.Invert → ⊥)
    → SteppedAs (effect k m a b) w m m out out (Go w)
unfolding effect step_of machine_after
others_go (I.Byte c) m a b w out s p q r t u v x = absurd (p c refl)
others_go (I.Argument n) m a b w out s p q r t u v x = absurd s
others_go (I.Number d f n) m a b w out s p q r t u v x = absurd s
others_go I.Character m a b w out s p q r t u v x = absurd (q refl)
others_go I.Text m a b w out s p q r t u v x = absurd s
others_go I.Length m a b w out s p q r t u v x = absurd s
others_go (I.Constant n) m a b w out s p q r t u v x = absurd s
others_go (I.Store c) m a b w out s p q r t u v x = absurd (r c refl)
others_go (I.Load c) m a b w out s p q r t u v x = absurd (t c refl)
others_go (I.Binary o) m a b w out s p q r t u v x = absurd (u o refl)
others_go I.Not m a b w out s p q r t u v x = absurd (v refl)
others_go I.Invert m a b w out s p q r t u v x = absurd (x refl)
others_go I.Increment m a b w out s p q r t u v x = absurd s
others_go I.If m a b w out s p q r t u v x = record { step = no_more _; after = refl; output = emitted_nothing _ _ }
others_go I.Then m a b w out s p q r t u v x = absurd s
others_go I.Else m a b w out s p q r t u v x = absurd s
others_go I.End m a b w out s p q r t u v x = record { step = no_more _; after = refl; output = emitted_nothing _ _ }
others_go I.Wrong m a b w out s p q r t u v x = record { step = no_more _; after = refl; output = emitted_nothing _ _ }
