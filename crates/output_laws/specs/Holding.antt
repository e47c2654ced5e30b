-- What holds of every value that a machine holds stays so: H of the values of its stack and its arguments, N of the
-- numbers of its variables.
-- Assumes nothing.
use mathlib.Core.List.{List, ◌∷◌}
use Rattle.std.specs.Prelude.{ℕ, ◌-◌, leb, ltb, ℤ, pos, length, set, take}
use Prim.Native.Char.{code}
use Rattle.std.proofs.Math.ListN.{get_or, drop}
use Rattle.base.proofs.IfLaws.{if_both}
use Rattle.base.proofs.TabulateLaws.{each_get_d, each_set, each_drop, each_replicate}
use Rattle.base.specs.Tabulate.{Each}
use Rattle.expansion.specs.Limits.{stack_most}
use Rattle.expansion.specs.declared.Item.{Item}
use Rattle.expansion.specs.Values.{Value, no_value}
use Rattle.expansion.specs.Machine.{Machine, started, loaded, stored, raised, incremented, arity, other_kind}
use Rattle.expansion.specs.Machine.{printed_by}
use Rattle.expansion.specs.Machine.{effect, with_stack, performed, taking}
use Rattle.expansion.specs.Machine.{Effect, prints, pushes, stores, increments, to_else, to_end}
use Rattle.output_laws.specs.Outputs.{HoldOf}

pub record Holding (H : Value → Type 0) (N : ℤ → Type 0) (m : Machine) : Type 0 where
  pub stack : Each H m.stack
  pub arguments : Each H m.arguments
  pub locals : Each N m.locals
  pub lasting : Each N m.lasting

-- the value that an effect pushes or stores
abbrev pub GivesValue : (Value → Type 0) → (ℤ → Type 0) → Effect → Type 0
GivesValue H N (prints bytes) = Unit {0}
GivesValue H N (pushes v) = H v
GivesValue H N (stores c v) = N v
GivesValue H N increments = Unit {0}
GivesValue H N to_else = Unit {0}
GivesValue H N to_end = Unit {0}

module _ (H : Value → Type 0) (N : ℤ → Type 0) where
  pub started_holding : (arguments : List Value) (lasting : List ℤ) → N (pos 0) → Each H arguments → Each N lasting
      → Holding H N (started arguments lasting)
  started_holding arguments lasting z h k =
      record { stack = tt; arguments = h; locals = each_replicate N 26 (pos 0) z; lasting = k }

  pub loaded_holds : (m : Machine) (c : ℕ) → N (pos 0) → Holding H N m → N (loaded m c)
  unfolding loaded
  loaded_holds m c z h =
      if_both N (leb c (code "Z")) (λ _. each_get_d N m.lasting (c - code "A") (pos 0) h.lasting z)
      (λ _. each_get_d N m.locals (c - code "a") (pos 0) h.locals z)

  with_stack_lem : (m : Machine) (st : List Value) → Holding H N m → Each H st → Holding H N (with_stack m st)
  with_stack_lem m st h k = record { stack = k; arguments = h.arguments; locals = h.locals; lasting = h.lasting }

  stored_holding : (m : Machine) (c : ℕ) (v : ℤ) → Holding H N m → N v → Holding H N (stored m c v)
  unfolding stored
  stored_holding m c v h k =
      if_both (Holding H N) (leb c (code "Z"))
      (λ _. record {
        stack = h.stack;
        arguments = h.arguments;
        locals = h.locals;
        lasting = each_set N m.lasting (c - code "A") v h.lasting k;
      })
      (λ _. record {
        stack = h.stack;
        arguments = h.arguments;
        locals = each_set N m.locals (c - code "a") v h.locals k;
        lasting = h.lasting;
      })

  module _ (none : H no_value) (raises : (v : Value) → H v → H (raised v)) where
    incremented_holds : (xs : List Value) → Each H xs → Each H (incremented xs)
    unfolding incremented
    incremented_holds xs h =
        each_set H (set xs 0 (raised (get_or xs 0 no_value))) 1 _
        (each_set H xs 0 _ h (raises (get_or xs 0 no_value) (each_get_d H xs 0 no_value h none)))
        (raises (get_or xs 1 no_value) (each_get_d H xs 1 no_value h none))

    -- P: a property of the bytes that the effect prints
    performed_holding : (P : List ℕ → Type 0) (e : Effect) (m : Machine) → GivesValue H N e → P (printed_by e)
        → Holding H N m → HoldOf (Holding H N) P (performed e m)
    unfolding performed
    performed_holding P (prints bytes) m v p h = (h, p)
    performed_holding P (pushes v) m w p h =
        if_both (HoldOf (Holding H N) P) (ltb (length m.stack) stack_most)
        (λ _. (with_stack_lem m (v ∷ m.stack) h (w, h.stack), p)) (λ _. tt)
    performed_holding P (stores c v) m w p h = (stored_holding m c v h w, p)
    performed_holding P increments m v p h = (
      record {
        stack = h.stack;
        arguments = incremented_holds m.arguments h.arguments;
        locals = h.locals;
        lasting = h.lasting;
      },
      p,
    )
    performed_holding P to_else m v p h = (h, p)
    performed_holding P to_end m v p h = (h, p)

    -- ---- the law: an item keeps it, and what it prints has a property that it has for all values of which H holds

    pub taking_holding : (k : Item) (m : Machine) (P : List ℕ → Type 0) → Holding H N m
        → ((a b : Value) → H a → H b → GivesValue H N (effect k m a b))
        → ((a b : Value) → H a → H b → P (printed_by (effect k m a b)))
        → HoldOf (Holding H N) P (taking k m)
    unfolding taking
    taking_holding k m P h gives p =
        let a : Value = get_or m.stack 1 no_value in
        let b : Value = get_or m.stack 0 no_value in
        let v : H a = each_get_d H m.stack 1 no_value h.stack none in
        let w : H b = each_get_d H m.stack 0 no_value h.stack none in
        let st : List Value = drop (arity k) m.stack in
        if_both (HoldOf (Holding H N) P) (ltb (length m.stack) (arity k)) (λ _. tt)
        (λ _. if_both (HoldOf (Holding H N) P) (other_kind k (take (arity k) m.stack)) (λ _. tt)
        (λ _. performed_holding P (effect k m a b) (with_stack m st) (gives a b v w) (p a b v w)
        (with_stack_lem m st h (each_drop H (arity k) m.stack h.stack))))
