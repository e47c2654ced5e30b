-- The machine that expands a well formed string (document 01: Expansion).
-- Assumes nothing.
use Rattle.std.specs.Prelude.{Bool, true, false, ◌&&◌, ◌||◌, not, List, [], ◌∷◌, ◌++◌, ℕ, zero, suc, ◌+◌, ◌-◌, ◌^◌}
use Rattle.std.specs.Prelude.{eqb, leb, ltb, ℤ, pos, negsuc, length, get_or, set, take, drop, replicate}
use Prim.Native.Char.{code}
use Rattle.std.specs.Int.Bits.{bit_and, bit_or, bit_xor}
use Rattle.std.specs.Int.Signed.{lt_z}
use Rattle.std.specs.Int.{w32}
use Rattle.std.proofs.Common.{of_z, to_z}
use Rattle.base.specs.If.{when◌then◌else◌}
use Rattle.signed.specs.Signed.{is_zero, add, subtract, multiply, divide, remainder}
use Rattle.characters.specs.Character.{character}
use Rattle.expansion.specs.Limits.{stack_most}
use Rattle.expansion.specs.declared.Item.{Item}
use Rattle.expansion.specs.declared.Item.TheVariants as I
use Rattle.expansion.specs.declared.Operator.{Operator}
use Rattle.expansion.specs.declared.Operator.TheVariants.{Add, Subtract, Multiply, Divide, Remainder, BitAnd}
use Rattle.expansion.specs.declared.Operator.TheVariants.{BitOr, BitXor, Equal, Greater, Less, And, Or}
use Rattle.expansion.specs.declared.Class.{Class}
use Rattle.expansion.specs.declared.Class.TheVariants as C
use Rattle.expansion.specs.Items.{item_at}
use Rattle.expansion.specs.Form.{class_at}
use Rattle.expansion.specs.Print.{printed}
use Rattle.expansion.specs.Values.{Value, number, text, no_value, is_text, number_in, text_in}

-- the stack, its top first; the nine arguments; a to z; A to Z, which never hold texts
pub record Machine : Type 0 where
  pub stack : List Value
  pub arguments : List Value
  pub locals : List ℤ
  pub lasting : List ℤ

-- "a to z start at 0 in each call"
abbrev pub started : List Value → List ℤ → Machine
started arguments lasting =
    record { stack = []; arguments = arguments; locals = replicate 26 (pos 0); lasting = lasting }

-- ---- values

-- "Comparisons, `%A %O %!` give 1 or 0"
abbrev pub truth : Bool → ℤ
truth true = pos 1
truth false = pos 0

abbrev pub equal : ℤ → ℤ → Bool
equal (pos a) (pos b) = eqb a b
equal (pos a) (negsuc b) = false
equal (negsuc a) (pos b) = false
equal (negsuc a) (negsuc b) = eqb a b

-- a is the left operand
unfoldable pub applied : Operator → ℤ → ℤ → ℤ
applied Add a b = add a b
applied Subtract a b = subtract a b
applied Multiply a b = multiply a b
applied Divide a b = divide a b
applied Remainder a b = remainder a b
applied BitAnd a b = to_z w32 (bit_and (of_z w32 a) (of_z w32 b))
applied BitOr a b = to_z w32 (bit_or (of_z w32 a) (of_z w32 b))
applied BitXor a b = to_z w32 (bit_xor (of_z w32 a) (of_z w32 b))
applied Equal a b = truth (equal a b)
applied Greater a b = truth (lt_z b a)
applied Less a b = truth (lt_z a b)
applied And a b = truth (not (is_zero a) && not (is_zero b))
applied Or a b = truth (not (is_zero a) || not (is_zero b))

-- `%~`: every bit the other way
unfoldable pub inverted : ℤ → ℤ
inverted v = to_z w32 (2 ^ 32 - 1 - of_z w32 v)

-- capital letters are the lasting variables
unfoldable pub loaded : Machine → ℕ → ℤ
loaded m c =
    when leb c (code "Z") then get_or m.lasting (c - code "A") (pos 0) else get_or m.locals (c - code "a") (pos 0)

unfoldable pub stored : Machine → ℕ → ℤ → Machine
stored m c v =
    when leb c (code "Z") then record {
      stack = m.stack;
      arguments = m.arguments;
      locals = m.locals;
      lasting = set m.lasting (c - code "A") v;
    }
    else record {
      stack = m.stack;
      arguments = m.arguments;
      locals = set m.locals (c - code "a") v;
      lasting = m.lasting;
    }

-- "`%i` leaves a text among the first two as it is"
unfoldable pub raised : Value → Value
raised (number v) = number (add v (pos 1))
raised (text bytes) = text bytes

-- "`%i` adds 1 to the first two arguments"
unfoldable pub incremented : List Value → List Value
incremented xs = set (set xs 0 (raised (get_or xs 0 no_value))) 1 (raised (get_or xs 1 no_value))

-- ---- taking an item

-- how many values an item pops
unfoldable pub arity : Item → ℕ
arity (I.Byte b) = 0
arity (I.Argument n) = 0
arity (I.Number b z w) = 1
arity I.Character = 1
arity I.Text = 1
arity I.Length = 1
arity (I.Constant v) = 0
arity (I.Store c) = 1
arity (I.Load c) = 0
arity (I.Binary o) = 2
arity I.Not = 1
arity I.Invert = 1
arity I.Increment = 0
arity I.If = 0
arity I.Then = 1
arity I.Else = 0
arity I.End = 0
arity I.Wrong = 0

-- whether what an item pops is to be a text
unfoldable pub pops_text : Item → Bool
pops_text (I.Byte b) = false
pops_text (I.Argument n) = false
pops_text (I.Number b z w) = false
pops_text I.Character = false
pops_text I.Text = true
pops_text I.Length = true
pops_text (I.Constant v) = false
pops_text (I.Store c) = false
pops_text (I.Load c) = false
pops_text (I.Binary o) = false
pops_text I.Not = false
pops_text I.Invert = false
pops_text I.Increment = false
pops_text I.If = false
pops_text I.Then = false
pops_text I.Else = false
pops_text I.End = false
pops_text I.Wrong = false

-- "`%s` or `%l` pops a number, or any other item pops a text": one of the popped values is of the other kind
unfoldable pub other_kind : Item → List Value → Bool
other_kind k [] = false
other_kind k (v ∷ vs) = (when pops_text k then not (is_text v) else is_text v) || other_kind k vs

-- what an item does once its values are popped
pub data Effect : Type 0 where
  prints : List ℕ → Effect
  pushes : Value → Effect
  stores : ℕ → ℤ → Effect
  increments : Effect
  to_else : Effect
  to_end : Effect

-- the bytes that an effect prints
abbrev pub printed_by : Effect → List ℕ
printed_by (prints bytes) = bytes
printed_by (pushes v) = []
printed_by (stores c v) = []
printed_by increments = []
printed_by to_else = []
printed_by to_end = []

-- "The second value popped is the left operand": b is the first popped, a the second
unfoldable pub effect : Item → Machine → Value → Value → Effect
effect (I.Byte c) m a b = prints (c ∷ [])
effect (I.Argument n) m a b = pushes (get_or m.arguments n no_value)
effect (I.Number base zeros width) m a b = prints (printed base zeros width (number_in b))
effect I.Character m a b = prints (character (number_in b) ∷ [])
effect I.Text m a b = prints (text_in b)
effect I.Length m a b = pushes (number (pos (length (text_in b))))
effect (I.Constant v) m a b = pushes (number v)
effect (I.Store c) m a b = stores c (number_in b)
effect (I.Load c) m a b = pushes (number (loaded m c))
effect (I.Binary o) m a b = pushes (number (applied o (number_in a) (number_in b)))
effect I.Not m a b = pushes (number (truth (is_zero (number_in b))))
effect I.Invert m a b = pushes (number (inverted (number_in b)))
effect I.Increment m a b = increments
effect I.If m a b = prints []
effect I.Then m a b = when is_zero (number_in b) then to_else else prints []
effect I.Else m a b = to_end
effect I.End m a b = prints []
effect I.Wrong m a b = prints []

-- what taking an item comes to: go on behind it, with bytes printed; go past the next `%e` of this level or else its
-- `%;`; go past its `%;`; or the stack is empty, or full, or a popped value is of the other kind
pub data Taken : Type 0 where
  goes_on : Machine → List ℕ → Taken
  goes_to_else : Machine → Taken
  goes_to_end : Machine → Taken
  empty : Taken
  full : Taken
  mismatched : Taken

abbrev pub with_stack : Machine → List Value → Machine
with_stack m st = record { stack = st; arguments = m.arguments; locals = m.locals; lasting = m.lasting }

abbrev pub with_arguments : Machine → List Value → Machine
with_arguments m xs = record { stack = m.stack; arguments = xs; locals = m.locals; lasting = m.lasting }

unfoldable pub performed : Effect → Machine → Taken
performed (prints bytes) m = goes_on m bytes
performed (pushes v) m = when ltb (length m.stack) stack_most then goes_on (with_stack m (v ∷ m.stack)) [] else full
performed (stores c v) m = goes_on (stored m c v) []
performed increments m = goes_on (with_arguments m (incremented m.arguments)) []
performed to_else m = goes_to_else m
performed to_end m = goes_to_end m

-- pop, then do: "15 is judged first within one item", then 21, then 16
unfoldable pub taking : Item → Machine → Taken
taking k m =
    let a : Value = get_or m.stack 1 no_value in
    let b : Value = get_or m.stack 0 no_value in
    when ltb (length m.stack) (arity k) then empty
    else when other_kind k (take (arity k) m.stack) then mismatched
    else performed (effect k m a b) (with_stack m (drop (arity k) m.stack))

-- ---- passing over items

-- with d inner conditionals open: stop behind this item, or go on with so many open. elses: the level's own `%e` stops
-- too
pub data Passing : Type 0 where
  stops : Passing
  opens : ℕ → Passing

unfoldable pub passing : Bool → Class → ℕ → Passing
passing elses C.Plain d = opens d
passing elses C.If d = opens (suc d)
passing elses C.Then d = opens d
passing elses C.Else zero = when elses then stops else opens zero
passing elses C.Else (suc d) = opens (suc d)
passing elses C.End zero = stops
passing elses C.End (suc d) = opens d
passing elses C.Wrong d = opens d

-- the place behind the item at which passing stops, from i on; the count falls with each item; the string's length is
-- enough (passed_enough of expansion_laws)
unfoldable pub passed : ℕ → Bool → List ℕ → ℕ → ℕ → ℕ
passed zero elses s i d = i
passed (suc k) elses s i d =
    elim (ltb i (length s)) [
      | true ↦ elim (passing elses (class_at s i).class d) [
        | stops ↦ (class_at s i).next
        | opens d' ↦ passed k elses s (class_at s i).next d'
      ]
      | false ↦ i
    ]

-- ---- a run

-- the machine, the bytes printed and the steps; or a refusal's number with its item's place
pub data Outcome : Type 0 where
  finished : Machine → List ℕ → ℕ → Outcome
  failed : ℕ → ℕ → Outcome

-- from the item at i on, with bytes printed and n items taken so far; the count falls with each step, and each step
-- leads on in the string, so that its length is enough and no run ends early (run_enough, run-ends of expansion_laws)
unfoldable pub running : ℕ → List ℕ → ℕ → Machine → List ℕ → ℕ → Outcome
running zero s i m out n = finished m out n
running (suc k) s i m out n =
    elim (ltb i (length s)) [
      | true ↦ elim (taking (item_at s i).item m) [
        | goes_on m' bytes ↦ running k s (item_at s i).next m' (out ++ bytes) (n + 1)
        | goes_to_else m' ↦ running k s (passed (length s) true s (item_at s i).next 0) m' out (n + 1)
        | goes_to_end m' ↦ running k s (passed (length s) false s (item_at s i).next 0) m' out (n + 1)
        | empty ↦ failed 15 i
        | full ↦ failed 16 i
        | mismatched ↦ failed 21 i
      ]
      | false ↦ finished m out n
    ]

unfoldable pub run : List ℕ → List Value → List ℤ → Outcome
run s arguments lasting = running (length s) s 0 (started arguments lasting) [] 0
