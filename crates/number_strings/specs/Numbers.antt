-- Document 02, 2026-07, leaves strings without `%s` and `%l` as they were: with arguments that are all numbers such a
-- string gives what it gave before. That is stated here over numbers alone, as it stood then (2026-04 included), by
-- the parts that stayed; of those `item_at`, `form_of` and `arity` have the two items more, of which such a string has
-- none. `numbers_alone` of proofs/Laws.antt says that it is so for every such string, all arguments and all
-- variables.
-- Assumes nothing.
use Rattle.std.specs.Prelude.{◌≡◌, true, false, not, List, [], ◌∷◌, ◌++◌, ℕ, zero, suc, ◌+◌, ◌-◌, leb, ltb, ℤ, pos}
use Rattle.std.specs.Prelude.{length, get_or, set, drop, replicate}
use Prim.Native.Char.{code}
use Rattle.base.specs.If.{when◌then◌else◌}
use Rattle.base.specs.Answer.{Answer, refused, gives}
use Rattle.signed.specs.Signed.{is_zero, add}
use Rattle.characters.specs.Character.{character}
use Rattle.expansion.specs.Limits.{string_most, stack_most}
use Rattle.expansion.specs.declared.Item.{Item}
use Rattle.expansion.specs.declared.Item.TheVariants as I
use Rattle.expansion.specs.Items.{item_at}
use Rattle.expansion.specs.Form.{form_of}
use Rattle.expansion.specs.Print.{printed}
use Rattle.expansion.specs.Machine.{truth, applied, inverted, arity, pops_text, passed}
use Rattle.expansion.specs.Counting.{count_of}
use Rattle.expansion.specs.Arguments.{numbers_given}
use Rattle.expansion.specs.Expanding.{Expanding, formed, expanding}

-- ---- the machine of numbers

-- the stack, its top first; the nine arguments; a to z; A to Z
pub record Machine01 : Type 0 where
  pub stack : List ℤ
  pub arguments : List ℤ
  pub locals : List ℤ
  pub lasting : List ℤ

-- "a to z start at 0 in each call"
abbrev pub started01 : List ℤ → List ℤ → Machine01
started01 arguments lasting =
    record { stack = []; arguments = arguments; locals = replicate 26 (pos 0); lasting = lasting }

-- capital letters are the lasting variables
unfoldable pub loaded01 : Machine01 → ℕ → ℤ
loaded01 m c =
    when leb c (code "Z") then get_or m.lasting (c - code "A") (pos 0) else get_or m.locals (c - code "a") (pos 0)

unfoldable pub stored01 : Machine01 → ℕ → ℤ → Machine01
stored01 m c v =
    when leb c (code "Z") then record {
      stack = m.stack;
      arguments = m.arguments;
      locals = m.locals;
      lasting = set m.lasting (c - code "A") v;
    }
    else record {
      stack = m.stack;
      arguments = m.arguments;
      locals = set m.locals (c - code "a") v;
      lasting = m.lasting;
    }

-- "`%i` adds 1 to the first two arguments"
unfoldable pub incremented01 : List ℤ → List ℤ
incremented01 xs = set (set xs 0 (add (get_or xs 0 (pos 0)) (pos 1))) 1 (add (get_or xs 1 (pos 0)) (pos 1))

-- ---- taking an item

-- what an item does once its values are popped
pub data Effect01 : Type 0 where
  prints : List ℕ → Effect01
  pushes : ℤ → Effect01
  stores : ℕ → ℤ → Effect01
  increments : Effect01
  to_else : Effect01
  to_end : Effect01

-- "The second value popped is the left operand": b is the first popped, a the second. No such string has `%s` or `%l`
unfoldable pub effect01 : Item → Machine01 → ℤ → ℤ → Effect01
effect01 (I.Byte c) m a b = prints (c ∷ [])
effect01 (I.Argument n) m a b = pushes (get_or m.arguments n (pos 0))
effect01 (I.Number base zeros width) m a b = prints (printed base zeros width b)
effect01 I.Character m a b = prints (character b ∷ [])
effect01 I.Text m a b = prints []
effect01 I.Length m a b = prints []
effect01 (I.Constant v) m a b = pushes v
effect01 (I.Store c) m a b = stores c b
effect01 (I.Load c) m a b = pushes (loaded01 m c)
effect01 (I.Binary o) m a b = pushes (applied o a b)
effect01 I.Not m a b = pushes (truth (is_zero b))
effect01 I.Invert m a b = pushes (inverted b)
effect01 I.Increment m a b = increments
effect01 I.If m a b = prints []
effect01 I.Then m a b = when is_zero b then to_else else prints []
effect01 I.Else m a b = to_end
effect01 I.End m a b = prints []
effect01 I.Wrong m a b = prints []

-- what taking an item comes to: go on behind it, with bytes printed; go past the next `%e` of this level or else its
-- `%;`; go past its `%;`; or the stack is empty, or full
pub data Taken01 : Type 0 where
  goes_on : Machine01 → List ℕ → Taken01
  goes_to_else : Machine01 → Taken01
  goes_to_end : Machine01 → Taken01
  empty : Taken01
  full : Taken01

abbrev pub with_stack01 : Machine01 → List ℤ → Machine01
with_stack01 m st = record { stack = st; arguments = m.arguments; locals = m.locals; lasting = m.lasting }

abbrev pub with_arguments01 : Machine01 → List ℤ → Machine01
with_arguments01 m xs = record { stack = m.stack; arguments = xs; locals = m.locals; lasting = m.lasting }

unfoldable pub performed01 : Effect01 → Machine01 → Taken01
performed01 (prints bytes) m = goes_on m bytes
performed01 (pushes v) m =
    when ltb (length m.stack) stack_most then goes_on (with_stack01 m (v ∷ m.stack)) [] else full
performed01 (stores c v) m = goes_on (stored01 m c v) []
performed01 increments m = goes_on (with_arguments01 m (incremented01 m.arguments)) []
performed01 to_else m = goes_to_else m
performed01 to_end m = goes_to_end m

-- pop, then do: 15 is judged before 16
unfoldable pub taking01 : Item → Machine01 → Taken01
taking01 k m =
    let a : ℤ = get_or m.stack 1 (pos 0) in
    let b : ℤ = get_or m.stack 0 (pos 0) in
    when ltb (length m.stack) (arity k) then empty
    else performed01 (effect01 k m a b) (with_stack01 m (drop (arity k) m.stack))

-- ---- a run

-- the machine, the bytes printed and the steps; or a refusal's number with its item's place
pub data Outcome01 : Type 0 where
  finished : Machine01 → List ℕ → ℕ → Outcome01
  failed : ℕ → ℕ → Outcome01

-- from the item at i on, with bytes printed and n items taken so far; the count falls with each step
unfoldable pub running01 : ℕ → List ℕ → ℕ → Machine01 → List ℕ → ℕ → Outcome01
running01 zero s i m out n = finished m out n
running01 (suc k) s i m out n =
    elim (ltb i (length s)) [
      | true ↦ elim (taking01 (item_at s i).item m) [
        | goes_on m' bytes ↦ running01 k s (item_at s i).next m' (out ++ bytes) (n + 1)
        | goes_to_else m' ↦ running01 k s (passed (length s) true s (item_at s i).next 0) m' out (n + 1)
        | goes_to_end m' ↦ running01 k s (passed (length s) false s (item_at s i).next 0) m' out (n + 1)
        | empty ↦ failed 15 i
        | full ↦ failed 16 i
      ]
      | false ↦ finished m out n
    ]

unfoldable pub run01 : List ℕ → List ℤ → List ℤ → Outcome01
run01 s arguments lasting = running01 (length s) s 0 (started01 arguments lasting) [] 0

-- ---- what expanding gives

-- "then the first failing step (15 and 16 with its item's place), then 8, only if all else succeeded"
unfoldable pub ended01 : Outcome01 → ℕ → Answer Expanding
ended01 (failed n i) room = refused n (i ∷ [])
ended01 (finished m out n) room =
    when not (leb (length out) room) then refused 8 (length out ∷ [])
    else gives (record { output = out; steps = n; lasting = m.lasting })

-- "Expansion: 17, 1, 14 .., then the first failing step, then 8"
unfoldable pub expanding01 : List ℕ → List ℤ → List ℤ → ℕ → ℕ → Answer Expanding
expanding01 s arguments lasting size at =
    when not (leb at size) then refused 17 []
    else when not (leb (length s) string_most) then refused 1 []
    else formed (form_of s) (ended01 (run01 s arguments lasting) (size - at))

-- ---- the statement

-- a string without `%s` and `%l`, and numbers alone, whatever is lent for texts
abbrev pub NumbersAlone : Type 0
NumbersAlone = (s : List ℕ) (arguments : List ℤ) (lent : List ℕ) (lasting : List ℤ) (size at : ℕ)
    → count_of pops_text s ≡ 0
    → expanding s (numbers_given arguments) lent lasting size at ≡ expanding01 s arguments lasting size at
