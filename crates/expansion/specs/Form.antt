-- Which strings are well formed, and the place of the first wrong item (document 01: Expansion; Numbers of refusal,
-- 14).
-- Assumes nothing.
use Rattle.std.specs.Prelude.{true, false, List, [], ◌∷◌, ℕ, zero, suc, ltb, length, Result, Ok, Err}
use Rattle.base.specs.If.{when◌then◌else◌}
use Rattle.expansion.specs.Limits.{nest_most}
use Rattle.expansion.specs.declared.Item.{Item}
use Rattle.expansion.specs.declared.Item.TheVariants as I
use Rattle.expansion.specs.declared.Class.{Class}
use Rattle.expansion.specs.declared.Class.TheVariants.{Plain, If, Then, Else, End, Wrong}
use Rattle.expansion.specs.declared.Classed.{Classed}
use Rattle.expansion.specs.Items.{item_at}

-- what an item is to the conditionals around it
unfoldable pub class_of : Item → Class
class_of (I.Byte b) = Plain
class_of (I.Argument n) = Plain
class_of (I.Number b z w) = Plain
class_of I.Character = Plain
class_of I.Text = Plain
class_of I.Length = Plain
class_of (I.Constant v) = Plain
class_of (I.Store c) = Plain
class_of (I.Load c) = Plain
class_of (I.Binary o) = Plain
class_of I.Not = Plain
class_of I.Invert = Plain
class_of I.Increment = Plain
class_of I.If = If
class_of I.Then = Then
class_of I.Else = Else
class_of I.End = End
class_of I.Wrong = Wrong

unfoldable pub class_at : List ℕ → ℕ → Classed
class_at s i = record { class = class_of (item_at s i).item; next = (item_at s i).next }

-- which part of an open conditional is being read: the condition, from `%?` on; the body, from `%t` on; or what
-- follows an `%e`, which is the final else or the condition of another body
pub data Level : Type 0 where
  condition : Level
  body : Level
  otherwise : Level

-- what an item does to the open conditionals, innermost first
pub data Nesting : Type 0 where
  levels : List Level → Nesting
  misplaced : Nesting

unfoldable pub after_if : List Level → Nesting
after_if ls = when ltb (length ls) nest_most then levels (condition ∷ ls) else misplaced

-- `%t` ends a condition
unfoldable pub after_then : List Level → Nesting
after_then [] = misplaced
after_then (condition ∷ ls) = levels (body ∷ ls)
after_then (body ∷ ls) = misplaced
after_then (otherwise ∷ ls) = levels (body ∷ ls)

-- `%e` ends a body
unfoldable pub after_else : List Level → Nesting
after_else [] = misplaced
after_else (condition ∷ ls) = misplaced
after_else (body ∷ ls) = levels (otherwise ∷ ls)
after_else (otherwise ∷ ls) = misplaced

-- `%;` ends a body, or the final else
unfoldable pub after_end : List Level → Nesting
after_end [] = misplaced
after_end (condition ∷ ls) = misplaced
after_end (body ∷ ls) = levels ls
after_end (otherwise ∷ ls) = levels ls

unfoldable pub nesting : Class → List Level → Nesting
nesting Plain ls = levels ls
nesting If ls = after_if ls
nesting Then ls = after_then ls
nesting Else ls = after_else ls
nesting End ls = after_end ls
nesting Wrong ls = misplaced

-- whether a string is well formed; if not, the place of its first wrong item
abbrev pub Form : Type 0
Form = Result (Unit {0}) ℕ

-- the string from place i on, with these conditionals open: "the place of the first wrong item (the length for an open
-- conditional)". The count falls with each item; the string's length and one is enough (form_of_lem of expansion_laws).
unfoldable pub form_from : ℕ → List ℕ → ℕ → List Level → Form
form_from zero s i ls = Err i
form_from (suc k) s i ls =
    elim (ltb i (length s)) [
      | true ↦ elim (nesting (class_at s i).class ls) [
        | levels ls' ↦ form_from k s (class_at s i).next ls'
        | misplaced ↦ Err i
      ]
      | false ↦ elim ls [ [] ↦ Ok tt | l ∷ ls' ↦ Err (length s) ]
    ]

unfoldable pub form_of : List ℕ → Form
form_of s = form_from (suc (length s)) s 0 []
