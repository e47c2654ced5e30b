-- What is quickly told of a place, and how far a scan comes.
-- Assumes nothing.
use Rattle.std.specs.Prelude.{◌≡◌, List, ℕ, ◌+◌, ◌≤◌, ◌<◌, length}
use Prim.Native.Char.{code}
use Rattle.expansion.specs.declared.Class.TheVariants as C
use Rattle.expansion.specs.Items.{byte_at}
use Rattle.expansion.specs.Form.{class_at}
use Rattle.conditionals.specs.declared.Quick.{Quick}
use Rattle.conditionals.specs.declared.Quick.TheVariants.{Item, Test, Slow}
use Rattle.conditionals.specs.declared.Scanned.{Scanned}
use Rattle.conditionals.specs.Walk.{nested_most, form_left}

-- `%?`, an argument and `%t` stand at i, and next is the place behind them
pub record Tested (s : List ℕ) (i next : ℕ) : Type 0 where
  pub if_there : class_at s i ≡ record { class = C.If; next = i + 2 }
  pub argument_there : class_at s (i + 2) ≡ record { class = C.Plain; next = i + 5 }
  pub then_there : class_at s (i + 5) ≡ record { class = C.Then; next = next }

abbrev pub QuickAs : List ℕ → ℕ → Quick → Type 0
QuickAs s i (Item class next) = class_at s i ≡ record { class = class; next = next }
QuickAs s i (Test next) = Tested s i next
QuickAs s i Slow = Unit {0}

-- a `%` with two bytes behind it stands at i
pub record PercentAt (s : List ℕ) (i : ℕ) : Type 0 where
  pub percent : byte_at s i ≡ code "%"
  pub inside : i + 2 < length s

-- what is told of the item whose `%` and second byte, x, stand just before the place k
abbrev pub QuickBehind : ℕ → List ℕ → ℕ → Quick → Type 0
QuickBehind x s k r = (i : ℕ) → byte_at s i ≡ code "%" → byte_at s (i + 1) ≡ x → k ≡ i + 2 → QuickAs s i r

-- of `%?`, of a constant, of an argument
abbrev pub QuickIf : List ℕ → ℕ → Quick → Type 0
QuickIf = QuickBehind (code "?")

abbrev pub QuickBraced : List ℕ → ℕ → Quick → Type 0
QuickBraced = QuickBehind (code "{")

abbrev pub QuickArgument : List ℕ → ℕ → Quick → Type 0
QuickArgument = QuickBehind (code "p")

-- a scan from place i on, with the number k kept, has come to r: what is left from there has the form of what is left
-- from i
pub record ScannedAs (s : List ℕ) (i k : ℕ) (r : Scanned) : Type 0 where
  pub form : form_left s i k ≡ form_left s r.at r.kept
  pub most : r.kept ≤ nested_most
  pub on : i ≤ r.at
