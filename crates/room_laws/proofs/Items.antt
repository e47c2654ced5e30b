-- An item prints at most 25 times its own bytes, and `%s` a text more.
-- Assumes nothing.
use mathlib.Core.Path.{◌≡◌, refl}
use mathlib.Core.Bool.{Bool, true, false, ◌&&◌, not}
use mathlib.Core.List.{List, [], ◌∷◌}
use Prim.Native.Nat.{ℕ, suc, ◌+◌, ◌-◌, ◌*◌, ◌≤◌, ◌<◌}
use Prim.Native.Char.{code}
use native.Mathlib.Omega.{arith}
use lib.Dec.{eqb, leb}
use lib.IntN.{ℤ, pos, negsuc}
use lib.ListN.{length, take, drop, length-append, length-replicate}
use borrow.Author.Tests.{not-false}
use Rattle.base.specs.If.{when◌then◌else◌}
use Rattle.base.proofs.IfLaws.{if_both}
use Rattle.signed.specs.Signed.{is_zero, low32}
use Rattle.signed.proofs.Laws.{low_fits}
use Rattle.expansion.specs.Limits.{constant_most, room_for}
use Rattle.expansion.specs.declared.Item.{Item}
use Rattle.expansion.specs.declared.Item.TheVariants as I
use Rattle.expansion.specs.declared.Base.{Base}
use Rattle.expansion.specs.declared.Base.TheVariants.{Decimal, Octal, SmallHex, CapitalHex}
use Rattle.expansion.specs.declared.Lexed.{Lexed}
use Rattle.expansion.specs.Items.{byte_at, is_digit, is_nonzero, is_letter, singles, found, argument_at, quoted_at}
use Rattle.expansion.specs.Items.{decimal, digits_end, braced_at, store_at, load_at, format_at, width_at, percent_at, item_at}
use Rattle.expansion.specs.Print.{digits, sign, numeral, printed}
use Rattle.expansion.specs.Values.{Value, number_in}
use Rattle.expansion.specs.Machine.{Machine, Effect, printed_by, effect}
use Rattle.expansion.specs.Counting.{prints_text}
use Rattle.item_parts.proofs.Cases.{within_true}
use Rattle.item_parts.proofs.Laws.{item_on}
use Rattle.expansion_laws.specs.DigitCount.{digits_below, digits_ten}
use Rattle.room_laws.specs.Room.{Value32, ValueWithin, ItemBounded}
use Rattle.room_laws.proofs.Values.{number_value, text_value}

-- ---- printed numbers

-- octal and hex: a number below 2 ^ 32 has at most eleven digits
digits_eleven : (b a : ℕ) (v : ℤ) → 8 ≤ b → length (digits b a (low32 v)) ≤ 11
digits_eleven b a v h = digits_below 10 8 b a (low32 v) (omega arith) h (omega (arith, low_fits v))

-- a sign and digits are at most eleven bytes
numeral_most : (b : Base) (v : ℤ) → Value32 v → length (sign b v) + length (numeral b v) ≤ 11
unfolding numeral
numeral_most Decimal (pos n) h = omega (arith, digits_ten (code "a") n (omega arith))
numeral_most Decimal (negsuc n) h = omega (arith, digits_ten (code "a") (suc n) (omega arith))
numeral_most Octal v h = omega (arith, digits_eleven 8 (code "a") v (omega arith))
numeral_most SmallHex v h = omega (arith, digits_eleven 16 (code "a") v (omega arith))
numeral_most CapitalHex v h = omega (arith, digits_eleven 16 (code "A") v (omega arith))

-- a printed number has at most its width, or eleven bytes
printed_most_lem : (b : Base) (zeros : Bool) (width : ℕ) (v : ℤ) (most : ℕ) → Value32 v → 11 ≤ most → width ≤ most
    → length (printed b zeros width v) ≤ most
unfolding printed
printed_most_lem b true width v most h e w =
    simp (length-append, length-replicate) (omega (arith, numeral_most b v h))
printed_most_lem b false width v most h e w =
    simp (length-append, length-replicate) (omega (arith, numeral_most b v h))

-- ---- a width and the bytes that spell it

abbrev width_of : Item → ℕ
width_of (I.Byte b) = 0
width_of (I.Argument n) = 0
width_of (I.Number b zeros width) = width
width_of I.Character = 0
width_of I.Text = 0
width_of I.Length = 0
width_of (I.Constant v) = 0
width_of (I.Store c) = 0
width_of (I.Load c) = 0
width_of (I.Binary o) = 0
width_of I.Not = 0
width_of I.Invert = 0
width_of I.Increment = 0
width_of I.If = 0
width_of I.Then = 0
width_of I.Else = 0
width_of I.End = 0
width_of I.Wrong = 0

-- an item that starts at i: its width is at most 25 times its bytes
record Wide (i : ℕ) (l : Lexed) : Type 0 where
  wide : width_of l.item ≤ room_for (l.next - i)

-- an item without a width
narrow : {i : ℕ} {l : Lexed} → width_of l.item ≡ 0 → Wide i l
narrow e = record { wide = omega arith }

format_wide : (i : ℕ) (s : List ℕ) (k : ℕ) (zeros : Bool) (width : ℕ) → width ≤ room_for (k + 1 - i)
    → Wide i (format_at s k zeros width)
unfolding format_at
format_wide i s k zeros width h =
    if_both (Wide i) (eqb (byte_at s k) (code "d")) (λ _. record { wide = h })
    (λ _. if_both (Wide i) (eqb (byte_at s k) (code "o")) (λ _. record { wide = h })
    (λ _. if_both (Wide i) (eqb (byte_at s k) (code "x")) (λ _. record { wide = h })
    (λ _. if_both (Wide i) (eqb (byte_at s k) (code "X")) (λ _. record { wide = h })
    (λ _. narrow refl))))

width_wide : (i : ℕ) (s : List ℕ) (k : ℕ) (zeros : Bool) → i < k → Wide i (width_at s k zeros)
unfolding width_at
width_wide i s k zeros h =
    if_both (Wide i) (not (is_nonzero (byte_at s k))) (λ _. narrow refl)
    (λ e. let p = within_true (code "1") (code "9") (byte_at s k) (not-false (is_nonzero (byte_at s k)) e) in
    if_both (Wide i) (is_digit (byte_at s (k + 1)))
    (λ d. let q = within_true (code "0") (code "9") (byte_at s (k + 1)) d in
    format_wide i s (k + 2) zeros _ (omega (arith, p.1, q.1)))
    (λ _. format_wide i s (k + 1) zeros _ (omega (arith, p.1))))

-- the sum of the widths
widths : List (ℕ × Item) → ℕ
widths [] = 0
widths (p ∷ ps) = width_of p.1 + widths ps

found_wide : (ps : List (ℕ × Item)) (c : ℕ) → width_of (found ps c) ≤ widths ps
unfolding found widths
found_wide [] c = omega arith
found_wide (p ∷ ps) c =
    if_both (λ (k : Item). width_of k ≤ width_of p.1 + widths ps) (eqb c p.0) (λ _. omega arith)
    (λ _. omega (arith, found_wide ps c))

-- no item of `%` and one more byte has a width
singles_wide : (c : ℕ) → width_of (found singles c) ≤ 0
unfolding singles widths
singles_wide c = found_wide singles c

module _ (i : ℕ) (s : List ℕ) (j : ℕ) where
  argument_wide : Wide i (argument_at s j)
  unfolding argument_at
  argument_wide = if_both (Wide i) (is_nonzero (byte_at s (j + 1))) (λ _. narrow refl) (λ _. narrow refl)

  quoted_wide : Wide i (quoted_at s j)
  unfolding quoted_at
  quoted_wide =
      if_both (Wide i) (not (eqb (byte_at s (j + 1)) 0) && eqb (byte_at s (j + 2)) (code "'")) (λ _. narrow refl)
      (λ _. narrow refl)

  braced_wide : Wide i (braced_at s j)
  unfolding braced_at
  braced_wide =
      let e : ℕ = digits_end s (j + 1) in
      let v : ℕ = decimal 0 (take (e - (j + 1)) (drop (j + 1) s)) in
      let closed : Bool = eqb (byte_at s e) (code "}") in
      if_both (Wide i) (is_digit (byte_at s (j + 1)) && (closed && leb v constant_most)) (λ _. narrow refl)
      (λ _. narrow refl)

  store_wide : Wide i (store_at s j)
  unfolding store_at
  store_wide = if_both (Wide i) (is_letter (byte_at s (j + 1))) (λ _. narrow refl) (λ _. narrow refl)

  load_wide : Wide i (load_at s j)
  unfolding load_at
  load_wide = if_both (Wide i) (is_letter (byte_at s (j + 1))) (λ _. narrow refl) (λ _. narrow refl)

  percent_wide : i < j → Wide i (percent_at s j)
  unfolding percent_at
  percent_wide h =
      if_both (Wide i) (eqb (byte_at s j) (code "p")) (λ _. argument_wide)
      (λ _. if_both (Wide i) (eqb (byte_at s j) (code "'")) (λ _. quoted_wide)
      (λ _. if_both (Wide i) (eqb (byte_at s j) (code "{")) (λ _. braced_wide)
      (λ _. if_both (Wide i) (eqb (byte_at s j) (code "P")) (λ _. store_wide)
      (λ _. if_both (Wide i) (eqb (byte_at s j) (code "g")) (λ _. load_wide)
      (λ _. if_both (Wide i) (eqb (byte_at s j) (code "0")) (λ _. width_wide i s (j + 1) true (omega arith))
      (λ _. if_both (Wide i) (is_nonzero (byte_at s j)) (λ _. width_wide i s j false h)
      (λ _. record { wide = omega (arith, singles_wide (byte_at s j)) })))))))

item_wide : (s : List ℕ) (i : ℕ) → Wide i (item_at s i)
unfolding item_at
item_wide s i =
    if_both (Wide i) (eqb (byte_at s i) 0) (λ _. narrow refl)
    (λ _. if_both (Wide i) (eqb (byte_at s i) (code "%")) (λ _. percent_wide i s (i + 1) (omega arith)) (λ _. narrow refl))

-- ---- what an item prints

-- an effect prints at most so many bytes
abbrev PrintsMost : ℕ → Effect → Type 0
PrintsMost most e = length (printed_by e) ≤ most

-- a text of at most so many bytes; what else an item prints has room bytes at most
effect_most : (k : Item) (m : Machine) (a b : Value) (most room : ℕ) → ValueWithin most b → 11 ≤ room → width_of k ≤ room
    → PrintsMost (room + most * (when prints_text k then 1 else 0)) (effect k m a b)
unfolding effect prints_text
effect_most (I.Byte c) m a b most room h e w = omega arith
effect_most (I.Argument n) m a b most room h e w = omega arith
effect_most (I.Number base zeros width) m a b most room h e w =
    omega (arith, printed_most_lem base zeros width (number_in b) room (number_value most b h) e w)
effect_most I.Character m a b most room h e w = omega arith
effect_most I.Text m a b most room h e w = omega (arith, text_value most b h)
effect_most I.Length m a b most room h e w = omega arith
effect_most (I.Constant v) m a b most room h e w = omega arith
effect_most (I.Store c) m a b most room h e w = omega arith
effect_most (I.Load c) m a b most room h e w = omega arith
effect_most (I.Binary o) m a b most room h e w = omega arith
effect_most I.Not m a b most room h e w = omega arith
effect_most I.Invert m a b most room h e w = omega arith
effect_most I.Increment m a b most room h e w = omega arith
effect_most I.If m a b most room h e w = omega arith
effect_most I.Then m a b most room h e w =
    if_both (PrintsMost (room + most * 0)) (is_zero (number_in b)) (λ _. omega arith) (λ _. omega arith)
effect_most I.Else m a b most room h e w = omega arith
effect_most I.End m a b most room h e w = omega arith
effect_most I.Wrong m a b most room h e w = omega arith

-- ---- the law

pub item_bounded : (most : ℕ) (s : List ℕ) → ItemBounded most s
item_bounded most s i m a b h v =
    let room : ℕ = room_for ((item_at s i).next - i) in
    let eleven : 11 ≤ room = omega (arith, item_on s i h) in
    effect_most (item_at s i).item m a b most room v eleven (item_wide s i).wide
