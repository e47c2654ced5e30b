-- Every number that the machine holds stays within 32 bits, and every text within its bound.
-- Assumes nothing.
use mathlib.Core.Bool.{Bool, true, false, ◌&&◌, ◌||◌, not}
use mathlib.Core.List.{List}
use Prim.Native.Nat.{ℕ, ◌-◌, ◌^◌, ◌≤◌, ◌<◌}
use native.Mathlib.Omega.{arith}
use lib.IntN.{ℤ, pos, negsuc, ◌+ℤ◌, ◌-ℤ◌, ◌*ℤ◌}
use lib.ListN.{length}
use lib.Signed.{lt_z, quot_z, rem_z}
use mir.Syntax.{w32}
use mir.Val.{Fits, SFits, to_z, of_z}
use mir.Facts.{Fits-and, Fits-or, Fits-xor, Fits-of_z, sfits_to_z}
use Rattle.base.proofs.IfLaws.{if_both}
use Rattle.base.proofs.TabulateLaws.{each_get_d}
use Rattle.base.specs.Tabulate.{Each}
use Rattle.signed.specs.Signed.{is_zero, wrap, add, subtract, multiply, divide, remainder}
use Rattle.signed.proofs.Laws.{low_fits, rem_fits}
use Rattle.expansion.specs.Limits.{text_most}
use Rattle.expansion.specs.declared.Item.{Item}
use Rattle.expansion.specs.declared.Item.TheVariants as I
use Rattle.expansion.specs.declared.Operator.{Operator}
use Rattle.expansion.specs.declared.Operator.TheVariants.{Add, Subtract, Multiply, Divide, Remainder, BitAnd}
use Rattle.expansion.specs.declared.Operator.TheVariants.{BitOr, BitXor, Equal, Greater, Less, And, Or}
use Rattle.expansion.specs.Items.{byte_at, item_at}
use Rattle.expansion.specs.Values.{Value, number, text, no_value, number_in, text_in}
use Rattle.expansion.specs.Machine.{Machine, started, truth, equal, applied, inverted, raised}
use Rattle.expansion.specs.Machine.{Effect, printed_by, effect, taking}
use Rattle.item_parts.proofs.Laws.{Holds, item_holds}
use Rattle.output_laws.specs.Outputs.{HoldOf}
use Rattle.output_laws.specs.Holding.{Holding, GivesValue, started_holding, loaded_holds, taking_holding}
use Rattle.room_laws.specs.Room.{Value32, ValueWithin, Byte}

-- ---- what operators give

value_of : (z : ℤ) → SFits w32 z → Value32 z
value_of (pos n) h = h.sfits
value_of (negsuc n) h = h.sfits

fits_of : (z : ℤ) → Value32 z → SFits w32 z
fits_of (pos n) h = record { sfits = h }
fits_of (negsuc n) h = record { sfits = h }

bits_value : {n : ℕ} → Fits w32 n → Value32 (to_z w32 n)
bits_value {n} h = value_of (to_z w32 n) (sfits_to_z h)

bits_fit : (z : ℤ) → Value32 z → Fits w32 (of_z w32 z)
bits_fit z h = Fits-of_z (fits_of z h)

wrap_value : (z : ℤ) → Value32 (wrap z)
unfolding wrap
wrap_value z = bits_value (record { fits = low_fits z })

zero_value : Value32 (pos 0)
zero_value = omega arith

truth_value : (t : Bool) → Value32 (truth t)
truth_value true = omega arith
truth_value false = omega arith

add_value : (a b : ℤ) → Value32 (add a b)
unfolding add
add_value a b = wrap_value (a +ℤ b)

applied_value : (o : Operator) (a b : ℤ) → Value32 a → Value32 b → Value32 (applied o a b)
unfolding applied subtract multiply divide remainder
applied_value Add a b h k = add_value a b
applied_value Subtract a b h k = wrap_value (a -ℤ b)
applied_value Multiply a b h k = wrap_value (a *ℤ b)
applied_value Divide a b h k = if_both Value32 (is_zero b) (λ _. zero_value) (λ _. wrap_value (quot_z a b))
applied_value Remainder a b h k =
    if_both Value32 (is_zero b) (λ _. zero_value) (λ _. value_of (rem_z a b) (rem_fits a b (fits_of a h)))
applied_value BitAnd a b h k = bits_value (Fits-and (of_z w32 b) (bits_fit a h))
applied_value BitOr a b h k = bits_value (Fits-or (bits_fit a h) (bits_fit b k))
applied_value BitXor a b h k = bits_value (Fits-xor (bits_fit a h) (bits_fit b k))
applied_value Equal a b h k = truth_value (equal a b)
applied_value Greater a b h k = truth_value (lt_z b a)
applied_value Less a b h k = truth_value (lt_z a b)
applied_value And a b h k = truth_value (not (is_zero a) && not (is_zero b))
applied_value Or a b h k = truth_value (not (is_zero a) || not (is_zero b))

inverted_value : (v : ℤ) → Value32 (inverted v)
unfolding inverted
inverted_value v = let f : 2 ^ 32 - 1 - of_z w32 v < 2 ^ 32 = omega arith in bits_value (record { fits = f })

-- ---- the machine

-- its numbers are within 32 bits, and its texts have at most so many bytes
abbrev pub Held : ℕ → Machine → Type 0
Held most m = Holding (ValueWithin most) Value32 m

pub started_held : (most : ℕ) (arguments : List Value) (lasting : List ℤ) → Each (ValueWithin most) arguments
    → Each Value32 lasting → Held most (started arguments lasting)
started_held most arguments lasting h k =
    started_holding (ValueWithin most) Value32 arguments lasting zero_value h k

-- the number, the text and the increment of a value
pub number_value : (most : ℕ) (v : Value) → ValueWithin most v → Value32 (number_in v)
number_value most (number v) h = h
number_value most (text bytes) h = zero_value

pub text_value : (most : ℕ) (v : Value) → ValueWithin most v → length (text_in v) ≤ most
text_value most (number v) h = omega arith
text_value most (text bytes) h = h

raised_value : (most : ℕ) (v : Value) → ValueWithin most v → ValueWithin most (raised v)
unfolding raised
raised_value most (number v) h = add_value v (pos 1)
raised_value most (text bytes) h = h

-- ---- an item

module _ (most : ℕ) (fits : most ≤ text_most) where
  abbrev GivesWithin : Effect → Type 0
  GivesWithin e = GivesValue (ValueWithin most) Value32 e

  length_value : (v : Value) → ValueWithin most v → Value32 (pos (length (text_in v)))
  length_value v h = omega (arith, text_value most v h)

  effect_value : (s : List ℕ) (k : Item) (m : Machine) (a b : Value) → ((i : ℕ) → byte_at s i ≤ 255) → Holds s k
      → Held most m → ValueWithin most a → ValueWithin most b → GivesWithin (effect k m a b)
  unfolding effect
  effect_value s (I.Byte c) m a b f g h p q = tt
  effect_value s (I.Argument n) m a b f g h p q =
      each_get_d (ValueWithin most) m.arguments n no_value h.arguments zero_value
  effect_value s (I.Number base zeros width) m a b f g h p q = tt
  effect_value s I.Character m a b f g h p q = tt
  effect_value s I.Text m a b f g h p q = tt
  effect_value s I.Length m a b f g h p q = length_value b q
  effect_value s (I.Constant v) m a b f g h p q = rw g.1 (omega (arith, g.2 f))
  effect_value s (I.Store c) m a b f g h p q = number_value most b q
  effect_value s (I.Load c) m a b f g h p q = loaded_holds (ValueWithin most) Value32 m c zero_value h
  effect_value s (I.Binary o) m a b f g h p q =
      applied_value o (number_in a) (number_in b) (number_value most a p) (number_value most b q)
  effect_value s I.Not m a b f g h p q = truth_value (is_zero (number_in b))
  effect_value s I.Invert m a b f g h p q = inverted_value (number_in b)
  effect_value s I.Increment m a b f g h p q = tt
  effect_value s I.If m a b f g h p q = tt
  effect_value s I.Then m a b f g h p q = if_both GivesWithin (is_zero (number_in b)) (λ _. tt) (λ _. tt)
  effect_value s I.Else m a b f g h p q = tt
  effect_value s I.End m a b f g h p q = tt
  effect_value s I.Wrong m a b f g h p q = tt

  byte_most : (s : List ℕ) → Each Byte s → (i : ℕ) → byte_at s i ≤ 255
  byte_most s f i = let h : byte_at s i < 256 = each_get_d Byte s i 0 f (omega arith) in omega arith

  -- ---- the law: an item of a string of bytes leaves a machine whose values are within bounds, and what it prints has a
  -- property that it has for all values within bounds

  pub item_held : (s : List ℕ) (i : ℕ) (m : Machine) (P : List ℕ → Type 0) → Each Byte s → i < length s → Held most m
      → ((a b : Value) → ValueWithin most a → ValueWithin most b → P (printed_by (effect (item_at s i).item m a b)))
      → HoldOf (Held most) P (taking (item_at s i).item m)
  item_held s i m P f l h p =
      taking_holding (ValueWithin most) Value32 zero_value (raised_value most) (item_at s i).item m P h
      (λ a b v w. effect_value s (item_at s i).item m a b (byte_most s f) (item_holds s i l) h v w) p
