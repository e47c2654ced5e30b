-- No item prints a NUL, where no text holds one.
-- Assumes nothing.
use Rattle.std.specs.Prelude.{◌≡◌, refl, Bool, true, false, List, [], ◌∷◌, ◌++◌, ℕ, zero, suc, ◌+◌, ◌-◌, ◌/◌, ◌%◌}
use Rattle.std.specs.Prelude.{◌<◌, ltb, ℤ, pos, negsuc, length, replicate}
use Prim.Native.Char.{code}
use Rattle.std.proofs.Common.{arith}
use Rattle.base.proofs.IfLaws.{if_both}
use Rattle.base.proofs.TabulateLaws.{each_append, each_replicate, each_get_d}
use Rattle.word.specs.Nul.{NotNul, NoNul}
use Rattle.signed.specs.Signed.{is_zero, low32}
use Rattle.characters.proofs.Laws.{character_not_nul}
use Rattle.expansion.specs.declared.Item.{Item}
use Rattle.expansion.specs.declared.Item.TheVariants as I
use Rattle.expansion.specs.declared.Base.{Base}
use Rattle.expansion.specs.declared.Base.TheVariants.{Decimal, Octal, SmallHex, CapitalHex}
use Rattle.expansion.specs.Items.{item_at}
use Rattle.expansion.specs.Print.{digit_byte, digits_from, digits, sign, numeral, printed}
use Rattle.expansion.specs.Values.{Value, number, text, no_value, number_in, text_in}
use Rattle.expansion.specs.Machine.{Machine, Effect, raised, printed_by, effect, taking}
use Rattle.item_parts.proofs.Laws.{Holds, item_holds}
use Rattle.output_laws.specs.Outputs.{HoldOf}
use Rattle.output_laws.specs.Holding.{Holding, GivesValue, taking_holding}
use Rattle.output_laws.specs.NeverNul.{FreeValue}

pub free_append : (x y : List ℕ) → NoNul x → NoNul y → NoNul (x ++ y)
free_append x y = each_append NotNul x y

-- ---- printed numbers

digit_free : (a d : ℕ) → 0 < a → NotNul (digit_byte a d)
digit_free a d h = if_both NotNul (ltb d 10) (λ _ e. omega arith) (λ _ e. omega arith)

digits_free_from : (k b a n : ℕ) → 0 < a → NoNul (digits_from k b a n)
unfolding digits_from
digits_free_from zero b a n h = tt
digits_free_from (suc k) b a n h = by_test (ltb n b) refl (digits_free_from k b a (n / b) h)
  where
    by_test : (t : Bool) → ltb n b ≡ t → NoNul (digits_from k b a (n / b)) → NoNul (digits_from (suc k) b a n)
    by_test true e f = rw (digits_from, e) (digit_free a n h, tt)
    by_test false e f =
        let last : NoNul (digit_byte a (n % b) ∷ []) = (digit_free a (n % b) h, tt) in
        rw (digits_from, e) (free_append (digits_from k b a (n / b)) (digit_byte a (n % b) ∷ []) f last)

digits_free : (b a n : ℕ) → 0 < a → NoNul (digits b a n)
unfolding digits
digits_free b a n h = digits_free_from (suc n) b a n h

sign_free : (b : Base) (v : ℤ) → NoNul (sign b v)
sign_free Decimal (pos n) = tt
sign_free Decimal (negsuc n) = (λ e. omega arith, tt)
sign_free Octal v = tt
sign_free SmallHex v = tt
sign_free CapitalHex v = tt

numeral_free : (b : Base) (v : ℤ) → NoNul (numeral b v)
unfolding numeral
numeral_free Decimal (pos n) = digits_free 10 (code "a") n (omega arith)
numeral_free Decimal (negsuc n) = digits_free 10 (code "a") (suc n) (omega arith)
numeral_free Octal v = digits_free 8 (code "a") (low32 v) (omega arith)
numeral_free SmallHex v = digits_free 16 (code "a") (low32 v) (omega arith)
numeral_free CapitalHex v = digits_free 16 (code "A") (low32 v) (omega arith)

printed_free : (b : Base) (zeros : Bool) (width : ℕ) (v : ℤ) → NoNul (printed b zeros width v)
unfolding printed
printed_free b zeros width v = if_both NoNul zeros (λ _. zeros_free) (λ _. blanks_free)
  where
    missing : ℕ
    missing = width - (length (sign b v) + length (numeral b v))

    zeros_free : NoNul (sign b v ++ (replicate missing (code "0") ++ numeral b v))
    zeros_free =
        free_append (sign b v) (replicate missing (code "0") ++ numeral b v) (sign_free b v)
        (free_append (replicate missing (code "0")) (numeral b v)
        (each_replicate NotNul missing (code "0") (λ e. omega arith)) (numeral_free b v))

    blanks_free : NoNul (replicate missing (code " ") ++ (sign b v ++ numeral b v))
    blanks_free =
        free_append (replicate missing (code " ")) (sign b v ++ numeral b v)
        (each_replicate NotNul missing (code " ") (λ e. omega arith))
        (free_append (sign b v) (numeral b v) (sign_free b v) (numeral_free b v))

-- ---- what an item prints

-- a value whose text, if it has one, holds no NUL
text_free : (v : Value) → FreeValue v → NoNul (text_in v)
text_free (number n) h = tt
text_free (text bytes) h = h

raised_free : (v : Value) → FreeValue v → FreeValue (raised v)
unfolding raised
raised_free (number n) h = tt
raised_free (text bytes) h = h

-- nothing is asked of a number
abbrev pub AnyNumber : ℤ → Type 0
AnyNumber v = Unit {0}

-- no text of the machine's stack and arguments holds a NUL
abbrev pub FreeMachine : Machine → Type 0
FreeMachine m = Holding FreeValue AnyNumber m

effect_value : (k : Item) (m : Machine) (a b : Value) → FreeMachine m → GivesValue FreeValue AnyNumber (effect k m a b)
unfolding effect
effect_value (I.Byte c) m a b h = tt
effect_value (I.Argument n) m a b h = each_get_d FreeValue m.arguments n no_value h.arguments tt
effect_value (I.Number base zeros width) m a b h = tt
effect_value I.Character m a b h = tt
effect_value I.Text m a b h = tt
effect_value I.Length m a b h = tt
effect_value (I.Constant v) m a b h = tt
effect_value (I.Store c) m a b h = tt
effect_value (I.Load c) m a b h = tt
effect_value (I.Binary o) m a b h = tt
effect_value I.Not m a b h = tt
effect_value I.Invert m a b h = tt
effect_value I.Increment m a b h = tt
effect_value I.If m a b h = tt
effect_value I.Then m a b h =
    if_both (GivesValue FreeValue AnyNumber) (is_zero (number_in b)) (λ _. tt) (λ _. tt)
effect_value I.Else m a b h = tt
effect_value I.End m a b h = tt
effect_value I.Wrong m a b h = tt

abbrev PrintsFree : Effect → Type 0
PrintsFree e = NoNul (printed_by e)

effect_free : (s : List ℕ) (k : Item) (m : Machine) (a b : Value) → Holds s k → FreeValue b
    → PrintsFree (effect k m a b)
unfolding effect
effect_free s (I.Byte c) m a b f h = (λ e. omega arith, tt)
effect_free s (I.Argument n) m a b f h = tt
effect_free s (I.Number base zeros width) m a b f h = printed_free base zeros width (number_in b)
effect_free s I.Character m a b f h = (character_not_nul (number_in b), tt)
effect_free s I.Text m a b f h = text_free b h
effect_free s I.Length m a b f h = tt
effect_free s (I.Constant v) m a b f h = tt
effect_free s (I.Store c) m a b f h = tt
effect_free s (I.Load c) m a b f h = tt
effect_free s (I.Binary o) m a b f h = tt
effect_free s I.Not m a b f h = tt
effect_free s I.Invert m a b f h = tt
effect_free s I.Increment m a b f h = tt
effect_free s I.If m a b f h = tt
effect_free s I.Then m a b f h = if_both PrintsFree (is_zero (number_in b)) (λ _. tt) (λ _. tt)
effect_free s I.Else m a b f h = tt
effect_free s I.End m a b f h = tt
effect_free s I.Wrong m a b f h = tt

-- ---- the law: bytes without a NUL stay so with what an item prints

pub item_prints_free : (s : List ℕ) (i : ℕ) (m : Machine) (x : List ℕ) → i < length s → FreeMachine m → NoNul x
    → HoldOf FreeMachine (λ bytes. NoNul (x ++ bytes)) (taking (item_at s i).item m)
item_prints_free s i m x l h f =
    let k : Item = (item_at s i).item in
    taking_holding FreeValue AnyNumber tt raised_free k m (λ bytes. NoNul (x ++ bytes)) h
    (λ a b _ _. effect_value k m a b h)
    (λ a b _ w. free_append x (printed_by (effect k m a b)) f (effect_free s k m a b (item_holds s i l) w))
