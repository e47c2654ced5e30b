-- Laws of a printed number's parts.
-- Assumes nothing.
use mathlib.Core.Path.{◌≡◌, refl, sym, ap, ◌∙◌, subst}
use mathlib.Core.Bool.{Bool, true, false}
use mathlib.Core.List.{List, [], ◌++◌, append_assoc, append-nil}
use Prim.Native.Nat.{ℕ, ◌+◌, ◌-◌, ◌*◌, ◌^◌, ◌≤◌, ◌<◌}
use Rattle.std.proofs.Common.{lt_of_le_of_lt, le_of_lt, mul-le-mul_left, mul-lt-mul_of_pos_right, pow_pos, pow-add}
use native.Mathlib.Omega.{arith}
use lib.Dec.{T}
use lib.IntN.{ℤ, pos, negsuc, nat_abs}
use lib.ListN.{length, replicate, length-append, length-replicate}
use lib.Signed.{lt_z}
use mir.Syntax.{w32}
use mir.Val.{SFits, of_z}
use borrow.Author.Tests.{ltb-true, eqb-true}
use Rattle.base.proofs.IfLaws.{true_false}
use Rattle.signed.specs.Signed.{low32}
use Rattle.signed.proofs.Laws.{low_bits}
use Rattle.expansion.specs.declared.Base.{Base}
use Rattle.expansion.specs.declared.Base.TheVariants.{Decimal}
use Rattle.print.specs.Bounds.{printed_most}
use Rattle.expansion.specs.Print.{digits, sign, numeral, printed}
use Rattle.print.specs.declared.Numeral.{Numeral}
use Rattle.print.specs.Numeral.{minus_sign, front, before, is_plain, bytes_of, NumeralOf}
use Rattle.expansion_laws.specs.DigitCount.{digits_word}

-- ---- a product of two numbers

pub product_below : (k : ℕ) {a b : ℕ} → a < 2 ^ k → b < 2 ^ k → a * b < 2 ^ (k + k)
product_below k {a} {b} ha hb =
    rw (pow-add 2 k k) (lt_of_le_of_lt (mul-le-mul_left a (le_of_lt hb)) (mul-lt-mul_of_pos_right ha (pow_pos k)))

-- ---- what stands before the digits

pub sign_short : (minus : Bool) → length (minus_sign minus) ≤ 1
sign_short true = omega arith
sign_short false = omega arith

pub front_none : (minus zeros : Bool) → front minus zeros 0 ≡ minus_sign minus
unfolding front
front_none minus true = append-nil (minus_sign minus)
front_none minus false = refl

pub length_front : (minus zeros : Bool) (k : ℕ) → length (front minus zeros k) ≡ length (minus_sign minus) + k
unfolding front
length_front minus true k = simp (length-append, length-replicate)
length_front minus false k = simp (length-append, length-replicate) (omega arith)

-- ---- what a value is printed from

pub decimal_is : (v : ℤ) (m : ℕ) (minus : Bool) → lt_z v (pos 0) ≡ minus → m ≡ nat_abs v
    → NumeralOf Decimal v (record { minus = minus; magnitude = m; radix = 10; letters = 97 })
unfolding numeral
decimal_is (pos n) m true t e = absurd (let q : n < 0 = ltb-true n 0 t in omega arith)
decimal_is (pos n) m false t e =
    record {
      sign_is = refl;
      digits_are = ap (digits 10 97) (sym e);
      radix_least = omega arith;
      radix_most = omega arith;
      letters_most = omega arith;
      decimal_letters = λ d. refl;
    }
decimal_is (negsuc n) m true t e =
    record {
      sign_is = refl;
      digits_are = ap (digits 10 97) (sym e);
      radix_least = omega arith;
      radix_most = omega arith;
      letters_most = omega arith;
      decimal_letters = λ d. refl;
    }
decimal_is (negsuc n) m false t e = absurd (subst T t tt)

-- the digits of the value mod 2^32
pub unsigned : (base : Base) (v : ℤ) (r a m : ℕ) → sign base v ≡ [] → numeral base v ≡ digits r a (low32 v) → 2 ≤ r → r ≤ 16 → a ≤ 97 → (r ≡ 10 → a ≡ 97)
    → SFits w32 v → m ≡ of_z w32 v → NumeralOf base v (record { minus = false; magnitude = m; radix = r; letters = a })
unsigned base v r a m s d l g k t h e =
    record {
      sign_is = s;
      digits_are = d ∙ ap (digits r a) (low_bits v h ∙ sym e);
      radix_least = l;
      radix_most = g;
      letters_most = k;
      decimal_letters = t;
    }

-- ---- a printed number by its parts

pub length_before : (minus zeros : Bool) (width count : ℕ)
    → length (before minus zeros width count) ≡ length (minus_sign minus) + (width - (count + length (minus_sign minus)))
unfolding before
length_before minus zeros width count = length_front minus zeros (width - (count + length (minus_sign minus)))

pub before_none : (minus zeros : Bool) (width count : ℕ) → is_plain minus width ≡ true → before minus zeros width count ≡ []
unfolding before
before_none true zeros width count e = true_false (sym e)
before_none false zeros width count e =
    let k : width - (count + length (minus_sign false)) ≡ 0 = omega (arith, eqb-true width 0 e) in
    rw k (front_none false zeros)

pub before_front : (minus zeros : Bool) (width count missing : ℕ) → missing ≡ width - (count + length (minus_sign minus))
    → front minus zeros missing ≡ before minus zeros width count
unfolding before
before_front minus zeros width count missing e = ap (front minus zeros) e

parts : (minus zeros : Bool) (base : Base) (width : ℕ) (v : ℤ) (ds : List ℕ) (k : ℕ) → sign base v ≡ minus_sign minus → numeral base v ≡ ds
    → k ≡ width - (length (minus_sign minus) + length ds) → printed base zeros width v ≡ front minus zeros k ++ ds
unfolding printed front
parts minus true base width v ds k s d e = rw (s, d, ← e) (sym (append_assoc (minus_sign minus) (replicate k 48) ds))
parts minus false base width v ds k s d e = rw (s, d, ← e) (sym (append_assoc (replicate k 32) (minus_sign minus) ds))

pub numeral_printed : {base : Base} {v : ℤ} (zeros : Bool) (width : ℕ) (n : Numeral) → NumeralOf base v n
    → printed base zeros width v ≡ bytes_of n zeros width
unfolding before
numeral_printed {base} {v} zeros width n h =
    let ds : List ℕ = digits n.radix n.letters n.magnitude in
    let m : ℕ = length (minus_sign n.minus) in
    let k : width - (length ds + m) ≡ width - (m + length ds) = omega arith in
    parts n.minus zeros base width v ds (width - (length ds + m)) h.sign_is h.digits_are k

pub before_short : (minus zeros : Bool) (width count : ℕ) → width < 256 → count ≤ 32 → length (before minus zeros width count) + count ≤ printed_most
before_short minus zeros width count h c = omega (arith, length_before minus zeros width count, sign_short minus)

pub bytes_short : (n : Numeral) (zeros : Bool) (width : ℕ) → 2 ≤ n.radix → n.magnitude < 2 ^ 32 → width < 256
    → length (bytes_of n zeros width) ≤ printed_most
bytes_short n zeros width h m w =
    let ds : List ℕ = digits n.radix n.letters n.magnitude in
    let few = digits_word n.radix n.letters n.magnitude h m in
    rw (length-append (before n.minus zeros width (length ds)) ds) (before_short n.minus zeros width (length ds) w few)
