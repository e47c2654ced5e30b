-- Laws of what is quickly told of a place, and of the turns of a scan.
-- Assumes nothing.
use mathlib.Core.Path.{◌≡◌, refl, sym, ap, ◌∙◌}
use mathlib.Core.Bool.{true}
use mathlib.Core.List.{List}
use Prim.Native.Nat.{ℕ, ◌+◌, ◌-◌, ◌*◌, ◌/◌, ◌%◌, ◌<◌}
use native.Mathlib.Omega.{arith}
use Rattle.std.specs.Prelude.{Ok}
use lib.ListN.{length, get_or-eq_default}
use borrow.Author.Tests.{lt-ltb, eq-eqb, ne_eqb}
use types.Run.{OneOf}
use Rattle.base.specs.Tabulate.{Each}
use Rattle.base.proofs.IfLaws.{below_or}
use Rattle.expansion.specs.declared.Class.{Class}
use Rattle.expansion.specs.declared.Class.TheVariants.{Plain, If, Then, Wrong}
use Rattle.expansion.specs.declared.Classed.{Classed}
use Rattle.expansion.specs.Items.{byte_at, is_digit, is_nonzero, singles, found, argument_at, braced_at, item_at}
use Rattle.expansion.specs.Form.{class_of, class_at}
use Rattle.item_parts.specs.Classes.{item_class}
use Rattle.item_parts.specs.Right.{ArgumentTested}
use Rattle.item_parts.proofs.Cases.{within_true, behind, one_of, percent_byte, braced_from, braced_start, braced_step, braced_close}
use Rattle.expansion_laws.specs.Forms.{class_on}
use Rattle.conditionals.specs.declared.Quick.{Quick}
use Rattle.conditionals.specs.declared.Quick.TheVariants.{Item, Test}
use Rattle.conditionals.specs.Walk.{nested, form_left}
use Rattle.conditionals.specs.Scan.{Tested, QuickAs, QuickIf, QuickBraced, QuickArgument, ScannedAs}
use Rattle.conditionals.proofs.WalkLaws.{left_go, nested_most_lem}

-- ---- the classes of items at bytes that were read

-- a byte that is an item by itself
class_byte : (s : List ℕ) (i : ℕ) → (byte_at s i ≡ 0 → ⊥) → (byte_at s i ≡ 37 → ⊥) → class_at s i ≡ record { class = Plain; next = i + 1 }
unfolding class_at class_of item_at
class_byte s i z p = rw (ne_eqb (byte_at s i) 0 z, ne_eqb (byte_at s i) 37 p)

-- `%` and the byte x
class_percent : (s : List ℕ) (i x : ℕ) → byte_at s i ≡ 37 → byte_at s (i + 1) ≡ x → class_at s i ≡ item_class (behind x s (i + 1))
unfolding class_at item_at
class_percent s i x p q = rw p (ap item_class (sym (percent_byte s (i + 1) refl x q)))

-- `%` and a byte that are an item
class_pair : (s : List ℕ) (i x : ℕ) (class : Class) → byte_at s i ≡ 37 → byte_at s (i + 1) ≡ x
    → item_class (behind x s (i + 1)) ≡ record { class = class; next = i + 1 + 1 } → class_at s i ≡ record { class = class; next = i + 2 }
class_pair s i x class p q e = let n : i + 1 + 1 ≡ i + 2 = omega arith in rw (← n) (class_percent s i x p q ∙ e)

class_argument : (s : List ℕ) (i : ℕ) → byte_at s i ≡ 37 → byte_at s (i + 1) ≡ 112 → is_nonzero (byte_at s (i + 2)) ≡ true
    → class_at s i ≡ record { class = Plain; next = i + 3 }
unfolding argument_at class_of
class_argument s i p q d =
    let n : i + 1 + 1 ≡ i + 2 = omega arith in
    let m : i + 1 + 2 ≡ i + 3 = omega arith in
    class_percent s i 112 p q ∙ rw (n, d, m)

-- a constant whose `{` is at j: one digit, and two
module _ (s : List ℕ) (j : ℕ) (first : is_digit (byte_at s (j + 1)) ≡ true) where
  one_digit : j + 2 < length s → byte_at s (j + 2) ≡ 125 → item_class (braced_at s j) ≡ record { class = Plain; next = j + 3 }
  unfolding class_of
  one_digit h c =
      let n : j + 1 + 1 ≡ j + 2 = omega arith in
      let m : j + 2 + 1 ≡ j + 3 = omega arith in
      let b = within_true 48 57 (byte_at s (j + 1)) first in
      let v : ℕ = 0 * 10 + (byte_at s (j + 1) - 48) in
      let f : braced_from s j (j + 1) 0 ≡ braced_from s j (j + 2) v = rw n at (braced_step s j (j + 1) 0 (omega arith) first) in
      rw (← m) (ap item_class (braced_start s j ∙ f ∙ braced_close s j (j + 2) v h c first (omega arith)))

  two_digits_lem : j + 3 < length s → is_digit (byte_at s (j + 2)) ≡ true → byte_at s (j + 3) ≡ 125
      → item_class (braced_at s j) ≡ record { class = Plain; next = j + 4 }
  unfolding class_of
  two_digits_lem h d c =
      let n : j + 1 + 1 ≡ j + 2 = omega arith in
      let n' : j + 2 + 1 ≡ j + 3 = omega arith in
      let m : j + 3 + 1 ≡ j + 4 = omega arith in
      let b = within_true 48 57 (byte_at s (j + 1)) first in
      let b' = within_true 48 57 (byte_at s (j + 2)) d in
      let v : ℕ = 0 * 10 + (byte_at s (j + 1) - 48) in
      let w : ℕ = v * 10 + (byte_at s (j + 2) - 48) in
      let f : braced_from s j (j + 1) 0 ≡ braced_from s j (j + 2) v = rw n at (braced_step s j (j + 1) 0 (omega arith) first) in
      let f' : braced_from s j (j + 2) v ≡ braced_from s j (j + 3) w = rw n' at (braced_step s j (j + 2) v (omega arith) d) in
      rw (← m) (ap item_class (braced_start s j ∙ f ∙ f' ∙ braced_close s j (j + 3) w h c first (omega arith)))

-- a `%t` starts in the string
class_inside : (s : List ℕ) (i : ℕ) → (class_at s i).class ≡ Then → i < length s
unfolding class_at class_of item_at
class_inside s i e =
    below_or i (length s) (λ l. l)
    (λ l.
    let z : byte_at s i ≡ 0 = get_or-eq_default s 0 l in
    let w : Wrong ≡ Then = rw z at e in
    absurd (let y : ◌≡◌ {A = ℕ} 0 1 = cc in (let x : ⊥ = omega arith in x)))

-- ---- what is told

pub byte_told : (s : List ℕ) (i : ℕ) {r : Quick} → r ≡ Item Plain (i + 1) → (byte_at s i ≡ 0 → ⊥) → (byte_at s i ≡ 37 → ⊥) → QuickAs s i r
byte_told s i e z p = rw e (class_byte s i z p)

pub pair_told : (s : List ℕ) (i x : ℕ) (class : Class) {r : Quick} → r ≡ Item class (i + 2) → byte_at s i ≡ 37 → byte_at s (i + 1) ≡ x
    → item_class (behind x s (i + 1)) ≡ record { class = class; next = i + 1 + 1 } → QuickAs s i r
pair_told s i x class e p q k = rw e (class_pair s i x class p q k)

pub plain_told : (s : List ℕ) (i : ℕ) (ks : List ℕ) {r : Quick} → r ≡ Item Plain (i + 2) → byte_at s i ≡ 37
    → OneOf ks (byte_at s (i + 1))
    → Each (λ x. item_class (behind x s (i + 1)) ≡ record { class = Plain; next = i + 1 + 1 }) ks → QuickAs s i r
plain_told s i ks e p o h =
    let k = one_of (λ x. item_class (behind x s (i + 1)) ≡ record { class = Plain; next = i + 1 + 1 }) ks (byte_at s (i + 1)) h o in
    pair_told s i (byte_at s (i + 1)) Plain e p refl k

pub argument_told : (s : List ℕ) (k : ℕ) {r : Quick} → r ≡ Item Plain (k + 1) → is_nonzero (byte_at s k) ≡ true → QuickArgument s k r
argument_told s k e d i p q n =
    let m : i + 2 + 1 ≡ i + 3 = omega arith in rw (e, n, m) (class_argument s i p q (rw n at d))

pub one_digit_told : (s : List ℕ) (k : ℕ) {r : Quick} → r ≡ Item Plain (k + 2) → k + 2 < length s → is_digit (byte_at s k) ≡ true
    → byte_at s (k + 1) ≡ 125 → QuickBraced s k r
one_digit_told s k e h d c i p q n =
    let a : k ≡ i + 1 + 1 = omega arith in
    let a' : k + 1 ≡ i + 1 + 2 = omega arith in
    let a'' : k + 2 ≡ i + 1 + 3 = omega arith in
    rw (e, a'') (class_percent s i 123 p q ∙ one_digit s (i + 1) (rw a at d) (omega arith) (rw a' at c))

pub two_digits_told : (s : List ℕ) (k : ℕ) {r : Quick} → r ≡ Item Plain (k + 3) → k + 2 < length s → is_digit (byte_at s k) ≡ true
    → is_digit (byte_at s (k + 1)) ≡ true → byte_at s (k + 2) ≡ 125 → QuickBraced s k r
two_digits_told s k e h d d' c i p q n =
    let a : k ≡ i + 1 + 1 = omega arith in
    let a' : k + 1 ≡ i + 1 + 2 = omega arith in
    let a'' : k + 2 ≡ i + 1 + 3 = omega arith in
    let a''' : k + 3 ≡ i + 1 + 4 = omega arith in
    rw (e, a''') (class_percent s i 123 p q ∙ two_digits_lem s (i + 1) (rw a at d) (omega arith) (rw a' at d') (rw a'' at c))

class_if : (s : List ℕ) (i : ℕ) → byte_at s i ≡ 37 → byte_at s (i + 1) ≡ 63 → class_at s i ≡ record { class = If; next = i + 2 }
unfolding singles found class_of
class_if s i p q = class_pair s i 63 If p q refl

pub if_told : (s : List ℕ) (k : ℕ) {r : Quick} → r ≡ Item If k → QuickIf s k r
if_told s k e i p q n = rw (e, n) (class_if s i p q)

pub test_told : (s : List ℕ) (k : ℕ) → ArgumentTested s k → QuickIf s k (Test (k + 5))
unfolding class_at class_of
test_told s k a i p q n =
    let m : k + 3 ≡ i + 5 = omega arith in
    let argument : class_at s k ≡ record { class = Plain; next = k + 3 } = ap item_class a.argument in
    let test : class_at s (k + 3) ≡ record { class = Then; next = k + 5 } = ap item_class a.test in
    record {
      if_there = class_if s i p q;
      argument_there = rw (m, n) at argument;
      then_there = rw m at test;
    }

-- ---- the turns of a scan

-- each turn leads on
module _ (s : List ℕ) (i : ℕ) where
  pub item_on : (class : Class) (next : ℕ) → i < length s → QuickAs s i (Item class next) → i < next
  item_on class next h e = let n = ap (λ (x : Classed). x.next) e in omega (arith, n, class_on s i h)

  pub test_on : (next : ℕ) → Tested s i next → i < next
  test_on next t =
      let h : i + 5 < length s = class_inside s (i + 5) (ap (λ (x : Classed). x.class) t.then_there) in
      let n = ap (λ (x : Classed). x.next) t.then_there in
      omega (arith, n, class_on s (i + 5) h)

module _ (s : List ℕ) (from before i k : ℕ) (a : ScannedAs s from before record { at = i; kept = k }) where
  pub item_turn : (class : Class) (next k' : ℕ) → i < length s → QuickAs s i (Item class next) → nested class k ≡ Ok k'
      → ScannedAs s from before record { at = next; kept = k' }
  item_turn class next k' h e q =
      record {
        form = a.form ∙ left_go s i k k' h (rw e q) ∙ rw e;
        most = nested_most_lem class k k' a.most q;
        on = omega (arith, a.on, item_on s i class next h e);
      }

  pub test_turn : (next : ℕ) → i + 2 < length s → Tested s i next → k < 1073741824 → ScannedAs s from before record { at = next; kept = k * 4 + 2 }
  unfolding nested
  test_turn next h t l =
      let j : i + 5 < length s = class_inside s (i + 5) (ap (λ (x : Classed). x.class) t.then_there) in
      let o : (k * 4 + 1) % 2 ≡ 1 = omega arith in
      let m : (k * 4 + 1) / 4 * 4 + 2 ≡ k * 4 + 2 = omega arith in
      let x : form_left s i k ≡ form_left s (i + 2) (k * 4 + 1) =
      rw t.if_there at (left_go s i k (k * 4 + 1) (omega arith) (rw (t.if_there, lt-ltb k 1073741824 l))) in
      let y : form_left s (i + 2) (k * 4 + 1) ≡ form_left s (i + 5) (k * 4 + 1) =
      rw t.argument_there at (left_go s (i + 2) (k * 4 + 1) (k * 4 + 1) h (rw t.argument_there)) in
      let z : form_left s (i + 5) (k * 4 + 1) ≡ form_left s next (k * 4 + 2) =
      rw t.then_there at (left_go s (i + 5) (k * 4 + 1) (k * 4 + 2) j (rw (t.then_there, eq-eqb ((k * 4 + 1) % 2) 1 o, m))) in
      record {
        form = a.form ∙ x ∙ y ∙ z;
        most = omega arith;
        on = omega (arith, a.on, test_on s i next t);
      }
