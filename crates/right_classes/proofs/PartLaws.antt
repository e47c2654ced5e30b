-- The parts of right items: each test of the definitions has come out true, so that an item's end is known.
-- Assumes nothing.
use mathlib.Core.Path.{◌≡◌, refl, sym, ap, ◌∙◌}
use mathlib.Core.Bool.{Bool, true, false, ◌&&◌, ◌||◌, not}
use mathlib.Core.List.{List, [], ◌∷◌}
use mathlib.Core.Logic.{◌⊎◌, inl, inr}
use Prim.Native.Nat.{ℕ, ◌+◌, ◌-◌, ◌*◌, ◌≤◌, ◌<◌}
use native.Mathlib.Omega.{arith}
use lib.Dec.{eqb, leb}
use lib.ListN.{length, take, drop, get_or-eq_default}
use borrow.Author.Tests.{le-leb, eqb-true, ne_eqb}
use Rattle.base.specs.If.{when◌then◌else◌}
use Rattle.base.proofs.IfLaws.{true_false, and_left, and_right, below_or, is_false, if_true, if_false, if_both}
use Rattle.base.proofs.ScanLaws.{scan_ge, scan_step}
use Rattle.expansion.specs.Limits.{constant_most}
use Rattle.expansion.specs.declared.Item.{Item}
use Rattle.expansion.specs.declared.Base.{Base}
use Rattle.expansion.specs.declared.Item.TheVariants as I
use Rattle.expansion.specs.declared.Class.{Class}
use Rattle.expansion.specs.declared.Class.TheVariants.{Plain, If, Then, Else, End, Wrong}
use Rattle.expansion.specs.declared.Classed.{Classed}
use Rattle.expansion.specs.declared.Lexed.{Lexed}
use Rattle.expansion.specs.Items.{byte_at, is_digit, is_nonzero, is_letter, lexed, singles, found}
use Rattle.expansion.specs.Items.{argument_at, quoted_at, decimal, digits_end, braced_at, store_at, load_at}
use Rattle.expansion.specs.Items.{format_at, width_at, percent_at, item_at}
use Rattle.expansion.specs.Form.{class_of, class_at}
use Rattle.item_parts.specs.Classes.{item_class}
use Rattle.item_parts.specs.Right.{RightItem}
use Rattle.item_parts.proofs.Cases.{within_true, NoneOf, percent_byte, braced_stop}
use Rattle.right_classes.specs.Parts.{RightLexed, Closed, WidthEnd}

-- a place whose byte is not NUL is in the string
in_string : (s : List ℕ) (k : ℕ) → 0 < byte_at s k → k < length s
in_string s k h =
    below_or k (length s) (λ l. l)
    (λ l. let z : byte_at s k ≡ 0 = get_or-eq_default s 0 l in absurd (let q : ⊥ = omega arith in q))

abbrev classed : Class → ℕ → Classed
classed c n = record { class = c; next = n }

abbrev pub plain_to : ℕ → Classed
plain_to n = classed Plain n

-- if l is right, it is a plain item, and n is the place behind it
abbrev PlainTo : ℕ → Lexed → Type 0
PlainTo n l = RightLexed l → plain_to n ≡ item_class l

-- nothing is wrong and right
none : {A : Type 0} → (I.Wrong ≡ I.Wrong → ⊥) → A
none r = absurd (r refl)

module _ (s : List ℕ) (j : ℕ) where
  pub argument_plain : PlainTo (j + 2) (argument_at s j)
  unfolding argument_at class_of
  argument_plain = if_both (PlainTo (j + 2)) (is_nonzero (byte_at s (j + 1))) (λ _ _. refl) (λ _. none)

  pub quoted_plain : PlainTo (j + 3) (quoted_at s j)
  unfolding quoted_at class_of
  quoted_plain =
      if_both (PlainTo (j + 3)) (not (eqb (byte_at s (j + 1)) 0) && eqb (byte_at s (j + 2)) 39) (λ _ _. refl) (λ _. none)

  pub store_plain : PlainTo (j + 2) (store_at s j)
  unfolding store_at class_of
  store_plain = if_both (PlainTo (j + 2)) (is_letter (byte_at s (j + 1))) (λ _ _. refl) (λ _. none)

  pub load_plain : PlainTo (j + 2) (load_at s j)
  unfolding load_at class_of
  load_plain = if_both (PlainTo (j + 2)) (is_letter (byte_at s (j + 1))) (λ _ _. refl) (λ _. none)

  -- ---- `%{digits}`

  pub braced_plain : PlainTo (digits_end s (j + 1) + 1) (braced_at s j)
  unfolding braced_at class_of
  braced_plain =
      let e : ℕ = digits_end s (j + 1) in
      let v : ℕ = decimal 0 (take (e - (j + 1)) (drop (j + 1) s)) in
      if_both (PlainTo (e + 1)) (is_digit (byte_at s (j + 1)) && (eqb (byte_at s e) 125 && leb v constant_most))
      (λ _ _. refl) (λ _. none)

  pub braced_closed : RightLexed (braced_at s j) → Closed s (j + 1)
  unfolding braced_at
  braced_closed =
      let e : ℕ = digits_end s (j + 1) in
      let v : ℕ = decimal 0 (take (e - (j + 1)) (drop (j + 1) s)) in
      let digit : Bool = is_digit (byte_at s (j + 1)) in
      let close : Bool = eqb (byte_at s e) 125 in
      if_both (λ l. RightLexed l → Closed s (j + 1)) (digit && (close && leb v constant_most))
      (λ q _. let t = and_left close (leb v constant_most) (and_right digit (close && leb v constant_most) q) in
      let p : byte_at s e ≡ 125 = eqb-true (byte_at s e) 125 t in
      record { inside = in_string s e (omega arith); closed = p })
      (λ _. none)

-- the walk over the digits
module _ {s : List ℕ} {j : ℕ} (c : Closed s j) (i : ℕ) (e : digits_end s i ≡ digits_end s j) where
  pub digits_inside : i < length s
  digits_inside = omega (arith, c.inside, scan_ge (λ k. is_digit (byte_at s k)) i (length s - i))

  -- a byte other than `}` is a digit
  pub digits_step : (byte_at s i ≡ 125 → ⊥) → digits_end s (i + 1) ≡ digits_end s j
  digits_step n =
      let d = by_test (is_digit (byte_at s i)) refl in
      sym (scan_step (λ k. is_digit (byte_at s k)) i (length s) d digits_inside) ∙ e
    where
      by_test : (t : Bool) → is_digit (byte_at s i) ≡ t → t ≡ true
      by_test true q = refl
      by_test false q =
          let z : digits_end s i ≡ i = braced_stop s i digits_inside q in
          absurd (n (ap (byte_at s) (sym z ∙ e) ∙ c.closed))

  pub digits_stop : byte_at s i ≡ 125 → i ≡ digits_end s j
  digits_stop q = sym (braced_stop s i digits_inside (rw q)) ∙ e

-- ---- a number's format

-- a right letter at k
pub record Letter (s : List ℕ) (k : ℕ) (l : Lexed) : Type 0 where
  pub inside : k < length s
  pub high : 57 < byte_at s k
  pub plain : plain_to (k + 1) ≡ item_class l

format_letter : (s : List ℕ) (k : ℕ) (zero : Bool) (width : ℕ) → RightLexed (format_at s k zero width)
    → Letter s k (format_at s k zero width)
unfolding format_at class_of
format_letter s k zero width =
    if_both P (eqb b 100) (λ e _. number 100 e (omega arith))
    (λ _. if_both P (eqb b 111) (λ e _. number 111 e (omega arith))
    (λ _. if_both P (eqb b 120) (λ e _. number 120 e (omega arith))
    (λ _. if_both P (eqb b 88) (λ e _. number 88 e (omega arith))
    (λ _. none))))
  where
    P : Lexed → Type 0
    P l = RightLexed l → Letter s k l

    b : ℕ
    b = byte_at s k

    number : {d : Base} (x : ℕ) → eqb b x ≡ true → 57 < x → Letter s k (lexed (I.Number d zero width) (k + 1))
    number x e h =
        let p : byte_at s k ≡ x = eqb-true (byte_at s k) x e in
        record { inside = in_string s k (omega arith); high = omega arith; plain = refl }

-- a right width at k: the byte behind its first digit tells whether there is a second one
pub record Width (s : List ℕ) (k : ℕ) (l : Lexed) : Type 0 where
  pub inside : k + 1 < length s
  pub one : 57 < byte_at s (k + 1) → k + 2 ≡ l.next
  pub two : byte_at s (k + 1) ≤ 57 → k + 3 ≡ l.next
  pub plain : plain_to l.next ≡ item_class l

pub width_right : (s : List ℕ) (k : ℕ) (zero : Bool) → RightLexed (width_at s k zero) → Width s k (width_at s k zero)
unfolding width_at
width_right s k zero =
    if_both P (not (is_nonzero (byte_at s k))) (λ _. none)
    (λ _. if_both P (is_digit (byte_at s (k + 1)))
    (λ e r.
    let d = within_true 48 57 (byte_at s (k + 1)) e in
    let x = format_letter s (k + 2) zero ((byte_at s k - 48) * 10 + (byte_at s (k + 1) - 48)) r in
    let n = ap (λ (y : Classed). y.next) x.plain in
    record {
      inside = omega (arith, x.inside);
      one = λ h. absurd (let z : ⊥ = omega arith in z);
      two = λ _. omega (arith, n);
      plain = ap plain_to (sym n) ∙ x.plain;
    })
    (λ _ r.
    let x = format_letter s (k + 1) zero (byte_at s k - 48) r in
    let n = ap (λ (y : Classed). y.next) x.plain in
    record {
      inside = x.inside;
      one = λ _. omega (arith, n);
      two = λ h. absurd (let z : ⊥ = omega (arith, x.high) in z);
      plain = ap plain_to (sym n) ∙ x.plain;
    }))
  where
    P : Lexed → Type 0
    P l = RightLexed l → Width s k l

-- ---- the byte after `%`

module _ (s : List ℕ) (j : ℕ) where
  -- it is in the string
  pub percent_inside : RightLexed (percent_at s j) → j < length s
  unfolding singles found
  percent_inside r =
      below_or j (length s) (λ l. l)
      (λ l. let z : byte_at s j ≡ 0 = get_or-eq_default s 0 l in
      absurd (r (sym (ap (λ (x : Lexed). x.item) (percent_byte s j (sym z) 0 refl)))))

-- a right item stays right where it is known what it is
pub right_as : {l k : Lexed} → l ≡ k → RightLexed k → RightLexed l
right_as e r q = r (sym (ap (λ (x : Lexed). x.item) e) ∙ q)

pub plain_as : {l k : Lexed} (n : ℕ) → l ≡ k → RightLexed k → PlainTo n l → plain_to n ≡ item_class k
plain_as n e r p = p (right_as e r) ∙ ap item_class e

pub width_plain : (s : List ℕ) (k : ℕ) (zero : Bool) {l : Lexed} (n : ℕ) → width_at s k zero ≡ l → RightLexed l
    → WidthEnd s k n → plain_to n ≡ item_class l
width_plain s k zero n e r w =
    let right = right_as e r in
    ap plain_to (w zero right) ∙ (width_right s k zero right).plain ∙ ap item_class e

-- the bytes of `%?`, `%t`, `%e` and `%;`
abbrev is_conditional : ℕ → Bool
is_conditional x = eqb x 63 || (eqb x 116 || (eqb x 101 || eqb x 59))

abbrev is_plain : Class → Bool
is_plain Plain = true
is_plain If = false
is_plain Then = false
is_plain Else = false
is_plain End = false
is_plain Wrong = false

plain_class : (c : Class) → is_plain c ≡ true → c ≡ Plain
plain_class Plain e = refl
plain_class If e = true_false (sym e)
plain_class Then e = true_false (sym e)
plain_class Else e = true_false (sym e)
plain_class End e = true_false (sym e)
plain_class Wrong e = true_false (sym e)

-- the other bytes of a table have plain items
abbrev others_plain : List (ℕ × Item) → Bool
others_plain [] = true
others_plain (p ∷ ps) = (is_plain (class_of p.1) || is_conditional p.0) && others_plain ps

or_first : (a b : Bool) → (a || b) ≡ true → b ≡ false → a ≡ true
or_first true b e h = refl
or_first false b e h = true_false (sym e ∙ h)

found_plain : (ps : List (ℕ × Item)) (x : ℕ) → others_plain ps ≡ true → is_conditional x ≡ false
    → (found ps x ≡ I.Wrong → ⊥) → class_of (found ps x) ≡ Plain
unfolding found
found_plain [] x a h = none
found_plain (p ∷ ps) x a h =
    let c : Class = class_of p.1 in
    let t : Bool = is_plain c || is_conditional p.0 in
    if_both (λ (k : Item). (k ≡ I.Wrong → ⊥) → class_of k ≡ Plain) (eqb x p.0)
    (λ e _.
    let o : is_conditional p.0 ≡ false = ap is_conditional (sym (eqb-true x p.0 e)) ∙ h in
    plain_class c (or_first (is_plain c) (is_conditional p.0) (and_left t (others_plain ps) a) o))
    (λ _. found_plain ps x (and_right t (others_plain ps) a) h)

-- the bytes that have arms of their own
abbrev pub arms : List (List ℕ)
arms =
    (63 ∷ []) ∷ (116 ∷ []) ∷ (101 ∷ []) ∷ (59 ∷ []) ∷ (112 ∷ []) ∷ (80 ∷ []) ∷ (103 ∷ []) ∷ (39 ∷ []) ∷ (123 ∷ [])
    ∷ (48 ∷ []) ∷ []

-- for any other byte, the definition has two cases
module _ (s : List ℕ) (j : ℕ) (n : NoneOf Unit arms (byte_at s j)) where
  other : (when is_nonzero (byte_at s j) then width_at s j false else lexed (found singles (byte_at s j)) (j + 1))
      ≡ percent_at s j
  unfolding percent_at
  other =
      let b : ℕ = byte_at s j in
      sym
      (rw (
        ne_eqb b 112 n.0.0.0.0.0.1,
        ne_eqb b 39 n.0.0.1,
        ne_eqb b 123 n.0.1,
        ne_eqb b 80 n.0.0.0.0.1,
        ne_eqb b 103 n.0.0.0.1,
        ne_eqb b 48 n.1,
      ))

  -- a digit
  pub digit_width : 48 ≤ byte_at s j → byte_at s j < 58 → width_at s j false ≡ percent_at s j
  digit_width l h =
      let m : 49 ≤ byte_at s j = omega (arith, n.1) in
      if_true (is_nonzero (byte_at s j)) _ _ (rw (le-leb 49 (byte_at s j) m, le-leb (byte_at s j) 57 (omega arith))) ∙ other

  -- a single byte
  single : (byte_at s j < 48) ⊎ (58 ≤ byte_at s j) → lexed (found singles (byte_at s j)) (j + 1) ≡ percent_at s j
  single h =
      let b : ℕ = byte_at s j in
      if_false (is_nonzero b) _ _ (is_false (is_nonzero b) (λ e. no_digit (within_true 49 57 b e) h)) ∙ other
    where
      no_digit : (49 ≤ byte_at s j) × (byte_at s j ≤ 57) → (byte_at s j < 48) ⊎ (58 ≤ byte_at s j) → ⊥
      no_digit w (inl l) = omega (arith, w.0)
      no_digit w (inr l) = omega (arith, w.1)

class_plain : (b : ℕ) → NoneOf Unit arms b → (found singles b ≡ I.Wrong → ⊥) → class_of (found singles b) ≡ Plain
unfolding singles class_of
class_plain b n =
    found_plain singles b refl
    (rw (
      ne_eqb b 63 n.0.0.0.0.0.0.0.0.0.1,
      ne_eqb b 116 n.0.0.0.0.0.0.0.0.1,
      ne_eqb b 101 n.0.0.0.0.0.0.0.1,
      ne_eqb b 59 n.0.0.0.0.0.0.1,
    ))

pub single_plain : (s : List ℕ) (j : ℕ) → NoneOf Unit arms (byte_at s j) → (byte_at s j < 48) ⊎ (58 ≤ byte_at s j)
    → PlainTo (j + 1) (percent_at s j)
single_plain s j n h r =
    let e = single s j n h in
    let p = class_plain (byte_at s j) n (right_as e r) in
    ap (λ (c : Class). classed c (j + 1)) (sym p) ∙ ap item_class e

-- ---- the item at a place

module _ (s : List ℕ) (i : ℕ) (r : RightItem s i) where
  item_percent : byte_at s i ≡ 37 → percent_at s (i + 1) ≡ item_at s i
  unfolding item_at
  item_percent e = rw e

  pub percent_right : byte_at s i ≡ 37 → RightLexed (percent_at s (i + 1))
  percent_right e = right_as (item_percent e) r.right

  pub percent_class : byte_at s i ≡ 37 → item_class (percent_at s (i + 1)) ≡ class_at s i
  unfolding class_at
  percent_class e = ap item_class (item_percent e)

  pub item_byte : (byte_at s i ≡ 37 → ⊥) → plain_to (i + 1) ≡ class_at s i
  unfolding item_at class_at class_of
  item_byte n =
      let b : ℕ = byte_at s i in
      if_both (PlainTo (i + 1)) (eqb b 0) (λ _. none)
      (λ _. if_both (PlainTo (i + 1)) (eqb b 37) (λ e. absurd (n (eqb-true b 37 e))) (λ _ _. refl))
      r.right
