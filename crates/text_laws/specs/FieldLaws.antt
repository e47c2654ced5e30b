-- Fields.
-- Assumes nothing.
use Rattle.std.proofs.Math.Path.{◌≡◌, refl, sym, ap}
use Rattle.std.proofs.Common.{◌∙◌, subst}
use Rattle.std.specs.Prelude.{Bool, ◌&&◌, ◌||◌, List, ℕ, ◌+◌, ◌-◌, ◌≤◌, ◌<◌, get_or, Option, Some, None}
use Rattle.std.proofs.Math.Bool.{true, false}
use native.Mathlib.Omega.{arith}
use Rattle.std.proofs.Math.Dec.{eqb, leb}
use Rattle.std.proofs.Math.ListN.{length}
use borrow.Author.Tests.{eqb-false, leb-true, eq-eqb, ne_eqb}
use Rattle.base.proofs.IfLaws.{and_left, if_both}
use Rattle.text.specs.declared.NumberBase.{NumberBase}
use Rattle.text.specs.declared.NumberBase.TheVariants.{Octal, Decimal, Hexadecimal}
use Rattle.text.specs.declared.ByteClass.TheVariants as C
use Rattle.text.specs.declared.FieldForm.{FieldForm}
use Rattle.text.specs.declared.FieldForm.TheVariants as F
use Rattle.text.specs.declared.Formed.{Formed}
use Rattle.text.specs.declared.Field.{Field}
use Rattle.text.specs.Bytes.{run_end, base_of}
use Rattle.text.specs.Strings.{Read, whole, malformed, read_at, read_bytes, content_of}
use Rattle.entry.specs.Limits.{number_most}
use Rattle.text.specs.Numbers.{digits_most, with_digits, number_form, formed, digits_in, digits_at, number_at}
use Rattle.text.specs.Fields.{string_form, form_at, field, closed, named_at, field_at}
use Rattle.text_laws.specs.Runs.{run_ge, within}
use Rattle.text_laws.specs.Reads.{read_after}

-- a byte other than 0 stands in the text
pub byte_within : (t : List ℕ) (i b : ℕ) → eqb 0 b ≡ false → get_or t i 0 ≡ b → i < length t
byte_within t i b z h = within (λ x. eqb x b) z t i (eq-eqb (get_or t i 0) b h)

-- ---- what holds of every form that is right

-- a number is not above the most; a string stands at its place, and its bytes are counted
abbrev FormRight : List ℕ → FieldForm → Type 0
FormRight t F.Boolean = Unit {0}
FormRight t F.Cancelled = Unit {0}
FormRight t (F.Number v) = v ≤ number_most
FormRight t F.LargeNumber = Unit {0}
FormRight t (F.String s n) = (read_at t s ≡ malformed → ⊥) × (n ≡ length (read_bytes (read_at t s)))

-- and the form's end is not before its place
abbrev FormedRight : List ℕ → ℕ → Option Formed → Type 0
FormedRight t i (Some g) = (i ≤ g.next) × FormRight t g.form
FormedRight t i None = Unit {0}

module _ (t : List ℕ) where
  number_right : (v n : ℕ) → FormRight t (number_form v n)
  unfolding number_form
  number_right v n =
      if_both (FormRight t) (leb v number_most && leb n digits_most)
      (λ e. leb-true v number_most (and_left (leb v number_most) (leb n digits_most) e)) (λ _. tt)

  digits_right : (base : NumberBase) (p i : ℕ) → p ≤ i → FormedRight t p (digits_at base t i)
  unfolding digits_in
  digits_right base p i l =
      if_both (FormedRight t p) (eqb (run_end (C.Digit base) t i) i) (λ _. tt)
      (λ _. let g = run_ge (C.Digit base) t i in (
        omega arith,
        number_right (with_digits (base_of base) t i (run_end (C.Digit base) t i - i) 0)
            (run_end (C.Digit base) t i - i),
      ))

  numeral_right : (p i : ℕ) → p ≤ i → FormedRight t p (number_at t i)
  unfolding number_at
  numeral_right p i l =
      if_both (FormedRight t p) (eqb (get_or t i 0) 48)
      (λ _. if_both (FormedRight t p) (eqb (get_or t (i + 1) 0) 120 || eqb (get_or t (i + 1) 0) 88)
      (λ _. digits_right Hexadecimal p (i + 2) (omega arith))
      (λ _. digits_right Octal p i l))
      (λ _. digits_right Decimal p i l)

  string_right : (p i : ℕ) → p ≤ i → FormedRight t p (string_form i (content_of (read_at t i)))
  unfolding content_of read_bytes
  string_right p i l = by_read (read_at t i) refl
    where
      by_read : (r : Read) → read_at t i ≡ r → FormedRight t p (string_form i (content_of r))
      by_read (whole s k) e =
          let a = read_after t i s k e in (
            omega arith,
            (
              (λ m. let q : whole s k ≡ malformed = sym e ∙ m in let z : ◌≡◌ {A = ℕ} 0 1 = cc in omega arith),
              ap
                  (λ r. length (read_bytes r)) (sym e),
            ),
          )
      by_read malformed e = tt

  form_right : (i : ℕ) → FormedRight t i (form_at t i)
  unfolding form_at
  form_right i =
      if_both (FormedRight t i) (eqb (get_or t i 0) 44) (λ _. (omega arith, tt))
      (λ _. if_both (FormedRight t i) (eqb (get_or t i 0) 64) (λ _. (omega arith, tt))
      (λ _. if_both (FormedRight t i) (eqb (get_or t i 0) 35) (λ _. numeral_right i (i + 1) (omega arith))
      (λ _. if_both (FormedRight t i) (eqb (get_or t i 0) 61) (λ _. string_right i (i + 1) (omega arith)) (λ _. tt))))

-- ---- the field that a name from i to e starts

module _ (t : List ℕ) (dropped : Bool) (i e : ℕ) (q : e ≡ run_end C.Name t i) where
  pub named_none : e ≡ i → None ≡ named_at t dropped i
  unfolding named_at
  named_none h = rw (← q, eq-eqb e i h)

  module _ (n : e ≡ i → ⊥) where
    named_by : (g : Option Formed) → g ≡ form_at t e → closed t dropped i e g ≡ named_at t dropped i
    unfolding named_at
    named_by g h = rw (← q, ne_eqb e i n, h)

    pub named_wrong : None ≡ form_at t e → None ≡ named_at t dropped i
    named_wrong h = named_by None h

    module _ (f : FieldForm) (k : ℕ) (h : formed f k ≡ form_at t e) where
      pub named_open : (get_or t k 0 ≡ 44 → ⊥) → None ≡ named_at t dropped i
      named_open b = rw (ne_eqb (get_or t k 0) 44 b) at (named_by (formed f k) h)

      pub named_closed : get_or t k 0 ≡ 44 → field dropped i e f (k + 1) ≡ named_at t dropped i
      named_closed b = rw (eq-eqb (get_or t k 0) 44 b) at (named_by (formed f k) h)

-- ---- what holds of every field that is right

-- the name from i to k stands in the field from p to next, which lies in the text
pub record FieldAfter (t : List ℕ) (p i k next : ℕ) : Type 0 where
  pub name : p ≤ i
  pub some : i < k
  pub form : k < next
  pub ends : next ≤ length t

abbrev FieldRight : List ℕ → ℕ → Option Field → Type 0
FieldRight t p (Some f) = FieldAfter t p f.name f.end f.next × FormRight t f.form
FieldRight t p None = Unit {0}

module _ (t : List ℕ) (p : ℕ) where
  closed_right : (dropped : Bool) (i e : ℕ) (g : Option Formed) → p ≤ i → i < e → FormedRight t e g
      → FieldRight t p (closed t dropped i e g)
  closed_right dropped i e (Some g) l m r =
      if_both (FieldRight t p) (eqb (get_or t g.next 0) 44)
      (λ c. let w = within (λ b. eqb b 44) refl t g.next c
      in (record { name = l; some = m; form = omega arith; ends = omega arith }, r.1))
      (λ _. tt)
  closed_right dropped i e None l m r = tt

  named_right : (dropped : Bool) (i : ℕ) → p ≤ i → FieldRight t p (named_at t dropped i)
  unfolding named_at
  named_right dropped i l =
      if_both (FieldRight t p) (eqb (run_end C.Name t i) i) (λ _. tt)
      (λ e. let g = run_ge C.Name t i in
      let n = eqb-false (run_end C.Name t i) i e in
      closed_right dropped i (run_end C.Name t i) (form_at t (run_end C.Name t i)) l (omega arith)
      (form_right t (run_end C.Name t i)))

  field_right : FieldRight t p (field_at t p)
  unfolding field_at
  field_right =
      if_both (FieldRight t p) (eqb (get_or t p 0) 46) (λ _. named_right true (p + 1) (omega arith))
      (λ _. named_right false p (omega arith))

  -- ---- of a field at p

  pub field_after : (dropped : Bool) (i k : ℕ) (f : FieldForm) (next : ℕ) → field_at t p ≡ field dropped i k f next
      → FieldAfter t p i k next
  field_after dropped i k f next e = (subst (FieldRight t p) e field_right).0

  pub field_string : (dropped : Bool) (i k s n next : ℕ) → field_at t p ≡ field dropped i k (F.String s n) next
      → (read_at t s ≡ malformed → ⊥) × (n ≡ length (read_bytes (read_at t s)))
  field_string dropped i k s n next e = (subst (FieldRight t p) e field_right).1

  pub field_number : (dropped : Bool) (i k v next : ℕ) → field_at t p ≡ field dropped i k (F.Number v) next
      → v ≤ number_most
  field_number dropped i k v next e = (subst (FieldRight t p) e field_right).1
