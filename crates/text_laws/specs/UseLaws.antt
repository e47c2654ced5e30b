-- `use` fields: the name in one stands behind `use=`, and the shortest is `use=,`.
-- Assumes nothing.
use Rattle.std.specs.Prelude.{◌≡◌, Bool, ◌&&◌, ◌||◌, List, [], ◌∷◌, length, get_or, take, drop, Option, Some, None}
use Rattle.std.proofs.Math.Path.{refl}
use Rattle.std.proofs.Common.{sym, ap, ◌∙◌, subst, arith, length-drop, length-take-le}
use Rattle.std.proofs.Math.Bool.{true, false}
use Prim.Native.Nat.{ℕ, ◌+◌, ◌-◌, ◌≤◌, ◌<◌}
use Rattle.std.proofs.Math.Dec.{eqb, leb}
use Rattle.base.specs.If.{when◌then◌else◌}
use Rattle.base.proofs.IfLaws.{if_both}
use Rattle.base.specs.Answer.{Answer, refused, gives, map_answer}
use Rattle.edition.specs.declared.Edition.{Edition}
use Rattle.entry.specs.Limits.{content_most, number_most}
use Rattle.names.specs.declared.Found.{Found}
use Rattle.names.specs.declared.Found.TheVariants as N
use Rattle.names.specs.Names.{ascii}
use Rattle.names.specs.Lookup.{same_bytes, looking_up}
use Rattle.names.proofs.LookupLaws.{same_eq}
use Rattle.text.specs.declared.NumberBase.{NumberBase}
use Rattle.text.specs.declared.NumberBase.TheVariants.{Octal, Decimal, Hexadecimal}
use Rattle.text.specs.declared.ByteClass.TheVariants as C
use Rattle.text.specs.declared.FieldForm.{FieldForm}
use Rattle.text.specs.declared.FieldForm.TheVariants as F
use Rattle.text.specs.declared.Formed.{Formed}
use Rattle.text.specs.declared.Field.{Field}
use Rattle.text.specs.Bytes.{run_end, base_of}
use Rattle.text.specs.Strings.{Read, whole, malformed, read_at, read_bytes, content_of}
use Rattle.text.specs.Numbers.{digits_most, with_digits, number_form, digits_in, digits_at, number_at}
use Rattle.text.specs.Fields.{string_form, form_at, field, closed, named_at, field_at}
use Rattle.text.specs.Describing.{Saying, nothing, boolean, number, string, uses, boolean_by, number_by, string_by}
use Rattle.text.specs.Describing.{saying_of, use_by, named_saying, Judging, judging}
use Rattle.text.specs.Building.{UseAt}
use Rattle.text_laws.specs.Reads.{read_after}
use Rattle.text_laws.specs.FieldLaws.{field_after}
use Rattle.text_laws.specs.JudgingLaws.{refused_gives, given_is, judged_field}

-- ---- where a string stands in a field

-- a form at i that is a string starts behind the `=` at i and ends at k, behind its start
abbrev StringFrom : ℕ → FieldForm → ℕ → Type 0
StringFrom i F.Boolean k = Unit {0}
StringFrom i F.Cancelled k = Unit {0}
StringFrom i (F.Number v) k = Unit {0}
StringFrom i F.LargeNumber k = Unit {0}
StringFrom i (F.String s n) k = (s ≡ i + 1) × (s ≤ k)

abbrev FormedFrom : ℕ → Option Formed → Type 0
FormedFrom i (Some g) = StringFrom i g.form g.next
FormedFrom i None = Unit {0}

-- a field at p that isn't dropped starts with its name, from i to k, and its string starts behind `=`
abbrev FormFrom : ℕ → Bool → (i k : ℕ) → FieldForm → ℕ → Type 0
FormFrom p true i k f next = Unit {0}
FormFrom p false i k F.Boolean next = Unit {0}
FormFrom p false i k F.Cancelled next = Unit {0}
FormFrom p false i k (F.Number v) next = Unit {0}
FormFrom p false i k F.LargeNumber next = Unit {0}
FormFrom p false i k (F.String s n) next = (i ≡ p) × ((s ≡ k + 1) × (s < next))

abbrev FieldFrom : ℕ → Option Field → Type 0
FieldFrom p (Some f) = FormFrom p f.dropped f.name f.end f.form f.next
FieldFrom p None = Unit {0}

module _ (t : List ℕ) where
  digits_from_lem : (base : NumberBase) (p i : ℕ) → FormedFrom p (digits_at base t i)
  unfolding digits_in number_form
  digits_from_lem base p i =
      let e : ℕ = run_end (C.Digit base) t i in
      if_both (FormedFrom p) (eqb e i) (λ _. tt)
      (λ _. if_both (λ (f : FieldForm). StringFrom p f e)
      (leb (with_digits (base_of base) t i (e - i) 0) number_most && leb (e - i) digits_most) (λ _. tt) (λ _. tt))

  numeral_from : (p i : ℕ) → FormedFrom p (number_at t i)
  unfolding number_at
  numeral_from p i =
      if_both (FormedFrom p) (eqb (get_or t i 0) 48)
      (λ _. if_both (FormedFrom p) (eqb (get_or t (i + 1) 0) 120 || eqb (get_or t (i + 1) 0) 88)
      (λ _. digits_from_lem Hexadecimal p (i + 2))
      (λ _. digits_from_lem Octal p i))
      (λ _. digits_from_lem Decimal p i)

  string_from : (i : ℕ) → FormedFrom i (string_form (i + 1) (content_of (read_at t (i + 1))))
  unfolding content_of
  string_from i = by_read (read_at t (i + 1)) refl
    where
      by_read : (r : Read) → read_at t (i + 1) ≡ r → FormedFrom i (string_form (i + 1) (content_of r))
      by_read (whole s k) e = (refl, (read_after t (i + 1) s k e).0)
      by_read malformed e = tt

  form_from_lem : (i : ℕ) → FormedFrom i (form_at t i)
  unfolding form_at
  form_from_lem i =
      if_both (FormedFrom i) (eqb (get_or t i 0) 44) (λ _. tt)
      (λ _. if_both (FormedFrom i) (eqb (get_or t i 0) 64) (λ _. tt)
      (λ _. if_both (FormedFrom i) (eqb (get_or t i 0) 35) (λ _. numeral_from i (i + 1))
      (λ _. if_both (FormedFrom i) (eqb (get_or t i 0) 61) (λ _. string_from i) (λ _. tt))))

  right_from : (p e : ℕ) (f : FieldForm) (k : ℕ) → StringFrom e f k → FormFrom p false p e f (k + 1)
  right_from p e F.Boolean k r = tt
  right_from p e F.Cancelled k r = tt
  right_from p e (F.Number v) k r = tt
  right_from p e F.LargeNumber k r = tt
  right_from p e (F.String s n) k r = (refl, (r.0, omega arith))

  closed_from : (p e : ℕ) (g : Option Formed) → FormedFrom e g → FieldFrom p (closed t false p e g)
  closed_from p e (Some g) r =
      if_both (FieldFrom p) (eqb (get_or t g.next 0) 44) (λ _. right_from p e g.form g.next r) (λ _. tt)
  closed_from p e None r = tt

  named_from : (p : ℕ) → FieldFrom p (named_at t false p)
  unfolding named_at
  named_from p =
      if_both (FieldFrom p) (eqb (run_end C.Name t p) p) (λ _. tt)
      (λ _. closed_from p (run_end C.Name t p) (form_at t (run_end C.Name t p)) (form_from_lem (run_end C.Name t p)))

  dropped_from : (p i : ℕ) → FieldFrom p (named_at t true i)
  unfolding named_at
  dropped_from p i =
      if_both (FieldFrom p) (eqb (run_end C.Name t i) i) (λ _. tt) (λ _. by_form (form_at t (run_end C.Name t i)))
    where
      by_form : (g : Option Formed) → FieldFrom p (closed t true i (run_end C.Name t i) g)
      by_form (Some g) = if_both (FieldFrom p) (eqb (get_or t g.next 0) 44) (λ _. tt) (λ _. tt)
      by_form None = tt

  field_from : (p : ℕ) → FieldFrom p (field_at t p)
  unfolding field_at
  field_from p = if_both (FieldFrom p) (eqb (get_or t p 0) 46) (λ _. dropped_from p (p + 1)) (λ _. named_from p)

-- ---- a field that is a use

-- no capability is a use
abbrev NoUse : Saying → Type 0
NoUse nothing = Unit {0}
NoUse (boolean q s) = Unit {0}
NoUse (number q s) = Unit {0}
NoUse (string q s) = Unit {0}
NoUse (uses n) = ⊥

mapped_from : {A : Type 0} (P : Saying → Type 0) (g : A → Saying) (s : Saying) (a : Answer A) → ((x : A) → P (g x))
    → map_answer g a ≡ gives s → P s
mapped_from P g s (refused m v) h w = refused_gives w
mapped_from P g s (gives x) h w = subst P (given_is w) (h x)

-- where the string of a use starts, and how many bytes it stands for
pub record UseForm (t : List ℕ) (f : FieldForm) (n : List ℕ) : Type 0 where
  pub start : ℕ
  pub size : ℕ
  pub form : f ≡ F.String start size
  pub name : n ≡ read_bytes (read_at t start)

module _ (t : List ℕ) (p : ℕ) where
  saying_of_from : (f : FieldForm) (c : Option Found) (s : Saying) → saying_of t p f c ≡ gives s → NoUse s
  unfolding saying_of
  saying_of_from f (Some (N.Boolean q)) s w = mapped_from NoUse (boolean q) s (boolean_by p f) (λ x. tt) w
  saying_of_from f (Some (N.Number q)) s w = mapped_from NoUse (number q) s (number_by p f) (λ x. tt) w
  saying_of_from f (Some (N.String q)) s w = mapped_from NoUse (string q) s (string_by t p f) (λ x. tt) w
  saying_of_from f None s w = refused_gives w

  use_form : (f : FieldForm) (n : List ℕ) → use_by t p f ≡ gives (uses n) → UseForm t f n
  use_form F.Boolean n w = refused_gives w
  use_form F.Cancelled n w = refused_gives w
  use_form (F.Number v) n w = refused_gives w
  use_form F.LargeNumber n w = refused_gives w
  use_form (F.String i m) n w = by_test (leb m content_most) w
    where
      by_test : (b : Bool)
          → (when b then gives (uses (read_bytes (read_at t i))) else refused 13 (p ∷ [])) ≡ gives (uses n)
          → UseForm t (F.String i m) n
      by_test true u =
          let q : uses (read_bytes (read_at t i)) ≡ uses n = given_is u in
          let r : read_bytes (read_at t i) ≡ n = cc in
          record { start = i; size = m; form = refl; name = sym r }
      by_test false u = refused_gives u

  -- a field that isn't dropped and says a use has the name `use`
  named_use : (e : Edition) (name : List ℕ) (f : FieldForm) (n : List ℕ) → named_saying e t p name f ≡ gives (uses n)
      → (name ≡ ascii "use") × UseForm t f n
  unfolding named_saying
  named_use e name f n w = by_name (same_bytes name (ascii "use")) refl w
    where
      by_name : (b : Bool) → same_bytes name (ascii "use") ≡ b
          → (when b then use_by t p f else saying_of t p f (looking_up e name)) ≡ gives (uses n)
          → (name ≡ ascii "use") × UseForm t f n
      by_name true q u = (same_eq name (ascii "use") q, use_form f n u)
      by_name false q u = absurd (saying_of_from f (looking_up e name) (uses n) u)

length_use : length (ascii "use") ≡ 3
unfolding ascii
length_use = refl

-- the name stands behind `use=`, and a comma behind it
pub record UseField (t : List ℕ) (p next : ℕ) (n : List ℕ) : Type 0 where
  pub name : n ≡ read_bytes (read_at t (p + 4))
  pub long : p + 5 ≤ next

pub use_field : (e : Edition) (t : List ℕ) (p : ℕ) (j : Judging) (n : List ℕ) → judging e t p ≡ gives j
    → j.saying ≡ uses n → UseField t p j.next n
use_field e t p j n w u =
    let f = judged_field e t p j w in
    by_dropped f.dropped f.name f.past f.form f.field (f.says ∙ ap gives u)
  where
    by_form : (i k : ℕ) (f : FieldForm) → field_at t p ≡ field false i k f j.next
        → (take (k - i) (drop i t) ≡ ascii "use") → UseForm t f n → UseField t p j.next n
    by_form i k f q l v =
        let g : field_at t p ≡ field false i k (F.String v.start v.size) j.next =
        q ∙ ap (λ (x : FieldForm). field false i k x j.next) v.form in
        let h = subst (FieldFrom p) g (field_from t p) in
        let a = field_after t p false i k f j.next q in
        let a₁ = a.some in
        let a₂ = a.form in
        let a₃ = a.ends in
        let d = length-drop i t in
        let m : length (take (k - i) (drop i t)) ≡ k - i = length-take-le (k - i) (drop i t) (omega arith) in
        let c : length (take (k - i) (drop i t)) ≡ 3 = ap length l ∙ length_use in
        let s : v.start ≡ p + 4 = omega arith in
        record { name = v.name ∙ ap (λ (x : ℕ). read_bytes (read_at t x)) s; long = omega arith }

    by_dropped : (dropped : Bool) (i k : ℕ) (f : FieldForm) → field_at t p ≡ field dropped i k f j.next
        → (when dropped then gives nothing else named_saying e t p (take (k - i) (drop i t)) f) ≡ gives (uses n)
        → UseField t p j.next n
    by_dropped true i k f q v = absurd (subst NoUse (given_is v) tt)
    by_dropped false i k f q v =
        let h = named_use t p e (take (k - i) (drop i t)) f n v in by_form i k f q h.0 h.1

-- ---- the uses of a description

-- the name in a `use` field stands behind `use=`
abbrev pub NameBehind : List ℕ → UseAt → Type 0
NameBehind t u = u.name ≡ read_bytes (read_at t (u.place + 4))
