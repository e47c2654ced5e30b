-- The cases of judging, as the code meets them.
-- Assumes nothing.
use mathlib.Core.Path.{◌≡◌, refl, sym, ap, ◌∙◌, subst}
use mathlib.Core.Bool.{Bool, true, false, ◌&&◌}
use mathlib.Core.List.{List, [], ◌∷◌}
use Rattle.std.specs.Prelude.{Option, Some, None, Result, Ok, Err}
use Prim.Native.Nat.{ℕ, ◌-◌, ◌≤◌, ◌<◌}
use native.Mathlib.Omega.{arith}
use lib.Dec.{eqb}
use Rattle.std.specs.Cmp.Lexicographic.{pointwise}
use lib.ListN.{length, take, drop}
use borrow.Author.Tests.{le-leb, lt-leb}
use Rattle.edition.specs.declared.Place.{Place}
use Rattle.edition.specs.declared.Edition.{Edition}
use Rattle.entry.specs.Limits.{content_most}
use Rattle.entry.specs.Writing.{state_of}
use Rattle.names.specs.declared.Found.{Found}
use Rattle.names.specs.declared.Found.TheVariants as N
use Rattle.names.specs.Names.{ascii, parted, named, second_edition, boolean_names, number_names, string_names}
use Rattle.names.specs.Lookup.{same_bytes, place_in, looking_up}
use Rattle.names.specs.Searching.{known_in}
use Rattle.base.specs.Scan.{scan}
use Rattle.base.proofs.IfLaws.{is_false, true_false}
use Rattle.names.proofs.LookupLaws.{same_eq, FoundIn, found_in}
use Rattle.names.proofs.Editions.{known_means}
use Rattle.text.specs.declared.FieldForm.{FieldForm}
use Rattle.text.specs.declared.FieldForm.TheVariants as F
use Rattle.text.specs.declared.Said.TheVariants as S
use Rattle.text.specs.declared.Said.{Said}
use Rattle.text.specs.declared.TextRefusal.{TextRefusal}
use Rattle.text.specs.declared.TextRefusal.TheVariants as R
use Rattle.text.specs.Fields.{field, field_at}
use Rattle.text.specs.declared.Field.{Field}
use Rattle.text.specs.Describing.{Saying, saying_of, named_saying, judging}
use Rattle.text.specs.Refusals.{text_number}
use Rattle.base.specs.Answer.{Answer, refused, gives, map_answer}
use Rattle.text_laws.specs.FieldLaws.{field_after, field_string}
use Rattle.judge.specs.Judged.{saying_said, says_said, SaysIn, says_judged, JudgedIn}
use Rattle.judge.specs.Kinds.{FormIn, Judges, JudgesUse, JudgesNamed, JudgesUnknown}

-- ---- the name `use`

-- slices are compared byte by byte
pub same_bytes_lem : (m n : List ℕ) → pointwise eqb m n ≡ same_bytes m n
unfolding same_bytes
same_bytes_lem [] [] = refl
same_bytes_lem [] (b ∷ n) = refl
same_bytes_lem (a ∷ m) [] = refl
same_bytes_lem (a ∷ m) (b ∷ n) = ap (λ (t : Bool). eqb a b && t) (same_bytes_lem m n)

-- one computed test: no capability has the name
use_unlisted : looking_up second_edition (ascii "use") ≡ None
unfolding looking_up place_in scan same_bytes boolean_names number_names string_names named parted ascii
use_unlisted = refl

use_unknown : (e : Edition) → looking_up e (ascii "use") ≡ None
unfolding known_in
use_unknown e = known_means e (ascii "use") ∙ ap (known_in e) use_unlisted

abbrev pub is_known : Option Found → Bool
is_known (Some f) = true
is_known None = false

-- a name that means a capability isn't `use`
known_not_use : (e : Edition) (name : List ℕ) → is_known (looking_up e name) ≡ true → same_bytes name (ascii "use") ≡ false
known_not_use e name h =
    is_false (same_bytes name (ascii "use")) (λ u.
    true_false (sym h ∙ ap is_known (ap (looking_up e) (same_eq name (ascii "use") u) ∙ use_unknown e)))

-- ---- a string's form

module _ (q : Place) (form : FieldForm) (i n : ℕ) (is : form ≡ F.String i n) where
  pub string_long : content_most < n → Judges (N.String q) form (Err R.Limit)
  unfolding saying_of
  string_long h e t p k f = (rw (is, lt-leb n content_most h), tt)

  pub string_present : n ≤ content_most → Judges (N.String q) form (Ok (S.String q 1 i n))
  unfolding saying_of state_of
  string_present h e t p k f = (rw (is, le-leb n content_most h), (k, λ z. (rw is at f, h)))

module _ (form : FieldForm) (i n : ℕ) (is : form ≡ F.String i n) where
  pub use_long : content_most < n → JudgesUse form (Err R.Limit)
  use_long h e t p f = (rw (is, lt-leb n content_most h), tt)

  pub use_said : n ≤ content_most → JudgesUse form (Ok (S.Use i n))
  use_said h e t p f = (rw (is, le-leb n content_most h), (rw is at f, h))

-- ---- a name

module _ (name : List ℕ) (form : FieldForm) where
  pub named_use : same_bytes name (ascii "use") ≡ true → (r : Result Said TextRefusal) → JudgesUse form r
      → JudgesUnknown name form r
  unfolding named_saying
  named_use h r j e u t p f = (rw h (j e t p f).0, (j e t p f).1)

  pub named_unknown : same_bytes name (ascii "use") ≡ false → JudgesUnknown name form (Err R.Unknown)
  unfolding named_saying saying_of
  named_unknown h e u t p f = (rw (h, u), tt)

  pub named_found : (e : Edition) (found : Found) → looking_up e name ≡ Some found
      → (r : Result Said TextRefusal) → Judges found form r → JudgesNamed e name form r
  unfolding named_saying
  named_found e found g r j t p f =
      let u = j e t p (subst (FoundIn e) g (found_in e name)) f in
      (rw (known_not_use e name (ap is_known g), g) u.0, u.1)

-- ---- a field

module _ (t : List ℕ) (p : ℕ) where
  -- a string's form stands in the text
  field_form : (d : Bool) (i k : ℕ) (f : FieldForm) (next : ℕ) → field_at t p ≡ field d i k f next → FormIn t f
  field_form d i k F.Boolean next is = tt
  field_form d i k F.Cancelled next is = tt
  field_form d i k (F.Number v) next is = tt
  field_form d i k F.LargeNumber next is = tt
  field_form d i k (F.String s n) next is =
      let h = field_string t p d i k s n next is in record { whole = h.0; counted = h.1 }

module _ (e : Edition) (t : List ℕ) (p : ℕ) where
  pub judged_malformed : field_at t p ≡ None → says_judged t p (Err R.Malformed) ≡ judging e t p
  unfolding judging
  judged_malformed is = rw is

  module _ (f : Field) (is : field_at t p ≡ Some f) where
    -- the name lies in the text
    pub field_name : (f.name ≤ f.end) × (f.end ≤ length t)
    field_name =
        let h = field_after t p f.dropped f.name f.end f.form f.next is in (omega arith, omega arith)

    -- the name of a dropped field isn't looked up
    pub judged_dropped : f.dropped ≡ true
        → says_judged t p (Ok (record { said = S.Nothing; next = f.next })) ≡ judging e t p
    unfolding judging
    judged_dropped h = rw (is, h)

    module _ (h : f.dropped ≡ false) (r : Result Said TextRefusal)
        (j : JudgesNamed e (take (f.end - f.name) (drop f.name t)) f.form r) where
      says_named : (says_said t p r ≡ named_saying e t p (take (f.end - f.name) (drop f.name t)) f.form) × SaysIn e t r
      says_named = j t p (field_form t p f.dropped f.name f.end f.form f.next is)

      by_saying : (a : Answer Saying) → a ≡ named_saying e t p (take (f.end - f.name) (drop f.name t)) f.form
          → map_answer (λ (s : Saying). record { saying = s; next = f.next }) a ≡ judging e t p
      unfolding judging
      by_saying a q = rw (is, h, q)

      pub judged_said : (s : Said) → r ≡ Ok s
          → (says_judged t p (Ok (record { said = s; next = f.next })) ≡ judging e t p)
          × JudgedIn e t (Ok (record { said = s; next = f.next }))
      judged_said s q =
          let u = rw q at says_named in (by_saying (gives (saying_said t s)) u.0, u.1)

      pub judged_refused : (why : TextRefusal) → r ≡ Err why → says_judged t p (Err why) ≡ judging e t p
      judged_refused why q =
          let u = rw q at says_named in by_saying (refused (text_number why) (p ∷ [])) u.0
