-- One field: what it is where it says something, and that what it says has a written form.
-- Assumes nothing.
use Rattle.std.specs.Prelude.{◌≡◌, refl, Bool, List, [], ◌∷◌, ℕ, ◌-◌, ◌≤◌, leb, take, drop, Option, Some, None}
use Rattle.std.proofs.Common.{ap, ◌∙◌, arith}
use Rattle.std.proofs.Math.Path.{subst}
use Rattle.std.proofs.Math.Bool.{true, false}
use Rattle.base.specs.If.{when◌then◌else◌}
use Rattle.base.specs.Answer.{Answer, refused, gives, map_answer}
use Rattle.edition.specs.declared.Edition.{Edition}
use Rattle.edition.specs.declared.Place.{Place}
use Rattle.entry.specs.Limits.{content_most, number_most}
use Rattle.entry.specs.State.{present}
use Rattle.entry_laws.specs.Sound.{NumberFits, ContentFree}
use Rattle.names.specs.declared.Found.{Found}
use Rattle.names.specs.declared.Found.TheVariants as N
use Rattle.names.specs.Names.{ascii}
use Rattle.names.specs.Lookup.{same_bytes, looking_up}
use Rattle.text.specs.declared.FieldForm.{FieldForm}
use Rattle.text.specs.declared.FieldForm.TheVariants as F
use Rattle.text.specs.declared.Field.{Field}
use Rattle.text.specs.Strings.{read_at, read_bytes}
use Rattle.text.specs.Fields.{field, field_at}
use Rattle.text.specs.Describing.{Saying, nothing, boolean, number, string, uses, boolean_by, number_by, string_by}
use Rattle.text.specs.Describing.{saying_of, use_by, named_saying, Judging, judging_of, judging}
use Rattle.text_laws.specs.Reads.{read_free}
use Rattle.text_laws.specs.FieldLaws.{field_number}

pub refused_gives {ℓ} : {B : Type ℓ} {A : Type 0} {n : ℕ} {v : List ℕ} {x : A}
    → ◌≡◌ {A = Answer A} (refused n v) (gives x) → B
refused_gives e = absurd (let z : ◌≡◌ {A = ℕ} 0 1 = cc in (let y : ⊥ = omega arith in y))

pub given_is : {A : Type 0} {x y : A} → ◌≡◌ {A = Answer A} (gives x) (gives y) → x ≡ y
given_is e = cc

-- what a field that is judged is
pub record JudgedField (e : Edition) (t : List ℕ) (p : ℕ) (j : Judging) : Type 0 where
  pub dropped : Bool
  pub name : ℕ
  pub past : ℕ
  pub form : FieldForm
  pub field : field_at t p ≡ field dropped name past form j.next
  pub says : (when dropped then gives nothing else named_saying e t p (take (past - name) (drop name t)) form)
      ≡ gives j.saying

pub judged_field : (e : Edition) (t : List ℕ) (p : ℕ) (j : Judging) → judging e t p ≡ gives j → JudgedField e t p j
unfolding judging
judged_field e t p j w = by_field (field_at t p) refl w
  where
    by_saying : (dropped : Bool) (i k : ℕ) (f : FieldForm) (next : ℕ) → field_at t p ≡ field dropped i k f next
        → (a : Answer Saying)
        → (when dropped then gives nothing else named_saying e t p (take (k - i) (drop i t)) f) ≡ a
        → map_answer (λ (s : Saying). record { saying = s; next = next }) a ≡ gives j → JudgedField e t p j
    by_saying dropped i k f next q (refused n v) u r = refused_gives r
    by_saying dropped i k f next q (gives s) u r =
        let m : record { saying = s; next = next } ≡ j = cc in
        record {
          dropped = dropped;
          name = i;
          past = k;
          form = f;
          field = q ∙ ap (λ (x : Judging). field dropped i k f x.next) m;
          says = u ∙ ap (λ (x : Judging). gives x.saying) m;
        }

    by_field : (f : Option Field) → field_at t p ≡ f → judging_of e t p f ≡ gives j → JudgedField e t p j
    by_field (Some f) q r =
        by_saying f.dropped f.name f.end f.form f.next q
        (when f.dropped then gives nothing else named_saying e t p (take (f.end - f.name) (drop f.name t)) f.form)
        refl r
    by_field None q r = refused_gives r

-- what a field says has a written form
abbrev pub Fits : Saying → Type 0
Fits nothing = Unit {0}
Fits (boolean q s) = Unit {0}
Fits (number q s) = NumberFits s
Fits (string q s) = ContentFree s
Fits (uses n) = Unit {0}

FormFits : FieldForm → Type 0
FormFits F.Boolean = Unit {0}
FormFits F.Cancelled = Unit {0}
FormFits (F.Number v) = v ≤ number_most
FormFits F.LargeNumber = Unit {0}
FormFits (F.String i n) = Unit {0}

module _ (t : List ℕ) (p : ℕ) where
  boolean_fits : (q : Place) (f : FieldForm) (s : Saying) → map_answer (boolean q) (boolean_by p f) ≡ gives s → Fits s
  boolean_fits q F.Boolean s w = subst Fits (given_is w) tt
  boolean_fits q F.Cancelled s w = subst Fits (given_is w) tt
  boolean_fits q (F.Number v) s w = refused_gives w
  boolean_fits q F.LargeNumber s w = refused_gives w
  boolean_fits q (F.String i n) s w = refused_gives w

  number_fits_lem : (q : Place) (f : FieldForm) → FormFits f
      → (s : Saying) → map_answer (number q) (number_by p f) ≡ gives s
      → Fits s
  unfolding FormFits
  number_fits_lem q F.Boolean h s w = refused_gives w
  number_fits_lem q F.Cancelled h s w = subst Fits (given_is w) tt
  number_fits_lem q (F.Number v) h s w = subst Fits (given_is w) h
  number_fits_lem q F.LargeNumber h s w = refused_gives w
  number_fits_lem q (F.String i n) h s w = refused_gives w

  string_fits : (q : Place) (f : FieldForm) (s : Saying) → map_answer (string q) (string_by t p f) ≡ gives s → Fits s
  string_fits q F.Boolean s w = refused_gives w
  string_fits q F.Cancelled s w = subst Fits (given_is w) tt
  string_fits q (F.Number v) s w = refused_gives w
  string_fits q F.LargeNumber s w = refused_gives w
  string_fits q (F.String i n) s w = by_test (leb n content_most) w
    where
      by_test : (b : Bool)
          → map_answer (string q)
          (when b then gives (present (read_bytes (read_at t i))) else refused 13 (p ∷ [])) ≡ gives s
          → Fits s
      by_test true u = subst Fits (given_is u) (read_free t i)
      by_test false u = refused_gives u

  found_fits : (f : FieldForm) → FormFits f → (c : Option Found) (s : Saying) → saying_of t p f c ≡ gives s → Fits s
  unfolding saying_of
  found_fits f h (Some (N.Boolean q)) s w = boolean_fits q f s w
  found_fits f h (Some (N.Number q)) s w = number_fits_lem q f h s w
  found_fits f h (Some (N.String q)) s w = string_fits q f s w
  found_fits f h None s w = refused_gives w

  use_fits : (f : FieldForm) (s : Saying) → use_by t p f ≡ gives s → Fits s
  use_fits F.Boolean s w = refused_gives w
  use_fits F.Cancelled s w = refused_gives w
  use_fits (F.Number v) s w = refused_gives w
  use_fits F.LargeNumber s w = refused_gives w
  use_fits (F.String i n) s w = by_test (leb n content_most) w
    where
      by_test : (b : Bool) → (when b then gives (uses (read_bytes (read_at t i))) else refused 13 (p ∷ [])) ≡ gives s
          → Fits s
      by_test true u = subst Fits (given_is u) tt
      by_test false u = refused_gives u

  says_fits : (e : Edition) (dropped : Bool) (name : List ℕ) (f : FieldForm) → FormFits f → (s : Saying)
      → (when dropped then gives nothing else named_saying e t p name f) ≡ gives s → Fits s
  unfolding named_saying
  says_fits e true name f h s w = subst Fits (given_is w) tt
  says_fits e false name f h s w = by_use (same_bytes name (ascii "use")) w
    where
      by_use : (b : Bool) → (when b then use_by t p f else saying_of t p f (looking_up e name)) ≡ gives s → Fits s
      by_use true u = use_fits f s u
      by_use false u = found_fits f h (looking_up e name) s u

form_fits : (t : List ℕ) (p : ℕ) (dropped : Bool) (i k : ℕ) (f : FieldForm) (next : ℕ)
    → field_at t p ≡ field dropped i k f next → FormFits f
unfolding FormFits
form_fits t p dropped i k F.Boolean next w = tt
form_fits t p dropped i k F.Cancelled next w = tt
form_fits t p dropped i k (F.Number v) next w = field_number t p dropped i k v next w
form_fits t p dropped i k F.LargeNumber next w = tt
form_fits t p dropped i k (F.String s n) next w = tt

pub judged_fits : (e : Edition) (t : List ℕ) (p : ℕ) (j : Judging) → judging e t p ≡ gives j → Fits j.saying
judged_fits e t p j w =
    let d = judged_field e t p j w in
    let f = form_fits t p d.dropped d.name d.past d.form j.next d.field in
    says_fits t p e d.dropped _ d.form f j.saying d.says
