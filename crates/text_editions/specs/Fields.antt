-- The fields of a text in two editions: what they say in one, they say in a larger one.
-- Assumes nothing.
use Rattle.std.specs.Prelude.{◌≡◌, Bool, List, [], ◌∷◌, ℕ, leb}
use Rattle.std.specs.Prelude.{Option, Some, None}
use Rattle.std.proofs.Common.{sym, ◌∙◌, subst}
use Rattle.std.proofs.Math.Path.{ap}
use Rattle.std.proofs.Math.Bool.{true, false}
use Rattle.std.proofs.Math.Logic.{inl, inr}
use Rattle.base.specs.If.{when◌then◌else◌}
use Rattle.base.specs.Answer.{Answer, refused, gives, map_answer}
use Rattle.base.specs.Tabulate.{Each}
use Rattle.edition.specs.declared.Edition.{Edition}
use Rattle.edition.specs.Edition.{NoMore}
use Rattle.entry.specs.Limits.{content_most}
use Rattle.names.specs.declared.Found.{Found}
use Rattle.names.specs.declared.Found.TheVariants as N
use Rattle.names.specs.Names.{ascii}
use Rattle.names.specs.Lookup.{same_bytes, looking_up}
use Rattle.names.proofs.LookupLaws.{FoundIn, found_in}
use Rattle.names.proofs.Editions.{larger_means}
use Rattle.text.specs.declared.FieldForm.{FieldForm}
use Rattle.text.specs.declared.FieldForm.TheVariants as F
use Rattle.text.specs.Strings.{read_at, read_bytes}
use Rattle.text.specs.Describing.{Saying, nothing, boolean, number, string, uses, boolean_by, number_by, string_by}
use Rattle.text.specs.Describing.{saying_of, use_by, named_saying, Judging, judging_of, judging, SayingAt, Fields}
use Rattle.text.specs.Describing.{sayings_read, sayings_from}
use Rattle.text_laws.specs.JudgingLaws.{refused_gives, given_is, judged_field}
use Rattle.text_laws.specs.SayingsLaws.{read_end, read_column, read_field, sayings_ind, SaidIn, sayings_said}
use Rattle.text_editions.specs.Alike.{Known}

-- ---- what a field says is about a place that the edition knows

known_if : {A : Type 0} (e : Edition) (a : Answer A) (say : A → Saying) → ((x : A) → Known e (say x)) → (s : Saying)
    → map_answer say a ≡ gives s → Known e s
known_if e (refused n v) say k s w = refused_gives w
known_if e (gives x) say k s w = subst (Known e) (given_is w) (k x)

found_known : (e : Edition) (t : List ℕ) (p : ℕ) (f : FieldForm) (c : Option Found) → FoundIn e c → (s : Saying)
    → saying_of t p f c ≡ gives s → Known e s
unfolding saying_of
found_known e t p f (Some (N.Boolean q)) k s w = known_if e (boolean_by p f) (boolean q) (λ x. k) s w
found_known e t p f (Some (N.Number q)) k s w = known_if e (number_by p f) (number q) (λ x. k) s w
found_known e t p f (Some (N.String q)) k s w = known_if e (string_by t p f) (string q) (λ x. k) s w
found_known e t p f None k s w = refused_gives w

-- a use is about no place
use_known : (e : Edition) (t : List ℕ) (p : ℕ) (f : FieldForm) (s : Saying) → use_by t p f ≡ gives s → Known e s
use_known e t p F.Boolean s w = refused_gives w
use_known e t p F.Cancelled s w = refused_gives w
use_known e t p (F.Number v) s w = refused_gives w
use_known e t p F.LargeNumber s w = refused_gives w
use_known e t p (F.String i n) s w = by_length (leb n content_most) w
  where
    by_length : (b : Bool) → (when b then gives (uses (read_bytes (read_at t i))) else refused 13 (p ∷ [])) ≡ gives s
        → Known e s
    by_length true u = subst (Known e) (given_is u) tt
    by_length false u = refused_gives u

module _ (e : Edition) (t : List ℕ) (p : ℕ) (name : List ℕ) (f : FieldForm) (s : Saying) where
  named_known : named_saying e t p name f ≡ gives s → Known e s
  unfolding named_saying
  named_known w = by_use (same_bytes name (ascii "use")) w
    where
      by_use : (b : Bool) → (when b then use_by t p f else saying_of t p f (looking_up e name)) ≡ gives s → Known e s
      by_use true u = use_known e t p f s u
      by_use false u = found_known e t p f (looking_up e name) (found_in e name) s u

  -- a larger edition gives the same
  named_larger : (E : Edition) → NoMore e E → named_saying e t p name f ≡ gives s → named_saying E t p name f ≡ gives s
  unfolding named_saying saying_of
  named_larger E m w = by_use (same_bytes name (ascii "use")) w
    where
      by_use : (b : Bool) → (when b then use_by t p f else saying_of t p f (looking_up e name)) ≡ gives s
          → (when b then use_by t p f else saying_of t p f (looking_up E name)) ≡ gives s
      by_use true u = u
      by_use false u =
          elim (larger_means e E m name) [
            | inl q ↦ refused_gives (sym (ap (saying_of t p f) q) ∙ u)
            | inr q ↦ ap (saying_of t p f) q ∙ u
          ]

said_known : (e : Edition) (t : List ℕ) (p : ℕ) (dropped : Bool) (name : List ℕ) (f : FieldForm) (s : Saying)
    → (when dropped then gives nothing else named_saying e t p name f) ≡ gives s → Known e s
said_known e t p true name f s w = subst (Known e) (given_is w) tt
said_known e t p false name f s w = named_known e t p name f s w

said_larger : (e E : Edition) → NoMore e E → (t : List ℕ) (p : ℕ) (dropped : Bool) (name : List ℕ) (f : FieldForm)
    (s : Saying) → (when dropped then gives nothing else named_saying e t p name f) ≡ gives s
    → (when dropped then gives nothing else named_saying E t p name f) ≡ gives s
said_larger e E m t p true name f s w = w
said_larger e E m t p false name f s w = named_larger e t p name f s E m w

judged_known : (e : Edition) (t : List ℕ) (p : ℕ) (j : Judging) → judging e t p ≡ gives j → Known e j.saying
judged_known e t p j w =
    let d = judged_field e t p j w in
    said_known e t p d.dropped _ d.form j.saying d.says

judged_larger : (e E : Edition) → NoMore e E → (t : List ℕ) (p : ℕ) (j : Judging) → judging e t p ≡ gives j
    → judging E t p ≡ gives j
unfolding judging
judged_larger e E m t p j w =
    let d = judged_field e t p j w in
    let s = said_larger e E m t p d.dropped _ d.form j.saying d.says in
    ap (judging_of E t p) d.field ∙ ap (map_answer (λ (x : Saying). record { saying = x; next = j.next })) s

-- ---- all fields

said_in_known : (e : Edition) (t : List ℕ) (ss : List SayingAt) → Each (SaidIn e t) ss
    → Each (λ s. Known e s.saying) ss
said_in_known e t [] h = tt
said_in_known e t (s ∷ ss) h =
    let k = h.0 in
    let j : Judging = record { saying = s.saying; next = k.next } in
    (judged_known e t s.place j k.judged, said_in_known e t ss h.1)

pub sayings_known : (e : Edition) (t : List ℕ) (i : ℕ) (f : Fields) → sayings_from e t i ≡ gives f
    → Each (λ s. Known e s.saying) f.sayings
sayings_known e t i f w = said_in_known e t f.sayings (sayings_said e t i f w)

pub sayings_larger : (e E : Edition) → NoMore e E → (t : List ℕ) (i : ℕ) (f : Fields) → sayings_from e t i ≡ gives f
    → sayings_from E t i ≡ gives f
sayings_larger e E m t i f u =
    sayings_ind e t
    (λ r a. (f : Fields) → a ≡ gives f → sayings_read E t r ≡ gives f)
    (λ r q f w. read_end E t r q ∙ w)
    (λ r p q f w. read_column E t r p q ∙ w)
    (λ r p n v q k f w. refused_gives w)
    (λ r p j a q k rest f w. read_field E t r p j q (judged_larger e E m t p j k) ∙ rest f w)
    (record { at = i; sayings = [] }) f u
