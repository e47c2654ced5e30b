-- The entry that fields describe has a written form, but for its size and its names' total.
-- Assumes nothing.
use Rattle.std.specs.Prelude.{◌≡◌, refl, List, [], ◌∷◌, ℕ, zero, suc, length, get_or, set}
use Rattle.std.proofs.Common.{ap, ◌∙◌, subst, length-set}
use Rattle.base.specs.Tabulate.{Each}
use Rattle.base.specs.Answer.{Answer, refused, gives, map_answer}
use Rattle.edition.specs.declared.Edition.{Edition}
use Rattle.edition.specs.declared.Place.{Place}
use Rattle.entry.specs.State.{State, absent}
use Rattle.entry.specs.Reading.{Entry}
use Rattle.entry_laws.specs.Sound.{NumberFits, ContentFree}
use Rattle.text.specs.Describing.{Saying, nothing, boolean, number, string, uses}
use Rattle.text.specs.Describing.{SayingAt, Fields, sayings_from}
use Rattle.text.specs.Describing.{standing, with_saying, described, described_from}
use Rattle.text_laws.specs.JudgingLaws.{refused_gives, given_is, Fits, judged_fits}
use Rattle.text_laws.specs.SayingsLaws.{SaidIn, sayings_said}
use Rattle.entry_laws.specs.Merge.{over_has}
use Rattle.text_laws.specs.DescribingLaws.{Sound-states, each_get_d, SaidFits}

each_set : {A : Type 0} (P : A → Type 0) (xs : List A) (p : ℕ) (v : A) → Each P xs → P v → Each P (set xs p v)
each_set P [] p v h w = tt
each_set P (x ∷ xs) zero v h w = (w, h.1)
each_set P (x ∷ xs) (suc p) v h w = (h.0, each_set P xs p v h.1 w)

stands_has : {A : Type 0} (P : State A → Type 0) (xs : List (State A)) (q : Place) (s : State A) → P absent → Each P xs
    → P s → Each P (standing xs q s)
unfolding standing
stands_has P xs q s z h w =
    each_set P xs q.0 _ h (over_has P (get_or xs q.0 absent) s (each_get_d P xs q.0 absent h z) w)

length_stands : {A : Type 0} (xs : List (State A)) (q : Place) (s : State A) → length (standing xs q s) ≡ length xs
unfolding standing
length_stands xs q s = length-set xs q.0 _

said_sound : (e : Edition) (x : Entry) (s : Saying) → Sound-states e x → Fits s → Sound-states e (with_saying x s)
unfolding with_saying
said_sound e x nothing h f = h
said_sound e x (uses n) h f = h
said_sound e x (boolean q s) h f =
    record {
      edition =
          ap (λ (n : ℕ). record { booleans = n; numbers = length x.numbers; strings = length x.strings })
          (length_stands x.booleans q s)
          ∙ h.edition;
      numbers = h.numbers;
      strings = h.strings;
    }
said_sound e x (number q s) h f =
    record {
      edition =
          ap (λ (n : ℕ). record { booleans = length x.booleans; numbers = n; strings = length x.strings })
          (length_stands x.numbers q s)
          ∙ h.edition;
      numbers = stands_has NumberFits x.numbers q s tt h.numbers f;
      strings = h.strings;
    }
said_sound e x (string q s) h f =
    record {
      edition =
          ap (λ (n : ℕ). record { booleans = length x.booleans; numbers = length x.numbers; strings = n })
          (length_stands x.strings q s)
          ∙ h.edition;
      numbers = h.numbers;
      strings = stands_has ContentFree x.strings q s tt h.strings f;
    }

said_names : (x : Entry) (s : Saying) → (with_saying x s).names ≡ x.names
unfolding with_saying
said_names x nothing = refl
said_names x (uses n) = refl
said_names x (boolean q s) = refl
said_names x (number q s) = refl
said_names x (string q s) = refl

described_sound : (e : Edition) (x : Entry) (ss : List SayingAt) → Sound-states e x → Each SaidFits ss
    → Sound-states e (described x ss) × ((described x ss).names ≡ x.names)
unfolding described
described_sound e x [] h f = (h, refl)
described_sound e x (s ∷ ss) h f =
    let d = described_sound e (with_saying x s.saying) ss (said_sound e x s.saying h f.0) f.1 in
    (d.0, d.1 ∙ said_names x s.saying)

said_fit : (e : Edition) (t : List ℕ) (ss : List SayingAt) → Each (SaidIn e t) ss → Each SaidFits ss
said_fit e t [] h = tt
said_fit e t (s ∷ ss) h =
    let k = h.0 in
    (judged_fits e t s.place (record { saying = s.saying; next = k.next }) k.judged, said_fit e t ss h.1)

-- the entry that fields describe, from one that is sound
pub fields_sound : (e : Edition) (t : List ℕ) (i : ℕ) (x y : Entry) → Sound-states e x
    → described_from e t i x ≡ gives y
    → Sound-states e y × (y.names ≡ x.names)
fields_sound e t i x y h w = by_answer (sayings_from e t i) refl w
  where
    by_answer : (a : Answer Fields) → sayings_from e t i ≡ a
        → map_answer (λ (f : Fields). described x f.sayings) a ≡ gives y
        → Sound-states e y × (y.names ≡ x.names)
    by_answer (refused n v) q u = refused_gives u
    by_answer (gives f) q u =
        subst (λ (z : Entry). Sound-states e z × (z.names ≡ x.names)) (given_is u)
        (described_sound e x f.sayings h (said_fit e t f.sayings (sayings_said e t i f q)))
