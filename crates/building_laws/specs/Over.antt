-- Laws of merging entries at the places that an edition knows: what fields say is merged below what an entry holds;
-- merging is associative; of what is merged, the first stands.
-- Assumes nothing.
use Rattle.std.specs.Prelude.{◌≡◌, refl, List, [], ◌∷◌, ℕ, zero, suc, ◌<◌, length, get_or, set, replicate}
use Rattle.std.proofs.Common.{sym, ap, ap₂, ◌∙◌, subst, length-set}
use Rattle.base.specs.Tabulate.{tabulate}
use Rattle.base.proofs.TabulateLaws.{length_tabulate, get_d_tabulate, tabulate_ext, tabulate_get_d}
use Rattle.edition.specs.declared.Edition.{Edition}
use Rattle.edition.specs.declared.Place.{Place}
use Rattle.entry.specs.State.{State, absent, cancelled, present}
use Rattle.entry.specs.Reading.{Entry, edition_of}
use Rattle.entry.specs.Merging.{over}
use Rattle.uses.specs.Once.{FirstStands}
use Rattle.text.specs.Describing.{Saying, nothing, boolean, number, string, uses, SayingAt}
use Rattle.text.specs.Describing.{standing, with_saying, described, bare}
use Rattle.text.specs.Building.{over_in}
use Rattle.text_laws.specs.DescribingLaws.{bare_sound}

-- ---- states

over_absent : {A : Type 0} (a : State A) → over a absent ≡ a
unfolding over
over_absent absent = refl
over_absent cancelled = refl
over_absent (present x) = refl

over_assoc : {A : Type 0} (a b c : State A) → over (over a b) c ≡ over a (over b c)
unfolding over
over_assoc absent b c = refl
over_assoc cancelled b c = refl
over_assoc (present x) b c = refl

over_once : {A : Type 0} (a b : State A) → over (over a b) b ≡ over a b
unfolding over
over_once absent absent = refl
over_once absent cancelled = refl
over_once absent (present x) = refl
over_once cancelled b = refl
over_once (present x) b = refl

over_stays : {A : Type 0} (a b c : State A) → over a b ≡ a → over (over a c) b ≡ over a c
unfolding over
over_stays absent b c h = rw h (over_absent c)
over_stays cancelled b c h = refl
over_stays (present x) b c h = refl

-- ---- lists of states

-- the first n places of two lists
abbrev over_list : {A : Type 0} → ℕ → List (State A) → List (State A) → List (State A)
over_list n xs ys = tabulate (λ i. over (get_or xs i absent) (get_or ys i absent)) n

module _ {A : Type 0} (n : ℕ) where
  over_list_length : (xs ys : List (State A)) → length (over_list n xs ys) ≡ n
  over_list_length xs ys = length_tabulate (λ i. over (get_or xs i absent) (get_or ys i absent)) n

  over_list_get_d : (xs ys : List (State A)) (i : ℕ) → i < n
      → get_or (over_list n xs ys) i absent ≡ over (get_or xs i absent) (get_or ys i absent)
  over_list_get_d xs ys i l = get_d_tabulate (λ j. over (get_or xs j absent) (get_or ys j absent)) n i absent l

  over_list_assoc : (a b c : List (State A)) → over_list n (over_list n a b) c ≡ over_list n a (over_list n b c)
  over_list_assoc a b c =
      tabulate_ext _ _ n
      (λ i l. rw (over_list_get_d a b i l, over_list_get_d b c i l)
      (over_assoc (get_or a i absent) (get_or b i absent) (get_or c i absent)))

  over_list_once : (a b : List (State A)) → over_list n (over_list n a b) b ≡ over_list n a b
  over_list_once a b =
      tabulate_ext _ _ n (λ i l. rw (over_list_get_d a b i l) (over_once (get_or a i absent) (get_or b i absent)))

  over_list_stays : (a b c : List (State A)) → over_list n a b ≡ a → over_list n (over_list n a c) b ≡ over_list n a c
  over_list_stays a b c h =
      tabulate_ext _ _ n
      (λ i l. rw (over_list_get_d a c i l)
      (over_stays (get_or a i absent) (get_or b i absent) (get_or c i absent)
      (sym (over_list_get_d a b i l) ∙ ap (λ (xs : List (State A)). get_or xs i absent) h)))

get_d_replicate : {A : Type 0} (n i : ℕ) → get_or (replicate {A = State A} n absent) i absent ≡ absent
get_d_replicate zero i = refl
get_d_replicate (suc n) zero = refl
get_d_replicate (suc n) (suc i) = get_d_replicate n i

-- a list over one of absent states
over_list_absent : {A : Type 0} (xs : List (State A)) → over_list (length xs) xs (replicate (length xs) absent) ≡ xs
over_list_absent xs =
    tabulate_ext _ (λ i. get_or xs i absent) (length xs)
    (λ i l. ap (over (get_or xs i absent)) (get_d_replicate (length xs) i) ∙ over_absent (get_or xs i absent))
    ∙ tabulate_get_d xs absent

set_over : {A : Type 0} (xs : List (State A)) (i : ℕ) (s : State A)
    → set xs i (over (get_or xs i absent) s)
    ≡ over_list (length xs) xs
    (set (replicate (length xs) absent) i (over (get_or (replicate (length xs) absent) i absent) s))
unfolding tabulate over
set_over [] i s = refl
set_over (x ∷ xs) zero s = ap (λ l. over x s ∷ l) (sym (over_list_absent xs))
set_over (x ∷ xs) (suc i) s = ap₂ (λ y l. y ∷ l) (sym (over_absent x)) (set_over xs i s)

-- a field's state in a list: the list over that of the field alone
standing_over : {A : Type 0} (xs : List (State A)) (p : Place) (s : State A)
    → standing xs p s ≡ over_list (length xs) xs (standing (replicate (length xs) absent) p s)
unfolding standing
standing_over xs p s = set_over xs p.0 s

-- ---- entries

-- entries with the same names and states are equal
same_entry : (x y : Entry) → x.names ≡ y.names → x.booleans ≡ y.booleans → x.numbers ≡ y.numbers
    → x.strings ≡ y.strings → x ≡ y
same_entry x y n b m s = λ i. record { names = n i; booleans = b i; numbers = m i; strings = s i }

pub over_edition : (e : Edition) (a b : Entry) → edition_of (over_in e a b) ≡ e
unfolding over_in
over_edition e a b =
    λ i. record {
      booleans = over_list_length e.booleans a.booleans b.booleans i;
      numbers = over_list_length e.numbers a.numbers b.numbers i;
      strings = over_list_length e.strings a.strings b.strings i;
    }

pub over_assoc_in : (e : Edition) (a b c : Entry) → over_in e (over_in e a b) c ≡ over_in e a (over_in e b c)
unfolding over_in
over_assoc_in e a b c =
    same_entry _ _ refl
    (over_list_assoc e.booleans a.booleans b.booleans c.booleans)
    (over_list_assoc e.numbers a.numbers b.numbers c.numbers)
    (over_list_assoc e.strings a.strings b.strings c.strings)

-- of descriptions that are merged one after the other, the first stands
pub own_first : (e : Edition) (own : ℕ → Entry) → FirstStands (λ s d. over_in e s (own d))
unfolding over_in
own_first e own =
    record {
      once =
          λ s d. same_entry _ _ refl
          (over_list_once e.booleans s.booleans (own d).booleans)
          (over_list_once e.numbers s.numbers (own d).numbers)
          (over_list_once e.strings s.strings (own d).strings);
      stays =
          λ s d w h. same_entry _ _ refl
          (over_list_stays e.booleans s.booleans (own d).booleans (own w).booleans
          (ap (λ (x : Entry). x.booleans) h))
          (over_list_stays e.numbers s.numbers (own d).numbers (own w).numbers
          (ap (λ (x : Entry). x.numbers) h))
          (over_list_stays e.strings s.strings (own d).strings (own w).strings
          (ap (λ (x : Entry). x.strings) h));
    }

-- ---- what fields say

-- an entry over one that says nothing
over_bare : (n : List ℕ) (x : Entry) → over_in (edition_of x) x (bare (edition_of x) n) ≡ x
unfolding over_in
over_bare n x =
    same_entry _ _ refl (over_list_absent x.booleans) (over_list_absent x.numbers) (over_list_absent x.strings)

saying_over : (n : List ℕ) (x : Entry) (s : Saying)
    → with_saying x s ≡ over_in (edition_of x) x (with_saying (bare (edition_of x) n) s)
unfolding with_saying over_in
saying_over n x nothing = sym (over_bare n x)
saying_over n x (uses m) = sym (over_bare n x)
saying_over n x (boolean p s) =
    same_entry _ _ refl (standing_over x.booleans p s) (sym (over_list_absent x.numbers))
    (sym (over_list_absent x.strings))
saying_over n x (number p s) =
    same_entry _ _ refl (sym (over_list_absent x.booleans)) (standing_over x.numbers p s)
    (sym (over_list_absent x.strings))
saying_over n x (string p s) =
    same_entry _ _ refl (sym (over_list_absent x.booleans)) (sym (over_list_absent x.numbers))
    (standing_over x.strings p s)

length_standing : {A : Type 0} (xs : List (State A)) (q : Place) (s : State A) → length (standing xs q s) ≡ length xs
unfolding standing
length_standing xs q s = length-set xs q.0 _

saying_edition : (x : Entry) (s : Saying) → edition_of (with_saying x s) ≡ edition_of x
unfolding with_saying
saying_edition x nothing = refl
saying_edition x (uses m) = refl
saying_edition x (boolean p s) =
    ap (λ (n : ℕ). record { booleans = n; numbers = length x.numbers; strings = length x.strings })
    (length_standing x.booleans p s)
saying_edition x (number p s) =
    ap (λ (n : ℕ). record { booleans = length x.booleans; numbers = n; strings = length x.strings })
    (length_standing x.numbers p s)
saying_edition x (string p s) =
    ap (λ (n : ℕ). record { booleans = length x.booleans; numbers = length x.numbers; strings = n })
    (length_standing x.strings p s)

pub described_edition : (x : Entry) (ss : List SayingAt) → edition_of (described x ss) ≡ edition_of x
unfolding described
described_edition x [] = refl
described_edition x (s ∷ ss) = described_edition (with_saying x s.saying) ss ∙ saying_edition x s.saying

saying_names : (x : Entry) (s : Saying) → (with_saying x s).names ≡ x.names
unfolding with_saying
saying_names x nothing = refl
saying_names x (uses m) = refl
saying_names x (boolean p s) = refl
saying_names x (number p s) = refl
saying_names x (string p s) = refl

pub described_names : (x : Entry) (ss : List SayingAt) → (described x ss).names ≡ x.names
unfolding described
described_names x [] = refl
described_names x (s ∷ ss) = described_names (with_saying x s.saying) ss ∙ saying_names x s.saying

pub bare_edition : (e : Edition) (n : List ℕ) → edition_of (bare e n) ≡ e
bare_edition e n = (bare_sound e n).edition

-- an entry with what fields say is the entry over what they say alone, whatever the latter's names
pub described_over : (e : Edition) (n : List ℕ) (x : Entry) (ss : List SayingAt) → edition_of x ≡ e
    → described x ss ≡ over_in e x (described (bare e n) ss)
unfolding described
described_over e n x [] h = subst (λ (k : Edition). x ≡ over_in k x (bare k n)) h (sym (over_bare n x))
described_over e n x (s ∷ ss) h =
    let b : Entry = with_saying (bare e n) s.saying in
    described_over e n (with_saying x s.saying) ss (saying_edition x s.saying ∙ h)
    ∙ (ap (λ (y : Entry). over_in e y (described (bare e n) ss))
    (subst (λ (k : Edition). with_saying x s.saying ≡ over_in k x (with_saying (bare k n) s.saying)) h
    (saying_over n x s.saying))
    ∙ (over_assoc_in e x b (described (bare e n) ss)
    ∙ ap (over_in e x)
    (sym (described_over e n b ss (saying_edition (bare e n) s.saying ∙ bare_edition e n)))))
