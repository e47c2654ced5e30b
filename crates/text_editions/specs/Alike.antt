-- Entries of two editions that hold the same: what a field says keeps them so, and merging does.
-- Assumes nothing.
use Rattle.std.specs.Prelude.{◌≡◌, refl, List, [], ◌∷◌, ℕ, zero, suc, ◌≤◌, ◌<◌, length, get_or, set, replicate}
use Rattle.std.proofs.Common.{sym, ap, ap₂, ◌∙◌, arith, length-set, get_or-set_same, get_or-set_other}
use Rattle.std.proofs.Math.Decide.{ℕ_discrete}
use Rattle.std.proofs.lemmas.List.{length-replicate}
use Rattle.std.proofs.Math.ListN.{get_or-eq_default}
use Rattle.base.specs.Tabulate.{Each, tabulate}
use Rattle.base.proofs.IfLaws.{below_or}
use Rattle.base.proofs.TabulateLaws.{length_tabulate, get_d_tabulate}
use Rattle.edition.specs.declared.Edition.{Edition}
use Rattle.edition.specs.declared.Place.{Place}
use Rattle.edition.specs.Edition.{NoMore}
use Rattle.entry.specs.State.{State, absent}
use Rattle.entry.specs.Reading.{Entry}
use Rattle.entry.specs.Merging.{over}
use Rattle.text.specs.Describing.{Saying, nothing, boolean, number, string, uses, SayingAt, standing, with_saying}
use Rattle.text.specs.Describing.{described, bare}
use Rattle.text.specs.Building.{over_in}

-- ---- lists of states that hold the same at every place: the first is n places long, the second as long or longer

pub record AlikeList {A : Type 0} (n : ℕ) (xs ys : List (State A)) : Type 0 where
  pub first : length xs ≡ n
  pub second : n ≤ length ys
  pub at : (i : ℕ) → get_or ys i absent ≡ get_or xs i absent

absent_at : {A : Type 0} (n i : ℕ) → get_or {A = State A} (replicate n absent) i absent ≡ absent
absent_at zero i = refl
absent_at (suc n) zero = refl
absent_at (suc n) (suc i) = absent_at n i

absents : {A : Type 0} (n m : ℕ) → n ≤ m → AlikeList {A = A} n (replicate n absent) (replicate m absent)
absents {A} n m l =
    let a : length {A = State A} (replicate n absent) ≡ n = length-replicate n absent in
    let b : length {A = State A} (replicate m absent) ≡ m = length-replicate m absent in
    record { first = omega arith; second = omega arith; at = λ i. absent_at m i ∙ sym (absent_at n i) }

-- the state that a field gives to a place of both
stands : {A : Type 0} (n : ℕ) (xs ys : List (State A)) (q : Place) (s : State A) → q.0 < n → AlikeList n xs ys
    → AlikeList n (standing xs q s) (standing ys q s)
unfolding standing
stands {A} n xs ys q s l h =
    let v : State A = over (get_or xs q.0 absent) s in
    let w : State A = over (get_or ys q.0 absent) s in
    let f = h.first in
    let g = h.second in
    let a = length-set xs q.0 v in
    let b = length-set ys q.0 w in
    let here : get_or (set ys q.0 w) q.0 absent ≡ get_or (set xs q.0 v) q.0 absent =
    get_or-set_same ys q.0 w absent (omega arith)
    ∙ ap (λ (x : State A). over x s) (h.at q.0)
    ∙ sym (get_or-set_same xs q.0 v absent (omega arith)) in
    let there : (i : ℕ) → (i ≡ q.0 → ⊥) → get_or (set ys q.0 w) i absent ≡ get_or (set xs q.0 v) i absent =
    λ i o. get_or-set_other ys q.0 i w absent o ∙ h.at i ∙ sym (get_or-set_other xs q.0 i v absent o) in
    record {
      first = omega arith;
      second = omega arith;
      at = λ i. elim (ℕ_discrete i q.0) [ yes e ↦ rw e here | no o ↦ there i o ];
    }

-- past the first n places both are absent
pub past : {A : Type 0} (n : ℕ) (xs ys : List (State A)) → AlikeList n xs ys → (i : ℕ) → n ≤ i
    → get_or ys i absent ≡ absent
past n xs ys h i l = let f = h.first in h.at i ∙ get_or-eq_default xs absent (omega arith)

-- "each state is A's unless absent, then B's"
merges : {A : Type 0} (n m : ℕ) → n ≤ m → (us vs xs ys : List (State A)) → AlikeList n us vs → AlikeList n xs ys
    → AlikeList n (tabulate (λ i. over (get_or us i absent) (get_or xs i absent)) n)
    (tabulate (λ i. over (get_or vs i absent) (get_or ys i absent)) m)
unfolding over
merges {A} n m l us vs xs ys h k =
    let f : ℕ → State A = λ i. over (get_or us i absent) (get_or xs i absent) in
    let g : ℕ → State A = λ i. over (get_or vs i absent) (get_or ys i absent) in
    let a = length_tabulate f n in
    let b = length_tabulate g m in
    let same : (i : ℕ) → g i ≡ f i = λ i. ap₂ over (h.at i) (k.at i) in
    let none : (i : ℕ) → n ≤ i → g i ≡ absent = λ i q. ap₂ over (past n us vs h i q) (past n xs ys k i q) in
    let larger : (i : ℕ) → n ≤ i → get_or (tabulate g m) i absent ≡ absent = λ i q.
    below_or i m (λ r. get_d_tabulate g m i absent r ∙ none i q)
    (λ r. get_or-eq_default (tabulate g m) absent (omega arith)) in
    record {
      first = a;
      second = omega arith;
      at = λ i.
          below_or i n
          (λ q. get_d_tabulate g m i absent (omega arith) ∙ same i ∙ sym (get_d_tabulate f n i absent q))
          (λ q. larger i q ∙ sym (get_or-eq_default (tabulate f n) absent (omega arith)));
    }

-- ---- entries

-- y holds what x holds: x is of the edition e, and y has a state for each of its places too
pub record Alike (e : Edition) (x y : Entry) : Type 0 where
  pub names : y.names ≡ x.names
  pub booleans : AlikeList e.booleans x.booleans y.booleans
  pub numbers : AlikeList e.numbers x.numbers y.numbers
  pub strings : AlikeList e.strings x.strings y.strings

pub bare_alike : (e E : Edition) → NoMore e E → (names : List ℕ) → Alike e (bare e names) (bare E names)
bare_alike e E m names =
    record {
      names = refl;
      booleans = absents e.booleans E.booleans m.booleans;
      numbers = absents e.numbers E.numbers m.numbers;
      strings = absents e.strings E.strings m.strings;
    }

-- what is said is about a place that the edition knows
abbrev pub Known : Edition → Saying → Type 0
Known e nothing = Unit {0}
Known e (boolean q s) = q.0 < e.booleans
Known e (number q s) = q.0 < e.numbers
Known e (string q s) = q.0 < e.strings
Known e (uses n) = Unit {0}

said_alike : (e : Edition) (x y : Entry) (s : Saying) → Known e s → Alike e x y
    → Alike e (with_saying x s) (with_saying y s)
unfolding with_saying
said_alike e x y nothing k h = h
said_alike e x y (uses n) k h = h
said_alike e x y (boolean q s) k h =
    record {
      names = h.names;
      booleans = stands e.booleans x.booleans y.booleans q s k h.booleans;
      numbers = h.numbers;
      strings = h.strings;
    }
said_alike e x y (number q s) k h =
    record {
      names = h.names;
      booleans = h.booleans;
      numbers = stands e.numbers x.numbers y.numbers q s k h.numbers;
      strings = h.strings;
    }
said_alike e x y (string q s) k h =
    record {
      names = h.names;
      booleans = h.booleans;
      numbers = h.numbers;
      strings = stands e.strings x.strings y.strings q s k h.strings;
    }

pub described_alike : (e : Edition) (x y : Entry) (ss : List SayingAt) → Each (λ s. Known e s.saying) ss
    → Alike e x y
    → Alike e (described x ss) (described y ss)
unfolding described
described_alike e x y [] k h = h
described_alike e x y (s ∷ ss) k h =
    described_alike e (with_saying x s.saying) (with_saying y s.saying) ss k.1
    (said_alike e x y s.saying k.0 h)

-- "A's names; each state is A's unless absent, then B's", at the places that each of two editions knows
pub over_alike : (e E : Edition) → NoMore e E → (a b x y : Entry) → Alike e a b → Alike e x y
    → Alike e (over_in e a x) (over_in E b y)
unfolding over_in
over_alike e E m a b x y h k =
    record {
      names = h.names;
      booleans = merges e.booleans E.booleans m.booleans _ _ _ _ h.booleans k.booleans;
      numbers = merges e.numbers E.numbers m.numbers _ _ _ _ h.numbers k.numbers;
      strings = merges e.strings E.strings m.strings _ _ _ _ h.strings k.strings;
    }
