-- The entry that a text's wanted description comes to: the parts of `building_text` where it gives one; its names are
-- the wanted description's; its states and names have a written form.
-- Assumes nothing.
use Rattle.std.specs.Prelude.{◌≡◌, refl, Bool, true, false, length, get_or}
use Rattle.std.proofs.Common.{sym, ap, subst, arith}
use mathlib.Core.List.{List, [], ◌∷◌}
use Prim.Native.Nat.{ℕ, zero, suc, ◌+◌, ◌≤◌, ◌<◌}
use Rattle.base.specs.If.{when◌then◌else◌}
use Rattle.base.specs.Tabulate.{tabulate, Each}
use Rattle.base.proofs.TabulateLaws.{each_at, each_tabulate}
use Rattle.base.specs.Answer.{Answer, refused, gives, map_answer, and_then}
use Rattle.word.specs.Nul.{NoNul}
use Rattle.edition.specs.declared.Edition.{Edition}
use Rattle.entry.specs.Limits.{given_names_most}
use Rattle.entry.specs.State.{State, absent}
use Rattle.entry.specs.Reading.{Entry}
use Rattle.entry.specs.Merging.{over}
use Rattle.entry_laws.specs.Sound.{NumberFits, ContentFree}
use Rattle.entry_laws.specs.Merge.{over_has}
use Rattle.uses.specs.Walk.{Use, Graph, uses_most, bind, with_uses, brought, built}
use Rattle.uses.proofs.Related.{built_keeps}
use Rattle.text.specs.Describing.{Fields, described, bare, Description, describing}
use Rattle.text.specs.Building.{has_name, Having, nobody, numbered, having_from, having}
use Rattle.text.specs.Building.{uses_of, over_in}
use Rattle.text.specs.Building.{own_of, outcome, totals, Wanted, first, named, wanted_as, wanted_in, building}
use Rattle.text.specs.Building.{building_text}
use Rattle.text_laws.specs.JudgingLaws.{refused_gives, given_is}
use Rattle.text_laws.specs.DescribingLaws.{Sound-states, bare_sound}
use Rattle.text_laws.proofs.DescribingLaws.{fields_sound}
use Rattle.building_laws.specs.Over.{over_edition}
use Rattle.building_laws.specs.Descriptions.{StandsIn}

-- ---- the parts

-- a text's descriptions, the wanted one's number, and the entry x that it comes to
pub record TextBuilt (e : Edition) (t : List ℕ) (w : Wanted) (x : Entry) : Type 0 where
  pub descriptions : List Description
  pub described : describing e t ≡ gives descriptions
  pub total : totals descriptions ≡ gives tt
  pub wanted : ℕ
  pub found : wanted_in descriptions w ≡ gives wanted
  pub comes : outcome e descriptions wanted ≡ gives x

pub text_built : (e : Edition) (t : List ℕ) (w : Wanted) (x : Entry) → building_text e t w ≡ gives x → TextBuilt e t w x
unfolding building_text building
text_built e t w x h = by_text (describing e t) refl h
  where
    by_wanted : (ds : List Description) → describing e t ≡ gives ds → totals ds ≡ gives tt → (a : Answer ℕ)
        → wanted_in ds w ≡ a → bind a (outcome e ds) ≡ gives x → TextBuilt e t w x
    by_wanted ds q s (refused n v) r u = refused_gives u
    by_wanted ds q s (gives d) r u =
        record { descriptions = ds; described = q; total = s; wanted = d; found = r; comes = u }

    by_totals : (ds : List Description) → describing e t ≡ gives ds → (a : Answer Unit) → totals ds ≡ a
        → and_then a (bind (wanted_in ds w) (outcome e ds)) ≡ gives x → TextBuilt e t w x
    by_totals ds q (refused n v) s u = refused_gives u
    by_totals ds q (gives tt) s u = by_wanted ds q s (wanted_in ds w) refl u

    by_text : (a : Answer (List Description)) → describing e t ≡ a → bind a (building e w) ≡ gives x
        → TextBuilt e t w x
    by_text (refused n v) q u = refused_gives u
    by_text (gives ds) q u = by_totals ds q (totals ds) refl u

-- ---- the wanted description is one of the text's

having_below : (n : List ℕ) (ds : List Description) (k d : ℕ) → having_from k n ds ≡ numbered d → d < k + length ds
unfolding having_from
having_below n [] k d q = absurd (let z : ◌≡◌ {A = ℕ} 0 1 = cc in (let y : ⊥ = omega arith in y))
having_below n (x ∷ ds) k d q = by_test (has_name n x.names) q (having_below n ds (suc k) d)
  where
    by_test : (b : Bool) → (when b then numbered k else having_from (suc k) n ds) ≡ numbered d
        → (having_from (suc k) n ds ≡ numbered d → d < suc k + length ds) → d < k + suc (length ds)
    by_test true u rest = let z : k ≡ d = cc in omega arith
    by_test false u rest = let l = rest u in omega arith

pub wanted_below : (ds : List Description) (w : Wanted) (d : ℕ) → 0 < length ds → wanted_in ds w ≡ gives d
    → d < length ds
wanted_below ds first d l q = let z : 0 ≡ d = given_is q in omega arith
wanted_below ds (named n) d l q = by_having (having n ds) refl q
  where
    by_having : (h : Having) → having n ds ≡ h → wanted_as h ≡ gives d → d < length ds
    by_having nobody r u = refused_gives u
    by_having (numbered m) r u =
        let z : m ≡ d = given_is u in
        let b = having_below n ds 0 m r in
        omega arith

-- ---- its names are the wanted description's

with_names : (e : Edition) (f : Use → Answer Entry) (us : List Use) (x y : Entry)
    → with_uses (over_in e) f x us ≡ gives y → y.names ≡ x.names
unfolding with_uses over_in
with_names e f [] x y q = ap (λ (z : Entry). z.names) (sym (given_is q))
with_names e f (u ∷ us) x y q = by_use (f u) q (λ z. with_names e f us (over_in e x z) y)
  where
    by_use : (a : Answer Entry) → bind a (λ (z : Entry). with_uses (over_in e) f (over_in e x z) us) ≡ gives y
        → ((z : Entry) → with_uses (over_in e) f (over_in e x z) us ≡ gives y → y.names ≡ x.names)
        → y.names ≡ x.names
    by_use (refused n v) r rest = refused_gives r
    by_use (gives z) r rest = rest z r

pub built_names : (e : Edition) (own : ℕ → Entry) (g : Graph) (d : ℕ) (x : Entry) → built (over_in e) own g d ≡ gives x
    → x.names ≡ (own d).names
built_names e own g d x q = with_names e (brought (over_in e) own g uses_most (d ∷ [])) (g d) (own d) x q

-- ---- its states have a written form

module _ (e : Edition) where
  -- the states of a list at the places below its length
  held_has : {A : Type 0} (P : State A → Type 0) (xs : List (State A)) (n : ℕ) → length xs ≡ n → Each P xs
      → (i : ℕ) → i < n → P (get_or xs i absent)
  held_has P xs n q h i l = each_at P xs i absent h (omega arith)

  over_each : {A : Type 0} (P : State A → Type 0) (xs ys : List (State A)) (n : ℕ) → length xs ≡ n → length ys ≡ n
      → Each P xs → Each P ys → Each P (tabulate (λ i. over (get_or xs i absent) (get_or ys i absent)) n)
  over_each P xs ys n q r h k =
      each_tabulate P (λ i. over (get_or xs i absent) (get_or ys i absent)) n absent
      (λ i l. over_has P (get_or xs i absent) (get_or ys i absent) (held_has P xs n q h i l) (held_has P ys n r k i l))

  pub over_sound : (a b : Entry) → Sound-states e a → Sound-states e b → Sound-states e (over_in e a b)
  unfolding over_in
  over_sound a b h k =
      record {
        edition = over_edition e a b;
        numbers =
            over_each NumberFits a.numbers b.numbers e.numbers
            (ap (λ (d : Edition). d.numbers) h.edition) (ap (λ (d : Edition). d.numbers) k.edition)
            h.numbers k.numbers;
        strings =
            over_each ContentFree a.strings b.strings e.strings
            (ap (λ (d : Edition). d.strings) h.edition) (ap (λ (d : Edition). d.strings) k.edition)
            h.strings k.strings;
      }

  module _ (t : List ℕ) where
    stands_sound : (d : Description) → StandsIn e t d → Sound-states e (described (bare e d.names) d.sayings)
    stands_sound d s =
        subst (λ ss. Sound-states e (described (bare e d.names) ss)) (sym s.sayings)
        (fields_sound e t (s.comma + 1) (bare e d.names) (described (bare e d.names) s.fields.sayings)
        (bare_sound e d.names)
        (ap (map_answer (λ (f : Fields). described (bare e d.names) f.sayings)) s.read)).0

    own_sound : (ds : List Description) → Each (StandsIn e t) ds → (d : ℕ) → Sound-states e (own_of e ds d)
    unfolding own_of described
    own_sound [] h d = bare_sound e []
    own_sound (x ∷ ds) h zero = stands_sound x h.0
    own_sound (x ∷ ds) h (suc d) = own_sound ds h.1 d

    pub outcome_sound : (ds : List Description) (d : ℕ) (x : Entry) → Each (StandsIn e t) ds → outcome e ds d ≡ gives x
        → Sound-states e x
    outcome_sound ds d x h q =
        built_keeps (over_in e) (own_of e ds) (Sound-states e) over_sound (own_sound ds h) (uses_of ds) d x q

-- ---- both

-- states and names that have a written form
pub record BuiltSound (e : Edition) (x : Entry) : Type 0 where
  pub states : Sound-states e x
  pub named : 1 ≤ length x.names
  pub names_most : length x.names ≤ given_names_most
  pub names_free : NoNul x.names
