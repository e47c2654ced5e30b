-- What one edition describes and accepts, a larger one describes and accepts too: the statements of
-- specs/Editions.antt.
-- Assumes nothing.
use Rattle.std.specs.Prelude.{◌≡◌, refl, false, ℕ, get_or, Bool, true, ◌||◌, not, ◌≤◌, eqb, leb, length}
use Rattle.std.proofs.Common.{ap, ◌∙◌, subst, ltb-false, sym, arith, lit≤, leb-true, le-leb, ne_eqb}
use mathlib.Core.List.{List, [], ◌∷◌}
use Rattle.base.specs.Answer.{Answer, refused, gives, and_then}
use Rattle.base.specs.Tabulate.{Each}
use Rattle.edition.specs.declared.Edition.{Edition}
use Rattle.edition.specs.declared.Place.{Place}
use Rattle.edition.specs.Edition.{knows, NoMore, ok_edition}
use Rattle.entry.specs.State.{State, absent}
use Rattle.entry.specs.Reading.{Entry}
use Rattle.uses.specs.Walk.{bind}
use Rattle.uses.specs.Related.{RelatedAnswers}
use Rattle.uses.proofs.Related.{built_related}
use Rattle.text.specs.Describing.{Description, description, describing}
use Rattle.text.specs.Building.{description_at, uses_of, over_in, own_of, outcome, totals, Wanted, wanted_in, building}
use Rattle.text.specs.Building.{building_text}
use Rattle.text_laws.specs.JudgingLaws.{refused_gives}
use Rattle.text_laws.specs.DescribingLaws.{each_get_d}
use Rattle.text_editions.specs.Alike.{AlikeList, past, Alike, bare_alike, described_alike, over_alike}
use Rattle.text_editions.specs.Descriptions.{KnownIn, describing_larger, describing_known}
use Rattle.text_editions.specs.Editions.{SameStates, DescribedToo, LargerDescribes}
use Rattle.base.specs.If.{when◌then◌else◌}
use Rattle.base.proofs.IfLaws.{true_false}
use Rattle.entry.specs.Limits.{file_most}
use Rattle.entry.specs.Writing.{encode}
use Rattle.names.specs.Names.{first_edition, second_edition}
use Rattle.text.specs.Bytes.{text_most}
use Rattle.text.specs.Compiling.{fitted, compiling}
use Rattle.building_laws.specs.Values.{TextNumber, text_least, Within}
use Rattle.building_laws.proofs.Values.{text_within}
use Rattle.text_editions.specs.Editions.{accepted, LargerAccepts, SecondAccepts}

new_absent : {A : Type 0} (n : ℕ) (xs ys : List (State A)) → AlikeList n xs ys → (p : Place) → knows n p ≡ false
    → get_or ys p.0 absent ≡ absent
new_absent n xs ys h p k = past n xs ys h p.0 (ltb-false p.0 n k)

same_states : (e : Edition) (x y : Entry) → Alike e x y → SameStates e x y
same_states e x y h =
    record {
      names = h.names;
      boolean = λ p k. h.booleans.at p.0;
      number = λ p k. h.numbers.at p.0;
      string = λ p k. h.strings.at p.0;
      new_boolean = new_absent e.booleans x.booleans y.booleans h.booleans;
      new_number = new_absent e.numbers x.numbers y.numbers h.numbers;
      new_string = new_absent e.strings x.strings y.strings h.strings;
    }

module _ (e E : Edition) (m : NoMore e E) where
  own_alike : (ds : List Description) → Each (KnownIn e) ds → (d : ℕ) → Alike e (own_of e ds d) (own_of E ds d)
  unfolding own_of
  own_alike ds k d =
      described_alike e _ _ (description_at ds d).sayings (each_get_d (KnownIn e) ds d (description 0 [] []) k tt)
      (bare_alike e E m (description_at ds d).names)

  outcome_alike : (ds : List Description) → Each (KnownIn e) ds → (d : ℕ)
      → RelatedAnswers (Alike e) (outcome e ds d) (outcome E ds d)
  outcome_alike ds k d =
      built_related (Alike e) (over_in e) (over_in E) (own_of e ds) (own_of E ds) (over_alike e E m) (own_alike ds k)
      (uses_of ds) d

  building_alike : (w : Wanted) (ds : List Description) → Each (KnownIn e) ds
      → RelatedAnswers (Alike e) (building e w ds) (building E w ds)
  unfolding building
  building_alike w ds k = by_total (totals ds)
    where
      by_wanted : (a : Answer ℕ) → RelatedAnswers (Alike e) (bind a (outcome e ds)) (bind a (outcome E ds))
      by_wanted (refused n v) = (refl, refl)
      by_wanted (gives d) = outcome_alike ds k d

      by_total : (a : Answer Unit)
          → RelatedAnswers (Alike e) (and_then a (bind (wanted_in ds w) (outcome e ds)))
          (and_then a (bind (wanted_in ds w) (outcome E ds)))
      by_total (refused n v) = (refl, refl)
      by_total (gives x) = by_wanted (wanted_in ds w)

pub larger_describes : LargerDescribes
unfolding building_text
larger_describes e E m t w x u = by_descriptions (describing e t) refl u
  where
    by_entry : (ds : List Description) → describing e t ≡ gives ds → (b : Answer Entry) → building E w ds ≡ b
        → RelatedAnswers (Alike e) (gives x) b → DescribedToo e E t w x
    by_entry ds q (refused n v) k h = absurd h
    by_entry ds q (gives y) k h =
        record {
          entry = y;
          describes =
              ap (λ (a : Answer (List Description)). bind a (building E w)) (describing_larger e E m t ds q) ∙ k;
          same = same_states e x y h;
        }

    by_descriptions : (a : Answer (List Description)) → describing e t ≡ a → bind a (building e w) ≡ gives x
        → DescribedToo e E t w x
    by_descriptions (refused n v) q k = refused_gives k
    by_descriptions (gives ds) q k =
        by_entry ds q (building E w ds) refl
        (subst (λ (a : Answer Entry). RelatedAnswers (Alike e) a (building E w ds)) k
        (building_alike e E m w ds (describing_known e E m t ds q)))

-- what holds of a text that is accepted in the edition e: entry is what it describes
record Accepts (e : Edition) (t : List ℕ) (w : Wanted) : Type 0 where
  entry : Entry
  short : length t ≤ text_most
  describes : building_text e t w ≡ gives entry

passed : {A : Type 0} (b : Bool) (n : ℕ) (v : List ℕ) (a : Answer A) → (eqb n 9 || eqb n 8) ≡ false
    → accepted (when not b then refused n v else a) ≡ true → (b ≡ true) × (accepted a ≡ true)
passed true n v a q w = (refl, w)
passed false n v a q w = true_false (sym w ∙ q)

accepts : (e : Edition) (t : List ℕ) (w : Wanted) (room : ℕ) → accepted (compiling e t w room) ≡ true → Accepts e t w
unfolding compiling
accepts e t w room z =
    let o = passed (ok_edition e) 3 [] _ refl z in
    let l = passed (leb (length t) text_most) 1 [] _ refl o.1 in
    by_entry (leb-true _ _ l.0) (building_text e t w) refl l.1
  where
    by_entry : length t ≤ text_most → (a : Answer Entry) → building_text e t w ≡ a → accepted (fitted room a) ≡ true
        → Accepts e t w
    by_entry l (refused n v) q u =
        let k = text_least n (subst (Within TextNumber (length t)) q (text_within e t w)).0 in
        true_false (sym u ∙ rw (ne_eqb n 9 (λ z. omega arith), ne_eqb n 8 (λ z. omega arith)))
    by_entry l (gives x) q u = record { entry = x; short = l; describes = q }

-- a text within the limits, file and room apart, is accepted
fits : (E : Edition) (t : List ℕ) (w : Wanted) (x : Entry) → ok_edition E ≡ true → length t ≤ text_most
    → building_text E t w ≡ gives x → (room : ℕ) → accepted (compiling E t w room) ≡ true
unfolding compiling
fits E t w x o l q room =
    rw (o, le-leb (length t) text_most l, q)
    (by_size (leb (length (encode x)) file_most) (leb (length (encode x)) room))
  where
    by_size : (a b : Bool) → accepted (when not a then refused 9 []
        else when not b then refused 8 (length (encode x) ∷ []) else gives (encode x)) ≡ true
    by_size false b = refl
    by_size true false = refl
    by_size true true = refl

pub larger_accepts : LargerAccepts
larger_accepts e E m o t w room z =
    let a = accepts e t w room z in
    let d = larger_describes e E m t w a.entry a.describes in
    record {
      entry = a.entry;
      describes = a.describes;
      too = d;
      accepts = fits E t w d.entry o a.short d.describes;
    }

pub second_accepts : SecondAccepts
unfolding ok_edition
second_accepts =
    larger_accepts first_edition second_edition
    (record { booleans = lit≤ tt; numbers = lit≤ tt; strings = lit≤ tt }) refl
