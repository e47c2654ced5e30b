-- Laws of compiling a text that is judged whole first: from what its parts answer to the call's answer.
-- Assumes nothing.
use mathlib.Core.Path.{◌≡◌, refl, sym, ap, ◌∙◌, subst}
use mathlib.Core.Bool.{Bool, true, false}
use mathlib.Core.List.{List, [], ◌∷◌}
use Prim.Native.Nat.{ℕ, zero, suc, ◌+◌, ◌≤◌, ◌<◌}
use native.Mathlib.Nat.{not-suc-le-zero, le_of_suc-le-suc}
use native.Mathlib.Omega.{arith}
use lib.Dec.{leb}
use lib.ListN.{length, get_or}
use borrow.Author.Tests.{le-leb, leb-true}
use Rattle.std.specs.Prelude.{Result, Ok, Err}
use Rattle.base.specs.If.{when◌then◌else◌}
use Rattle.base.specs.Answer.{Answer, refused, gives, Leaves}
use Rattle.edition.specs.declared.Edition.{Edition}
use Rattle.entry.specs.Limits.{given_names_most}
use Rattle.entry.specs.Reading.{Entry}
use Rattle.entry.specs.Writing.{Handed}
use Rattle.uses.specs.Fast.{fast}
use Rattle.uses.proofs.Tree.{tree_fast}
use Rattle.text.specs.declared.TextRefused.{TextRefused}
use Rattle.text.specs.Describing.{Description, bare, describing}
use Rattle.text.specs.Building.{Having, nobody, numbered, has_name, having_from, having, description_at, uses_of, over_in, own_of}
use Rattle.text.specs.Building.{outcome, totals, Wanted, first, named, wanted_as, wanted_in, building, building_text}
use Rattle.text.specs.Refusals.{text_refused}
use Rattle.text.specs.Compiling.{fitted, fitting_named}
use Rattle.text_laws.specs.JudgingLaws.{refused_gives, given_is}
use Rattle.building_laws.specs.Over.{over_assoc_in, own_first}
use Rattle.building_laws.proofs.Over.{bare_over}
use Rattle.compile_laws.specs.Held.{text_entry}
use Rattle.text_laws.specs.HeadingLaws.{header_right}
use Rattle.compile_laws.specs.Listed.{text_descriptions, Listed, UsesListed, Targets}
use Rattle.use_walk.specs.Walks.{Arrays, put_own, walked_to, WalksUses}
use Rattle.compile_laws.proofs.ClearedLaws.{cleared, cleared_entry}

-- ---- the walk along the uses

module _ (e : Edition) (t : List ℕ) (d : ℕ) (after : List ℕ → Handed) where
  abbrev ds : List Description
  ds = text_descriptions e t

  -- what the states hold under the description's own names is what it comes to
  walk_comes : (r : Result (Unit {0}) TextRefused) → WalksUses e d (cleared e t) after r → (n : List ℕ)
      → n ≡ (description_at ds d).names
      → outcome e ds d ≡ walked_to (text_entry e (after n)) r
  unfolding own_of
  walk_comes r w n q =
      tree_fast (over_in e) (own_of e ds) (over_assoc_in e) (own_first e (own_of e ds)) (uses_of ds) (bare e n) d
      (ap (λ (m : List ℕ). over_in e (bare e m) (own_of e ds d)) q
      ∙ bare_over e (description_at ds d).names (description_at ds d).sayings)
      ∙ ap (λ (x : Entry). fast (put_own e ds) (uses_of ds) x d) (sym (cleared_entry e t n))
      ∙ sym (w.entry n)

  pub walk_done : (u : Unit {0}) → WalksUses e d (cleared e t) after (Ok u) → (n : List ℕ)
      → n ≡ (description_at ds d).names → (after n).names ≡ n
      → length (description_at ds d).names ≤ given_names_most
      → (b c : List ℕ) (says : Answer ℕ) → Leaves (fitting_named (length b) (text_entry e (after n))) b c says
      → Leaves (fitted (length b) (outcome e ds d)) b c says
  unfolding fitting_named
  walk_done u w n q m l b c says h =
      let k : length (after n).names ≤ given_names_most = rw (m, q) l in
      subst (λ (a : Answer Entry). Leaves (fitted (length b) a) b c says)
      (sym (walk_comes (Ok u) w n q)) (rw (le-leb (length (after n).names) given_names_most k) at h)

  pub walk_bad : (r : TextRefused) → WalksUses e d (cleared e t) after (Err r) → (b : List ℕ)
      → Leaves (fitted (length b) (outcome e ds d)) b b (text_refused r)
  walk_bad r w b =
      subst (λ (a : Answer Entry). Leaves (fitted (length b) a) b b (text_refused r))
      (sym (walk_comes (Err r) w (description_at ds d).names refl))
      (refl, refl)

-- ---- the wanted description is one of them

having_below : (k : ℕ) (n : List ℕ) (ds : List Description) (d : ℕ) → having_from k n ds ≡ numbered d → d < k + length ds
unfolding having_from
having_below k n [] d q = absurd (let z : ◌≡◌ {A = ℕ} 0 1 = cc in (let y : ⊥ = omega arith in y))
having_below k n (x ∷ ds) d q = by_test (has_name n x.names) (having_below (suc k) n ds d) q
  where
    by_test : (b : Bool) → (having_from (suc k) n ds ≡ numbered d → d < suc k + length ds)
        → (when b then numbered k else having_from (suc k) n ds) ≡ numbered d → d < k + suc (length ds)
    by_test true below u = let z : k ≡ d = cc in omega arith
    by_test false below u = let l = below u in omega arith

having_wanted : (s : Having) (d : ℕ) → wanted_as s ≡ gives d → s ≡ numbered d
having_wanted nobody d q = refused_gives q
having_wanted (numbered c) d q = ap numbered (given_is q)

pub wanted_below : (ds : List Description) (w : Wanted) (d : ℕ) → 0 < length ds → wanted_in ds w ≡ gives d → d < length ds
wanted_below ds first d l q = let z : 0 ≡ d = given_is q in omega arith
wanted_below ds (named n) d l q =
    let h = having_below 0 n ds d (having_wanted (having n ds) d q) in
    omega arith

-- ---- the totals

pub totals_fit : (ds : List Description) (d : ℕ) → totals ds ≡ gives tt → d < length ds
    → length (description_at ds d).names ≤ given_names_most
unfolding totals
totals_fit [] d q l = absurd (not-suc-le-zero l)
totals_fit (x ∷ ds) d q l = by_test (leb (length x.names) given_names_most) refl (totals_fit ds) q d l
  where
    by_test : (b : Bool) → leb (length x.names) given_names_most ≡ b
        → ((d : ℕ) → totals ds ≡ gives tt → d < length ds → length (description_at ds d).names ≤ given_names_most)
        → (when b then totals ds else refused 13 (x.place ∷ [])) ≡ gives tt → (d : ℕ) → d < suc (length ds)
        → length (description_at (x ∷ ds) d).names ≤ given_names_most
    by_test true u later v zero m = leb-true _ _ u
    by_test true u later v (suc d) m = later d v (le_of_suc-le-suc m)
    by_test false u later v d m = refused_gives v

-- ---- from the parts' answers to the call's

module _ (e : Edition) (t : List ℕ) (w : Wanted) where
  pub text_bad : (n : ℕ) (v : List ℕ) → describing e t ≡ refused n v → (b : List ℕ)
      → Leaves (fitted (length b) (building_text e t w)) b b (refused n v)
  unfolding building_text
  text_bad n v q b = rw q (refl, refl)

  module _ (ds : List Description) (is : describing e t ≡ gives ds) where
    pub total_bad : (n : ℕ) (v : List ℕ) → totals ds ≡ refused n v → (b : List ℕ)
        → Leaves (fitted (length b) (building_text e t w)) b b (refused n v)
    unfolding building_text building
    total_bad n v q b = rw (is, q) (refl, refl)

    module _ (fit : totals ds ≡ gives tt) where
      pub wanted_bad : wanted_in ds w ≡ refused 18 (0 ∷ []) → (b : List ℕ)
          → Leaves (fitted (length b) (building_text e t w)) b b (refused 18 (0 ∷ []))
      unfolding building_text building
      wanted_bad q b = rw (is, fit, q) (refl, refl)

      pub wanted_comes : (d : ℕ) → wanted_in ds w ≡ gives d → (b c : List ℕ) (says : Answer ℕ)
          → Leaves (fitted (length b) (outcome e ds d)) b c says
          → Leaves (fitted (length b) (building_text e t w)) b c says
      unfolding building_text building
      wanted_comes d q b c says h = rw (is, fit, q) h

-- the uses of a text are no more than its most
pub uses_few : (e : Edition) (t heads commas starts places : List ℕ) (count : ℕ)
    → Listed e t heads commas count (text_descriptions e t) → UsesListed starts places count (text_descriptions e t)
    → get_or starts count 0 ≤ length places
uses_few e t heads commas starts places zero l u = absurd (not-suc-le-zero l.some)
uses_few e t heads commas starts places (suc k) l u =
    let h = u.inside k (omega arith) in
    let z : k + 1 ≡ suc k = omega arith in
    rw z at h

-- ---- what the arrays hold of the descriptions, for the description that is found

module _ (e : Edition) (t heads commas starts places : List ℕ) (count : ℕ)
    (l : Listed e t heads commas count (text_descriptions e t))
    (u : UsesListed starts places count (text_descriptions e t)) where
  pub found_below : (w : Wanted) (d : ℕ) → wanted_in (text_descriptions e t) w ≡ gives d → d < count
  found_below w d q =
      let n = l.counted in
      let s = l.some in
      let h = wanted_below (text_descriptions e t) w d (omega arith) q in
      omega arith

  pub found_fits : (d : ℕ) → totals (text_descriptions e t) ≡ gives tt → d < count
      → length (description_at (text_descriptions e t) d).names ≤ given_names_most
  found_fits d q b = let n = l.counted in totals_fit (text_descriptions e t) d q (omega arith)

  pub found_arrays : (targets : List ℕ) → get_or starts count 0 ≤ length targets
      → Targets t (text_descriptions e t) places targets (get_or starts count 0)
      → Arrays e t commas starts places targets count
  found_arrays targets r h =
      record {
        counted = l.counted;
        few = l.few;
        many_commas = l.many_commas;
        stands = λ d b.
            let s = l.stands d b in
            record {
              within = (header_right t (get_or heads d 0) (get_or commas d 0) s.header).within;
              fields = s.fields;
              read = s.read;
              sayings = s.sayings;
            };
        uses = u;
        room = r;
        leads = h;
      }
