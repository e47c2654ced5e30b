-- The arrays of the uses hold the uses of a text's descriptions.
-- Assumes nothing.
use mathlib.Core.Path.{◌≡◌, refl, sym, ap₂, ◌∙◌, subst, fun_ext}
use mathlib.Core.Bool.{Bool, true, false}
use mathlib.Core.List.{List, [], ◌∷◌, map}
use Prim.Native.Nat.{ℕ, zero, suc, ◌+◌, ◌-◌, ◌≤◌, ◌<◌}
use native.Mathlib.Omega.{arith}
use lib.Dec.{eqb}
use lib.ListN.{length, get_or, take, drop, get_or-eq_default}
use lib.Seq.{drop-cons}
use borrow.Author.Tests.{ne_eqb}
use Rattle.base.specs.If.{when◌then◌else◌}
use Rattle.base.specs.Tabulate.{Each}
use Rattle.base.proofs.IfLaws.{below_or}
use Rattle.edition.specs.declared.Edition.{Edition}
use Rattle.uses.specs.Walk.{missing, found}
use Rattle.text.specs.Describing.{Description, description}
use Rattle.text.specs.Building.{Having, nobody, numbered, has_name, having_from, having, UseAt, uses_in, found_as}
use Rattle.text.specs.Building.{description_at, uses_of}
use Rattle.text_laws.specs.UseLaws.{NameBehind}
use Rattle.text_laws.proofs.UseLaws.{uses_behind}
use Rattle.compile_laws.specs.Listed.{text_descriptions, used_name, target_of}
use Rattle.use_turns.specs.Frames.{use_arrays, use_at, uses_from, graph_of, HoldsUses}
use Rattle.use_walk.specs.Walks.{Arrays}

-- ---- the description that has a name is one of them

having_below : (k : ℕ) (n : List ℕ) (ds : List Description) (d : ℕ) → having_from k n ds ≡ numbered d
    → d < k + length ds
unfolding having_from
having_below k n [] d e = absurd (let z : ◌≡◌ {A = ℕ} 0 1 = cc in (let y : ⊥ = omega arith in y))
having_below k n (x ∷ ds) d e = by (has_name n x.names) e (having_below (suc k) n ds d)
  where
    by : (b : Bool) → (when b then numbered k else having_from (suc k) n ds) ≡ numbered d
        → (having_from (suc k) n ds ≡ numbered d → d < suc k + length ds) → d < k + length (x ∷ ds)
    by true q rest = let z : k ≡ d = cc in omega arith
    by false q rest = let l = rest q in omega arith

-- where a target that is not 255 is
target_below : (n : List ℕ) (ds : List Description) → (target_of (having n ds) ≡ 255 → ⊥)
    → target_of (having n ds) < length ds
target_below n ds h = by (having n ds) refl h
  where
    by : (w : Having) → having n ds ≡ w → (target_of w ≡ 255 → ⊥) → target_of w < length ds
    by nobody e h = absurd (h refl)
    by (numbered d) e h = let l = having_below 0 n ds d e in omega arith

-- a use by its target
found_target : (p : ℕ) (n : List ℕ) (ds : List Description) → length ds ≤ 64
    → found_as p (having n ds)
    ≡ (when eqb (target_of (having n ds)) 255 then missing p else found p (target_of (having n ds)))
found_target p n ds few = by (having n ds) refl
  where
    by : (w : Having) → having n ds ≡ w
        → found_as p w ≡ (when eqb (target_of w) 255 then missing p else found p (target_of w))
    by nobody e = refl
    by (numbered d) e =
        let l = having_below 0 n ds d e in
        rw (ne_eqb d 255 (λ q. let z : ⊥ = omega arith in z))

-- ---- the uses of one description

module _ (t : List ℕ) (ds : List Description) (few : length ds ≤ 64) (places targets : List ℕ) (total : ℕ)
    (leads : (i : ℕ) → i < total → get_or targets i 0 ≡ target_of (having (used_name t (get_or places i 0)) ds))
    (room : total ≤ length places) where
  use_listed : (u : UseAt) (i : ℕ) → i < total → NameBehind t u → u.place ≡ get_or places i 0
      → found_as u.place (having u.name ds) ≡ use_at places targets i
  use_listed u i l n p =
      rw (n, p, leads i l) (found_target (get_or places i 0) (used_name t (get_or places i 0)) ds few)

  pub uses_listed : (us : List UseAt) (i k : ℕ) → i + k ≤ total → Each (NameBehind t) us
      → map (λ (u : UseAt). u.place) us ≡ take k (drop i places)
      → map (λ (u : UseAt). found_as u.place (having u.name ds)) us ≡ uses_from places targets i k
  unfolding uses_from
  uses_listed [] i zero l n e = refl
  uses_listed [] i (suc k) l n e =
      let q = rw (drop-cons places i 0 (omega arith)) at e in
      absurd (let z : ◌≡◌ {A = ℕ} 0 1 = cc in (let y : ⊥ = omega arith in y))
  uses_listed (u ∷ us) i zero l n e = absurd (let z : ◌≡◌ {A = ℕ} 0 1 = cc in (let y : ⊥ = omega arith in y))
  uses_listed (u ∷ us) i (suc k) l n e =
      let q = rw (drop-cons places i 0 (omega arith)) at e in
      ap₂ (λ x xs. x ∷ xs) (use_listed u i (omega arith) n.0 (cc))
      (uses_listed us (suc i) k (omega arith) n.1 (cc))

-- ---- all uses

module _ {e : Edition} {t commas starts places targets : List ℕ} {count : ℕ}
    (arrays : Arrays e t commas starts places targets count) where
  abbrev ds : List Description
  ds = text_descriptions e t

  -- the uses of each description stand before those of the next
  end_inside : (k d : ℕ) → d + 1 + k ≡ count → get_or starts (d + 1) 0 ≤ get_or starts count 0
  end_inside zero d q = let z : d + 1 ≡ count = omega arith in rw z (omega arith)
  end_inside (suc k) d q =
      let a = arrays.uses.ordered (d + 1) (omega arith) in
      let b = end_inside k (d + 1) (omega arith) in
      omega arith

  inside : (d : ℕ) → d < count → get_or starts (d + 1) 0 ≤ get_or starts count 0
  inside d l = end_inside (count - (d + 1)) d (omega arith)

  placed : 0 < count → get_or starts count 0 ≤ length places
  placed some =
      let i = arrays.uses.inside (count - 1) (omega arith) in
      let z : count - 1 + 1 ≡ count = omega arith in
      rw z at i

  pub holds_uses : 0 < count → HoldsUses (use_arrays starts places targets count)
  holds_uses some =
      record {
        few = arrays.few;
        ends = arrays.uses.many_starts;
        ordered = arrays.uses.ordered;
        inside = inside;
        targeted = arrays.room;
        placed = placed some;
        known =
            λ i l n. let q = arrays.leads i l in
            rw (q, ← arrays.counted) (target_below (used_name t (get_or places i 0)) ds (λ z. n (q ∙ z)));
      }

  -- the names in a description's uses stand in the text
  named : (d : ℕ) → d < count → Each (NameBehind t) (uses_in (description_at ds d).sayings)
  named d l =
      let f = arrays.stands d l in
      subst (λ ss. Each (NameBehind t) (uses_in ss)) f.sayings
      (uses_behind e t (get_or commas d 0 + 1) f.fields f.read)

  pub graph_listed : 0 < count → graph_of (use_arrays starts places targets count) ≡ uses_of ds
  unfolding uses_of uses_from uses_in
  graph_listed some = fun_ext (λ d. below_or d count (there d) (past d))
    where
      there : (d : ℕ) → d < count → graph_of (use_arrays starts places targets count) d ≡ uses_of ds d
      there d l =
          let few : length ds ≤ 64 = let a = arrays.counted in let b = arrays.few in omega arith in
          let o = arrays.uses.ordered d l in
          let i = inside d l in
          sym (uses_listed t ds few places targets (get_or starts count 0) arrays.leads (placed some)
          (uses_in (description_at ds d).sayings) (get_or starts d 0) (get_or starts (d + 1) 0 - get_or starts d 0)
          (omega arith) (named d l) (arrays.uses.in_order d l))

      past : (d : ℕ) → count ≤ d → graph_of (use_arrays starts places targets count) d ≡ uses_of ds d
      past d l =
          let none : get_or ds d (description 0 [] []) ≡ description 0 [] [] =
          get_or-eq_default ds (description 0 [] []) (let a = arrays.counted in omega arith)
          in
          let z : get_or starts (d + 1) 0 - get_or starts d 0 ≡ 0 =
          let r = arrays.uses.rest (d + 1) (omega arith) in omega arith
          in
          rw (z, none)
