-- Where a level ends: an open level ends at an item of the string, that item is the first of this level that ends it,
-- and passing leads just past it.
-- Assumes nothing.
use mathlib.Core.Path.{◌≡◌, refl, sym, ap, ◌∙◌, subst}
use mathlib.Core.Bool.{Bool, true, false}
use mathlib.Core.List.{List, []}
use Prim.Native.Nat.{ℕ, zero, suc, ◌-◌, ◌≤◌, ◌<◌}
use native.Mathlib.Nat.{not-suc-le-zero}
use native.Mathlib.Omega.{arith}
use lib.ListN.{length}
use Rattle.expansion.specs.declared.Class.{Class}
use Rattle.expansion.specs.declared.Class.TheVariants.{Plain, If, Then, Else, End, Wrong}
use Rattle.expansion.specs.Form.{class_at, Level, Nesting, levels, nesting}
use Rattle.expansion.specs.Machine.{Passing, stops, opens, passing}
use Rattle.item_parts.proofs.Laws.{item_inside}
use Rattle.expansion_laws.specs.Forms.{class_on, form_start}
use Rattle.expansion_laws.specs.Passes.{passed_to}
use Rattle.level_laws.specs.Levels.{Leaves, Leads, here, over, EndsLevel, LevelEnd}
use Rattle.level_laws.specs.Levels.{RightFrom, OpenAt, RightAt}
use Rattle.level_laws.specs.LevelsEnd.{LevelsEnd}
use Rattle.level_laws.proofs.OpenLaws.{right_behind, right_there, open_then, open_else}
use Rattle.level_laws.proofs.OpenLaws.{open_inside, open_go, open_passed, open_stopped}

-- ---- passing at an item, and what the item is to the level

-- no passing both stops and goes on
both : {A : Type 0} {p : Passing} {e : ℕ} → p ≡ stops → p ≡ opens e → A
both q w = absurd (let z : ◌≡◌ {A = ℕ} 0 1 = cc in (let y : ⊥ = omega arith in y))

-- an item that is passed
opens_leaves : (elses : Bool) (c : Class) (d e : ℕ) → passing elses c d ≡ opens e → Leaves c d e
unfolding passing
opens_leaves elses Plain d e p = cc
opens_leaves elses If d e p = cc
opens_leaves elses Then d e p = cc
opens_leaves true Else zero e p = both refl p
opens_leaves false Else zero e p = cc
opens_leaves elses Else (suc d) e p = cc
opens_leaves elses End zero e p = both refl p
opens_leaves elses End (suc d) e p = cc
opens_leaves elses Wrong d e p = cc

leaves_one : (c : Class) (d e f : ℕ) → Leaves c d e → Leaves c d f → e ≡ f
leaves_one Plain d e f l m = omega arith
leaves_one If d e f l m = omega arith
leaves_one Then d e f l m = omega arith
leaves_one Else d e f l m = omega arith
leaves_one End d e f l m = omega arith
leaves_one Wrong d e f l m = omega arith

-- the item at which passing stops
stops_ends : (elses : Bool) (c : Class) (d : ℕ) → passing elses c d ≡ stops → (d ≡ 0) × EndsLevel elses c
unfolding passing
stops_ends elses Plain d p = both p refl
stops_ends elses If d p = both p refl
stops_ends elses Then d p = both p refl
stops_ends true Else zero p = (refl, tt)
stops_ends false Else zero p = both p refl
stops_ends elses Else (suc d) p = both p refl
stops_ends elses End zero p = (refl, tt)
stops_ends elses End (suc d) p = both p refl
stops_ends elses Wrong d p = both p refl

ends_stops : (elses : Bool) (c : Class) → EndsLevel elses c → passing elses c 0 ≡ stops
unfolding passing
ends_stops elses Plain x = absurd x
ends_stops elses If x = absurd x
ends_stops elses Then x = absurd x
ends_stops true Else x = refl
ends_stops false Else x = absurd x
ends_stops elses End x = refl
ends_stops elses Wrong x = absurd x

-- ---- the end of a level

-- items never lead back
leads_on : {s : List ℕ} {q e i d : ℕ} → Leads s q e i d → i ≤ q
leads_on here = omega arith
leads_on {s} (over i d d' h l r) = omega (arith, class_on s i h, leads_on r)

-- from place i on, with d conditionals open inside the level: the level ends at a place, which passing leads just past,
-- and the string is right there
pub record Ended (elses : Bool) (s : List ℕ) (i d : ℕ) : Type 0 where
  pub place : ℕ
  pub inside : place < length s
  pub leads : Leads s place 0 i d
  pub ends : EndsLevel elses (class_at s place).class
  pub first : (q : ℕ) → Leads s q 0 i d → EndsLevel elses (class_at s q).class → place ≤ q
  pub passed : passed_to elses s i d ≡ (class_at s place).next
  pub right : RightAt s (class_at s place).next

-- behind a right item
pub right_next : (s : List ℕ) (i : ℕ) (ls : List Level) → i < length s → RightFrom s i ls
    → RightAt s (class_at s i).next
unfolding class_at
right_next s i ls h r =
    right_behind s i ls r h
    (λ ms q t. record {
      around = ms;
      right = t;
      inside = item_inside s i h (right_there s i ls r h).right;
    })

module _ (elses : Bool) (s : List ℕ) where
  -- where an item is passed, an item that ends the level stands further on
  passed_first : {q i d e p : ℕ} → passing elses (class_at s i).class d ≡ opens e
      → (Leads s q 0 (class_at s i).next e → p ≤ q) → Leads s q 0 i d → EndsLevel elses (class_at s q).class → p ≤ q
  passed_first {q} {i} {d} {e} {p} w f here x = both (ends_stops elses (class_at s q).class x) w
  passed_first {q} {i} {d} {e} {p} w f (over j b d' h l r) x =
      let c = (class_at s i).class in
      f (subst (Leads s q 0 (class_at s i).next) (leaves_one c d d' e l (opens_leaves elses c d e w)) r)

  by_count : (k i d : ℕ) → length s - i < k → OpenAt s i d → Ended elses s i d
  by_count zero i d l o = absurd (not-suc-le-zero l)
  by_count (suc k) i d l o =
      by_passing (passing elses (class_at s i).class d) refl
      (λ e m. by_count k (class_at s i).next e (omega (arith, open_inside o, class_on s i (open_inside o))) m)
    where
      by_passing : (t : Passing) → passing elses (class_at s i).class d ≡ t
          → ((e : ℕ) → OpenAt s (class_at s i).next e → Ended elses s (class_at s i).next e) → Ended elses s i d
      by_passing stops q again =
          let x = stops_ends elses (class_at s i).class d q in
          record {
            place = i;
            inside = open_inside o;
            leads = subst (Leads s i 0 i) (sym x.0) here;
            ends = x.1;
            first = λ q m _. leads_on m;
            passed = open_stopped o elses q;
            right = right_next s i o.around (open_inside o) o.right;
          }
      by_passing (opens e) q again =
          let x = again e (open_go o elses q) in
          record {
            place = x.place;
            inside = x.inside;
            leads = over i d e (open_inside o) (opens_leaves elses (class_at s i).class d e q) x.leads;
            ends = x.ends;
            first = λ p m y. passed_first q (λ n. x.first p n y) m y;
            passed = open_passed o elses q ∙ x.passed;
            right = x.right;
          }

-- an open level ends
pub ended : (elses : Bool) {s : List ℕ} {i d : ℕ} → OpenAt s i d → Ended elses s i d
ended elses {s} {i} {d} o = by_count elses s (suc (length s)) i d (omega arith) o

-- ---- the laws

level_end : {elses : Bool} {s : List ℕ} {i : ℕ} (x : Ended elses s i 0) → LevelEnd elses s i x.place
level_end x =
    record {
      ending = record { inside = x.inside; leads = x.leads; ends = x.ends };
      first = λ q y. x.first q y.leads y.ends;
    }

-- a level is open behind an item if the item leaves one open
behind : (s : List ℕ) (i : ℕ) (ls : List Level) → i < length s → RightFrom s i ls
    → ((ms : List Level) → nesting (class_at s i).class ls ≡ levels ms → 0 < length ms) → OpenAt s (class_at s i).next 0
behind s i ls h r f = right_behind s i ls r h (λ ms q t. record { around = ms; right = t; more = f ms q })

by_class : (ls : List Level) {c k : Class} {n : Nesting} → c ≡ k → nesting c ls ≡ n → nesting k ls ≡ n
by_class ls e q = ap (λ (x : Class). nesting x ls) (sym e) ∙ q

pub levels_end : (s : List ℕ) → LevelsEnd s
levels_end s =
    record {
      ends = λ elses i o. let x = ended elses o in (x.place, level_end x, x.passed);
      one = λ elses i p q x y. let f = x.first q y.ending in let g = y.first p x.ending in omega arith;
      start = λ e. record { around = []; right = sym (form_start s) ∙ e; inside = omega arith };
      on = λ i r h. right_next s i r.around h r.right;
      past = λ elses i o. let x = ended elses o in rw x.passed x.right;
      behind_then = λ i ls h c r. behind s i ls h r (λ ms q. open_then ls ms (by_class ls c q));
      behind_else = λ i ls h c r. behind s i ls h r (λ ms q. open_else ls ms (by_class ls c q));
    }
