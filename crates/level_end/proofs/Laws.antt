-- What the walk keeps, and its moves.
-- Assumes nothing.
use mathlib.Core.Path.{◌≡◌, refl, sym, ap, ◌∙◌, subst}
use mathlib.Core.Bool.{Bool, true, false}
use mathlib.Core.List.{List}
use Prim.Native.Nat.{ℕ, zero, suc, ◌-◌, ◌≤◌, ◌<◌}
use native.Mathlib.Omega.{arith}
use Rattle.std.specs.Prelude.{Option, Some, None}
use Rattle.base.specs.If.{when◌then◌else◌}
use Rattle.expansion.specs.declared.Class.{Class}
use Rattle.expansion.specs.declared.Class.TheVariants.{Plain, If, Then, Else, End, Wrong}
use Rattle.expansion.specs.declared.Classed.{Classed}
use Rattle.expansion.specs.Form.{class_at}
use Rattle.expansion.specs.Machine.{Passing, stops, opens, passing}
use Rattle.expansion_laws.specs.Forms.{class_on}
use Rattle.expansion_laws.specs.Passes.{passed_to}
use Rattle.level_laws.specs.Levels.{PastLevel, OpenAt}
use Rattle.level_laws.proofs.OpenLaws.{open_inside, open_go, open_passed, open_stopped}
use Rattle.level_laws.proofs.Ends.{levels_end}
use Rattle.level_end.specs.Turns.{as_turn, turn_of}

-- ---- the code's turn

never : {A : Type 0} {n : ℕ} → None ≡ Some n → A
never e = absurd (let z : ◌≡◌ {A = ℕ} 0 1 = cc in (let y : ⊥ = omega arith in y))

turn_go : (p : Passing) (n : ℕ) → as_turn p ≡ Some n → p ≡ opens n
turn_go stops n e = never e
turn_go (opens d) n e = cc

turn_stop : (p : Passing) → as_turn p ≡ None → p ≡ stops
turn_stop stops e = refl
turn_stop (opens d) e = never (sym e)

pub else_level : (elses : Bool) (d : ℕ) → d ≡ 0 → turn_of elses Else d ≡ (when elses then None else Some d)
unfolding passing
else_level true zero e = refl
else_level false zero e = refl
else_level elses (suc d) e = absurd (let y : ⊥ = omega arith in y)

pub else_inner : (elses : Bool) (d : ℕ) → (d ≡ 0 → ⊥) → turn_of elses Else d ≡ Some d
unfolding passing
else_inner elses zero n = absurd (n refl)
else_inner elses (suc d) n = refl

pub end_level : (elses : Bool) (d : ℕ) → d ≡ 0 → turn_of elses End d ≡ None
unfolding passing
end_level elses zero e = refl
end_level elses (suc d) e = absurd (let y : ⊥ = omega arith in y)

pub end_inner : (elses : Bool) (d : ℕ) → (d ≡ 0 → ⊥) → turn_of elses End d ≡ Some (d - 1)
unfolding passing
end_inner elses zero n = absurd (n refl)
end_inner elses (suc d) n = let e : suc d - 1 ≡ d = omega arith in rw e

-- ---- the walk

abbrev inner_of : Passing → ℕ
inner_of stops = 0
inner_of (opens d) = d

-- an item opens one conditional at most
few_inner : (elses : Bool) (c : Class) (d : ℕ) → inner_of (passing elses c d) ≤ suc d
unfolding passing
few_inner elses Plain d = omega arith
few_inner elses If d = omega arith
few_inner elses Then d = omega arith
few_inner true Else zero = omega arith
few_inner false Else zero = omega arith
few_inner elses Else (suc d) = omega arith
few_inner elses End zero = omega arith
few_inner elses End (suc d) = omega arith
few_inner elses Wrong d = omega arith

-- at place i, with d conditionals open inside the level: the level is open, and passing from here leads where passing
-- from the start does
pub record Along (s : List ℕ) (from : ℕ) (elses : Bool) (i d : ℕ) : Type 0 where
  pub start : OpenAt s from 0
  pub there : OpenAt s i d
  pub same : passed_to elses s from 0 ≡ passed_to elses s i d
  pub few : d ≤ i

pub along_start : (s : List ℕ) (from : ℕ) (elses : Bool) → OpenAt s from 0 → Along s from elses from 0
along_start s from elses o = record { start = o; there = o; same = refl; few = omega arith }

module _ {s : List ℕ} {from : ℕ} {elses : Bool} {i d : ℕ} (a : Along s from elses i d) {k : Classed}
    (q : k ≡ class_at s i) {r : Option ℕ} (e : r ≡ turn_of elses k.class d) where
  next : k.next ≡ (class_at s i).next
  next = ap (λ (x : Classed). x.next) q

  turn : r ≡ turn_of elses (class_at s i).class d
  turn = e ∙ ap (λ (x : Classed). turn_of elses x.class d) q

  pub along_on : i < k.next
  along_on = omega (arith, next, class_on s i (open_inside a.there))

  pub along_go : (n : ℕ) → r ≡ Some n → Along s from elses k.next n
  along_go n u =
      let p : passing elses (class_at s i).class d ≡ opens n = turn_go _ n (sym turn ∙ u) in
      rw next
      (record {
        start = a.start;
        there = open_go a.there elses p;
        same = a.same ∙ open_passed a.there elses p;
        few = omega (arith, ap inner_of p, few_inner elses (class_at s i).class d, a.few, next, along_on);
      })

  pub along_stop : r ≡ None → PastLevel elses s from k.next
  along_stop u =
      let p : passing elses (class_at s i).class d ≡ stops = turn_stop _ (sym turn ∙ u) in
      let t : passed_to elses s from 0 ≡ k.next = a.same ∙ open_stopped a.there elses p ∙ sym next in
      subst (PastLevel elses s from) t ((levels_end s).ends elses from a.start)
