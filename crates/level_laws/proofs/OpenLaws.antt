-- An item of a string whose form is right leaves it right behind itself; and the moves of a walk inside an open level.
-- Assumes nothing.
use mathlib.Core.Path.{◌≡◌, refl, sym, ap, ◌∙◌}
use mathlib.Core.Bool.{Bool, true, false}
use mathlib.Core.List.{List, [], ◌∷◌}
use Prim.Native.Nat.{ℕ, zero, suc, ◌≤◌, ◌<◌}
use native.Mathlib.Nat.{not-suc-le-zero}
use native.Mathlib.Omega.{arith}
use lib.Dec.{ltb}
use lib.ListN.{length}
use Rattle.base.specs.If.{when◌then◌else◌}
use Rattle.base.proofs.IfLaws.{below_or}
use Rattle.expansion.specs.Limits.{nest_most}
use Rattle.expansion.specs.declared.Class.{Class}
use Rattle.expansion.specs.declared.Class.TheVariants.{Plain, If, Then, Else, End, Wrong}
use Rattle.expansion.specs.Form.{class_of, class_at, Level, condition, body, otherwise, Nesting, levels, misplaced}
use Rattle.expansion.specs.Form.{after_if, after_then, after_else, after_end, nesting}
use Rattle.expansion.specs.Machine.{Passing, stops, opens, passing}
use Rattle.item_parts.specs.Right.{RightItem}
use Rattle.expansion_laws.specs.Forms.{form_step, form_end}
use Rattle.expansion_laws.specs.Passes.{passed_to, passed_step}
use Rattle.level_laws.specs.Levels.{RightFrom, OpenAt}

-- ---- what is right from a place on

module _ (s : List ℕ) (i : ℕ) (ls : List Level) (r : RightFrom s i ls) where
  -- an item leaves the string right behind itself
  pub right_go : (ms : List Level) → i < length s → nesting (class_at s i).class ls ≡ levels ms
      → RightFrom s (class_at s i).next ms
  right_go ms h q = sym (rw q at (form_step s i ls h)) ∙ r

  -- no item is misplaced
  pub right_placed : i < length s → nesting (class_at s i).class ls ≡ misplaced → ⊥
  right_placed h q =
      let e = rw q at (form_step s i ls h) in
      let z : ◌≡◌ {A = ℕ} 0 1 = cc in
      omega arith

  -- nor wrong
  pub right_class : i < length s → (class_at s i).class ≡ Wrong → ⊥
  unfolding nesting
  right_class h e = right_placed h (ap (λ (c : Class). nesting c ls) e)

  pub right_there : i < length s → RightItem s i
  unfolding class_at class_of
  right_there h = record { inside = h; right = λ e. right_class h (ap class_of e) }

  -- behind an item that isn't misplaced
  pub right_behind : {A : Type 0} → i < length s
      → ((ms : List Level) → nesting (class_at s i).class ls ≡ levels ms → RightFrom s (class_at s i).next ms → A) → A
  right_behind {A} h f = by_nesting (nesting (class_at s i).class ls) refl
    where
      by_nesting : (n : Nesting) → nesting (class_at s i).class ls ≡ n → A
      by_nesting (levels ms) q = f ms q (right_go ms h q)
      by_nesting misplaced q = absurd (right_placed h q)

-- no conditional is open at the string's end
pub right_end : (s : List ℕ) (i : ℕ) (l : Level) (ls : List Level) → length s ≤ i → RightFrom s i (l ∷ ls) → ⊥
right_end s i l ls h r =
    let e = form_end s i (l ∷ ls) h in
    let z : ◌≡◌ {A = ℕ} 0 1 = cc in
    omega arith

-- ---- how many conditionals an item leaves open

abbrev open_of : Nesting → ℕ
open_of (levels ls) = length ls
open_of misplaced = 0

-- so many are open behind an item
opened : {n : Nesting} {ms : List Level} → n ≡ levels ms → open_of n ≡ length ms
opened q = ap open_of q

not_levels : {A : Type 0} {ms : List Level} → misplaced ≡ levels ms → A
not_levels q = absurd (let z : ◌≡◌ {A = ℕ} 0 1 = cc in (let y : ⊥ = omega arith in y))

not_opens : {A : Type 0} {d : ℕ} → stops ≡ opens d → A
not_opens p = absurd (let z : ◌≡◌ {A = ℕ} 0 1 = cc in (let y : ⊥ = omega arith in y))

abbrev inner_of : Passing → ℕ
inner_of stops = 0
inner_of (opens d) = d

after_if_lem : (b : Bool) (ls ms : List Level) → (when b then levels (condition ∷ ls) else misplaced) ≡ levels ms
    → length ms ≡ suc (length ls)
after_if_lem true ls ms q = sym (opened q)
after_if_lem false ls ms q = not_levels q

after_else_lem : (elses : Bool) (d : ℕ) → (when elses then stops else opens zero) ≡ opens d → d ≡ 0
after_else_lem true d p = not_opens p
after_else_lem false d p = sym (ap inner_of p)

-- an item that leaves the level open leaves more conditionals open than those inside the level
still_open : (elses : Bool) (c : Class) (ls ms : List Level) (d e : ℕ) → nesting c ls ≡ levels ms
    → passing elses c d ≡ opens e → d < length ls → e < length ms
unfolding nesting passing after_if after_then after_else after_end
still_open elses Plain ls ms d e q p h = omega (arith, opened q, ap inner_of p)
still_open elses If ls ms d e q p h = omega (arith, after_if_lem (ltb (length ls) nest_most) ls ms q, ap inner_of p)
still_open elses Then [] ms d e q p h = not_levels q
still_open elses Then (condition ∷ ls) ms d e q p h = omega (arith, opened q, ap inner_of p)
still_open elses Then (body ∷ ls) ms d e q p h = not_levels q
still_open elses Then (otherwise ∷ ls) ms d e q p h = omega (arith, opened q, ap inner_of p)
still_open elses Else [] ms d e q p h = not_levels q
still_open elses Else (condition ∷ ls) ms d e q p h = not_levels q
still_open elses Else (body ∷ ls) ms zero e q p h = omega (arith, opened q, after_else_lem elses e p)
still_open elses Else (body ∷ ls) ms (suc d) e q p h = omega (arith, opened q, ap inner_of p)
still_open elses Else (otherwise ∷ ls) ms d e q p h = not_levels q
still_open elses End [] ms d e q p h = not_levels q
still_open elses End (condition ∷ ls) ms d e q p h = not_levels q
still_open elses End (body ∷ ls) ms zero e q p h = not_opens p
still_open elses End (body ∷ ls) ms (suc d) e q p h = omega (arith, opened q, ap inner_of p)
still_open elses End (otherwise ∷ ls) ms zero e q p h = not_opens p
still_open elses End (otherwise ∷ ls) ms (suc d) e q p h = omega (arith, opened q, ap inner_of p)
still_open elses Wrong ls ms d e q p h = not_levels q

-- a level is open behind `%t` and behind `%e`
pub open_then : (ls ms : List Level) → nesting Then ls ≡ levels ms → 0 < length ms
unfolding nesting after_then
open_then [] ms q = not_levels q
open_then (condition ∷ ls) ms q = omega (arith, opened q)
open_then (body ∷ ls) ms q = not_levels q
open_then (otherwise ∷ ls) ms q = omega (arith, opened q)

pub open_else : (ls ms : List Level) → nesting Else ls ≡ levels ms → 0 < length ms
unfolding nesting after_else
open_else [] ms q = not_levels q
open_else (condition ∷ ls) ms q = not_levels q
open_else (body ∷ ls) ms q = omega (arith, opened q)
open_else (otherwise ∷ ls) ms q = not_levels q

-- ---- the moves inside an open level

module _ {s : List ℕ} {i d : ℕ} (o : OpenAt s i d) where
  -- the string goes on
  pub open_inside : i < length s
  open_inside = below_or i (length s) (λ l. l) (λ l. absurd (none o.around o.right o.more l))
    where
      none : (ls : List Level) → RightFrom s i ls → d < length ls → length s ≤ i → ⊥
      none [] r h l = not-suc-le-zero h
      none (x ∷ ls) r h l = right_end s i x ls l r

  -- with a right item
  pub open_item : RightItem s i
  open_item = right_there s i o.around o.right open_inside

  -- an item that leaves the level open leads on inside it
  pub open_go : (elses : Bool) {e : ℕ} → passing elses (class_at s i).class d ≡ opens e → OpenAt s (class_at s i).next e
  open_go elses {e} p =
      right_behind s i o.around o.right open_inside
      (λ ms q r. record {
        around = ms;
        right = r;
        more = still_open elses (class_at s i).class o.around ms d e q p o.more;
      })

  -- where passing leads
  pub open_passed : (elses : Bool) {e : ℕ} → passing elses (class_at s i).class d ≡ opens e
      → passed_to elses s i d ≡ passed_to elses s (class_at s i).next e
  open_passed elses p = rw p at (passed_step elses s i d open_inside)

  pub open_stopped : (elses : Bool) → passing elses (class_at s i).class d ≡ stops
      → passed_to elses s i d ≡ (class_at s i).next
  open_stopped elses p = rw p at (passed_step elses s i d open_inside)
