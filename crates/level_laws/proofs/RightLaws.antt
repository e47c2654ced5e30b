-- What a run keeps of a string whose form is right: each item that it reaches is right, and a level is open where it
-- passes over items. Where the form is wrong, the place is at most the string's length.
-- Assumes nothing.
use mathlib.Core.Path.{◌≡◌, sym, ap, ◌∙◌}
use mathlib.Core.Bool.{Bool}
use mathlib.Core.List.{List, [], ◌∷◌}
use Prim.Native.Nat.{ℕ, zero, suc, ◌-◌, ◌≤◌, ◌<◌}
use native.Mathlib.Nat.{not-suc-le-zero}
use native.Mathlib.Omega.{arith}
use lib.ListN.{length}
use Rattle.base.proofs.IfLaws.{below_or}
use Rattle.expansion.specs.declared.Item.TheVariants as I
use Rattle.std.specs.Prelude.{Ok, Err}
use Rattle.expansion.specs.Items.{item_at}
use Rattle.expansion.specs.Form.{class_of, class_at, Level, Nesting, levels, misplaced, nesting, form_of}
use Rattle.item_parts.specs.Right.{RightItem}
use Rattle.expansion_laws.specs.Forms.{form_of_rest, form_behind, form_at_end, class_on, form_start, form_step, form_end}
use Rattle.expansion_laws.specs.Passes.{passed_to}
use Rattle.level_laws.specs.Levels.{PastLevel, OpenAt, RightAt}
use Rattle.level_laws.proofs.OpenLaws.{right_there}
use Rattle.level_laws.proofs.Ends.{levels_end}

pub right_start : {s : List ℕ} → form_of s ≡ Ok tt → RightAt s 0
right_start {s} e = (levels_end s).start e

module _ {s : List ℕ} {i : ℕ} (r : RightAt s i) (h : i < length s) where
  pub right_item : RightItem s i
  right_item = right_there s i r.around r.right h

  pub right_on : RightAt s (item_at s i).next
  unfolding class_at
  right_on = (levels_end s).on i r h

  pub right_then : (item_at s i).item ≡ I.Then → OpenAt s (item_at s i).next 0
  unfolding class_at class_of
  right_then e = (levels_end s).behind_then i r.around h (ap class_of e) r.right

  pub right_else : (item_at s i).item ≡ I.Else → OpenAt s (item_at s i).next 0
  unfolding class_at class_of
  right_else e = (levels_end s).behind_else i r.around h (ap class_of e) r.right

-- ---- passing

-- the place just past the level is where passing leads
pub past_passed : {elses : Bool} {s : List ℕ} {i r : ℕ} → OpenAt s i 0 → PastLevel elses s i r
    → r ≡ passed_to elses s i 0
past_passed {elses} {s} {i} {r} o (p, x, e) =
    let y = (levels_end s).ends elses i o in
    e ∙ ap (λ (k : ℕ). (class_at s k).next) ((levels_end s).one elses i p y.0 x y.1) ∙ sym y.2

-- the string is right there
pub passed_right : (elses : Bool) {s : List ℕ} {i : ℕ} → OpenAt s i 0 → RightAt s (passed_to elses s i 0)
passed_right elses {s} {i} o = (levels_end s).past elses i o

-- ---- a string whose form is wrong

wrong_at_end : (s : List ℕ) (ls : List Level) {p : ℕ} → form_at_end s ls ≡ Err p → p ≤ length s
wrong_at_end s [] e = absurd (let z : ◌≡◌ {A = ℕ} 0 1 = cc in (let y : ⊥ = omega arith in y))
wrong_at_end s (l ∷ ls) {p} e = let q : length s ≡ p = cc in omega arith

-- by what is left of the string
wrong_from : (k : ℕ) (s : List ℕ) (i : ℕ) (ls : List Level) {p : ℕ} → length s - i < k → form_of_rest s i ls ≡ Err p
    → p ≤ length s
wrong_from zero s i ls h e = absurd (not-suc-le-zero h)
wrong_from (suc k) s i ls {p} h e =
    below_or i (length s)
    (λ l.
    by_nesting (nesting (class_at s i).class ls) l
    (λ ms. wrong_from k s (class_at s i).next ms (omega (arith, class_on s i l)))
    (sym (form_step s i ls l) ∙ e))
    (λ l. wrong_at_end s ls (sym (form_end s i ls l) ∙ e))
  where
    by_nesting : (n : Nesting) → i < length s
        → ((ms : List Level) → form_of_rest s (class_at s i).next ms ≡ Err p → p ≤ length s)
        → form_behind s i n ≡ Err p → p ≤ length s
    by_nesting (levels ms) l again q = again ms q
    by_nesting misplaced l again q = let u : i ≡ p = cc in omega arith

-- the place that is told is in the string, or its length
pub wrong_inside : (s : List ℕ) {p : ℕ} → form_of s ≡ Err p → p ≤ length s
wrong_inside s e = wrong_from (suc (length s)) s 0 [] (omega arith) (sym (form_start s) ∙ e)
