-- The form of a string: any count above what is left of it gives the same, and the equations, which show no count.
-- Assumes nothing.
use Rattle.std.specs.Prelude.{◌≡◌, Ok, Err}
use Rattle.std.proofs.Math.Path.{refl}
use Rattle.std.proofs.Common.{sym, ◌∙◌, not-suc-le-zero, arith}
use mathlib.Core.List.{List, [], ◌∷◌}
use Prim.Native.Nat.{ℕ, zero, suc, ◌-◌, ◌≤◌, ◌<◌}
use Rattle.std.proofs.Math.ListN.{length}
use borrow.Author.Tests.{lt-ltb, le-ltb}
use Rattle.base.proofs.IfLaws.{below_or}
use Rattle.expansion.specs.Form.{Form, class_at, Level, Nesting, levels, misplaced, nesting, form_from, form_of}
use Rattle.item_parts.proofs.Laws.{item_on}

-- the form of what is left of a string from place i on, with these conditionals open
unfoldable pub form_of_rest : List ℕ → ℕ → List Level → Form
form_of_rest s i ls = form_from (suc (length s - i)) s i ls

-- the form behind the item at i, by what it does to the open conditionals
abbrev pub form_behind : List ℕ → ℕ → Nesting → Form
form_behind s i (levels ls) = form_of_rest s (class_at s i).next ls
form_behind s i misplaced = Err i

-- the form at the string's end, where no conditional may be open
abbrev pub form_at_end : List ℕ → List Level → Form
form_at_end s [] = Ok tt
form_at_end s (l ∷ ls) = Err (length s)

-- an item leads on
pub class_on : (s : List ℕ) (i : ℕ) → i < length s → i < (class_at s i).next
unfolding class_at
class_on s i h = item_on s i h

-- ---- steps with a count

module _ (k : ℕ) (s : List ℕ) (i : ℕ) (ls : List Level) (h : i < length s) where
  form_levels : (ls' : List Level) → nesting (class_at s i).class ls ≡ levels ls'
      → form_from (suc k) s i ls ≡ form_from k s (class_at s i).next ls'
  unfolding form_from
  form_levels ls' q = rw (form_from, lt-ltb i (length s) h, q)

  form_misplaced : nesting (class_at s i).class ls ≡ misplaced → form_from (suc k) s i ls ≡ Err i
  unfolding form_from
  form_misplaced q = rw (form_from, lt-ltb i (length s) h, q)

form_ended : (k : ℕ) (s : List ℕ) (i : ℕ) (ls : List Level) → length s ≤ i → form_from (suc k) s i ls ≡ form_at_end s ls
unfolding form_from
form_ended k s i [] h = rw (form_from, le-ltb i (length s) h)
form_ended k s i (l ∷ ls) h = rw (form_from, le-ltb i (length s) h)

-- two counts that are enough
form_same : (f g : ℕ) (s : List ℕ) (i : ℕ) (ls : List Level) → length s - i < f → length s - i < g
    → form_from f s i ls ≡ form_from g s i ls
form_same zero g s i ls p q = absurd (not-suc-le-zero p)
form_same (suc f) zero s i ls p q = absurd (not-suc-le-zero q)
form_same (suc f) (suc g) s i ls p q =
    below_or i (length s)
    (λ l.
    let on = class_on s i l in
    by_nesting (nesting (class_at s i).class ls) refl l
    (λ ms. form_same f g s (class_at s i).next ms (omega (arith, on)) (omega (arith, on))))
    (λ l. form_ended f s i ls l ∙ sym (form_ended g s i ls l))
  where
    by_nesting : (n : Nesting) → nesting (class_at s i).class ls ≡ n → i < length s
        → ((ms : List Level) → form_from f s (class_at s i).next ms ≡ form_from g s (class_at s i).next ms)
        → form_from (suc f) s i ls ≡ form_from (suc g) s i ls
    by_nesting (levels ms) e l again = form_levels f s i ls l ms e ∙ again ms ∙ sym (form_levels g s i ls l ms e)
    by_nesting misplaced e l again = form_misplaced f s i ls l e ∙ sym (form_misplaced g s i ls l e)

-- ---- the laws

module _ (s : List ℕ) where
  pub form_enough : (k i : ℕ) (ls : List Level) → length s - i < k → form_from k s i ls ≡ form_of_rest s i ls
  unfolding form_of_rest
  form_enough k i ls h = form_same k (suc (length s - i)) s i ls (omega arith) (omega arith)

  pub form_start : form_of s ≡ form_of_rest s 0 []
  unfolding form_of
  form_start = form_enough (suc (length s)) 0 [] (omega arith)

  -- for the whole string its length and one is enough
  pub form_of_lem : (k : ℕ) → length s < k → form_from k s 0 [] ≡ form_of s
  form_of_lem k h = form_enough k 0 [] (omega arith) ∙ sym form_start

  module _ (i : ℕ) (ls : List Level) where
    -- an item
    pub form_step : i < length s → form_of_rest s i ls ≡ form_behind s i (nesting (class_at s i).class ls)
    unfolding form_of_rest
    form_step h = by_nesting (nesting (class_at s i).class ls) refl
      where
        left : ℕ
        left = length s - i

        by_nesting : (n : Nesting) → nesting (class_at s i).class ls ≡ n
            → form_from (suc left) s i ls ≡ form_behind s i n
        by_nesting (levels ms) e =
            form_levels left s i ls h ms e ∙ form_enough left (class_at s i).next ms (omega (arith, class_on s i h))
        by_nesting misplaced e = form_misplaced left s i ls h e

    -- the string's end
    pub form_end : length s ≤ i → form_of_rest s i ls ≡ form_at_end s ls
    unfolding form_of_rest
    form_end h = form_ended (length s - i) s i ls h
