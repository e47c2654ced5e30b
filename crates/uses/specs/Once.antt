-- Putting descriptions into a state in which the first stands: one that was put adds nothing when it is put again.
-- Assumes nothing.
use Rattle.std.specs.Prelude.{◌≡◌, refl, ℕ}
use Rattle.std.proofs.Common.{sym, ap, ◌∙◌}
use mathlib.Core.List.{List, [], ◌∷◌, ◌++◌}
use Rattle.base.specs.Tabulate.{Each}

-- all of a list, one after the other
unfoldable pub put_all : {S : Type 0} → (S → ℕ → S) → S → List ℕ → S
put_all put s [] = s
put_all put s (v ∷ vs) = put_all put (put s v) vs

-- what was put adds nothing more, whatever is put after it
pub record FirstStands {S : Type 0} (put : S → ℕ → S) : Type 0 where
  pub once : (s : S) (v : ℕ) → put (put s v) v ≡ put s v
  pub stays : (s : S) (v w : ℕ) → put s v ≡ s → put (put s w) v ≡ put s w

-- ---- laws

pub put_append : {S : Type 0} (put : S → ℕ → S) (s : S) (xs ys : List ℕ)
    → put_all put s (xs ++ ys) ≡ put_all put (put_all put s xs) ys
unfolding put_all
put_append put s [] ys = refl
put_append put s (x ∷ xs) ys = put_append put (put s x) xs ys

-- putting again what was put
pub put_again : {S : Type 0} (put : S → ℕ → S) (s : S) (vs : List ℕ) → Each (λ v. put s v ≡ s) vs → put_all put s vs ≡ s
unfolding put_all
put_again put s [] e = refl
put_again put s (v ∷ vs) e = rw e.0 (put_again put s vs e.1)

module _ {S : Type 0} (put : S → ℕ → S) (law : FirstStands put) where
  pub stays_all : (s : S) (v : ℕ) (ws : List ℕ) → put s v ≡ s → put (put_all put s ws) v ≡ put_all put s ws
  unfolding put_all
  stays_all s v [] e = e
  stays_all s v (w ∷ ws) e = stays_all (put s w) v ws (law.stays s v w e)

-- ---- merging: each description's own states by an operation in which the left stands

module _ {S : Type 0} (over : S → S → S) (nothing : S) (own : ℕ → S)
    (right : (a : S) → over a nothing ≡ a)
    (again : (a b c : S) → over (over (over a b) c) b ≡ over (over a b) c) where
  pub merge_first : FirstStands (λ s v. over s (own v))
  merge_first =
      record {
        once =
            λ s v.
            ap (λ x. over x (own v)) (sym (right (over s (own v))))
            ∙ (again s (own v) nothing ∙ right (over s (own v)));
        stays =
            λ s v w e.
            ap (λ x. over (over x (own w)) (own v)) (sym e)
            ∙ (again s (own v) (own w) ∙ ap (λ x. over x (own w)) e);
      }
