-- Laws of the name of a temporary file.
-- Assumes nothing.
use mathlib.Core.Path.{◌≡◌, refl, ap, ◌∙◌}
use mathlib.Core.List.{List, ◌++◌, append_assoc}
use Prim.Native.Nat.{ℕ, zero, suc, ◌+◌, ◌-◌, ◌≤◌, ◌<◌}
use native.Mathlib.Omega.{arith}
use lib.ListN.{length, get_or, take, drop, length-append}
use lib.Seq.{take_at}
use borrow.Author.Tests.{eq-eqb, ne_eqb}
use Rattle.io.specs.Counts.{IsPrefixLen}
use Rattle.base.specs.Overwrite.{put_at}
use Rattle.base.proofs.OverwriteLaws.{length_put, put_front, put_run}
use Rattle.names.specs.Names.{ascii}
use Rattle.beside.specs.Beside.{folder_in, beside}
use Rattle.shown.proofs.PutsLaws.{counted}

-- ---- the last slash

-- no slash stands from a place on
pub folder_stays : (p : List ℕ) (i n : ℕ) → ((k : ℕ) → i ≤ k → k < i + n → get_or p k 0 ≡ 47 → ⊥) → folder_in p i ≡ folder_in p (i + n)
unfolding folder_in
folder_stays p i zero h = ap (folder_in p) (omega arith)
folder_stays p i (suc n) h =
    let e : i + suc n ≡ suc (i + n) = omega arith in
    rw (e, ne_eqb (get_or p (i + n) 0) 47 (h (i + n) (omega arith) (omega arith))) (folder_stays p i n (λ k l m. h k l (omega arith)))

-- the place i has the last slash
pub folder_at : (p : List ℕ) (i : ℕ) → i < length p → get_or p i 0 ≡ 47 → ((k : ℕ) → i + 1 ≤ k → k < length p → get_or p k 0 ≡ 47 → ⊥)
    → i + 1 ≡ folder_in p (length p)
unfolding folder_in
folder_at p i l e h =
    let n : ℕ = length p - (i + 1) in
    let q : (i + 1) + n ≡ length p = omega arith in
    let s : i + 1 ≡ suc i = omega arith in
    let here : i + 1 ≡ folder_in p (i + 1) = rw (s, eq-eqb (get_or p i 0) 47 e) refl in
    here ∙ folder_stays p (i + 1) n (λ k a b. h k a (omega arith)) ∙ ap (folder_in p) q

-- no place has one
pub folder_none : (p : List ℕ) → ((k : ℕ) → k < length p → get_or p k 0 ≡ 47 → ⊥) → 0 ≡ folder_in p (length p)
unfolding folder_in
folder_none p h = folder_stays p 0 (length p) (λ k a b. h k (omega arith)) ∙ ap (folder_in p) (omega arith)

pub name_made : (path number b b₁ b₂ b₃ : List ℕ) (end : ℕ) → end ≡ folder_in path (length path) → IsPrefixLen end path → length path + length number + 4 ≤ length b
    → b₁ ≡ put_at b 0 (take end path) → b₂ ≡ put_at b₁ end (ascii ".ti-") → b₃ ≡ put_at b₂ (end + 4) number
    → (take (end + 4 + length number) b₃ ≡ beside path number) × IsPrefixLen (end + 4 + length number) b₃
unfolding beside ascii
name_made path number b b₁ b₂ b₃ end e k h e₁ e₂ e₃ =
    let f : List ℕ = take end path in
    let g : List ℕ = f ++ ascii ".ti-" in
    let x : List ℕ = g ++ number in
    let n : length g ≡ end + 4 = length-append f (ascii ".ti-") ∙ omega arith in
    let m : length x ≡ end + 4 + length number = length-append g number ∙ ap (λ (j : ℕ). j + length number) n in
    let p₂ : b₂ ≡ put_at b 0 g = e₂ ∙ put_run b b₁ 0 end f (ascii ".ti-") g e₁ (omega arith) refl (omega arith) in
    let p₃ : b₃ ≡ put_at b 0 x = e₃ ∙ put_run b b₂ 0 (end + 4) g number x p₂ (omega arith) refl (omega arith) in
    let q : b₃ ≡ x ++ drop (length x) b = p₃ ∙ put_front b x in
    let l : length b₃ ≡ length b = ap length p₃ ∙ length_put b 0 x (omega arith) in
    (ap (take (end + 4 + length number)) q ∙ take_at x (drop (length x) b) (end + 4 + length number) m ∙ append_assoc f (ascii ".ti-") number ∙ ap (λ (j : ℕ). take j path ++ (ascii ".ti-" ++ number)) e, counted (end + 4 + length number) b₃ (omega arith))
