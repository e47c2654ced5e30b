-- Laws of lists by their places, and of a property of every element.
-- Assumes nothing.
use mathlib.Core.Path.{◌≡◌, refl, sym, ap, ap₂, subst}
use mathlib.Core.List.{List, [], ◌∷◌, ◌++◌, map}
use Prim.Native.Nat.{ℕ, zero, suc, ◌+◌, ◌<◌, suc-le-suc}
use native.Mathlib.Nat.{not-suc-le-zero, le_of_suc-le-suc, zero-lt-suc}
use native.Mathlib.Omega.{arith}
use lib.ListN.{length, get_or, set, drop, replicate}
use Rattle.base.specs.Tabulate.{tabulate, Each}

pub length_tabulate {ℓ} : {A : Type ℓ} (g : ℕ → A) (n : ℕ) → length (tabulate g n) ≡ n
unfolding tabulate
length_tabulate g zero = refl
length_tabulate g (suc n) = ap suc (length_tabulate (λ i. g (suc i)) n)

pub get_d_tabulate {ℓ} : {A : Type ℓ} (g : ℕ → A) (n i : ℕ) (d : A) → i < n → get_or (tabulate g n) i d ≡ g i
unfolding tabulate
get_d_tabulate g zero i d h = absurd (not-suc-le-zero h)
get_d_tabulate g (suc n) zero d h = refl
get_d_tabulate g (suc n) (suc i) d h = get_d_tabulate (λ j. g (suc j)) n i d (le_of_suc-le-suc h)

pub tabulate_ext {ℓ} : {A : Type ℓ} (g h : ℕ → A) (n : ℕ) → ((i : ℕ) → i < n → g i ≡ h i) → tabulate g n ≡ tabulate h n
unfolding tabulate
tabulate_ext g h zero e = refl
tabulate_ext g h (suc n) e = ap₂ (λ a l. a ∷ l) (e 0 (zero-lt-suc n)) (tabulate_ext (λ i. g (suc i)) (λ i. h (suc i)) n (λ i l. e (suc i) (suc-le-suc l)))

pub tabulate_get_d {ℓ} : {A : Type ℓ} (xs : List A) (d : A) → tabulate (λ i. get_or xs i d) (length xs) ≡ xs
unfolding tabulate
tabulate_get_d [] d = refl
tabulate_get_d (x ∷ xs) d = ap (λ l. x ∷ l) (tabulate_get_d xs d)

-- one element more
pub tabulate_more {ℓ} : {A : Type ℓ} (g : ℕ → A) (n : ℕ) → tabulate g (n + 1) ≡ tabulate g n ++ (g n ∷ [])
unfolding tabulate
tabulate_more g zero = refl
tabulate_more g (suc n) =
    let e : suc n + 1 ≡ suc (n + 1) = omega arith in
    rw e (ap (λ l. g 0 ∷ l) (tabulate_more (λ i. g (suc i)) n))

pub map_append {ℓ} : {A B : Type ℓ} (h : A → B) (xs ys : List A) → map h (xs ++ ys) ≡ map h xs ++ map h ys
map_append h [] ys = refl
map_append h (x ∷ xs) ys = ap (λ l. h x ∷ l) (map_append h xs ys)

pub each_at {ℓ} : {A : Type ℓ} (P : A → Type 0) (xs : List A) (i : ℕ) (d : A) → Each P xs → i < length xs → P (get_or xs i d)
each_at P [] i d e h = absurd (not-suc-le-zero h)
each_at P (x ∷ xs) zero d e h = e.0
each_at P (x ∷ xs) (suc i) d e h = each_at P xs i d e.1 (le_of_suc-le-suc h)

pub each_of {ℓ} : {A : Type ℓ} (P : A → Type 0) (xs : List A) (d : A) → ((i : ℕ) → i < length xs → P (get_or xs i d)) → Each P xs
each_of P [] d h = tt
each_of P (x ∷ xs) d h = (h 0 (zero-lt-suc (length xs)), each_of P xs d (λ i l. h (suc i) (suc-le-suc l)))

pub each_tabulate {ℓ} : {A : Type ℓ} (P : A → Type 0) (g : ℕ → A) (n : ℕ) (d : A) → ((i : ℕ) → i < n → P (g i)) → Each P (tabulate g n)
each_tabulate P g n d h =
    each_of P (tabulate g n) d (λ i l. let m : i < n = rw (length_tabulate g n) at l in subst P (sym (get_d_tabulate g n i d m)) (h i m))

pub each_append : {A : Type 0} (P : A → Type 0) (xs ys : List A) → Each P xs → Each P ys → Each P (xs ++ ys)
each_append P [] ys h w = w
each_append P (x ∷ xs) ys h w = (h.0, each_append P xs ys h.1 w)

pub each_replicate : {A : Type 0} (P : A → Type 0) (n : ℕ) (v : A) → P v → Each P (replicate n v)
each_replicate P zero v w = tt
each_replicate P (suc n) v w = (w, each_replicate P n v w)

pub each_get_d : {A : Type 0} (P : A → Type 0) (xs : List A) (i : ℕ) (d : A) → Each P xs → P d → P (get_or xs i d)
each_get_d P [] i d h w = w
each_get_d P (x ∷ xs) zero d h w = h.0
each_get_d P (x ∷ xs) (suc i) d h w = each_get_d P xs i d h.1 w

pub each_set : {A : Type 0} (P : A → Type 0) (xs : List A) (i : ℕ) (v : A) → Each P xs → P v → Each P (set xs i v)
each_set P [] i v h w = tt
each_set P (x ∷ xs) zero v h w = (w, h.1)
each_set P (x ∷ xs) (suc i) v h w = (h.0, each_set P xs i v h.1 w)

pub each_drop : {A : Type 0} (P : A → Type 0) (n : ℕ) (xs : List A) → Each P xs → Each P (drop n xs)
each_drop P zero xs h = h
each_drop P (suc n) [] h = tt
each_drop P (suc n) (x ∷ xs) h = each_drop P n xs h.1

-- what holds of everything holds of every element
pub each_all : {A : Type 0} (P : A → Type 0) (xs : List A) → ((x : A) → P x) → Each P xs
each_all P [] h = tt
each_all P (x ∷ xs) h = (h x, each_all P xs h)
