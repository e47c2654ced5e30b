-- Searches of a header's names: the bytes of two names, the next bar, the names from a place on.
-- Assumes nothing.
use mathlib.Core.Path.{◌≡◌, refl, sym, ap, ◌∙◌}
use mathlib.Core.Bool.{Bool, true, false, ◌&&◌, ◌||◌}
use mathlib.Core.List.{List, [], ◌∷◌}
use Prim.Native.Nat.{ℕ, ◌+◌, ◌-◌}
use native.Mathlib.Omega.{arith}
use lib.Dec.{eqb}
use lib.ListN.{length, take, drop, length-drop}
use Rattle.std.proofs.lemmas.List.{take_all}
use Rattle.std.specs.Cmp.Lexicographic.{pointwise}
use Rattle.base.specs.If.{when◌then◌else◌}
use Rattle.names.specs.Names.{on_first, parted}
use Rattle.names.specs.Lookup.{same_bytes}
use Rattle.text.specs.Heading.{names_in}
use Rattle.text.specs.Building.{all_but_last, is_among}
use Rattle.text_laws.specs.HeadingLaws.{parted_bar, parted_last}
use Rattle.use_names.specs.Searched.{BarOf}
use Rattle.std.specs.Prelude.{Some, None}

-- ---- the bytes of two names

pub bytes_same : (a b : List ℕ) → pointwise eqb a b ≡ same_bytes a b
unfolding same_bytes
bytes_same [] [] = refl
bytes_same [] (y ∷ b) = refl
bytes_same (x ∷ a) [] = refl
bytes_same (x ∷ a) (y ∷ b) = ap (λ u. eqb x y && u) (bytes_same a b)

-- ---- the names that are left

-- there is a name
abbrev pub HasFirst : List (List ℕ) → Type 0
HasFirst ns = (m : List ℕ) × (ms : List (List ℕ)) × (ns ≡ m ∷ ms)

pub names_some : (s : List ℕ) → HasFirst (names_in s)
unfolding parted
names_some [] = ([], [], refl)
names_some (b ∷ s) = by_test (eqb b 124) (names_some s)
  where
    by_test : (u : Bool) → HasFirst (names_in s) → HasFirst (when u then [] ∷ names_in s else on_first b (names_in s))
    by_test true r = ([], names_in s, refl)
    by_test false r = (b ∷ r.0, r.1, rw r.2)

among_first : (n m : List ℕ) (ms : List (List ℕ)) → HasFirst ms
    → is_among n (all_but_last (m ∷ ms)) ≡ (same_bytes n m || is_among n (all_but_last ms))
unfolding is_among all_but_last
among_first n m ms r = rw r.2

-- the name n is one of those left in s but the last
abbrev pub is_left : List ℕ → List ℕ → Bool
is_left n s = is_among n (all_but_last (names_in s))

module _ (n s : List ℕ) where
  -- the last name
  pub left_last : BarOf s None → is_left n s ≡ false
  unfolding is_among all_but_last
  left_last b = ap (λ ns. is_among n (all_but_last ns)) (parted_last s 0 b)

  module _ (e : ℕ) (b : BarOf s (Some e)) where
    -- the name that the bar ends, and those behind it
    left_bar : is_left n s ≡ (same_bytes n (take e s) || is_left n (drop (e + 1) s))
    left_bar =
        let z : e - 0 ≡ e = omega arith in
        ap (λ ns. is_among n (all_but_last ns)) (rw z at (parted_bar s 0 e (omega arith) b.0 b.1.1 b.1.0))
        ∙ among_first n (take e s) (names_in (drop (e + 1) s)) (names_some (drop (e + 1) s))

    -- the name is compared with some bytes, which are those up to the bar
    module _ (m : List ℕ) (q : m ≡ take e s) where
      pub left_hit : pointwise eqb n m ≡ true → is_left n s ≡ true
      left_hit h =
          left_bar
          ∙ ap (λ u. u || is_left n (drop (e + 1) s)) (ap (same_bytes n) (sym q) ∙ sym (bytes_same n m) ∙ h)

      pub left_pass : pointwise eqb n m ≡ false
          → is_left n (take (length s - (e + 1)) (drop (e + 1) s)) ≡ is_left n s
      left_pass h =
          rw (take_all (length s - (e + 1)) (drop (e + 1) s) (rw (length-drop (e + 1) s) (omega arith)))
          (sym (left_bar
          ∙ ap (λ u. u || is_left n (drop (e + 1) s)) (ap (same_bytes n) (sym q) ∙ sym (bytes_same n m) ∙ h)))
