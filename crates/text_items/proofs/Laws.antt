-- When an item is `%s`: where its first byte is `%` and its second `s`.
-- Assumes nothing.
use mathlib.Core.Path.{◌≡◌, refl, ◌∙◌}
use mathlib.Core.Bool.{Bool, true, false, ◌&&◌, not}
use mathlib.Core.List.{List, [], ◌∷◌}
use mathlib.Core.Logic.{◌⊎◌, inl, inr, ⊎_elim}
use Prim.Native.Nat.{ℕ, ◌+◌, ◌-◌, ◌≤◌, ◌<◌}
use Prim.Native.Char.{code}
use native.Mathlib.Omega.{arith}
use lib.Dec.{eqb, leb}
use lib.ListN.{length, take, drop}
use borrow.Author.Tests.{eqb-true}
use Rattle.base.proofs.IfLaws.{if_both}
use Rattle.base.specs.Tabulate.{Each}
use Rattle.expansion.specs.Limits.{constant_most}
use Rattle.expansion.specs.declared.Item.{Item}
use Rattle.expansion.specs.declared.Lexed.{Lexed}
use Rattle.expansion.specs.Items.{byte_at, is_digit, is_nonzero, is_letter, singles, found, argument_at, quoted_at}
use Rattle.expansion.specs.Items.{decimal, digits_end, braced_at, store_at, load_at, format_at, width_at, percent_at, item_at}
use Rattle.expansion.specs.declared.Classed.{Classed}
use Rattle.expansion.specs.Form.{class_at}
use Rattle.expansion.specs.Counting.{count_of, prints_text}
use Rattle.expansion_laws.specs.Counts.{count_one, count_of_rest, count_step}

-- an item that is not `%s`
abbrev Other : Lexed → Type 0
Other l = prints_text l.item ≡ false

format_other : (s : List ℕ) (k : ℕ) (zeros : Bool) (width : ℕ) → Other (format_at s k zeros width)
unfolding format_at prints_text
format_other s k zeros width =
    if_both Other (eqb (byte_at s k) (code "d")) (λ _. refl)
    (λ _. if_both Other (eqb (byte_at s k) (code "o")) (λ _. refl)
    (λ _. if_both Other (eqb (byte_at s k) (code "x")) (λ _. refl)
    (λ _. if_both Other (eqb (byte_at s k) (code "X")) (λ _. refl) (λ _. refl))))

width_other : (s : List ℕ) (k : ℕ) (zeros : Bool) → Other (width_at s k zeros)
unfolding width_at prints_text
width_other s k zeros =
    if_both Other (not (is_nonzero (byte_at s k))) (λ _. refl)
    (λ _. if_both Other (is_digit (byte_at s (k + 1))) (λ _. format_other s (k + 2) zeros _)
    (λ _. format_other s (k + 1) zeros _))

-- of the items that are `%` and one more byte only that of `s`
found_other : (ps : List (ℕ × Item)) (c : ℕ)
    → Each (λ (p : ℕ × Item). (p.0 ≡ code "s") ⊎ (prints_text p.1 ≡ false)) ps → (c ≡ code "s" → ⊥)
    → prints_text (found ps c) ≡ false
unfolding found prints_text
found_other [] c h n = refl
found_other (p ∷ ps) c h n =
    if_both (λ (x : Item). prints_text x ≡ false) (eqb c p.0)
    (λ e. ⊎_elim (λ q. absurd (n (eqb-true c p.0 e ∙ q))) (λ q. q) h.0)
    (λ _. found_other ps c h.1 n)

single_other : (c : ℕ) → (c ≡ code "s" → ⊥) → prints_text (found singles c) ≡ false
unfolding singles prints_text
single_other c n =
    found_other singles c (
      inr refl,
      (
        inr refl,
        (
          inl refl,
          (
            inr refl,
            (
              inr refl,
              (
                inr refl,
                (
                  inr refl,
                  (
                    inr refl,
                    (
                      inr refl,
                      (
                        inr refl,
                        (
                          inr refl,
                          (
                            inr refl,
                            (
                              inr refl,
                              (
                                inr refl,
                                (
                                  inr refl,
                                  (
                                    inr refl,
                                    (
                                      inr refl,
                                      (
                                        inr refl,
                                        (
                                          inr refl,
                                          (
                                            inr refl,
                                            (inr refl, (inr refl, (inr refl, (inr refl, (inr refl, (inr refl, (inr refl, (inr refl, tt)))))))),
                                          ),
                                        ),
                                      ),
                                    ),
                                  ),
                                ),
                              ),
                            ),
                          ),
                        ),
                      ),
                    ),
                  ),
                ),
              ),
            ),
          ),
        ),
      ),
    )
    n

module _ (s : List ℕ) (j : ℕ) where
  argument_other : Other (argument_at s j)
  unfolding argument_at prints_text
  argument_other = if_both Other (is_nonzero (byte_at s (j + 1))) (λ _. refl) (λ _. refl)

  quoted_other : Other (quoted_at s j)
  unfolding quoted_at prints_text
  quoted_other =
      if_both Other (not (eqb (byte_at s (j + 1)) 0) && eqb (byte_at s (j + 2)) (code "'")) (λ _. refl) (λ _. refl)

  braced_other : Other (braced_at s j)
  unfolding braced_at prints_text
  braced_other =
      let e : ℕ = digits_end s (j + 1) in
      let v : ℕ = decimal 0 (take (e - (j + 1)) (drop (j + 1) s)) in
      let closed : Bool = eqb (byte_at s e) (code "}") in
      if_both Other (is_digit (byte_at s (j + 1)) && (closed && leb v constant_most)) (λ _. refl) (λ _. refl)

  store_other : Other (store_at s j)
  unfolding store_at prints_text
  store_other = if_both Other (is_letter (byte_at s (j + 1))) (λ _. refl) (λ _. refl)

  load_other : Other (load_at s j)
  unfolding load_at prints_text
  load_other = if_both Other (is_letter (byte_at s (j + 1))) (λ _. refl) (λ _. refl)

  percent_other : (byte_at s j ≡ code "s" → ⊥) → Other (percent_at s j)
  unfolding percent_at
  percent_other n =
      if_both Other (eqb (byte_at s j) (code "p")) (λ _. argument_other)
      (λ _. if_both Other (eqb (byte_at s j) (code "'")) (λ _. quoted_other)
      (λ _. if_both Other (eqb (byte_at s j) (code "{")) (λ _. braced_other)
      (λ _. if_both Other (eqb (byte_at s j) (code "P")) (λ _. store_other)
      (λ _. if_both Other (eqb (byte_at s j) (code "g")) (λ _. load_other)
      (λ _. if_both Other (eqb (byte_at s j) (code "0")) (λ _. width_other s (j + 1) true)
      (λ _. if_both Other (is_nonzero (byte_at s j)) (λ _. width_other s j false)
      (λ _. single_other (byte_at s j) n)))))))

module _ (s : List ℕ) (i : ℕ) where
  item_other : (byte_at s i ≡ code "%" → ⊥) → Other (item_at s i)
  unfolding item_at prints_text
  item_other n =
      if_both Other (eqb (byte_at s i) 0) (λ _. refl)
      (λ _. if_both Other (eqb (byte_at s i) (code "%")) (λ e. absurd (n (eqb-true (byte_at s i) (code "%") e))) (λ _. refl))

  pub byte_none : (byte_at s i ≡ code "%" → ⊥) → 0 ≡ count_one prints_text s i
  byte_none n = rw (item_other n)

  pub percent_none : byte_at s i ≡ code "%" → (byte_at s (i + 1) ≡ code "s" → ⊥) → 0 ≡ count_one prints_text s i
  unfolding item_at
  percent_none p n = rw (p, percent_other s (i + 1) n)

  pub percent_one : byte_at s i ≡ code "%" → byte_at s (i + 1) ≡ code "s" → 1 ≡ count_one prints_text s i
  unfolding item_at percent_at singles found prints_text
  percent_one p q = rw (p, q)

-- ---- the loop: what is counted, and what is left

pub one_most : (s : List ℕ) (i : ℕ) → count_one prints_text s i ≤ 1
one_most s i = if_both (λ (n : ℕ). n ≤ 1) (prints_text (item_at s i).item) (λ _. omega arith) (λ _. omega arith)

-- an item further on
pub counted_on : (s : List ℕ) (i n m : ℕ) (l : Classed) → i < length s → m ≡ count_one prints_text s i → l ≡ class_at s i
    → count_of prints_text s ≡ n + count_of_rest prints_text s i
    → count_of prints_text s ≡ n + m + count_of_rest prints_text s l.next
unfolding class_at
counted_on s i n m l h e q r = rw q (omega (arith, r, e, count_step prints_text s i h))
