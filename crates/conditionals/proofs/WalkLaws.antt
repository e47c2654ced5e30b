-- Laws of the form of what is left of a string: its steps, that it gives the form of the whole string, and that the number kept stays small.
-- Assumes nothing.
use mathlib.Core.Path.{◌≡◌, refl, sym, ap, ◌∙◌}
use mathlib.Core.Bool.{Bool, true, false}
use mathlib.Core.List.{List, [], ◌∷◌}
use Prim.Native.Nat.{ℕ, zero, suc, ◌+◌, ◌-◌, ◌*◌, ◌%◌, ◌^◌, ◌≤◌, ◌<◌}
use native.Mathlib.Nat.{pow-suc, not-suc-le-zero, le_of_suc-le-suc}
use native.Mathlib.Omega.{arith}
use Rattle.std.specs.Prelude.{Result, Ok, Err}
use lib.Dec.{eqb, ltb}
use lib.ListN.{length}
use borrow.Author.Tests.{lt-ltb, le-ltb, ltb-true, eq-eqb, ne_eqb, eqb-true}
use Rattle.base.specs.If.{when◌then◌else◌}
use Rattle.base.proofs.IfLaws.{below_or}
use Rattle.expansion.specs.declared.Class.{Class}
use Rattle.expansion.specs.declared.Class.TheVariants.{Plain, If, Then, Else, End, Wrong}
use Rattle.expansion.specs.Form.{class_at, Level, condition, body, otherwise, Nesting, levels, misplaced, after_if, after_then, after_else, after_end, nesting, form_from, form_of}
use Rattle.expansion_laws.specs.Forms.{class_on}
use Rattle.conditionals.specs.Walk.{nested_most, nested, checked, form_left}

-- ---- the steps of the check

checked_go : (f : ℕ) (s : List ℕ) (i k k' : ℕ) → i < length s → nested (class_at s i).class k ≡ Ok k' → checked (suc f) s i k ≡ checked f s (class_at s i).next k'
unfolding checked
checked_go f s i k k' h q = rw (checked, lt-ltb i (length s) h, q)

checked_stop : (f : ℕ) (s : List ℕ) (i k : ℕ) → i < length s → nested (class_at s i).class k ≡ Err tt → checked (suc f) s i k ≡ Err i
unfolding checked
checked_stop f s i k h q = rw (checked, lt-ltb i (length s) h, q)

checked_end : (f : ℕ) (s : List ℕ) (i k : ℕ) → length s ≤ i → checked (suc f) s i k ≡ (when eqb k 0 then Ok tt else Err (length s))
unfolding checked
checked_end f s i k h = rw (checked, le-ltb i (length s) h)

-- a count that is enough may be larger
checked_more : (n : ℕ) (s : List ℕ) (i k : ℕ) → length s - i < n → checked n s i k ≡ checked (suc n) s i k
checked_more zero s i k h = absurd (not-suc-le-zero h)
checked_more (suc n) s i k h =
    below_or i (length s)
    (λ l. by_turn (nested (class_at s i).class k) refl l (λ k'. checked_more n s (class_at s i).next k' (omega (arith, class_on s i l))))
    (λ l. checked_end n s i k l ∙ sym (checked_end (suc n) s i k l))
  where
    by_turn : (t : Result ℕ (Unit {0})) → nested (class_at s i).class k ≡ t → i < length s → ((k' : ℕ) → checked n s (class_at s i).next k' ≡ checked (suc n) s (class_at s i).next k')
        → checked (suc n) s i k ≡ checked (suc (suc n)) s i k
    by_turn (Ok k') q l ih = checked_go n s i k k' l q ∙ ih k' ∙ sym (checked_go (suc n) s i k k' l q)
    by_turn (Err e) q l ih = checked_stop n s i k l q ∙ sym (checked_stop (suc n) s i k l q)

pub left_go : (s : List ℕ) (i k k' : ℕ) → i < length s → nested (class_at s i).class k ≡ Ok k' → form_left s i k ≡ form_left s (class_at s i).next k'
left_go s i k k' h q =
    checked_go (length s) s i k k' h q ∙ checked_more (length s) s (class_at s i).next k' (omega (arith, class_on s i h))

pub left_stop : (s : List ℕ) (i k : ℕ) → i < length s → nested (class_at s i).class k ≡ Err tt → form_left s i k ≡ Err i
left_stop s i k h q = checked_stop (length s) s i k h q

pub left_end : (s : List ℕ) (i k : ℕ) → length s ≤ i → form_left s i k ≡ (when eqb k 0 then Ok tt else Err (length s))
left_end s i k h = checked_end (length s) s i k h

-- ---- the number kept stays small

abbrev kept_of : Result ℕ (Unit {0}) → ℕ
kept_of (Err e) = 0
kept_of (Ok k) = k

kept_if : (n : ℕ) (b : Bool) (x y : Result ℕ (Unit {0})) → (b ≡ true → kept_of x ≤ n) → (b ≡ false → kept_of y ≤ n) → kept_of (when b then x else y) ≤ n
kept_if n true x y p q = p refl
kept_if n false x y p q = q refl

kept_go : (n k : ℕ) (t : Result ℕ (Unit {0})) → kept_of t ≤ n → t ≡ Ok k → k ≤ n
kept_go n k t h q = let p : kept_of t ≡ k = ap kept_of q in rw (← p) h

kept_most : (c : Class) (k : ℕ) → k ≤ nested_most → kept_of (nested c k) ≤ nested_most
unfolding nested
kept_most Plain k b = b
kept_most If k b = kept_if nested_most (ltb k 1073741824) _ _ (λ q. omega (arith, ltb-true k 1073741824 q)) (λ q. omega arith)
kept_most Then k b = kept_if nested_most (eqb (k % 2) 1) _ _ (λ q. omega arith) (λ q. omega arith)
kept_most Else k b = kept_if nested_most (eqb (k % 4) 2) _ _ (λ q. omega (arith, eqb-true (k % 4) 2 q)) (λ q. omega arith)
kept_most End k b = kept_if nested_most (ltb (k % 4) 2) _ _ (λ q. omega arith) (λ q. omega arith)
kept_most Wrong k b = omega arith

pub nested_most_lem : (c : Class) (k k' : ℕ) → k ≤ nested_most → nested c k ≡ Ok k' → k' ≤ nested_most
nested_most_lem c k k' b q = kept_go nested_most k' (nested c k) (kept_most c k b) q

-- ---- the number kept is the open conditionals of form_from

-- the open conditionals as a number, two bits each
unfoldable code : List Level → ℕ
code [] = 0
code (condition ∷ ls) = code ls * 4 + 1
code (body ∷ ls) = code ls * 4 + 2
code (otherwise ∷ ls) = code ls * 4 + 3

code_cons : (l : Level) (ls : List Level) → (code ls * 4 < code (l ∷ ls)) × (code (l ∷ ls) < code ls * 4 + 4)
unfolding code
code_cons condition ls = omega arith
code_cons body ls = omega arith
code_cons otherwise ls = omega arith

code_below : (n : ℕ) (ls : List Level) → length ls ≤ n → code ls < 4 ^ n
unfolding code
code_below zero [] h = omega arith
code_below (suc n) [] h = omega (arith, code_below n [] (omega arith), pow-suc 4 n)
code_below zero (l ∷ ls) h = absurd (not-suc-le-zero h)
code_below (suc n) (l ∷ ls) h = omega (arith, code_cons l ls, code_below n ls (le_of_suc-le-suc h), pow-suc 4 n)

code_above : (n : ℕ) (ls : List Level) → n < length ls → 4 ^ n ≤ code ls
code_above n [] h = absurd (not-suc-le-zero h)
code_above zero (l ∷ ls) h = omega (arith, code_cons l ls)
code_above (suc n) (l ∷ ls) h = omega (arith, code_cons l ls, code_above n ls (le_of_suc-le-suc h), pow-suc 4 n)

abbrev nesting_turn : Nesting → Result ℕ (Unit {0})
nesting_turn (levels ls) = Ok (code ls)
nesting_turn misplaced = Err tt

nested_if : (ls : List Level) → nested If (code ls) ≡ nesting_turn (after_if ls)
unfolding nested after_if code
nested_if ls =
    below_or (length ls) 16
    (λ h. rw (lt-ltb (length ls) 16 h, lt-ltb (code ls) 1073741824 (code_below 15 ls (omega arith))))
    (λ h. rw (le-ltb (length ls) 16 h, le-ltb (code ls) 1073741824 (code_above 15 ls (omega arith))))

nested_nesting : (c : Class) (ls : List Level) → nested c (code ls) ≡ nesting_turn (nesting c ls)
unfolding nested nesting after_then after_else after_end code
nested_nesting Plain ls = refl
nested_nesting If ls = nested_if ls
nested_nesting Then [] = refl
nested_nesting Then (condition ∷ ls) = rw (eq-eqb ((code ls * 4 + 1) % 2) 1 (omega arith)) (ap Ok (omega arith))
nested_nesting Then (body ∷ ls) = rw (ne_eqb ((code ls * 4 + 2) % 2) 1 (λ q. omega arith))
nested_nesting Then (otherwise ∷ ls) = rw (eq-eqb ((code ls * 4 + 3) % 2) 1 (omega arith)) (ap Ok (omega arith))
nested_nesting Else [] = refl
nested_nesting Else (condition ∷ ls) = rw (ne_eqb ((code ls * 4 + 1) % 4) 2 (λ q. omega arith))
nested_nesting Else (body ∷ ls) = rw (eq-eqb ((code ls * 4 + 2) % 4) 2 (omega arith)) (ap Ok (omega arith))
nested_nesting Else (otherwise ∷ ls) = rw (ne_eqb ((code ls * 4 + 3) % 4) 2 (λ q. omega arith))
nested_nesting End [] = refl
nested_nesting End (condition ∷ ls) = rw (lt-ltb ((code ls * 4 + 1) % 4) 2 (omega arith))
nested_nesting End (body ∷ ls) = rw (le-ltb ((code ls * 4 + 2) % 4) 2 (omega arith)) (ap Ok (omega arith))
nested_nesting End (otherwise ∷ ls) = rw (le-ltb ((code ls * 4 + 3) % 4) 2 (omega arith)) (ap Ok (omega arith))
nested_nesting Wrong ls = refl

-- at the string's end
form_ended : (f : ℕ) (s : List ℕ) (i : ℕ) (ls : List Level) → length s ≤ i → form_from (suc f) s i ls ≡ checked (suc f) s i (code ls)
unfolding form_from checked code
form_ended f s i [] h = rw (form_from, checked, le-ltb i (length s) h)
form_ended f s i (l ∷ ls) h = rw (form_from, checked, le-ltb i (length s) h, ne_eqb (code (l ∷ ls)) 0 (λ q. omega (arith, code_cons l ls)))

form_checked : (f : ℕ) (s : List ℕ) (i : ℕ) (ls : List Level) → form_from f s i ls ≡ checked f s i (code ls)
unfolding form_from checked
form_checked zero s i ls = refl
form_checked (suc f) s i ls =
    below_or i (length s)
    (λ l. by_nesting (nesting (class_at s i).class ls) refl (lt-ltb i (length s) l) (λ ms. form_checked f s (class_at s i).next ms))
    (λ l. form_ended f s i ls l)
  where
    by_nesting : (n : Nesting) → nesting (class_at s i).class ls ≡ n → ltb i (length s) ≡ true → ((ms : List Level) → form_from f s (class_at s i).next ms ≡ checked f s (class_at s i).next (code ms))
        → form_from (suc f) s i ls ≡ checked (suc f) s i (code ls)
    by_nesting misplaced q t ih = rw (form_from, checked, t, nested_nesting (class_at s i).class ls, q)
    by_nesting (levels ms) q t ih = rw (form_from, checked, t, nested_nesting (class_at s i).class ls, q) (ih ms)

pub left_start : (s : List ℕ) → form_of s ≡ form_left s 0 0
unfolding form_of code
left_start s = form_checked (suc (length s)) s 0 []
