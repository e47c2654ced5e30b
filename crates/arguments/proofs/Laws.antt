-- Laws of arguments: tests of all of them, what these leave, and what `%i` makes of one.
-- Assumes nothing.
use mathlib.Core.Path.{◌≡◌, refl, sym, ap, ◌∙◌}
use mathlib.Core.Bool.{Bool, true, false}
use mathlib.Core.List.{List, [], ◌∷◌}
use Prim.Native.Nat.{ℕ, zero, suc, ◌+◌, ◌-◌, ◌^◌, ◌≤◌, ◌<◌}
use native.Mathlib.Omega.{arith}
use lib.Dec.{leb}
use lib.IntN.{ℤ, pos}
use lib.Signed.{mag}
use lib.ListN.{length, get_or, drop, length-drop}
use lib.Seq.{length-take-le}
use mir.Syntax.{w32}
use mir.Val.{to_z, of_z, hbits}
use borrow.Author.Tests.{le-leb, lt-leb, leb-true, leb-false}
use Rattle.std.specs.Bool.{MatchBool}
use Rattle.std.specs.List.{AllWithin, HoldsAt}
use Rattle.base.proofs.ScanLaws.{every_at, every_all}
use Rattle.base.specs.Tabulate.{tabulate}
use Rattle.base.proofs.TabulateLaws.{tabulate_get_d, each_of}
use Rattle.signed.proofs.Laws.{again}
use Rattle.expansion.specs.Limits.{text_most}
use Rattle.expansion.specs.declared.Argument.{Argument}
use Rattle.expansion.specs.declared.Operand.{Operand}
use Rattle.expansion.specs.declared.Operand.TheVariants as O
use Rattle.expansion.specs.Values.{text_in}
use Rattle.expansion.specs.Machine.{raised}
use Rattle.expansion.specs.Arguments.{lies_in, is_short, each_passes, meant, numbers_given}
use Rattle.arguments.specs.Raised.{raised_operand, raised_of}
use Rattle.arguments.specs.Judged.{Judged, AllJudged, NoLonger, NoneLonger}

-- ---- one argument

pub lies_not : (lent : ℕ) (block : List ℕ) (start n : ℕ) → lent ≡ length block → lent < start → false ≡ lies_in block (O.Text start n)
lies_not lent block start n e h = sym (lt-leb (start + n) (length block) (omega arith))

pub lies_by : (lent : ℕ) (block : List ℕ) (start n : ℕ) → lent ≡ length block → start ≤ lent → leb n (lent - start) ≡ lies_in block (O.Text start n)
lies_by lent block start n e h = by_test (leb n (lent - start)) refl
  where
    by_test : (t : Bool) → leb n (lent - start) ≡ t → t ≡ leb (start + n) (length block)
    by_test true f = let l : n ≤ lent - start = leb-true _ _ f in sym (le-leb (start + n) (length block) (omega arith))
    by_test false f = let l : lent - start < n = leb-false _ _ f in sym (lt-leb (start + n) (length block) (omega arith))

-- ---- a test of every argument

-- stands for an argument where there is none
abbrev no_argument : Argument
no_argument = record { operand = O.Number (pos 0) }

abbrev pub test_at : (Operand → Bool) → List Argument → ℕ → Bool
test_at ok xs i = ok (get_or xs i no_argument).operand

-- what `all` answers
pub all_passes : (ok : Operand → Bool) (xs : List Argument) (r : Bool)
    → MatchBool r (AllWithin (λ (a : Argument). ok a.operand ≡ true) xs 0 (length xs)) ((k : ℕ) × (k < length xs) × HoldsAt (λ (a : Argument). ok a.operand ≡ false) xs k)
    → r ≡ each_passes ok xs
all_passes ok xs true h = sym (every_all (test_at ok xs) (length xs) (λ i l. h i no_argument (omega arith) l))
all_passes ok xs false h = by_test (each_passes ok xs) refl
  where
    by_test : (t : Bool) → each_passes ok xs ≡ t → false ≡ t
    by_test true e = let f : test_at ok xs h.0 ≡ true = every_at (test_at ok xs) (length xs) h.0 e h.1 in sym (h.2 no_argument) ∙ f
    by_test false e = refl

-- ---- what the tests leave

judged : (lent : List ℕ) (o : Operand) → lies_in lent o ≡ true → is_short o ≡ true → Judged lent o
judged lent (O.Number v) l s = tt
judged lent (O.Text start n) l s = (leb-true _ _ l, leb-true _ _ s)

short : (o : Operand) → is_short o ≡ true → NoLonger text_most o
short (O.Number v) s = tt
short (O.Text start n) s = leb-true _ _ s

pub judged_all : (lent : List ℕ) (arguments : List Argument) → each_passes (lies_in lent) arguments ≡ true → each_passes is_short arguments ≡ true
    → AllJudged lent arguments
judged_all lent xs l s =
    each_of (λ (a : Argument). Judged lent a.operand) xs no_argument
    (λ i h. judged lent (get_or xs i no_argument).operand (every_at (test_at (lies_in lent) xs) (length xs) i l h) (every_at (test_at is_short xs) (length xs) i s h))

pub short_all : (arguments : List Argument) → each_passes is_short arguments ≡ true → NoneLonger text_most arguments
short_all xs s =
    each_of (λ (a : Argument). NoLonger text_most a.operand) xs no_argument
    (λ i h. short (get_or xs i no_argument).operand (every_at (test_at is_short xs) (length xs) i s h))

-- ---- numbers pass every test that numbers pass

number_at : (ok : Operand → Bool) → ((v : ℤ) → ok (O.Number v) ≡ true) → (vs : List ℤ) (i : ℕ) → test_at ok (numbers_given vs) i ≡ true
number_at ok h [] i = h (pos 0)
number_at ok h (v ∷ vs) zero = h v
number_at ok h (v ∷ vs) (suc i) = number_at ok h vs i

numbers_pass : (ok : Operand → Bool) → ((v : ℤ) → ok (O.Number v) ≡ true) → (vs : List ℤ) → each_passes ok (numbers_given vs) ≡ true
numbers_pass ok h vs = every_all (test_at ok (numbers_given vs)) (length (numbers_given vs)) (λ i l. number_at ok h vs i)

pub numbers_lie : (lent : List ℕ) (vs : List ℤ) → each_passes (lies_in lent) (numbers_given vs) ≡ true
numbers_lie lent vs = numbers_pass (lies_in lent) (λ v. refl) vs

pub numbers_short : (vs : List ℤ) → each_passes is_short (numbers_given vs) ≡ true
numbers_short vs = numbers_pass is_short (λ v. refl) vs

-- a number that went in and came out as bits
pub number_is : {a : Argument} (v : ℤ) → mag v < 2 ^ hbits w32 → a ≡ record { operand = O.Number (to_z w32 (of_z w32 v)) } → a ≡ record { operand = O.Number v }
number_is v h e = e ∙ ap (λ (z : ℤ). record { operand = O.Number z }) (again v h)

-- nine numbers by their places
nine_numbers : (vs : List ℤ) → length vs ≡ 9 → tabulate (λ i. record { operand = O.Number (get_or vs i (pos 0)) }) 9 ≡ numbers_given vs
unfolding tabulate
nine_numbers vs h = ap (λ (n : ℕ). numbers_given (tabulate (λ i. get_or vs i (pos 0)) n)) (sym h) ∙ ap numbers_given (tabulate_get_d vs (pos 0))

abbrev pub NumberAt : List ℤ → ℕ → Argument → Type 0
NumberAt vs i a = a ≡ record { operand = O.Number (get_or vs i (pos 0)) }

pub numbers_are : (vs : List ℤ) → length vs ≡ 9 → {a b c d e f x y z : Argument} → NumberAt vs 0 a → NumberAt vs 1 b → NumberAt vs 2 c → NumberAt vs 3 d
    → NumberAt vs 4 e → NumberAt vs 5 f → NumberAt vs 6 x → NumberAt vs 7 y → NumberAt vs 8 z
    → (a ∷ b ∷ c ∷ d ∷ e ∷ f ∷ x ∷ y ∷ z ∷ []) ≡ numbers_given vs
unfolding tabulate
numbers_are vs h p0 p1 p2 p3 p4 p5 p6 p7 p8 = rw (p0, p1, p2, p3, p4, p5, p6, p7, p8) (nine_numbers vs h)

pub numbers_judged : (lent : List ℕ) (vs : List ℤ) → AllJudged lent (numbers_given vs)
numbers_judged lent [] = tt
numbers_judged lent (v ∷ vs) = (tt, numbers_judged lent vs)

pub numbers_longer : (most : ℕ) (vs : List ℤ) → NoneLonger most (numbers_given vs)
numbers_longer most [] = tt
numbers_longer most (v ∷ vs) = (tt, numbers_longer most vs)

-- ---- what `%i` makes of an argument

raised_operand_lem : (lent : List ℕ) (o : Operand) → meant lent (raised_operand o) ≡ raised (meant lent o)
unfolding raised
raised_operand_lem lent (O.Number v) = refl
raised_operand_lem lent (O.Text start n) = refl

pub raised_meant : (lent : List ℕ) (a : Argument) → meant lent (raised_of a).operand ≡ raised (meant lent a.operand)
raised_meant lent a = raised_operand_lem lent a.operand

judged_raised : (lent : List ℕ) (o : Operand) → Judged lent o → Judged lent (raised_operand o)
judged_raised lent (O.Number v) j = tt
judged_raised lent (O.Text start n) j = j

pub raised_judged : (lent : List ℕ) (a : Argument) → Judged lent a.operand → Judged lent (raised_of a).operand
raised_judged lent a j = judged_raised lent a.operand j

longer_raised : (most : ℕ) (o : Operand) → NoLonger most o → NoLonger most (raised_operand o)
longer_raised most (O.Number v) j = tt
longer_raised most (O.Text start n) j = j

pub raised_longer : (most : ℕ) (a : Argument) → NoLonger most a.operand → NoLonger most (raised_of a).operand
raised_longer most a j = longer_raised most a.operand j

-- ---- what a text means

pub meant_length : (lent : List ℕ) (start n : ℕ) → start + n ≤ length lent → length (text_in (meant lent (O.Text start n))) ≡ n
meant_length lent start n h =
    let e : length (drop start lent) ≡ length lent - start = length-drop start lent in
    length-take-le n (drop start lent) (omega arith)
