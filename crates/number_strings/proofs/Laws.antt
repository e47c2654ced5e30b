-- A string without `%s` and `%l`, and arguments that are all numbers, give what document 01 says.
-- Assumes nothing.
use mathlib.Core.Path.{◌≡◌, refl, sym, ap, ◌∙◌}
use mathlib.Core.Bool.{Bool, true, false}
use mathlib.Core.List.{List, [], ◌∷◌, ◌++◌, map}
use Prim.Native.Nat.{ℕ, zero, suc, ◌+◌, ◌-◌, ◌<◌}
use Prim.Native.Char.{code}
use native.Mathlib.Omega.{arith}
use lib.Dec.{leb, ltb}
use lib.IntN.{ℤ, pos}
use lib.ListN.{length, get_or, set, take, drop, length-map, get_or-map}
use borrow.Author.Tests.{lt-ltb, le-ltb}
use Rattle.base.specs.If.{when◌then◌else◌}
use Rattle.base.proofs.IfLaws.{true_false, below_or}
use Rattle.base.proofs.ScanLaws.{every_all}
use Rattle.signed.specs.Signed.{is_zero, add}
use Rattle.expansion.specs.Limits.{stack_most}
use Rattle.expansion.specs.declared.Item.{Item}
use Rattle.expansion.specs.declared.Item.TheVariants as I
use Rattle.expansion.specs.declared.Argument.{Argument}
use Rattle.expansion.specs.declared.Operand.{Operand}
use Rattle.expansion.specs.declared.Operand.TheVariants as O
use Rattle.expansion.specs.Items.{item_at}
use Rattle.expansion.specs.Values.{Value, number}
use Rattle.expansion.specs.Machine as M
use Rattle.expansion.specs.Machine.{Machine, Effect, Taken, Outcome, arity, pops_text, raised, incremented, other_kind}
use Rattle.expansion.specs.Machine.{loaded, stored, effect, performed, taking, running, run}
use Rattle.expansion.specs.Counting.{count_of}
use Rattle.expansion.specs.Arguments.{lies_in, is_short, each_passes, values_of, numbers_given}
use Rattle.expansion.specs.Expanding.{ended, expanding}
use Rattle.expansion_laws.specs.Passes.{passed_to}
use Rattle.expansion_laws.specs.Counts.{count_of_rest, count_start, count_step, count_passed}
use Rattle.number_strings.specs.Numbers.{Machine01, started01, loaded01, stored01, incremented01, with_stack01}
use Rattle.number_strings.specs.Numbers.{Effect01, prints, pushes, stores, increments, to_else, to_end, effect01}
use Rattle.number_strings.specs.Numbers.{Taken01, goes_on, goes_to_else, goes_to_end, empty, full, taking01}
use Rattle.number_strings.specs.Numbers.{performed01, Outcome01, finished, failed, running01, run01, ended01}
use Rattle.number_strings.specs.Numbers.{expanding01, NumbersAlone}

-- ---- the same in both: a machine, an effect, what taking comes to, an outcome

abbrev values : List ℤ → List Value
values vs = map number vs

abbrev machine : Machine01 → Machine
machine m =
    record {
      stack = values m.stack;
      arguments = values m.arguments;
      locals = m.locals;
      lasting = m.lasting;
    }

abbrev effect_of : Effect01 → Effect
effect_of (prints bytes) = M.prints bytes
effect_of (pushes v) = M.pushes (number v)
effect_of (stores c v) = M.stores c v
effect_of increments = M.increments
effect_of to_else = M.to_else
effect_of to_end = M.to_end

abbrev taken_of : Taken01 → Taken
taken_of (goes_on m bytes) = M.goes_on (machine m) bytes
taken_of (goes_to_else m) = M.goes_to_else (machine m)
taken_of (goes_to_end m) = M.goes_to_end (machine m)
taken_of empty = M.empty
taken_of full = M.full

abbrev outcome_of : Outcome01 → Outcome
outcome_of (finished m out n) = M.finished (machine m) out n
outcome_of (failed n i) = M.failed n i

-- ---- lists of numbers

values_set : (xs : List ℤ) (i : ℕ) (v : ℤ) → set (values xs) i (number v) ≡ values (set xs i v)
values_set [] i v = refl
values_set (x ∷ xs) zero v = refl
values_set (x ∷ xs) (suc i) v = ap (λ (l : List Value). number x ∷ l) (values_set xs i v)

values_drop : (n : ℕ) (xs : List ℤ) → drop n (values xs) ≡ values (drop n xs)
values_drop zero xs = refl
values_drop (suc n) [] = refl
values_drop (suc n) (x ∷ xs) = values_drop n xs

values_incremented : (xs : List ℤ) → incremented (values xs) ≡ values (incremented01 xs)
unfolding incremented incremented01 raised
values_incremented xs =
    rw (
      get_or-map number xs 0 (pos 0),
      get_or-map number xs 1 (pos 0),
      values_set xs 0 (add (get_or xs 0 (pos 0)) (pos 1)),
    )
    (values_set (set xs 0 (add (get_or xs 0 (pos 0)) (pos 1))) 1 (add (get_or xs 1 (pos 0)) (pos 1)))

-- no number is of the other kind for an item that pops no text
numbers_of_kind : (k : Item) (n : ℕ) (xs : List ℤ) → pops_text k ≡ false → other_kind k (take n (values xs)) ≡ false
unfolding other_kind
numbers_of_kind k zero xs h = refl
numbers_of_kind k (suc n) [] h = refl
numbers_of_kind k (suc n) (x ∷ xs) h = rw h (numbers_of_kind k n xs h)

-- ---- an item

same_if : {A B : Type 0} (f : A → B) (t : Bool) (x y : A) → (when t then f x else f y) ≡ f (when t then x else y)
same_if f true x y = refl
same_if f false x y = refl

loaded_same : (m : Machine01) (c : ℕ) → loaded (machine m) c ≡ loaded01 m c
unfolding loaded loaded01
loaded_same m c = refl

stored_same : (m : Machine01) (c : ℕ) (v : ℤ) → stored (machine m) c v ≡ machine (stored01 m c v)
unfolding stored stored01
stored_same m c v = same_if machine (leb c (code "Z")) _ _

effect_same : (k : Item) (m : Machine01) (a b : ℤ) → pops_text k ≡ false
    → effect k (machine m) (number a) (number b) ≡ effect_of (effect01 k m a b)
unfolding effect effect01 pops_text
effect_same (I.Byte c) m a b h = refl
effect_same (I.Argument n) m a b h = ap M.pushes (get_or-map number m.arguments n (pos 0))
effect_same (I.Number base zeros width) m a b h = refl
effect_same I.Character m a b h = refl
effect_same I.Text m a b h = true_false h
effect_same I.Length m a b h = true_false h
effect_same (I.Constant v) m a b h = refl
effect_same (I.Store c) m a b h = refl
effect_same (I.Load c) m a b h = ap (λ (v : ℤ). M.pushes (number v)) (loaded_same m c)
effect_same (I.Binary o) m a b h = refl
effect_same I.Not m a b h = refl
effect_same I.Invert m a b h = refl
effect_same I.Increment m a b h = refl
effect_same I.If m a b h = refl
effect_same I.Then m a b h = same_if effect_of (is_zero b) to_else (prints [])
effect_same I.Else m a b h = refl
effect_same I.End m a b h = refl
effect_same I.Wrong m a b h = refl

performed_same : (e : Effect01) (m : Machine01) → performed (effect_of e) (machine m) ≡ taken_of (performed01 e m)
unfolding performed performed01
performed_same (prints bytes) m = refl
performed_same (pushes v) m =
    rw (length-map m.stack number)
    (same_if taken_of (ltb (length m.stack) stack_most) (goes_on (with_stack01 m (v ∷ m.stack)) []) full)
performed_same (stores c v) m = ap (λ (n : Machine). M.goes_on n []) (stored_same m c v)
performed_same increments m =
    ap (λ (xs : List Value). M.goes_on (M.with_arguments (machine m) xs) []) (values_incremented m.arguments)
performed_same to_else m = refl
performed_same to_end m = refl

taking_same : (k : Item) (m : Machine01) → pops_text k ≡ false → taking k (machine m) ≡ taken_of (taking01 k m)
unfolding taking taking01
taking_same k m h =
    let a : ℤ = get_or m.stack 1 (pos 0) in
    let b : ℤ = get_or m.stack 0 (pos 0) in
    let n : Machine01 = with_stack01 m (drop (arity k) m.stack) in
    rw (
      length-map m.stack number,
      numbers_of_kind k (arity k) m.stack h,
      get_or-map number m.stack 1 (pos 0),
      get_or-map number m.stack 0 (pos 0),
      values_drop (arity k) m.stack,
      effect_same k m a b h,
      performed_same (effect01 k m a b) n,
    )
    (same_if taken_of (ltb (length m.stack) (arity k)) empty (performed01 (effect01 k m a b) n))

-- ---- a run

-- from a place on behind which no `%s` and no `%l` stands
running_same : (k : ℕ) (s : List ℕ) (i : ℕ) (m : Machine01) (out : List ℕ) (n : ℕ) → count_of_rest pops_text s i ≡ 0
    → running k s i (machine m) out n ≡ outcome_of (running01 k s i m out n)
unfolding running running01
running_same zero s i m out n h = refl
running_same (suc k) s i m out n h =
    below_or i (length s)
    (λ l.
    by_taken (taking01 (item_at s i).item m) refl l
    (λ j m' out' g. running_same k s j m' out' (n + 1) g))
    (λ l. rw (running, running01, le-ltb i (length s) l))
  where
    by_test : (t : Bool) → pops_text (item_at s i).item ≡ t → i < length s
        → (pops_text (item_at s i).item ≡ false) × (count_of_rest pops_text s (item_at s i).next ≡ 0)
    by_test true e l = absurd (let c = rw e at (count_step pops_text s i l) in omega (arith, c, h))
    by_test false e l = (e, let c = rw e at (count_step pops_text s i l) in omega (arith, c, h))

    left : i < length s → (pops_text (item_at s i).item ≡ false) × (count_of_rest pops_text s (item_at s i).next ≡ 0)
    left l = by_test (pops_text (item_at s i).item) refl l

    behind : (elses : Bool) → i < length s → count_of_rest pops_text s (passed_to elses s (item_at s i).next 0) ≡ 0
    behind elses l = omega (arith, (left l).1, count_passed pops_text s elses (item_at s i).next 0)

    took : (t : Taken01) → taking01 (item_at s i).item m ≡ t → i < length s
        → taking (item_at s i).item (machine m) ≡ taken_of t
    took t e l = taking_same (item_at s i).item m (left l).0 ∙ ap taken_of e

    by_taken : (t : Taken01) → taking01 (item_at s i).item m ≡ t → i < length s
        → ((j : ℕ) (m' : Machine01) (out' : List ℕ) → count_of_rest pops_text s j ≡ 0
        → running k s j (machine m') out' (n + 1) ≡ outcome_of (running01 k s j m' out' (n + 1)))
        → running (suc k) s i (machine m) out n ≡ outcome_of (running01 (suc k) s i m out n)
    by_taken (goes_on m' bytes) e l again =
        rw (running, running01, lt-ltb i (length s) l, took (goes_on m' bytes) e l, e) (again (item_at s i).next m' (out ++ bytes) (left l).1)
    by_taken (goes_to_else m') e l again =
        rw (running, running01, lt-ltb i (length s) l, took (goes_to_else m') e l, e)
        (again (passed_to true s (item_at s i).next 0) m' out (behind true l))
    by_taken (goes_to_end m') e l again =
        rw (running, running01, lt-ltb i (length s) l, took (goes_to_end m') e l, e)
        (again (passed_to false s (item_at s i).next 0) m' out (behind false l))
    by_taken empty e l again =
        rw (running, running01, lt-ltb i (length s) l, took empty e l, e)
    by_taken full e l again =
        rw (running, running01, lt-ltb i (length s) l, took full e l, e)

run_same : (s : List ℕ) (arguments lasting : List ℤ) → count_of pops_text s ≡ 0
    → run s (values arguments) lasting ≡ outcome_of (run01 s arguments lasting)
unfolding run run01
run_same s arguments lasting h =
    running_same (length s) s 0 (started01 arguments lasting) [] 0 (sym (count_start pops_text s) ∙ h)

ended_same : (y : Outcome01) (room : ℕ) → ended (outcome_of y) room ≡ ended01 y room
unfolding ended ended01
ended_same (finished m out n) room = refl
ended_same (failed n i) room = refl

-- ---- arguments that are all numbers

values_given : (vs : List ℤ) (lent : List ℕ) → values_of lent (numbers_given vs) ≡ values vs
values_given [] lent = refl
values_given (v ∷ vs) lent = ap (λ (l : List Value). number v ∷ l) (values_given vs lent)

-- a test that each number passes
given_passes : (ok : Operand → Bool) → ((v : ℤ) → ok (O.Number v) ≡ true) → (vs : List ℤ)
    → each_passes ok (numbers_given vs) ≡ true
given_passes ok pass vs = every_all _ (length (numbers_given vs)) (λ i _. at vs i)
  where
    at : (vs : List ℤ) (i : ℕ)
        → ok (get_or (numbers_given vs) i (record { operand = O.Number (pos 0) })).operand ≡ true
    at [] i = pass (pos 0)
    at (v ∷ vs) zero = pass v
    at (v ∷ vs) (suc i) = at vs i

-- ---- the theorem

pub numbers_alone : NumbersAlone
unfolding expanding expanding01
numbers_alone s arguments lent lasting size at h =
    rw (
      given_passes (lies_in lent) (λ _. refl) arguments,
      given_passes is_short (λ _. refl) arguments,
      values_given arguments lent,
      run_same s arguments lasting h,
      ended_same (run01 s arguments lasting) (size - at),
    )
