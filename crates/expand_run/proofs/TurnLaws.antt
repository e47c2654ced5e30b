-- Laws of a run's turns: what its arrays hold, the arguments and the stack, and what each arm of its loop does.
-- Assumes nothing.
use mathlib.Core.Path.{◌≡◌, refl, sym, ap, ap₂, ◌∙◌}
use mathlib.Core.Bool.{true, false}
use mathlib.Core.List.{List, [], ◌∷◌, ◌++◌, map}
use Prim.Native.Nat.{ℕ, zero, suc, ◌+◌, ◌-◌, ◌≤◌, ◌<◌}
use native.Mathlib.Omega.{arith}
use lib.IntN.{ℤ, pos}
use lib.ListN.{length, get_or, set, take, drop, replicate, length-map, length-set, get_or-map}
use lib.Seq.{get_or-set_same}
use Rattle.base.specs.Tabulate.{Each}
use Rattle.base.proofs.TabulateLaws.{each_get_d, each_set, each_replicate}
use Rattle.expansion.specs.declared.Argument.{Argument}
use Rattle.expansion.specs.declared.Operand.{Operand}
use Rattle.expansion.specs.declared.Operand.TheVariants as O
use Rattle.expansion.specs.declared.Item.TheVariants as I
use Rattle.std.specs.Prelude.{Ok}
use Rattle.expansion.specs.Limits.{string_most, stack_most, text_most, expansion_most}
use Rattle.expansion.specs.Items.{lexed, item_at}
use Rattle.expansion.specs.Form.{form_of}
use Rattle.expansion.specs.Values.{Value, number, no_value, is_text}
use Rattle.expansion.specs.Machine.{raised, incremented, Outcome, failed, run}
use Rattle.expansion.specs.Arguments.{meant, values_of}
use Rattle.signed.specs.Signed.{is_zero}
use Rattle.items.specs.Reading.{TestAt}
use Rattle.print.specs.Emit.{emitted}
use Rattle.level_laws.specs.Levels.{PastLevel, OpenAt}
use Rattle.arguments.specs.Raised.{raised_of}
use Rattle.arguments.specs.Judged.{Judged, AllJudged, NoLonger, NoneLonger}
use Rattle.arguments.proofs.Laws.{raised_meant, raised_judged, raised_longer, meant_length}
use Rattle.expand_run.proofs.StackLaws.{top_down_above}
use Rattle.expand_run.proofs.Laws as G
use Rattle.expand_run.proofs.Laws.{Going}

-- ---- the arrays

abbrev pub no_argument : Argument
no_argument = record { operand = O.Number (pos 0) }

abbrev pub no_operand : Operand
no_operand = O.Number (pos 0)

-- the values of the stack's array
abbrev pub stack_of : List ℕ → List Operand → List Value
stack_of t es = map (meant t) es

map_set : {A B : Type 0} (f : A → B) (xs : List A) (i : ℕ) (v : A) → map f (set xs i v) ≡ set (map f xs) i (f v)
map_set f [] i v = refl
map_set f (x ∷ xs) zero v = refl
map_set {A} {B} f (x ∷ xs) (suc i) v = ap (λ (zs : List B). f x ∷ zs) (map_set f xs i v)

-- an operand that the arrays may hold: a text lies in the block, and is no longer than those of the arguments
pub record Fit (t : List ℕ) (xs₀ : List Argument) (o : Operand) : Type 0 where
  pub judged : Judged t o
  pub longer : (most : ℕ) → NoneLonger most xs₀ → NoLonger most o

pub number_fit : {t : List ℕ} {xs₀ : List Argument} {v : ℤ} → Fit t xs₀ (O.Number v)
number_fit = record { judged = tt; longer = λ _ _. tt }

raised_fit : {t : List ℕ} {xs₀ : List Argument} (a : Argument) → Fit t xs₀ a.operand → Fit t xs₀ (raised_of a).operand
raised_fit {t} a f =
    record { judged = raised_judged t a f.judged; longer = λ most m. raised_longer most a (f.longer most m) }

each_fit : (t : List ℕ) (xs₀ xs : List Argument) → ((most : ℕ) → NoneLonger most xs₀ → NoneLonger most xs) → AllJudged t xs
    → Each (λ (a : Argument). Fit t xs₀ a.operand) xs
each_fit t xs₀ [] f h = tt
each_fit t xs₀ (a ∷ xs) f h =
    (record { judged = h.0; longer = λ most m. (f most m).0 }, each_fit t xs₀ xs (λ most m. (f most m).1) h.1)

-- what `%i` makes of the first two
raised_values : (t : List ℕ) (xs : List Argument)
    → values_of t (set (set xs 0 (raised_of (get_or xs 0 no_argument))) 1 (raised_of (get_or xs 1 no_argument))) ≡ incremented (values_of t xs)
unfolding incremented
raised_values t xs =
    let f : Argument → Value = λ (a : Argument). meant t a.operand in
    let a : Argument = get_or xs 0 no_argument in
    let b : Argument = get_or xs 1 no_argument in
    let first : f (raised_of a) ≡ raised (get_or (map f xs) 0 no_value) = raised_meant t a ∙ ap raised (sym (get_or-map f xs 0 no_argument)) in
    let second : f (raised_of b) ≡ raised (get_or (map f xs) 1 no_value) = raised_meant t b ∙ ap raised (sym (get_or-map f xs 1 no_argument)) in
    map_set f (set xs 0 (raised_of a)) 1 (raised_of b)
    ∙ ap₂ (λ (zs : List Value) (v : Value). set zs 1 v) (map_set f xs 0 (raised_of a) ∙ ap (set (map f xs) 0) first) second

-- ---- what holds at the loop's head

pub record Running (t s : List ℕ) (y₀ : Outcome) (c₀ : List ℕ) (xs₀ xs : List Argument) (y z : List ℤ) (es : List Operand)
    (d i n w : ℕ) (c o : List ℕ) : Type 0 where
  pub going : Going (λ most. NoneLonger most xs₀) s y₀ c₀ (values_of t xs) y z (stack_of t es) d i n w c o
  pub given : Each (λ (a : Argument). Fit t xs₀ a.operand) xs
  pub held : Each (Fit t xs₀) es
  pub nine : length xs ≡ 9
  pub places : length es ≡ stack_most
  pub shorter : NoneLonger text_most xs₀

judged_shorter : (t : List ℕ) (xs : List Argument) → AllJudged t xs → NoneLonger text_most xs
judged_shorter t [] h = tt
judged_shorter t (a ∷ xs) h = (by_operand a.operand h.0, judged_shorter t xs h.1)
  where
    by_operand : (o : Operand) → Judged t o → NoLonger text_most o
    by_operand (O.Number v) k = tt
    by_operand (O.Text start n) k = k.1

pub running_start : (t s c : List ℕ) (xs : List Argument) (z : List ℤ) → length xs ≡ 9 → form_of s ≡ Ok tt → AllJudged t xs
    → Running t s (run s (values_of t xs) z) c xs xs (replicate 26 (pos 0)) z (replicate 20 no_operand) 0 0 0 0 c []
running_start t s c xs z l r j =
    record {
      going = G.going_start s c (values_of t xs) z (stack_of t (replicate 20 no_operand)) refl (length-map xs _ ∙ l) r;
      given = each_fit t xs xs (λ _ m. m) j;
      held = each_replicate (Fit t xs) 20 no_operand number_fit;
      nine = l;
      places = refl;
      shorter = judged_shorter t xs j;
    }

module _ {t s : List ℕ} {y₀ : Outcome} {c₀ : List ℕ} {xs₀ xs : List Argument} {y z : List ℤ} {es : List Operand} {d i n w : ℕ} {c o : List ℕ}
    (R : Running t s y₀ c₀ xs₀ xs y z es d i n w c o) where
  pub running_room : length s ≤ string_most → w ≤ expansion_most
  running_room l = G.going_room R.going R.shorter l

  -- ---- what is read from the arrays

  pub argument_fit : (j : ℕ) → Fit t xs₀ (get_or xs j no_argument).operand
  argument_fit j = each_get_d (λ (a : Argument). Fit t xs₀ a.operand) xs j no_argument R.given number_fit

  argument_is : (j : ℕ) → get_or (values_of t xs) j no_value ≡ meant t (get_or xs j no_argument).operand
  argument_is j = get_or-map (λ (a : Argument). meant t a.operand) xs j no_argument

  pub element_fit : (j : ℕ) → Fit t xs₀ (get_or es j no_operand)
  element_fit j = each_get_d (Fit t xs₀) es j no_operand R.held number_fit

  pub element_is : (j : ℕ) {p : Operand} → get_or es j no_operand ≡ p → get_or (stack_of t es) j no_value ≡ meant t p
  element_is j e = get_or-map (meant t) es j no_operand ∙ ap (meant t) e

  -- a text on the stack: it lies in the block, and has so many bytes
  pub text_judged : (j : ℕ) {start k : ℕ} → get_or es j no_operand ≡ O.Text start k → (start + k ≤ length t) × (k ≤ text_most)
  text_judged j e = rw e at (element_fit j).judged

  pub text_counts : (j : ℕ) {start k : ℕ} → get_or es j no_operand ≡ O.Text start k → length (take k (drop start t)) ≡ k
  text_counts j {start} {k} e = meant_length t start k (text_judged j e).0

  -- ---- the same arrays, at another point

  pub kept : {y' z' : List ℤ} {d' i' n' w' : ℕ} {c' o' : List ℕ}
      → Going (λ most. NoneLonger most xs₀) s y₀ c₀ (values_of t xs) y' z' (stack_of t es) d' i' n' w' c' o'
      → Running t s y₀ c₀ xs₀ xs y' z' es d' i' n' w' c' o'
  kept g = record { going = g; given = R.given; held = R.held; nine = R.nine; places = R.places; shorter = R.shorter }

  -- an element more on the stack
  pub pushed : (p : Operand) (k : ℕ) {v : Value} {y' z' : List ℤ} {d' i' n' w' : ℕ} {c' o' : List ℕ} → Fit t xs₀ p → v ≡ meant t p
      → Going (λ most. NoneLonger most xs₀) s y₀ c₀ (values_of t xs) y' z' (set (stack_of t es) k v) d' i' n' w' c' o'
      → Running t s y₀ c₀ xs₀ xs y' z' (set es k p) d' i' n' w' c' o'
  pushed p k {v} f e g =
      let m : stack_of t (set es k p) ≡ set (stack_of t es) k v = map_set (meant t) es k p ∙ rw e in
      record {
        going = rw m g;
        given = R.given;
        held = each_set (Fit t xs₀) es k p R.held f;
        nine = R.nine;
        places = length-set es k p ∙ R.places;
        shorter = R.shorter;
      }

  -- ---- the arms of the loop

  module _ (h : i < length s) {next : ℕ} where
    pub argument_pushed : {j : ℕ} → lexed (I.Argument j) next ≡ item_at s i → d < stack_most
        → Running t s y₀ c₀ xs₀ xs y z (set es d (get_or xs j no_argument).operand) (d + 1) next (n + 1) w c o
    argument_pushed {j} q l =
        pushed (get_or xs j no_argument).operand d (argument_fit j) (argument_is j) (G.argument_pushed R.going h q l)

    pub constant_pushed : {v : ℤ} → lexed (I.Constant v) next ≡ item_at s i → d < stack_most
        → Running t s y₀ c₀ xs₀ xs y z (set es d (O.Number v)) (d + 1) next (n + 1) w c o
    constant_pushed {v} q l = pushed (O.Number v) d number_fit refl (G.constant_pushed R.going h q l)

    pub length_gone : {start k : ℕ} → lexed I.Length next ≡ item_at s i → 0 < d → get_or es (d - 1) no_operand ≡ O.Text start k
        → Running t s y₀ c₀ xs₀ xs y z (set es (d - 1) (O.Number (pos k))) d next (n + 1) w c o
    length_gone {start} {k} q u e =
        pushed (O.Number (pos k)) (d - 1) number_fit (ap (λ (m : ℕ). number (pos m)) (text_counts (d - 1) e))
        (G.length_gone R.going h q u (element_is (d - 1) e))

    pub text_gone : {start k : ℕ} {c' : List ℕ} → lexed I.Text next ≡ item_at s i → 0 < d → get_or es (d - 1) no_operand ≡ O.Text start k
        → c' ≡ emitted c w (take k (drop start t))
        → Running t s y₀ c₀ xs₀ xs y z es (d - 1) next (n + 1) (w + k) c' (o ++ take k (drop start t))
    text_gone {start} {k} q u e f =
        let m : length (take k (drop start t)) ≡ k = text_counts (d - 1) e in
        let b : (most : ℕ) → NoneLonger most xs₀ → length (take k (drop start t)) ≤ most =
        λ most j. let g : k ≤ most = rw e at ((element_fit (d - 1)).longer most j) in omega arith in
        kept (G.text_gone R.going h q u (element_is (d - 1) e) b (omega arith) f)

    pub incremented_gone : lexed I.Increment next ≡ item_at s i
        → Running t s y₀ c₀ xs₀ (set (set xs 0 (raised_of (get_or xs 0 no_argument))) 1 (raised_of (get_or xs 1 no_argument))) y z es d next (n + 1) w c o
    incremented_gone q =
        let a : Argument = get_or xs 0 no_argument in
        let b : Argument = get_or xs 1 no_argument in
        record {
          going = G.incremented_gone R.going h q (raised_values t xs);
          given = each_set (λ (a : Argument). Fit t xs₀ a.operand) (set xs 0 (raised_of a)) 1 (raised_of b)
              (each_set (λ (a : Argument). Fit t xs₀ a.operand) xs 0 (raised_of a) R.given (raised_fit a (argument_fit 0)))
              (raised_fit b (argument_fit 1));
          held = R.held;
          nine = length-set (set xs 0 (raised_of a)) 1 (raised_of b) ∙ length-set xs 0 (raised_of a) ∙ R.nine;
          places = R.places;
          shorter = R.shorter;
        }

  -- ---- `%?`, an argument and `%t` in a row

  module _ (h : i < length s) (q : lexed I.If (i + 2) ≡ item_at s i) {j : ℕ} (T : TestAt s i j) where
    first : Going (λ most. NoneLonger most xs₀) s y₀ c₀ (values_of t xs) y z (stack_of t es) d (i + 2) (n + 1) w c o
    first = G.if_gone R.going h q

    pub test_full : stack_most ≤ d → y₀ ≡ failed 16 (i + 2)
    test_full l = G.argument_full first (omega (arith, T.inside)) (sym T.argument) l

    module _ (l : d < stack_most) where
      second : Going (λ most. NoneLonger most xs₀) s y₀ c₀ (values_of t xs) y z (set (stack_of t es) d (get_or (values_of t xs) j no_value)) (d + 1) (i + 5) (n + 1 + 1) w c o
      second = G.argument_pushed first (omega (arith, T.inside)) (sym T.argument) l

      top : {p : Operand} → (get_or xs j no_argument).operand ≡ p → get_or (set (stack_of t es) d (get_or (values_of t xs) j no_value)) (d + 1 - 1) no_value ≡ meant t p
      top {p} e =
          let k : d + 1 - 1 ≡ d = omega arith in
          rw k (get_or-set_same (stack_of t es) d (get_or (values_of t xs) j no_value) no_value (omega (arith, length-map es (meant t), R.places)) ∙ argument_is j ∙ ap (meant t) e)

      pub test_other : {start k : ℕ} → (get_or xs j no_argument).operand ≡ O.Text start k → y₀ ≡ failed 21 (i + 5)
      test_other e = G.then_other second (omega (arith, T.inside)) (sym T.test) (omega arith) (ap is_text (top e))

      pub test_open : OpenAt s (i + 7) 0
      test_open = G.then_open second (omega (arith, T.inside)) (sym T.test)

      pub test_further : {r : ℕ} → PastLevel true s (i + 7) r → i < r
      test_further pl = let f = G.then_further second (omega (arith, T.inside)) (sym T.test) pl in omega arith

      -- the argument is on the stack no more
      back : {i' : ℕ} → Going (λ most. NoneLonger most xs₀) s y₀ c₀ (values_of t xs) y z (set (stack_of t es) d (get_or (values_of t xs) j no_value)) (d + 1 - 1) i' (n + 1 + 1 + 1) w c o
          → Running t s y₀ c₀ xs₀ xs y z es d i' (n + 1 + 2) w c o
      back g =
          let k : d + 1 - 1 ≡ d = omega arith in
          let m : n + 1 + 1 + 1 ≡ n + 1 + 2 = omega arith in
          kept (G.going_above (rw (k, m) at g) (stack_of t es) (length-map es _ ∙ R.places) (sym (top_down_above no_value (stack_of t es) d _)))

      pub test_past : {v : ℤ} {r : ℕ} → (get_or xs j no_argument).operand ≡ O.Number v → is_zero v ≡ true → PastLevel true s (i + 7) r
          → Running t s y₀ c₀ xs₀ xs y z es d r (n + 1 + 2) w c o
      test_past e u pl = back (G.then_past second (omega (arith, T.inside)) (sym T.test) (omega arith) (top e) u pl)

      pub test_gone : {v : ℤ} → (get_or xs j no_argument).operand ≡ O.Number v → is_zero v ≡ false
          → Running t s y₀ c₀ xs₀ xs y z es d (i + 7) (n + 1 + 2) w c o
      test_gone e u = back (G.then_gone second (omega (arith, T.inside)) (sym T.test) (omega arith) (top e) u)
