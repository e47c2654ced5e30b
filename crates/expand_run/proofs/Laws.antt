-- Laws of a run by its steps: what an item comes to, over values.
-- Assumes nothing.
use mathlib.Core.Path.{◌≡◌, refl, sym, ap, ◌∙◌, subst}
use mathlib.Core.Bool.{Bool, true, false}
use mathlib.Core.List.{List, [], ◌∷◌, ◌++◌, append-nil}
use Prim.Native.Nat.{ℕ, zero, suc, ◌+◌, ◌-◌, ◌*◌, ◌^◌, ◌≤◌, ◌<◌}
use native.Mathlib.Omega.{arith}
use lib.IntN.{ℤ, pos}
use lib.ListN.{length, get_or, set, take, replicate, length-append, length-set}
use mir.Syntax.{w32}
use mir.Val.{to_z}
use borrow.Author.Tests.{lt-ltb, le-ltb}
use Rattle.base.proofs.IfLaws.{below_or}
use Rattle.base.specs.Overwrite.{put_at}
use Rattle.base.proofs.OverwriteLaws.{put_nil, put_put}
use Rattle.expansion.specs.declared.Base.{Base}
use Rattle.expansion.specs.declared.Item.{Item}
use Rattle.expansion.specs.declared.Item.TheVariants as I
use Rattle.std.specs.Prelude.{Ok}
use Rattle.expansion.specs.declared.Lexed.{Lexed}
use Rattle.expansion.specs.Limits.{string_most, stack_most, text_most, room_for, expansion_most}
use Rattle.expansion.specs.Items.{lexed, item_at}
use Rattle.expansion.specs.Form.{form_of}
use Rattle.expansion.specs.Print.{printed}
use Rattle.expansion.specs.Values.{Value, number, text, no_value, is_text}
use Rattle.expansion.specs.Machine.{Machine, Effect, prints, pushes, stores, increments, to_else, to_end, printed_by}
use Rattle.expansion.specs.Machine.{Taken, goes_on, goes_to_else, goes_to_end, full, arity, pops_text, other_kind, effect, performed, incremented}
use Rattle.expansion.specs.Machine.{Outcome, finished, failed, run}
use Rattle.expansion.specs.Counting.{prints_text, room_with}
use Rattle.signed.specs.Signed.{is_zero}
use Rattle.item_parts.specs.Right.{Simple}
use Rattle.item_parts.proofs.Laws.{item_on, item_holds}
use Rattle.expansion_laws.specs.Passes.{passed_to, passed_on}
use Rattle.expansion_laws.specs.Counts.{count_one, room_most}
use Rattle.expansion_laws.specs.Steps.{Point, leads, further, step_by, step}
use Rattle.expansion_laws.specs.Runs.{run_of_rest, run_behind, run_start, run_step, run_end_lem}
use Rattle.level_laws.specs.Levels.{PastLevel, OpenAt, RightAt}
use Rattle.level_laws.proofs.RightLaws.{right_start, right_on, right_then, right_else, past_passed, passed_right}
use Rattle.room_laws.specs.Room.{Value32}
use Rattle.room_laws.proofs.Items.{item_bounded}
use Rattle.room_laws.proofs.Bounded.{Short, short_none, short_passes, short_more}
use Rattle.print.specs.Emit.{emitted}
use Rattle.print.proofs.EmitLaws.{emitted_fits, length_emitted}
use Rattle.variables.specs.Machines.{machine}
use Rattle.machine.specs.declared.Step.{Step}
use Rattle.machine.specs.declared.Step.TheVariants.{Push, Go}
use Rattle.machine.specs.Steps.{step_of, machine_after, SteppedAs}
use Rattle.machine.proofs.Laws.{emitted_nothing}
use Rattle.expand_run.proofs.StackLaws.{top_down, top_down_length, top_down_push, over, other, Popped, kind_none, kind_one, kind_two}
use Rattle.expand_run.proofs.StackLaws.{taking_none, taking_other, taking_popped, popped_none, popped_one}

-- a number of the code is a value
pub value_of : (x : ℕ) → Value32 (to_z w32 x)
value_of x = below_or x (2 ^ 31) (λ l. rw (lt-ltb x (2 ^ 31) l) l) (λ l. rw (le-ltb x (2 ^ 31) l) (omega arith))

-- ---- output

-- behind o, which was put from the first byte on if it fits
emitted_on : (b b' o xs : List ℕ) → length b' ≡ length b → (length o ≤ length b → b' ≡ put_at b 0 o) → length (o ++ xs) ≤ length b
    → emitted b' (length o) xs ≡ put_at b 0 (o ++ xs)
emitted_on b b' o xs e w h =
    let q : length (o ++ xs) ≡ length o + length xs = length-append o xs in
    let z : 0 + length o ≡ length o = omega arith in
    emitted_fits b' (length o) xs (omega arith) ∙ rw (w (omega arith)) (rw z at (put_put b 0 o xs (omega arith)))

-- ---- effects

-- an effect that leads to no other place, leaves the arguments and pushes no text
abbrev Straight : Effect → Type 0
Straight (prints bytes) = Unit {0}
Straight (pushes (number v)) = Unit {0}
Straight (pushes (text bytes)) = ⊥
Straight (stores c v) = Unit {0}
Straight increments = ⊥
Straight to_else = ⊥
Straight to_end = ⊥

simple_straight : (k : Item) (m : Machine) (a b : Value) → Simple k → Straight (effect k m a b)
unfolding effect
simple_straight (I.Byte c) m a b h = tt
simple_straight (I.Argument n) m a b h = absurd h
simple_straight (I.Number d f w) m a b h = absurd h
simple_straight I.Character m a b h = tt
simple_straight I.Text m a b h = absurd h
simple_straight I.Length m a b h = absurd h
simple_straight (I.Constant v) m a b h = absurd h
simple_straight (I.Store c) m a b h = tt
simple_straight (I.Load c) m a b h = tt
simple_straight (I.Binary o) m a b h = tt
simple_straight I.Not m a b h = tt
simple_straight I.Invert m a b h = tt
simple_straight I.Increment m a b h = absurd h
simple_straight I.If m a b h = tt
simple_straight I.Then m a b h = absurd h
simple_straight I.Else m a b h = absurd h
simple_straight I.End m a b h = tt
simple_straight I.Wrong m a b h = tt

-- such an item pops numbers, at most two of them
pub simple_pops : (k : Item) → Simple k → (pops_text k ≡ false) × (arity k ≤ 2)
unfolding pops_text arity
simple_pops (I.Byte c) h = (refl, omega arith)
simple_pops (I.Argument n) h = absurd h
simple_pops (I.Number d f w) h = absurd h
simple_pops I.Character h = (refl, omega arith)
simple_pops I.Text h = absurd h
simple_pops I.Length h = absurd h
simple_pops (I.Constant v) h = absurd h
simple_pops (I.Store c) h = (refl, omega arith)
simple_pops (I.Load c) h = (refl, omega arith)
simple_pops (I.Binary o) h = (refl, omega arith)
simple_pops I.Not h = (refl, omega arith)
simple_pops I.Invert h = (refl, omega arith)
simple_pops I.Increment h = absurd h
simple_pops I.If h = (refl, omega arith)
simple_pops I.Then h = absurd h
simple_pops I.Else h = absurd h
simple_pops I.End h = (refl, omega arith)
simple_pops I.Wrong h = (refl, omega arith)

-- what such an item pops, and where it pops a text
module _ (k : Item) (st : List Value) (d : ℕ) (h : Simple k) (e : arity k ≤ d) where
  abbrev Others : Type 0
  Others = other_kind k (take (arity k) (top_down no_value st d)) ≡ true

  numbers : {a b : ℤ} → (0 < arity k → get_or st (d - 1) no_value ≡ number b) → (1 < arity k → get_or st (d - 2) no_value ≡ number a)
      → (n : ℕ) → arity k ≡ n → n ≤ 2 → other_kind k (take (arity k) (top_down no_value st d)) ≡ false
  numbers t u zero f l = kind_none k st d f
  numbers t u (suc zero) f l = kind_one k st d f (omega arith) ∙ rw ((simple_pops k h).0, t (omega arith))
  numbers t u (suc (suc zero)) f l = kind_two k st d f (omega arith) ∙ rw ((simple_pops k h).0, t (omega arith), u (omega arith))
  numbers t u (suc (suc (suc n))) f l = absurd (let y : ⊥ = omega arith in y)

  pub simple_popped : (d' : ℕ) (a b : ℤ) → d' ≡ d - arity k → (0 < arity k → get_or st (d - 1) no_value ≡ number b)
      → (1 < arity k → get_or st (d - 2) no_value ≡ number a) → Popped k st d d' (number a) (number b)
  simple_popped d' a b l t u =
      record {
        enough = e;
        left = l;
        top = λ m. sym (t m);
        below = λ m. sym (u m);
        kind = numbers t u (arity k) refl (simple_pops k h).1;
      }

  top_other : is_text (get_or st (d - 1) no_value) ≡ true → (n : ℕ) → arity k ≡ n → 0 < n → n ≤ 2 → Others
  top_other t zero f m l = absurd (let y : ⊥ = omega arith in y)
  top_other t (suc zero) f m l = kind_one k st d f (omega arith) ∙ rw ((simple_pops k h).0, t)
  top_other t (suc (suc zero)) f m l = kind_two k st d f (omega arith) ∙ rw ((simple_pops k h).0, t)
  top_other t (suc (suc (suc n))) f m l = absurd (let y : ⊥ = omega arith in y)

  pub simple_top : 0 < arity k → is_text (get_or st (d - 1) no_value) ≡ true → Others
  simple_top m t = top_other t (arity k) refl m (simple_pops k h).1

  below_other : {b : ℤ} → get_or st (d - 1) no_value ≡ number b → is_text (get_or st (d - 2) no_value) ≡ true → (n : ℕ) → arity k ≡ n → 1 < n → n ≤ 2 → Others
  below_other t u zero f m l = absurd (let y : ⊥ = omega arith in y)
  below_other t u (suc zero) f m l = absurd (let y : ⊥ = omega arith in y)
  below_other t u (suc (suc zero)) f m l = kind_two k st d f (omega arith) ∙ rw ((simple_pops k h).0, t, u)
  below_other t u (suc (suc (suc n))) f m l = absurd (let y : ⊥ = omega arith in y)

  pub simple_below : {b : ℤ} → 1 < arity k → get_or st (d - 1) no_value ≡ number b → is_text (get_or st (d - 2) no_value) ≡ true → Others
  simple_below m t u = below_other t u (arity k) refl m (simple_pops k h).1

-- what a step that answers a length does
record Gone (e : Effect) (m : Machine) (w w' : ℕ) : Type 0 where
  pub goes : performed e m ≡ goes_on (machine_after e m) (printed_by e)
  pub counts : w' ≡ w + length (printed_by e)

straight_gone : (e : Effect) (m : Machine) (w w' : ℕ) → Straight e → step_of e w ≡ Go w' → Gone e m w w'
unfolding performed step_of machine_after
straight_gone (prints bytes) m w w' h g = let l : w' ≡ w + length bytes = cc in record { goes = refl; counts = l }
straight_gone (pushes (number v)) m w w' h g = absurd (let y : ◌≡◌ {A = ℕ} 0 1 = cc in (let z : ⊥ = omega arith in z))
straight_gone (pushes (text bytes)) m w w' h g = absurd h
straight_gone (stores c v) m w w' h g = let l : w' ≡ w = cc in record { goes = refl; counts = omega arith }
straight_gone increments m w w' h g = absurd h
straight_gone to_else m w w' h g = absurd h
straight_gone to_end m w w' h g = absurd h

only_pushes : (e : Effect) (w : ℕ) (v : ℤ) → step_of e w ≡ Push v → e ≡ pushes (number v)
unfolding step_of
only_pushes (prints bytes) w v h = absurd (let y : ◌≡◌ {A = ℕ} 0 1 = cc in (let z : ⊥ = omega arith in z))
only_pushes (pushes (number u)) w v h = let e : u ≡ v = cc in rw e
only_pushes (pushes (text bytes)) w v h = absurd (let y : ◌≡◌ {A = ℕ} 0 1 = cc in (let z : ⊥ = omega arith in z))
only_pushes (stores c u) w v h = absurd (let y : ◌≡◌ {A = ℕ} 0 1 = cc in (let z : ⊥ = omega arith in z))
only_pushes increments w v h = absurd (let y : ◌≡◌ {A = ℕ} 0 1 = cc in (let z : ⊥ = omega arith in z))
only_pushes to_else w v h = absurd (let y : ◌≡◌ {A = ℕ} 0 1 = cc in (let z : ⊥ = omega arith in z))
only_pushes to_end w v h = absurd (let y : ◌≡◌ {A = ℕ} 0 1 = cc in (let z : ⊥ = omega arith in z))

-- a value pushed onto the stack, where there is a place for it
push_goes : (st : List Value) (d : ℕ) (x : List Value) (y z : List ℤ) (v : Value) → length st ≡ stack_most → d < stack_most
    → performed (pushes v) (over st d x y z) ≡ goes_on (over (set st d v) (d + 1) x y z) []
unfolding performed
push_goes st d x y z v l h =
    rw (top_down_length no_value st d, lt-ltb d stack_most h, top_down_push no_value st d v (omega arith))

push_full : (st : List Value) (d : ℕ) (x : List Value) (y z : List ℤ) (v : Value) → stack_most ≤ d → performed (pushes v) (over st d x y z) ≡ full
unfolding performed
push_full st d x y z v h = rw (top_down_length no_value st d, le-ltb d stack_most h)

-- passing to the level's `%;`, or to its `%e` before it
abbrev goes_to : Bool → Machine → Taken
goes_to true m = goes_to_else m
goes_to false m = goes_to_end m

-- ---- the turns of a loop

abbrev point_at : ℕ → Machine → List ℕ → ℕ → Point
point_at i m o n = record { place = i; machine = m; output = o; steps = n }

leads_to : (elses : Bool) (s : List ℕ) (p : Point) (next : ℕ) (m : Machine)
    → step_by s p next (goes_to elses m) ≡ leads (further p (passed_to elses s next 0) m [])
leads_to true s p next m = refl
leads_to false s p next m = refl

-- the run comes to y₀ over a buffer of bytes c₀: the stack is st's first d elements, n steps are taken, i is the place, and the output o,
-- of w bytes, is in c if it fits. M: no text is longer
pub record Going (M : ℕ → Type 0) (s : List ℕ) (y₀ : Outcome) (c₀ : List ℕ) (x : List Value) (y z : List ℤ) (st : List Value) (d i n w : ℕ) (c o : List ℕ) : Type 0
  where
    pub depth : d ≤ stack_most
    pub places : length st ≡ stack_most
    pub nine : length x ≡ 9
    pub right : RightAt s i
    pub steps : n ≤ i
    pub counted : w ≡ length o
    pub short : (most : ℕ) → M most → Short most s i o
    pub same : length c ≡ length c₀
    pub output : length o ≤ length c₀ → c ≡ put_at c₀ 0 o
    pub runs : y₀ ≡ run_of_rest s (point_at i (over st d x y z) o n)

pub going_start : {M : ℕ → Type 0} (s c : List ℕ) (x : List Value) (z : List ℤ) (st : List Value) → length st ≡ stack_most → length x ≡ 9 → form_of s ≡ Ok tt
    → Going M s (run s x z) c x (replicate 26 (pos 0)) z st 0 0 0 0 c []
unfolding top_down
going_start s c x z st l n r =
    record {
      depth = omega arith;
      places = l;
      nine = n;
      right = right_start r;
      steps = omega arith;
      counted = refl;
      short = λ most _. short_none most s;
      same = refl;
      output = λ _. sym (put_nil c 0);
      runs = run_start s x z;
    }

module _ {M : ℕ → Type 0} {s : List ℕ} {y₀ : Outcome} {c₀ : List ℕ} {x : List Value} {y z : List ℤ} {st : List Value} {d i n w : ℕ} {c o : List ℕ}
    (G : Going M s y₀ c₀ x y z st d i n w c o) where
  pub going_done : length s ≤ i → y₀ ≡ finished (over st d x y z) o n
  going_done h = G.runs ∙ run_end_lem s (point_at i (over st d x y z) o n) h

  -- what is printed and taken so far is within the bounds
  pub going_within : (most : ℕ) → M most → (w ≤ room_with most s) × (n ≤ length s)
  going_within most m = (omega (arith, G.short most m, G.counted, G.right.inside), omega (arith, G.steps, G.right.inside))

  pub going_room : M text_most → length s ≤ string_most → w ≤ expansion_most
  going_room m l = omega (arith, (going_within text_most m).0, room_most s l)

  -- the elements of the stack's array from the depth on don't matter
  pub going_above : (st' : List Value) → length st' ≡ stack_most → top_down no_value st' d ≡ top_down no_value st d
      → Going M s y₀ c₀ x y z st' d i n w c o
  going_above st' l e =
      record {
        depth = G.depth;
        places = l;
        nine = G.nine;
        right = G.right;
        steps = G.steps;
        counted = G.counted;
        short = G.short;
        same = G.same;
        output = G.output;
        runs = G.runs ∙ rw e;
      }

  module _ (k : Lexed) (q : k ≡ item_at s i) (h : i < length s) where
    pub going_leads : i < k.next
    going_leads = rw q (item_on s i h)

    right_next : RightAt s k.next
    right_next = rw q (right_on G.right h)

    pub going_empty : d < arity k.item → y₀ ≡ failed 15 i
    unfolding step
    going_empty l =
        let p = point_at i (over st d x y z) o n in
        G.runs ∙ run_step s p h ∙ rw (← q, taking_none k.item st d x y z l)

    -- a value of the other kind is popped
    pub going_other : arity k.item ≤ d → other_kind k.item (take (arity k.item) (top_down no_value st d)) ≡ true → y₀ ≡ failed 21 i
    unfolding step
    going_other l e =
        let p = point_at i (over st d x y z) o n in
        G.runs ∙ run_step s p h ∙ rw (← q, taking_other k.item st d x y z l e)

    -- an item that pops one value
    pub one_empty : arity k.item ≡ 1 → d < 1 → y₀ ≡ failed 15 i
    one_empty a l = going_empty (omega arith)

    pub one_other : arity k.item ≡ 1 → 0 < d → other k.item (get_or st (d - 1) no_value) ≡ true → y₀ ≡ failed 21 i
    one_other a l e = going_other (omega arith) (kind_one k.item st d a l ∙ rw e)

    module _ {d' : ℕ} {a b : Value} (p : Popped k.item st d d' a b) where
      abbrev eff : Effect
      eff = effect k.item (over st d' x y z) a b

      by_taken : {t : Taken} → performed eff (over st d' x y z) ≡ t
          → y₀ ≡ run_behind s (point_at i (over st d x y z) o n) (step_by s (point_at i (over st d x y z) o n) k.next t)
      unfolding step
      by_taken e =
          let P = point_at i (over st d x y z) o n in
          G.runs ∙ run_step s P h ∙ rw (← q, taking_popped k.item st d x y z d' a b p, e)

      pub going_full : (v : Value) → eff ≡ pushes v → stack_most ≤ d' → y₀ ≡ failed 16 i
      going_full v e l =
          let f : performed eff (over st d' x y z) ≡ full = rw e (push_full st d' x y z v l) in
          by_taken f

      -- the run goes on behind the item
      pub going_on : {st' : List Value} {d'' : ℕ} {x' : List Value} {y' z' : List ℤ} {bytes c' : List ℕ} {w' : ℕ}
          → performed eff (over st d' x y z) ≡ goes_on (over st' d'' x' y' z') bytes
          → d'' ≤ stack_most → length st' ≡ stack_most → length x' ≡ 9
          → ((most : ℕ) → M most → length bytes ≤ room_for (k.next - i) + most * count_one prints_text s i)
          → w' ≡ w + length bytes → c' ≡ emitted c w bytes
          → Going M s y₀ c₀ x' y' z' st' d'' k.next (n + 1) w' c' (o ++ bytes)
      going_on {st'} {d''} {x'} {y'} {z'} {bytes} {c'} {w'} e l m u v g f =
          let a : length (o ++ bytes) ≡ length o + length bytes = length-append o bytes in
          record {
            depth = l;
            places = m;
            nine = u;
            right = right_next;
            steps = omega (arith, G.steps, going_leads);
            counted = omega (arith, G.counted);
            short = λ most t. rw (← q) at (short_more most s i o bytes h (G.short most t) (rw q at (v most t)));
            same = ap length f ∙ length_emitted c w bytes ∙ G.same;
            output = λ b. f ∙ rw G.counted (emitted_on c₀ c o bytes G.same G.output b);
            runs = by_taken e;
          }

      pub going_pushed : (v : Value) → eff ≡ pushes v → d' < stack_most
          → Going M s y₀ c₀ x y z (set st d' v) (d' + 1) k.next (n + 1) w c o
      going_pushed v e l =
          let f : performed eff (over st d' x y z) ≡ goes_on (over (set st d' v) (d' + 1) x y z) [] = rw e (push_goes st d' x y z v G.places l) in
          rw (append-nil o) at (going_on {w' = w} f (omega arith) (length-set st d' v ∙ G.places) G.nine (λ _ _. omega arith) (omega arith) (emitted_nothing c w))

      -- nothing is printed
      pub going_silent : {x' : List Value} → performed eff (over st d' x y z) ≡ goes_on (over st d' x' y z) [] → length x' ≡ 9
          → Going M s y₀ c₀ x' y z st d' k.next (n + 1) w c o
      going_silent f u =
          rw (append-nil o) at (going_on {w' = w} f (omega (arith, G.depth, p.left)) G.places u (λ _ _. omega arith) (omega arith) (emitted_nothing c w))

      -- or where passing leads
      pub going_past : (elses : Bool) {r : ℕ} → performed eff (over st d' x y z) ≡ goes_to elses (over st d' x y z)
          → OpenAt s k.next 0 → PastLevel elses s k.next r → Going M s y₀ c₀ x y z st d' r (n + 1) w c o
      going_past elses {r} e op pl =
          let f : r ≡ passed_to elses s k.next 0 = past_passed op pl in
          let g : k.next ≤ passed_to elses s k.next 0 = passed_on elses s k.next 0 in
          let b : (most : ℕ) → M most → Short most s k.next (o ++ []) = λ most t. rw (← q) at (short_more most s i o [] h (G.short most t) (omega arith)) in
          record {
            depth = omega (arith, G.depth, p.left);
            places = G.places;
            nine = G.nine;
            right = rw f (passed_right elses op);
            steps = omega (arith, G.steps, going_leads);
            counted = G.counted;
            short = λ most t. rw f (short_passes most s elses k.next o (rw (append-nil o) at (b most t)));
            same = G.same;
            output = G.output;
            runs = by_taken e ∙ rw (leads_to elses s (point_at i (over st d x y z) o n) k.next (over st d' x y z), f, append-nil o);
          }

    -- a simple item that the machine's step took, with its values popped
    module _ {d' : ℕ} {a b : ℤ} (p : Popped k.item st d d' (number a) (number b)) (j : Simple k.item) {y' z' : List ℤ} {c' : List ℕ} {r : Step}
        (g : (st' x' : List Value) → SteppedAs (effect k.item (machine st' x' y z) (number a) (number b)) w (machine st' x' y z) (machine st' x' y' z') c c' r) where
      abbrev simple_effect : Effect
      simple_effect = effect k.item (over st d' x y z) (number a) (number b)

      stepped : SteppedAs simple_effect w (over st d' x y z) (over st d' x y' z') c c' r
      stepped = g (top_down no_value st d') x

      step_pushes : {v : ℤ} → r ≡ Push v → simple_effect ≡ pushes (number v)
      step_pushes {v} u = only_pushes simple_effect w v (sym stepped.step ∙ u)

      pub step_full : {v : ℤ} → r ≡ Push v → stack_most ≤ d' → y₀ ≡ failed 16 i
      step_full {v} u l = going_full p (number v) (step_pushes u) l

      pub step_pushed : {v : ℤ} → r ≡ Push v → d' < stack_most → Going M s y₀ c₀ x y' z' (set st d' (number v)) (d' + 1) k.next (n + 1) w c' o
      unfolding machine_after
      step_pushed {v} u l =
          let e : simple_effect ≡ pushes (number v) = step_pushes u in
          let f : over st d' x y' z' ≡ over st d' x y z = stepped.after ∙ rw e in
          let ey : y' ≡ y = ap (λ (m : Machine). m.locals) f in
          let ez : z' ≡ z = ap (λ (m : Machine). m.lasting) f in
          let ec : c' ≡ c = stepped.output ∙ rw e (sym (emitted_nothing c w)) in
          rw (ey, ez, ec) (going_pushed p (number v) e l)

      pub step_gone : {w' : ℕ} → r ≡ Go w' → Value32 b → Going M s y₀ c₀ x y' z' st d' k.next (n + 1) w' c' (o ++ printed_by simple_effect)
      step_gone {w'} u v =
          let f : Gone simple_effect (over st d' x y z) w w' =
          straight_gone simple_effect (over st d' x y z) w w' (simple_straight k.item (over st d' x y z) (number a) (number b) j) (sym stepped.step ∙ u) in
          let m : performed simple_effect (over st d' x y z) ≡ goes_on (over st d' x y' z') (printed_by simple_effect) = f.goes ∙ rw stepped.after in
          let l : (most : ℕ) → M most → length (printed_by simple_effect) ≤ room_for (k.next - i) + most * count_one prints_text s i =
          λ most _. rw q (item_bounded most s i (over st d' x y z) (number a) (number b) h v) in
          going_on p m (omega (arith, G.depth, p.left)) G.places G.nine l f.counts stepped.output

  -- ---- the items that the run takes by itself; next is the place behind the item

  module _ (h : i < length s) {next : ℕ} where
    pub byte_gone : {b : ℕ} {c' : List ℕ} → lexed (I.Byte b) next ≡ item_at s i → c' ≡ emitted c w (b ∷ [])
        → Going M s y₀ c₀ x y z st d next (n + 1) (w + 1) c' (o ++ (b ∷ []))
    unfolding effect performed arity
    byte_gone {b} q f =
        let l : i < next = going_leads (lexed (I.Byte b) next) q h in
        going_on (lexed (I.Byte b) next) q h (popped_none (I.Byte b) st d refl) refl G.depth G.places G.nine (λ _ _. omega arith) refl f

    pub argument_below : {j : ℕ} → lexed (I.Argument j) next ≡ item_at s i → j < 9
    argument_below {j} q = rw (← q) at (item_holds s i h)

    pub argument_full : {j : ℕ} → lexed (I.Argument j) next ≡ item_at s i → stack_most ≤ d → y₀ ≡ failed 16 i
    unfolding effect arity
    argument_full {j} q l =
        going_full (lexed (I.Argument j) next) q h (popped_none (I.Argument j) st d refl) (get_or x j no_value) refl l

    pub argument_pushed : {j : ℕ} → lexed (I.Argument j) next ≡ item_at s i → d < stack_most
        → Going M s y₀ c₀ x y z (set st d (get_or x j no_value)) (d + 1) next (n + 1) w c o
    unfolding effect arity
    argument_pushed {j} q l =
        going_pushed (lexed (I.Argument j) next) q h (popped_none (I.Argument j) st d refl) (get_or x j no_value) refl l

    pub constant_full : {v : ℤ} → lexed (I.Constant v) next ≡ item_at s i → stack_most ≤ d → y₀ ≡ failed 16 i
    unfolding effect arity
    constant_full {v} q l = going_full (lexed (I.Constant v) next) q h (popped_none (I.Constant v) st d refl) (number v) refl l

    pub constant_pushed : {v : ℤ} → lexed (I.Constant v) next ≡ item_at s i → d < stack_most
        → Going M s y₀ c₀ x y z (set st d (number v)) (d + 1) next (n + 1) w c o
    unfolding effect arity
    constant_pushed {v} q l = going_pushed (lexed (I.Constant v) next) q h (popped_none (I.Constant v) st d refl) (number v) refl l

    pub if_gone : lexed I.If next ≡ item_at s i → Going M s y₀ c₀ x y z st d next (n + 1) w c o
    unfolding effect performed arity
    if_gone q = going_silent (lexed I.If next) q h (popped_none I.If st d refl) refl G.nine

    pub end_gone : lexed I.End next ≡ item_at s i → Going M s y₀ c₀ x y z st d next (n + 1) w c o
    unfolding effect performed arity
    end_gone q = going_silent (lexed I.End next) q h (popped_none I.End st d refl) refl G.nine

    pub incremented_gone : {x' : List Value} → lexed I.Increment next ≡ item_at s i → x' ≡ incremented x
        → Going M s y₀ c₀ x' y z st d next (n + 1) w c o
    unfolding effect performed arity incremented
    incremented_gone {x'} q e =
        rw e (going_silent (lexed I.Increment next) q h (popped_none I.Increment st d refl) refl (length-set (set x 0 _) 1 _ ∙ length-set x 0 _ ∙ G.nine))

    -- ---- `%d` and the like

    pub number_empty : {b : Base} {f : Bool} {l : ℕ} → lexed (I.Number b f l) next ≡ item_at s i → d < 1 → y₀ ≡ failed 15 i
    unfolding arity
    number_empty {b} {f} {l} q u = one_empty (lexed (I.Number b f l) next) q h refl u

    pub number_other : {b : Base} {f : Bool} {l : ℕ} → lexed (I.Number b f l) next ≡ item_at s i → 0 < d → is_text (get_or st (d - 1) no_value) ≡ true → y₀ ≡ failed 21 i
    unfolding arity pops_text
    number_other {b} {f} {l} q u e = one_other (lexed (I.Number b f l) next) q h refl u e

    pub number_gone : {b : Base} {f : Bool} {l : ℕ} {v : ℤ} {w' : ℕ} {c' : List ℕ} → lexed (I.Number b f l) next ≡ item_at s i → 0 < d
        → get_or st (d - 1) no_value ≡ number v → Value32 v → w' ≡ w + length (printed b f l v) → c' ≡ emitted c w (printed b f l v)
        → Going M s y₀ c₀ x y z st (d - 1) next (n + 1) w' c' (o ++ printed b f l v)
    unfolding effect performed arity pops_text
    number_gone {b} {f} {l} {v} {w'} {c'} q u t v32 g e =
        let p : Popped (I.Number b f l) st d (d - 1) no_value (number v) = popped_one (I.Number b f l) st d (d - 1) (number v) refl u refl (sym t) refl in
        going_on (lexed (I.Number b f l) next) q h p refl (omega (arith, G.depth)) G.places G.nine
        (λ most _.
        subst
        (λ (k : Lexed). length (printed_by (effect k.item (over st (d - 1) x y z) no_value (number v))) ≤ room_for (k.next - i) + most * count_one prints_text s i)
        (sym q) (item_bounded most s i (over st (d - 1) x y z) no_value (number v) h v32))
        g e

    -- ---- `%s` and `%l`

    pub text_empty : lexed I.Text next ≡ item_at s i → d < 1 → y₀ ≡ failed 15 i
    unfolding arity
    text_empty q u = one_empty (lexed I.Text next) q h refl u

    pub text_other : lexed I.Text next ≡ item_at s i → 0 < d → is_text (get_or st (d - 1) no_value) ≡ false → y₀ ≡ failed 21 i
    unfolding arity pops_text
    text_other q u e = one_other (lexed I.Text next) q h refl u (rw e)

    pub text_gone : {bytes : List ℕ} {w' : ℕ} {c' : List ℕ} → lexed I.Text next ≡ item_at s i → 0 < d → get_or st (d - 1) no_value ≡ text bytes
        → ((most : ℕ) → M most → length bytes ≤ most) → w' ≡ w + length bytes → c' ≡ emitted c w bytes
        → Going M s y₀ c₀ x y z st (d - 1) next (n + 1) w' c' (o ++ bytes)
    unfolding effect performed arity pops_text prints_text
    text_gone {bytes} {w'} {c'} q u t m g e =
        let p : Popped I.Text st d (d - 1) no_value (text bytes) = popped_one I.Text st d (d - 1) (text bytes) refl u refl (sym t) refl in
        let one : count_one prints_text s i ≡ 1 = rw (← q) in
        going_on (lexed I.Text next) q h p refl (omega (arith, G.depth)) G.places G.nine (λ most k. rw one (omega (arith, m most k))) g e

    pub length_empty : lexed I.Length next ≡ item_at s i → d < 1 → y₀ ≡ failed 15 i
    unfolding arity
    length_empty q u = one_empty (lexed I.Length next) q h refl u

    pub length_other : lexed I.Length next ≡ item_at s i → 0 < d → is_text (get_or st (d - 1) no_value) ≡ false → y₀ ≡ failed 21 i
    unfolding arity pops_text
    length_other q u e = one_other (lexed I.Length next) q h refl u (rw e)

    pub length_gone : {bytes : List ℕ} → lexed I.Length next ≡ item_at s i → 0 < d → get_or st (d - 1) no_value ≡ text bytes
        → Going M s y₀ c₀ x y z (set st (d - 1) (number (pos (length bytes)))) d next (n + 1) w c o
    unfolding effect performed arity pops_text
    length_gone {bytes} q u t =
        let p : Popped I.Length st d (d - 1) no_value (text bytes) = popped_one I.Length st d (d - 1) (text bytes) refl u refl (sym t) refl in
        let e : d - 1 + 1 ≡ d = omega arith in
        rw e at (going_pushed (lexed I.Length next) q h p (number (pos (length bytes))) refl (omega (arith, G.depth)))

    -- ---- `%e`

    pub else_open : lexed I.Else next ≡ item_at s i → OpenAt s next 0
    else_open q = rw (← q) at (right_else G.right h (ap (λ (l : Lexed). l.item) (sym q)))

    pub else_past : {r : ℕ} → lexed I.Else next ≡ item_at s i → PastLevel false s next r → Going M s y₀ c₀ x y z st d r (n + 1) w c o
    unfolding effect performed arity
    else_past q l = going_past (lexed I.Else next) q h (popped_none I.Else st d refl) false refl (else_open q) l

    pub else_further : {r : ℕ} → lexed I.Else next ≡ item_at s i → PastLevel false s next r → i < r
    else_further q l = omega (arith, going_leads (lexed I.Else next) q h, past_passed (else_open q) l, passed_on false s next 0)

    -- ---- `%t`

    pub then_open : lexed I.Then next ≡ item_at s i → OpenAt s next 0
    then_open q = rw (← q) at (right_then G.right h (ap (λ (l : Lexed). l.item) (sym q)))

    pub then_further : {r : ℕ} → lexed I.Then next ≡ item_at s i → PastLevel true s next r → i < r
    then_further q l = omega (arith, going_leads (lexed I.Then next) q h, past_passed (then_open q) l, passed_on true s next 0)

    pub then_empty : lexed I.Then next ≡ item_at s i → d < 1 → y₀ ≡ failed 15 i
    unfolding arity
    then_empty q l = one_empty (lexed I.Then next) q h refl l

    pub then_other : lexed I.Then next ≡ item_at s i → 0 < d → is_text (get_or st (d - 1) no_value) ≡ true → y₀ ≡ failed 21 i
    unfolding arity pops_text
    then_other q u e = one_other (lexed I.Then next) q h refl u e

    module _ (q : lexed I.Then next ≡ item_at s i) (u : 0 < d) {v : ℤ} (t : get_or st (d - 1) no_value ≡ number v) where
      popped_then : Popped I.Then st d (d - 1) no_value (number v)
      unfolding arity pops_text
      popped_then = popped_one I.Then st d (d - 1) (number v) refl u refl (sym t) refl

      pub then_past : {r : ℕ} → is_zero v ≡ true → PastLevel true s next r → Going M s y₀ c₀ x y z st (d - 1) r (n + 1) w c o
      unfolding effect performed
      then_past {r} e l = going_past (lexed I.Then next) q h popped_then true (rw e) (then_open q) l

      pub then_gone : is_zero v ≡ false → Going M s y₀ c₀ x y z st (d - 1) next (n + 1) w c o
      unfolding effect performed
      then_gone e = going_silent (lexed I.Then next) q h popped_then (rw e) G.nine
