-- Laws of a stack in an array.
-- Assumes nothing.
use mathlib.Core.Path.{◌≡◌, refl, sym, ap, ap₂, ◌∙◌}
use mathlib.Core.Bool.{Bool, true, false, ◌||◌, not}
use mathlib.Core.List.{List, [], ◌∷◌}
use Prim.Native.Nat.{ℕ, zero, suc, ◌+◌, ◌-◌, ◌≤◌, ◌<◌}
use native.Mathlib.Numerals.{add-one}
use native.Mathlib.Omega.{arith}
use lib.IntN.{ℤ}
use lib.ListN.{length, get_or, set, take, drop}
use lib.Seq.{get_or-set_same, get_or-set_other}
use borrow.Author.Tests.{lt-ltb, le-ltb}
use Rattle.expansion.specs.declared.Item.{Item}
use Rattle.base.specs.If.{when◌then◌else◌}
use Rattle.expansion.specs.Values.{Value, no_value, is_text}
use Rattle.expansion.specs.Machine.{Machine, empty, mismatched, arity, pops_text, other_kind, effect, performed, taking}
use Rattle.variables.specs.Machines.{machine}
use Rattle.machine.proofs.Laws.{effect_same}

-- an array's first n elements, the last of them first
unfoldable pub top_down : {A : Type 0} → A → List A → ℕ → List A
top_down z l zero = []
top_down z l (suc n) = get_or l n z ∷ top_down z l n

pub top_down_length : {A : Type 0} (z : A) (l : List A) (n : ℕ) → length (top_down z l n) ≡ n
unfolding top_down
top_down_length z l zero = refl
top_down_length z l (suc n) = ap suc (top_down_length z l n)

top_down_set : {A : Type 0} (z : A) (l : List A) (i n : ℕ) (v : A) → n ≤ i → top_down z (set l i v) n ≡ top_down z l n
unfolding top_down
top_down_set z l i zero v h = refl
top_down_set z l i (suc n) v h = ap₂ ◌∷◌ (get_or-set_other l i n v z (λ e. omega arith)) (top_down_set z l i n v (omega arith))

pub top_down_push : {A : Type 0} (z : A) (l : List A) (n : ℕ) (v : A) → n < length l → top_down z (set l n v) (n + 1) ≡ v ∷ top_down z l n
unfolding top_down
top_down_push z l n v h = rw (add-one n) (ap₂ ◌∷◌ (get_or-set_same l n v z h) (top_down_set z l n n v (omega arith)))

top_down_drop : {A : Type 0} (z : A) (l : List A) (n k : ℕ) → k ≤ n → drop k (top_down z l n) ≡ top_down z l (n - k)
unfolding top_down
top_down_drop z l n zero h = let e : n - 0 ≡ n = omega arith in rw e
top_down_drop z l zero (suc k) h = absurd (let y : ⊥ = omega arith in y)
top_down_drop z l (suc n) (suc k) h = let e : suc n - suc k ≡ n - k = omega arith in rw e (top_down_drop z l n k (omega arith))

top_down_at : {A : Type 0} (z : A) (l : List A) (n k : ℕ) → k < n → get_or (top_down z l n) k z ≡ get_or l (n - (k + 1)) z
unfolding top_down
top_down_at z l zero k h = absurd (let y : ⊥ = omega arith in y)
top_down_at z l (suc n) zero h = let e : suc n - (0 + 1) ≡ n = omega arith in rw e
top_down_at z l (suc n) (suc k) h = let e : suc n - (suc k + 1) ≡ n - (k + 1) = omega arith in rw e (top_down_at z l n k (omega arith))

top_down_one : {A : Type 0} (z : A) (l : List A) (n : ℕ) → 0 < n → take 1 (top_down z l n) ≡ get_or l (n - 1) z ∷ []
unfolding top_down
top_down_one z l zero h = absurd (let y : ⊥ = omega arith in y)
top_down_one z l (suc n) h = let e : suc n - 1 ≡ n = omega arith in rw e

top_down_two : {A : Type 0} (z : A) (l : List A) (n : ℕ) → 1 < n → take 2 (top_down z l n) ≡ get_or l (n - 1) z ∷ get_or l (n - 2) z ∷ []
unfolding top_down
top_down_two z l zero h = absurd (let y : ⊥ = omega arith in y)
top_down_two z l (suc zero) h = absurd (let y : ⊥ = omega arith in y)
top_down_two z l (suc (suc n)) h =
    let e : suc (suc n) - 1 ≡ suc n = omega arith in
    let f : suc (suc n) - 2 ≡ n = omega arith in
    rw (e, f)

-- what lies at and above the place n doesn't matter
pub top_down_above : {A : Type 0} (z : A) (l : List A) (n : ℕ) (v : A) → top_down z (set l n v) n ≡ top_down z l n
top_down_above z l n v = top_down_set z l n n v (omega arith)

-- the machine whose stack is an array's first d elements
abbrev pub over : List Value → ℕ → List Value → List ℤ → List ℤ → Machine
over st d x y z = machine (top_down no_value st d) x y z

-- a value is of the other kind than an item takes
abbrev pub other : Item → Value → Bool
other k v = when pops_text k then not (is_text v) else is_text v

-- d' elements are left of d where an item's values are popped: b, and a below it, both of the kind that it takes
pub record Popped (k : Item) (st : List Value) (d d' : ℕ) (a b : Value) : Type 0 where
  pub enough : arity k ≤ d
  pub left : d' ≡ d - arity k
  pub top : 0 < arity k → b ≡ get_or st (d - 1) no_value
  pub below : 1 < arity k → a ≡ get_or st (d - 2) no_value
  pub kind : other_kind k (take (arity k) (top_down no_value st d)) ≡ false

module _ (k : Item) (st : List Value) (d : ℕ) where
  -- ---- the kinds of the values that are popped

  pub kind_none : arity k ≡ 0 → other_kind k (take (arity k) (top_down no_value st d)) ≡ false
  unfolding other_kind
  kind_none e = rw e

  pub kind_one : arity k ≡ 1 → 0 < d → other_kind k (take (arity k) (top_down no_value st d)) ≡ other k (get_or st (d - 1) no_value) || false
  unfolding other_kind
  kind_one e h = rw (e, top_down_one no_value st d h)

  pub kind_two : arity k ≡ 2 → 1 < d
      → other_kind k (take (arity k) (top_down no_value st d)) ≡ other k (get_or st (d - 1) no_value) || (other k (get_or st (d - 2) no_value) || false)
  unfolding other_kind
  kind_two e h = rw (e, top_down_two no_value st d h)

  -- ---- taking

  module _ (x : List Value) (y z : List ℤ) where
    pub taking_none : d < arity k → taking k (over st d x y z) ≡ empty
    unfolding taking
    taking_none h = rw (top_down_length no_value st d, lt-ltb d (arity k) h)

    pub taking_other : arity k ≤ d → other_kind k (take (arity k) (top_down no_value st d)) ≡ true → taking k (over st d x y z) ≡ mismatched
    unfolding taking
    taking_other h e = rw (top_down_length no_value st d, le-ltb d (arity k) h, e)

    pub taking_popped : (d' : ℕ) (a b : Value) → Popped k st d d' a b → taking k (over st d x y z) ≡ performed (effect k (over st d' x y z) a b) (over st d' x y z)
    unfolding taking
    taking_popped d' a b p =
        let e = effect_same k (top_down no_value st d) (top_down no_value st d') x y z (get_or (top_down no_value st d) 1 no_value) a
        (get_or (top_down no_value st d) 0 no_value) b
        (λ l. top_down_at no_value st d 0 (omega arith) ∙ sym (p.top l)) (λ l. top_down_at no_value st d 1 (omega arith) ∙ sym (p.below l)) in
        rw (top_down_length no_value st d, le-ltb d (arity k) p.enough, p.kind, e, top_down_drop no_value st d (arity k) p.enough, p.left)

-- nothing is popped
pub popped_none : (k : Item) (st : List Value) (d : ℕ) → arity k ≡ 0 → Popped k st d d no_value no_value
popped_none k st d e =
    record {
      enough = omega arith;
      left = omega arith;
      top = λ l. absurd (let y : ⊥ = omega arith in y);
      below = λ l. absurd (let y : ⊥ = omega arith in y);
      kind = kind_none k st d e;
    }

-- one value of the right kind is popped
pub popped_one : (k : Item) (st : List Value) (d d' : ℕ) (b : Value) → arity k ≡ 1 → 0 < d → d' ≡ d - 1 → b ≡ get_or st (d - 1) no_value
    → other k b ≡ false → Popped k st d d' no_value b
popped_one k st d d' b e h l t o =
    record {
      enough = omega arith;
      left = omega arith;
      top = λ _. t;
      below = λ l. absurd (let y : ⊥ = omega arith in y);
      kind = kind_one k st d e h ∙ rw (← t, o);
    }
