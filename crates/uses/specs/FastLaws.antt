-- The walk that keeps heights answers as the plain walk, with what that gives put in its order.
-- Assumes nothing.
use Rattle.std.specs.Prelude.{◌≡◌, Bool, ◌||◌}
use Rattle.std.proofs.Math.Path.{refl}
use Rattle.std.proofs.Common.{sym, ap, ◌∙◌, arith}
use Rattle.std.proofs.Math.Bool.{true, false}
use mathlib.Core.List.{List, [], ◌∷◌}
use Prim.Native.Nat.{ℕ, zero, suc, ◌<◌, ◌≤◌}
use Rattle.std.proofs.Math.Dec.{eqb, ltb}
use borrow.Author.Tests.{eqb-true, eqb-false, eq-eqb, ne_eqb, ltb-true, ltb-false, lt-ltb}
use Rattle.base.specs.If.{when◌then◌else◌}
use Rattle.base.proofs.IfLaws.{true_false}
use Rattle.base.specs.Tabulate.{Each}
use Rattle.base.specs.Answer.{Answer, refused, gives, map_answer}
use Rattle.uses.specs.Walk.{Use, missing, found, Graph, uses_most, is_in, bind}
use Rattle.uses.specs.Plain.{both, each, follow, walk, wanted}
use Rattle.uses.specs.Once.{put_all, FirstStands, put_append, put_again, stays_all}
use Rattle.uses.specs.Heights.{Kept, unfinished, height, Heights, height_of, Right, low, Low, keep, Above}
use Rattle.uses.specs.Heights.{Finished, fits, unfinished_height}
use Rattle.uses.specs.Finished.{height_inj, not_unfinished, Keeps, height_of_keeps, GivesFinished, walk_finished}
use Rattle.uses.specs.Fast.{Met, enter, finish, fast_each, fast_follow, start, fast}

-- ---- what is kept for finished descriptions

pub keep_at : (m : Heights) (d : ℕ) (k : Kept) → keep m d k d ≡ k
unfolding keep
keep_at m d k = rw (eq-eqb d d refl)

pub keep_other : (m : Heights) (d x : ℕ) (k : Kept) → eqb x d ≡ false → keep m d k x ≡ m x
unfolding keep
keep_other m d x k e = rw e

low_of : (k : Kept) (h : ℕ) → low k ≡ height h → (k ≡ height h) × (h < unfinished_height)
unfolding low
low_of unfinished h e = not_unfinished h e
low_of (height x) h e = by (ltb x unfinished_height) refl e
  where
    by : (b : Bool) → ltb x unfinished_height ≡ b → (when b then height x else unfinished) ≡ height h
        → (height x ≡ height h) × (h < unfinished_height)
    by true q p = let l = ltb-true x unfinished_height q in let i = height_inj x h p in (p, omega arith)
    by false q p = not_unfinished h p

pub low_height : (h : ℕ) → h < unfinished_height → low (height h) ≡ height h
unfolding low
low_height h l = rw (lt-ltb h unfinished_height l)

module _ (g : Graph) (m : Heights) (right : Right g m) (small : Low m) (d : ℕ) where
  -- what is kept with d finished
  abbrev pub kept : Heights
  kept = keep m d (low (height_of m (g d)))

  pub finish_keeps : Keeps m kept
  finish_keeps x h e = by (eqb x d) refl
    where
      by : (b : Bool) → eqb x d ≡ b → kept x ≡ height h
      by true t =
          let q : x ≡ d = eqb-true x d t in
          rw q
          (keep_at m d (low (height_of m (g d)))
          ∙ (ap low (right d h (ap m (sym q) ∙ e)) ∙ low_height h (small x h e)))
      by false t = keep_other m d x (low (height_of m (g d))) t ∙ e

  -- a height kept was kept before, or is that of d
  finish_cases : (x h : ℕ) → kept x ≡ height h → (height_of m (g x) ≡ height h) × (h < unfinished_height)
  finish_cases x h e = by (eqb x d) refl
    where
      by : (b : Bool) → eqb x d ≡ b → (height_of m (g x) ≡ height h) × (h < unfinished_height)
      by true t =
          let q : x ≡ d = eqb-true x d t in
          let l = low_of (height_of m (g d)) h (sym (keep_at m d (low (height_of m (g d)))) ∙ (ap kept (sym q) ∙ e)) in
          (ap (λ y. height_of m (g y)) q ∙ l.0, l.1)
      by false t =
          let e' : m x ≡ height h = sym (keep_other m d x (low (height_of m (g d))) t) ∙ e in
          (right x h e', small x h e')

  pub finish_right : Right g kept
  finish_right x h e = height_of_keeps m kept finish_keeps (g x) h (finish_cases x h e).0

  pub finish_low : Low kept
  finish_low x h e = (finish_cases x h e).1

-- ---- what is kept for open descriptions

-- the heights kept for open descriptions, if any, are at least the uses left
abbrev High : Heights → ℕ → List ℕ → Type 0
High m left chain = Each (λ a. (x : ℕ) → m a ≡ height x → left ≤ x) chain

-- for open descriptions the same is kept
abbrev pub Same : Heights → Heights → List ℕ → Type 0
Same m m' chain = Each (λ a. m' a ≡ m a) chain

high_above : (m : Heights) (left h : ℕ) (chain : List ℕ) → h < left → High m left chain → Above m h chain
high_above m left h [] l high = tt
high_above m left h (a ∷ more) l high =
    ((λ x e. let q = high.0 x e in omega arith), high_above m left h more l high.1)

high_less : (m : Heights) (left k : ℕ) (chain : List ℕ) → k ≤ left → High m left chain → High m k chain
high_less m left k [] l high = tt
high_less m left k (a ∷ more) l high =
    ((λ x e. let q = high.0 x e in omega arith), high_less m left k more l high.1)

high_same : (m m' : Heights) (left : ℕ) (chain : List ℕ) → Same m m' chain → High m left chain → High m' left chain
high_same m m' left [] same high = tt
high_same m m' left (a ∷ more) same high =
    ((λ x e. high.0 x (sym same.0 ∙ e)), high_same m m' left more same.1 high.1)

same_refl : (m : Heights) (chain : List ℕ) → Same m m chain
same_refl m [] = tt
same_refl m (a ∷ more) = (refl, same_refl m more)

same_trans : (m m' m'' : Heights) (chain : List ℕ) → Same m m' chain → Same m' m'' chain → Same m m'' chain
same_trans m m' m'' [] a b = tt
same_trans m m' m'' (x ∷ more) a b = (b.0 ∙ a.0, same_trans m m' m'' more a.1 b.1)

pub same_keep : (m m' : Heights) (t : ℕ) (k : Kept) (chain : List ℕ) → is_in t chain ≡ false → Same m m' chain
    → Same m (keep m' t k) chain
unfolding is_in
same_keep m m' t k [] e same = tt
same_keep m m' t k (a ∷ more) e same = by (eqb t a) refl e (λ e'. same_keep m m' t k more e' same.1)
  where
    by : (b : Bool) → eqb t a ≡ b → (b || is_in t more) ≡ false → (is_in t more ≡ false → Same m (keep m' t k) more)
        → (keep m' t k a ≡ m a) × Same m (keep m' t k) more
    by true q h ih = true_false h
    by false q h ih = (keep_other m' t a k (ne_eqb a t (λ p. eqb-false t a q (sym p))) ∙ same.0, ih h)

-- ---- the two walks

module _ {S : Type 0} (put : S → ℕ → S) (law : FirstStands put) (g : Graph) where
  -- the heights are right, and what is finished was put
  pub record Good (s : Met S) : Type 0 where
    pub right : Right g s.heights
    pub small : Low s.heights
    pub done : (v h : ℕ) → s.heights v ≡ height h → put s.state v ≡ s.state

  -- from s, with the chain open, b is what the plain answer says
  abbrev Agree : Met S → List ℕ → Answer (List ℕ) → Answer (Met S) → Type 0
  Agree s chain (refused n v) b = b ≡ refused n v
  Agree s chain (gives vs) b =
      (r : Met S) × (b ≡ gives r) × Good r × (r.state ≡ put_all put s.state vs)
      × Same s.heights r.heights chain

  agree_both : (s : Met S) (chain : List ℕ) (a : Answer (List ℕ)) (b : Answer (Met S)) (a' : Answer (List ℕ))
      (f : Met S → Answer (Met S))
      → Agree s chain a b
      → ((r : Met S) → Good r → Same s.heights r.heights chain → Agree r chain a' (f r))
      → Agree s chain (both a a') (bind b f)
  agree_both s chain (refused n v) b a' f h next = rw h
  agree_both s chain (gives vs) b (refused n v) f h next =
      let (r, e, good, st, same) = h in rw e (next r good same)
  agree_both s chain (gives vs) b (gives ws) f h next =
      let (r, e, good, st, same) = h in
      let (r', e', good', st', same') = next r good same in (
        r',
        rw e e',
        good',
        st' ∙ (ap (λ x. put_all put x ws) st ∙ sym (put_append put s.state vs ws)),
        same_trans s.heights r.heights r'.heights chain same same',
      )

  agree_each : (down : Use → Answer (List ℕ)) (down' : Use → Met S → Answer (Met S)) (left : ℕ) (chain : List ℕ)
      → ((u : Use) (s : Met S) → Good s → High s.heights left chain → Agree s chain (down u) (down' u s))
      → (us : List Use) (s : Met S) → Good s → High s.heights left chain
      → Agree s chain (each down us) (fast_each down' us s)
  unfolding each fast_each put_all
  agree_each down down' left chain one [] s good high = (s, refl, good, refl, same_refl s.heights chain)
  agree_each down down' left chain one (u ∷ us) s good high =
      agree_both s chain (down u) (down' u s) (each down us) (fast_each down' us) (one u s good high)
      (λ r good' same.
      agree_each down down' left chain one us r good' (high_same s.heights r.heights left chain same high))

  good_enter : (s : Met S) (t : ℕ) → Good s → Good (enter put t s)
  unfolding enter
  good_enter s t good =
      record {
        right = good.right;
        small = good.small;
        done = λ v h e. law.stays s.state v t (good.done v h e);
      }

  good_finish : (s : Met S) (t : ℕ) → put s.state t ≡ s.state → Good s → Good (finish g t s)
  unfolding finish
  good_finish s t p good =
      record {
        right = finish_right g s.heights good.right good.small t;
        small = finish_low g s.heights good.right good.small t;
        done = λ v h e. by v h e (eqb v t) refl;
      }
    where
      by : (v h : ℕ) → keep s.heights t (low (height_of s.heights (g t))) v ≡ height h → (b : Bool) → eqb v t ≡ b
          → put s.state v ≡ s.state
      by v h e true q = rw (eqb-true v t q) p
      by v h e false q = good.done v h (sym (keep_other s.heights t v (low (height_of s.heights (g t))) q) ∙ e)

  -- a description entered
  agree_enter : (s : Met S) (chain : List ℕ) (t : ℕ) (a : Answer (List ℕ)) (b : Answer (Met S)) → is_in t chain ≡ false
      → Agree (enter put t s) (t ∷ chain) a b
      → Agree s chain (both (gives (t ∷ [])) a) (map_answer (finish g t) b)
  unfolding enter finish put_all
  agree_enter s chain t (refused n v) b fresh h = rw h
  agree_enter s chain t (gives vs) b fresh h =
      let (r, e, good, st, same) = h in
      let p : put r.state t ≡ r.state =
      rw st (stays_all put law (put s.state t) t vs (law.once s.state t))
      in (
        finish g t r,
        rw e,
        good_finish r t p good,
        st,
        same_keep s.heights r.heights t (low (height_of r.heights (g t))) chain fresh same.1,
      )

  finished_put : (s : Met S) → Good s → (vs : List ℕ) → Finished s.heights vs
      → Each (λ v. put s.state v ≡ s.state) vs
  finished_put s good [] e = tt
  finished_put s good (v ∷ vs) e = (good.done v e.0.0 e.0.1, finished_put s good vs e.1)

  -- a finished description passed over
  agree_skip : (s : Met S) (chain : List ℕ) (a : Answer (List ℕ)) → Good s → GivesFinished s.heights a
      → Agree s chain a (gives s)
  agree_skip s chain a good h =
      let (vs, e, f) = h in
      rw e (s, refl, good, sym (put_again put s.state vs (finished_put s good vs f)), same_refl s.heights chain)

  -- a use of a description that is not open, by what is kept for it
  agree_met : (left : ℕ) (chain : List ℕ) (t : ℕ) (s : Met S) → is_in t chain ≡ false → Good s
      → High s.heights (suc left) chain
      → (High s.heights left (t ∷ chain)
      → Agree s chain (walk g left chain t)
      (map_answer (finish g t) (fast_each (fast_follow put g left (t ∷ chain)) (g t) (enter put t s))))
      → (k : Kept) → s.heights t ≡ k
      → Agree s chain (walk g left chain t)
      (when fits k (suc left) then gives s
      else map_answer (finish g t) (fast_each (fast_follow put g left (t ∷ chain)) (g t) (enter put t s)))
  unfolding fits
  agree_met left chain t s fresh good high entered unfinished e =
      entered ((λ x q. not_unfinished x (sym e ∙ q)), high_less s.heights (suc left) left chain (omega arith) high)
  agree_met left chain t s fresh good high entered (height h) e = by (ltb h (suc left)) refl
    where
      by : (b : Bool) → ltb h (suc left) ≡ b → Agree s chain (walk g left chain t)
          (when b then gives s
          else map_answer (finish g t) (fast_each (fast_follow put g left (t ∷ chain)) (g t) (enter put t s)))
      by true q =
          let l = ltb-true h (suc left) q in
          agree_skip s chain (walk g left chain t) good
          (walk_finished g s.heights good.right left chain t h e (omega arith)
          (high_above s.heights (suc left) h chain l high))
      by false q =
          let l = ltb-false h (suc left) q in
          entered (
            (λ x p. let z = height_inj x h (sym p ∙ e) in omega arith),
            high_less s.heights (suc left) left chain (omega arith) high,
          )

  agree_follow : (left : ℕ) (chain : List ℕ) (u : Use) (s : Met S) → Good s → High s.heights left chain
      → Agree s chain (follow g left chain u) (fast_follow put g left chain u s)
  unfolding follow fast_follow walk
  agree_follow zero chain (missing p) s good high = refl
  agree_follow zero chain (found p t) s good high = by (is_in t chain)
    where
      by : (b : Bool)
          → Agree s chain (when b then refused 19 (p ∷ []) else refused 20 (p ∷ []))
          (when b then refused 19 (p ∷ []) else refused 20 (p ∷ []))
      by true = refl
      by false = refl
  agree_follow (suc left) chain (missing p) s good high = refl
  agree_follow (suc left) chain (found p t) s good high =
      by (is_in t chain) refl (λ u s' good' high'. agree_follow left (t ∷ chain) u s' good' high')
    where
      by : (b : Bool) → is_in t chain ≡ b
          → ((u : Use) (s' : Met S) → Good s' → High s'.heights left (t ∷ chain)
          → Agree s' (t ∷ chain) (follow g left (t ∷ chain) u) (fast_follow put g left (t ∷ chain) u s'))
          → Agree s chain
          (when b then refused 19 (p ∷ [])
          else both (gives (t ∷ [])) (each (follow g left (t ∷ chain)) (g t)))
          (when b then refused 19 (p ∷ [])
          else when fits (s.heights t) (suc left) then gives s
          else map_answer (finish g t) (fast_each (fast_follow put g left (t ∷ chain)) (g t) (enter put t s)))
      by true e ih = refl
      by false e ih =
          agree_met left chain t s e good high
          (λ high'.
          agree_enter s chain t (each (follow g left (t ∷ chain)) (g t))
          (fast_each (fast_follow put g left (t ∷ chain)) (g t) (enter put t s)) e
          (agree_each (follow g left (t ∷ chain)) (fast_follow put g left (t ∷ chain)) left (t ∷ chain) ih (g t)
          (enter put t s) (good_enter s t good) (unfold enter in high')))
          (s.heights t) refl

  good_start : (s : S) → Good (start s)
  good_start s =
      record {
        right = λ d h e. not_unfinished h e;
        small = λ d h e. not_unfinished h e;
        done = λ v h e. not_unfinished h e;
      }

  -- the states of all that is met along the plain walk, put in its order
  pub fast_walk : (s : S) (d : ℕ) → fast put g s d ≡ map_answer (put_all put s) (wanted g d)
  unfolding fast walk enter put_all
  fast_walk s d =
      by (each (follow g uses_most (d ∷ [])) (g d))
      (fast_each (fast_follow put g uses_most (d ∷ [])) (g d) (enter put d (start s)))
      (agree_each (follow g uses_most (d ∷ [])) (fast_follow put g uses_most (d ∷ [])) uses_most (d ∷ [])
      (agree_follow uses_most (d ∷ [])) (g d) (enter put d (start s))
      (good_enter (start s) d (good_start s)) ((λ x e. not_unfinished x e), tt))
    where
      by : (a : Answer (List ℕ)) (b : Answer (Met S)) → Agree (enter put d (start s)) (d ∷ []) a b
          → map_answer (λ r. r.state) b ≡ map_answer (put_all put s) (both (gives (d ∷ [])) a)
      by (refused n v) b h = rw h
      by (gives vs) b h = let (r, e, good, st, same) = h in rw (e, st)
