-- A walk with heights that gives has entered each description at most once: a finished one that does not fit is
-- entered only on the way to a refusal.
-- Assumes nothing.
use Rattle.std.proofs.Math.Path.{◌≡◌, refl, ap}
use Rattle.std.proofs.Common.{sym, ◌∙◌}
use Rattle.std.specs.Prelude.{Bool, ◌||◌}
use Rattle.std.proofs.Math.Bool.{true, false}
use mathlib.Core.List.{List, [], ◌∷◌}
use Prim.Native.Nat.{ℕ, zero, suc, max, ◌<◌, ◌≤◌}
use native.Mathlib.Omega.{arith}
use Rattle.std.proofs.Math.Dec.{eqb}
use borrow.Author.Tests.{eqb-true, lt-ltb, le-ltb}
use Rattle.base.specs.If.{when◌then◌else◌}
use Rattle.base.proofs.IfLaws.{true_false, below_or}
use Rattle.base.specs.Answer.{Answer, refused, gives, map_answer}
use Rattle.uses.specs.Walk.{Use, missing, found, Graph, uses_most, is_in, bind}
use Rattle.uses.specs.Heights.{Kept, unfinished, height, Heights, higher, height_of, Right, low, Low, keep}
use Rattle.uses.specs.Heights.{Above, fits, unfinished_height}
use Rattle.uses.specs.Finished.{height_inj, not_unfinished, higher_parts, Keeps, above_not_in, above_less}
use Rattle.uses.specs.Fast.{Met, enter, finish, fast_each, fast_follow, start, fast}
use Rattle.uses.specs.FastLaws.{keep_at, low_height, finish_keeps, finish_right, finish_low, Same, same_keep}

-- where 20 is met by a use, with `left` uses allowed, of a finished description that does not fit: at the use itself
-- if none is allowed, else in the first use from the left whose description does not fit
abbrev pub kept_for : Heights → Use → Kept
kept_for m (missing p) = unfinished
kept_for m (found p t) = m t

unfoldable pub late_in : Heights → ℕ → (Use → ℕ) → List Use → ℕ
late_in m left at [] = 0
late_in m left at (u ∷ us) = when fits (kept_for m u) left then late_in m left at us else at u

unfoldable pub late : Graph → Heights → ℕ → Use → ℕ
late g m zero (missing p) = p
late g m zero (found p t) = p
late g m (suc left) (missing p) = p
late g m (suc left) (found p t) = late_in m left (late g m left) (g t)

-- the descriptions entered, the last one first
abbrev pub logged : List ℕ → ℕ → List ℕ
logged vs v = v ∷ vs

-- no description twice
abbrev pub Single : List ℕ → Type 0
Single [] = Unit {0}
Single (v ∷ vs) = (is_in v vs ≡ false) × Single vs

abbrev Log : Type 0
Log = Met (List ℕ)

not_gives {ℓ} : {A : Type ℓ} (n : ℕ) (v : List ℕ) (s : Log) → ◌≡◌ {A = Answer Log} (refused n v) (gives s) → A
not_gives n v s e = absurd (let z : ◌≡◌ {A = ℕ} 0 1 = cc in (let y : ⊥ = omega arith in y))

gives_inj : (s r : Log) → ◌≡◌ {A = Answer Log} (gives s) (gives r) → s ≡ r
gives_inj s r e = cc

bind_parts : (a : Answer Log) (f : Log → Answer Log) (r : Log) → bind a f ≡ gives r
    → (s : Log) × (a ≡ gives s) × (f s ≡ gives r)
bind_parts (refused n v) f r e = not_gives n v r e
bind_parts (gives s) f r e = (s, refl, e)

map_parts : (a : Answer Log) (f : Log → Log) (r : Log) → map_answer f a ≡ gives r
    → (s : Log) × (a ≡ gives s) × (f s ≡ r)
map_parts (refused n v) f r e = not_gives n v r e
map_parts (gives s) f r e = (s, refl, gives_inj (f s) r e)

module _ (g : Graph) where
  fast_missing : (left : ℕ) (chain : List ℕ) (p : ℕ) (s : Log)
      → fast_follow logged g left chain (missing p) s ≡ refused 18 (p ∷ [])
  unfolding fast_follow
  fast_missing zero chain p s = refl
  fast_missing (suc left) chain p s = refl

  -- ---- a finished one that does not fit, in the walk that keeps heights

  fast_pass : (left : ℕ) (chain : List ℕ) (p t a : ℕ) (s : Log) → s.heights t ≡ height a → a < left
      → Above s.heights a chain
      → fast_follow logged g left chain (found p t) s ≡ gives s
  unfolding fast_follow fits
  fast_pass zero chain p t a s e l above = absurd (let z : ⊥ = omega arith in z)
  fast_pass (suc left) chain p t a s e l above =
      rw (above_not_in s.heights a t chain e above, e, lt-ltb a (suc left) l)

  each_not : (down : Use → Log → Answer Log) (s : Log) (left h : ℕ) (at : Use → ℕ)
      → ((p t a : ℕ) → s.heights t ≡ height a → a < h → a < left → down (found p t) s ≡ gives s)
      → ((p t a : ℕ) → s.heights t ≡ height a → a < h → left ≤ a
      → down (found p t) s ≡ refused 20 (at (found p t) ∷ []))
      → (us : List Use) (k : ℕ) → height_of s.heights us ≡ height k → k ≤ h → left < k
      → fast_each down us s ≡ refused 20 (late_in s.heights left at us ∷ [])
  unfolding height_of fast_each late_in fits
  each_not down s left h at one other [] k e l q = absurd (let z = height_inj 0 k e in (let y : ⊥ = omega arith in y))
  each_not down s left h at one other (missing p ∷ us) k e l q = not_unfinished k e
  each_not down s left h at one other (found p t ∷ us) k e l q =
      let (x, y, ex, ey, ek) = higher_parts (s.heights t) (height_of s.heights us) k e in
      below_or x left
      (λ lt.
      rw (
        ex,
        lt-ltb x left lt,
        one p t x ex (omega arith) lt,
        each_not down s left h at one other us y ey (omega arith) (omega arith),
      ))
      (λ ge. rw (ex, le-ltb x left ge, other p t x ex (omega arith) ge))

  pub fast_not : (left : ℕ) (chain : List ℕ) (p t h : ℕ) (s : Log) → Right g s.heights → s.heights t ≡ height h
      → left ≤ h
      → Above s.heights h chain
      → fast_follow logged g left chain (found p t) s ≡ refused 20 (late g s.heights left (found p t) ∷ [])
  unfolding fast_follow late enter fits
  fast_not zero chain p t h s right e l above = rw (above_not_in s.heights h t chain e above)
  fast_not (suc left) chain p t h s right e l above =
      let inner : (a : ℕ) → a < h → Above s.heights a (t ∷ chain) =
      λ a q. (
        (λ x w. let z = height_inj x h (sym w ∙ e) in omega arith),
        above_less s.heights h a chain (omega arith) above,
      )
      in
      rw (
        above_not_in s.heights h t chain e above,
        e,
        le-ltb h (suc left) l,
        each_not (fast_follow logged g left (t ∷ chain)) (enter logged t s) left h (late g s.heights left)
            (λ p' t' a e' q lt. fast_pass left (t ∷ chain) p' t' a (enter logged t s) e' lt (inner a q))
            (λ p' t' a e' q ge. fast_not left (t ∷ chain) p' t' a (enter logged t s) right e' ge (inner a q))
            (g t) h (right t h e) (omega arith) (omega arith),
      )

  -- ---- a walk that gives

  -- nothing open is finished, and what was entered is open or finished, each once
  pub record EachOnce (chain : List ℕ) (s : Log) : Type 0 where
    pub right : Right g s.heights
    pub small : Low s.heights
    pub none : Same (λ x. unfinished) s.heights chain
    pub known : (v : ℕ) → is_in v s.state ≡ true → is_in v chain ≡ false → (h : ℕ) × (s.heights v ≡ height h)
    pub single : Single s.state

  none_above : (m : Heights) (h : ℕ) (chain : List ℕ) → Same (λ x. unfinished) m chain → Above m h chain
  none_above m h [] none = tt
  none_above m h (a ∷ more) none = ((λ x e. not_unfinished x (sym none.0 ∙ e)), none_above m h more none.1)

  pub record Followed (left : ℕ) (chain : List ℕ) (t : ℕ) (s r : Log) : Type 0 where
    pub once : EachOnce chain r
    pub keeps : Keeps s.heights r.heights
    pub top : (a : ℕ) × (r.heights t ≡ height a) × (a < left)

  each_once : (down : Use → Log → Answer Log) (left : ℕ) (chain : List ℕ)
      → ((p : ℕ) (s r : Log) → down (missing p) s ≡ gives r → ⊥)
      → ((p t : ℕ) (s r : Log) → EachOnce chain s → down (found p t) s ≡ gives r → Followed left chain t s r)
      → (us : List Use) (s r : Log) → EachOnce chain s → fast_each down us s ≡ gives r
      → EachOnce chain r × Keeps s.heights r.heights
      × ((k : ℕ) × (height_of r.heights us ≡ height k) × (k ≤ left))
  unfolding fast_each height_of higher
  each_once down left chain never one [] s r once e =
      let q : s ≡ r = gives_inj s r e in
      rw (← q) (once, (λ d h w. w), (0, refl, omega arith))
  each_once down left chain never one (missing p ∷ us) s r once e =
      let (m, em, er) = bind_parts (down (missing p) s) (fast_each down us) r e in absurd (never p s m em)
  each_once down left chain never one (found p t ∷ us) s r once e =
      let (m, em, er) = bind_parts (down (found p t) s) (fast_each down us) r e in
      let f = one p t s m once em in
      let (c, ks, top) = each_once down left chain never one us m r f.once er in
      let (a, ea, la) = f.top in
      let (k, ek, lk) = top in
      (c, (λ d h w. ks d h (f.keeps d h w)), (max (suc a) k, rw (ks t a ea, ek), omega arith))

  -- what is entered was not entered before
  once_enter : (chain : List ℕ) (t : ℕ) (s : Log) → s.heights t ≡ unfinished → is_in t chain ≡ false
      → EachOnce chain s → EachOnce (t ∷ chain) (enter logged t s)
  unfolding enter is_in
  once_enter chain t s e fresh once =
      record {
        right = once.right;
        small = once.small;
        none = (e, once.none);
        known = λ v w q. by v (eqb v t) w q;
        single = (absent (is_in t s.state) refl, once.single);
      }
    where
      absent : (b : Bool) → is_in t s.state ≡ b → is_in t s.state ≡ false
      absent true w = let (h, eh) = once.known t w fresh in not_unfinished h (sym e ∙ eh)
      absent false w = w

      by : (v : ℕ) (b : Bool) → (b || is_in v s.state) ≡ true → (b || is_in v chain) ≡ false
          → (h : ℕ) × (s.heights v ≡ height h)
      by v true w q = true_false q
      by v false w q = once.known v w q

  once_finish : (chain : List ℕ) (t : ℕ) (s : Log) (k : ℕ) → height_of s.heights (g t) ≡ height k
      → k < unfinished_height → is_in t chain ≡ false
      → EachOnce (t ∷ chain) s → EachOnce chain (finish g t s)
  unfolding finish is_in
  once_finish chain t s k e l fresh once =
      record {
        right = finish_right g s.heights once.right once.small t;
        small = finish_low g s.heights once.right once.small t;
        none =
            same_keep (λ x. unfinished) s.heights t (low (height_of s.heights (g t))) chain fresh once.none.1;
        known = λ v w q. by v w q (eqb v t) refl (once.known v w);
        single = once.single;
      }
    where
      by : (v : ℕ) → is_in v s.state ≡ true → is_in v chain ≡ false → (b : Bool) → eqb v t ≡ b
          → ((b || is_in v chain) ≡ false → (h : ℕ) × (s.heights v ≡ height h))
          → (h : ℕ) × (keep s.heights t (low (height_of s.heights (g t))) v ≡ height h)
      by v w q true c before = (
        k,
        ap (keep s.heights t (low (height_of s.heights (g t)))) (eqb-true v t c)
            ∙ (keep_at s.heights t (low (height_of s.heights (g t))) ∙ (ap low e ∙ low_height k l)),
      )
      by v w q false c before =
          let (h, eh) = before q in (h, finish_keeps g s.heights once.right once.small t v h eh)

  keeps_finish : (chain : List ℕ) (t : ℕ) (s m : Log) → EachOnce chain m
      → Keeps (enter logged t s).heights m.heights
      → Keeps s.heights (finish g t m).heights
  unfolding enter finish
  keeps_finish chain t s m once ks d h w = finish_keeps g m.heights once.right once.small t d h (ks d h w)

  top_finish : (t : ℕ) (m : Log) (k : ℕ) → height_of m.heights (g t) ≡ height k → k < unfinished_height
      → (finish g t m).heights t ≡ height k
  unfolding finish
  top_finish t m k e l = keep_at m.heights t (low (height_of m.heights (g t))) ∙ (ap low e ∙ low_height k l)

  pub follow_once : (left : ℕ) (chain : List ℕ) (p t : ℕ) (s r : Log) → left < unfinished_height → EachOnce chain s
      → fast_follow logged g left chain (found p t) s ≡ gives r → Followed left chain t s r
  unfolding fast_follow fits
  follow_once zero chain p t s r l once e = by (is_in t chain) e
    where
      by : (b : Bool) → ◌≡◌ {A = Answer Log} (when b then refused 19 (p ∷ []) else refused 20 (p ∷ [])) (gives r)
          → Followed zero chain t s r
      by true q = not_gives 19 (p ∷ []) r q
      by false q = not_gives 20 (p ∷ []) r q
  follow_once (suc left) chain p t s r l once e =
      by_open (is_in t chain) refl e (λ p' t' s' r' c e'. follow_once left (t ∷ chain) p' t' s' r' (omega arith) c e')
    where
      Below : Type 0
      Below =
          (p' t' : ℕ) (s' r' : Log) → EachOnce (t ∷ chain) s'
          → fast_follow logged g left (t ∷ chain) (found p' t') s' ≡ gives r' → Followed left (t ∷ chain) t' s' r'

      never : (p' : ℕ) (s' r' : Log) → fast_follow logged g left (t ∷ chain) (missing p') s' ≡ gives r' → ⊥
      never p' s' r' w = not_gives 18 (p' ∷ []) r' (sym (fast_missing left (t ∷ chain) p' s') ∙ w)

      entered : s.heights t ≡ unfinished → is_in t chain ≡ false → Below
          → map_answer (finish g t) (fast_each (fast_follow logged g left (t ∷ chain)) (g t) (enter logged t
          s)) ≡ gives r
          → Followed (suc left) chain t s r
      entered u fresh below q =
          let (m, em, er) =
          map_parts (fast_each (fast_follow logged g left (t ∷ chain)) (g t) (enter logged t s)) (finish g t) r q
          in
          let (c, ks, top) =
          each_once (fast_follow logged g left (t ∷ chain)) left (t ∷ chain) never below (g t) (enter logged t s) m
          (once_enter chain t s u fresh once) em
          in
          let (k, ek, lk) = top in
          rw (← er)
          record {
            once = once_finish chain t m k ek (omega arith) fresh c;
            keeps = keeps_finish (t ∷ chain) t s m c ks;
            top = (k, top_finish t m k ek (omega arith), omega arith);
          }

      by_kept : (k : Kept) → s.heights t ≡ k → is_in t chain ≡ false → Below
          → (when fits k (suc left) then gives s
          else map_answer (finish g t) (fast_each (fast_follow logged g left (t ∷ chain)) (g t) (enter logged t s)))
          ≡ gives r
          → Followed (suc left) chain t s r
      by_kept unfinished u fresh below q = entered u fresh below q
      by_kept (height h) u fresh below q =
          below_or h (suc left)
          (λ lt.
          let q' : ◌≡◌ {A = Answer Log} (gives s) (gives r) = rw (lt-ltb h (suc left) lt) at q in
          rw (← gives_inj s r q') record { once = once; keeps = λ d x w. w; top = (h, u, lt) })
          (λ ge.
          not_gives 20 (late g s.heights (suc left) (found p t) ∷ []) r
          (sym (fast_not (suc left) chain p t h s once.right u ge (none_above s.heights h chain once.none))
          ∙ e))

      by_open : (b : Bool) → is_in t chain ≡ b
          → (when b then refused 19 (p ∷ [])
          else when fits (s.heights t) (suc left) then gives s
          else map_answer (finish g t) (fast_each (fast_follow logged g left (t ∷ chain)) (g t) (enter logged t s)))
          ≡ gives r
          → Below → Followed (suc left) chain t s r
      by_open true q w below = not_gives 19 (p ∷ []) r w
      by_open false q w below = by_kept (s.heights t) refl q below w

  -- a walk that gives has entered no description twice
  pub fast_once : (d : ℕ) (vs : List ℕ) → fast logged g [] d ≡ gives vs → Single vs
  unfolding fast enter is_in
  fast_once d vs e = by (fast_each (fast_follow logged g uses_most (d ∷ [])) (g d) (enter logged d (start []))) refl e
    where
      once : EachOnce (d ∷ []) (enter logged d (start []))
      once =
          record {
            right = λ x h w. not_unfinished h w;
            small = λ x h w. not_unfinished h w;
            none = (refl, tt);
            known = λ v w q. true_false (sym w ∙ q);
            single = (refl, tt);
          }

      by : (a : Answer Log) → fast_each (fast_follow logged g uses_most (d ∷ [])) (g d) (enter logged d (start [])) ≡ a
          → map_answer (λ r. r.state) a ≡ gives vs → Single vs
      by (refused n v) q w = absurd (let z : ◌≡◌ {A = ℕ} 0 1 = cc in (let y : ⊥ = omega arith in y))
      by (gives r) q w =
          let (c, ks, top) =
          each_once (fast_follow logged g uses_most (d ∷ [])) uses_most (d ∷ [])
          (λ p s' r' x. not_gives 18 (p ∷ []) r' (sym (fast_missing uses_most (d ∷ []) p s') ∙ x))
          (λ p t s' r' c x. follow_once uses_most (d ∷ []) p t s' r' (omega arith) c x)
          (g d) (enter logged d (start [])) r once q
          in
          let z : r.state ≡ vs = cc in
          rw (← z) c.single
