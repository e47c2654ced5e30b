-- The turns of the walk on arrays.
-- Assumes nothing.
use mathlib.Core.Path.{◌≡◌, refl, sym, ap, ◌∙◌, fun_ext}
use mathlib.Core.Bool.{Bool, true, false}
use mathlib.Core.List.{List, [], ◌∷◌}
use Prim.Native.Nat.{ℕ, zero, suc, ◌+◌, ◌-◌, ◌≤◌, ◌<◌}
use native.Mathlib.Nat.{not-suc-le-zero, le_of_suc-le-suc}
use native.Mathlib.Omega.{arith}
use lib.Dec.{eqb, ltb}
use lib.ListN.{length, get_or, set, length-set, replicate}
use lib.Seq.{get_or-set_same, get_or-set_other}
use borrow.Author.Tests.{eqb-true, eqb-false, eq-eqb, ne_eqb, lt-ltb, le-ltb}
use Rattle.base.specs.If.{when◌then◌else◌}
use Rattle.base.specs.Answer.{refused, gives, map_answer}
use Rattle.uses.specs.Walk.{Use, missing, found, Graph, is_in}
use Rattle.uses.specs.Heights.{unfinished, height, height_of, low, keep, fits}
use Rattle.uses.specs.Fast.{enter, finish, fast}
use Rattle.uses.specs.Machine.{Frame, frame, chain_of, resume, turn_first}
use Rattle.uses.specs.Machine.{turn_end, turn_missing, turn_back, turn_ninth, turn_pass, turn_enter}
use Rattle.use_turns.specs.Frames.{UseArrays, use_at, uses_from, end_of, uses_left, graph_of, HoldsUses}
use Rattle.use_turns.specs.declared.Frames.{Frames}
use Rattle.use_turns.specs.Frames.{frames, top_of, last_of, next_of, left_of, open_of, frames_of, Framed}
use Rattle.use_turns.specs.Frames.{kept_as, heights_of, met_of, resume_at, LeadsTo, started, finished, passed, entered}
use Rattle.use_turns.specs.Weight.{weight, weight_at}
use Rattle.use_turns.specs.Turned.{Went}
use Rattle.use_turns.proofs.WeightLaws.{weight_end, weight_pass, weight_enter}

-- ---- uses and frames

module _ (places targets : List ℕ) where
  pub uses_more : (i e : ℕ) → i < e
      → uses_from places targets i (e - i) ≡ use_at places targets i ∷ uses_from places targets (i + 1) (e - (i + 1))
  unfolding uses_from
  uses_more i e l = by (e - i) refl
    where
      by : (k : ℕ) → e - i ≡ k
          → uses_from places targets i k ≡ use_at places targets i ∷ uses_from places targets (i + 1) (e - (i + 1))
      by zero q = absurd (let z : ⊥ = omega arith in z)
      by (suc k) q =
          let p : e - (i + 1) ≡ k = omega arith in
          let p' : i + 1 ≡ suc i = omega arith in
          rw (p, p')

  pub uses_none : (i e : ℕ) → e ≤ i → uses_from places targets i (e - i) ≡ []
  unfolding uses_from
  uses_none i e l = let z : e - i ≡ 0 = omega arith in rw z

  pub length_uses : (i k : ℕ) → length (uses_from places targets i k) ≡ k
  unfolding uses_from
  length_uses i zero = refl
  length_uses i (suc k) = ap suc (length_uses (suc i) k)

module _ (u : UseArrays) where
  -- the open descriptions of the frames
  chain_frames : (stack next : List ℕ) (n : ℕ) → chain_of (frames_of u stack next n) ≡ open_of stack n
  unfolding chain_of frames_of open_of
  chain_frames stack next zero = refl
  chain_frames stack next (suc n) = ap (λ l. get_or stack n 0 ∷ l) (chain_frames stack next n)

  -- frames depend on the places below their number
  frames_same : (stack next stack' next' : List ℕ) (n : ℕ)
      → ((j : ℕ) → j < n → get_or stack' j 0 ≡ get_or stack j 0)
      → ((j : ℕ) → j < n → get_or next' j 0 ≡ get_or next j 0)
      → frames_of u stack' next' n ≡ frames_of u stack next n
  unfolding frames_of
  frames_same stack next stack' next' zero a b = refl
  frames_same stack next stack' next' (suc n) a b =
      rw (
        a n (omega arith),
        b n (omega arith),
        frames_same stack next stack' next' n (λ j l. a j (omega arith)) (λ j l. b j (omega arith)),
      )

  -- the last frame and the others
  frames_cons : (stack next : List ℕ) (depth top : ℕ) → 0 < depth → top ≡ depth - 1
      → frames_of u stack next depth
      ≡ frame (get_or stack top 0) (uses_left u (get_or stack top 0) (get_or next top 0)) ∷ frames_of u stack next top
  unfolding frames_of
  frames_cons stack next depth top h e = by depth refl
    where
      by : (n : ℕ) → depth ≡ n → frames_of u stack next n
          ≡ frame (get_or stack top 0) (uses_left u (get_or stack top 0) (get_or next top 0)) ∷ frames_of u stack next top
      by zero q = absurd (let z : ⊥ = omega arith in z)
      by (suc n) q = let p : top ≡ n = omega arith in rw p

  -- the last frame at another of its uses
  frames_next : (stack next : List ℕ) (depth top v : ℕ) → 0 < depth → top ≡ depth - 1 → top < length next
      → frames_of u stack (set next top v) depth
      ≡ frame (get_or stack top 0) (uses_left u (get_or stack top 0) v) ∷ frames_of u stack next top
  frames_next stack next depth top v h e l =
      frames_cons stack (set next top v) depth top h e
      ∙ rw (get_or-set_same next top v 0 l)
      (ap (λ fs. frame (get_or stack top 0) (uses_left u (get_or stack top 0) v) ∷ fs)
      (frames_same stack next stack (set next top v) top (λ j q. refl)
      (λ j q. get_or-set_other next top j v 0 (λ p. let z : ⊥ = omega arith in z))))

  -- one frame more
  frames_push : (stack next : List ℕ) (depth t v : ℕ) → depth < length stack → depth < length next
      → frames_of u (set stack depth t) (set next depth v) (depth + 1)
      ≡ frame t (uses_left u t v) ∷ frames_of u stack next depth
  frames_push stack next depth t v l l' =
      frames_cons (set stack depth t) (set next depth v) (depth + 1) depth (omega arith) (omega arith)
      ∙ rw (get_or-set_same stack depth t 0 l, get_or-set_same next depth v 0 l')
      (ap (λ fs. frame t (uses_left u t v) ∷ fs)
      (frames_same stack next (set stack depth t) (set next depth v) depth
      (λ j q. get_or-set_other stack depth j t 0 (λ p. let z : ⊥ = omega arith in z))
      (λ j q. get_or-set_other next depth j v 0 (λ p. let z : ⊥ = omega arith in z))))

-- ---- heights

get_d_any : (xs : List ℕ) (i a b : ℕ) → i < length xs → get_or xs i a ≡ get_or xs i b
get_d_any [] i a b l = absurd (not-suc-le-zero l)
get_d_any (x ∷ xs) zero a b l = refl
get_d_any (x ∷ xs) (suc i) a b l = get_d_any xs i a b (le_of_suc-le-suc l)

-- what is kept for a description is what is read
pub heights_read : (hs : List ℕ) (d : ℕ) → d < length hs → heights_of hs d ≡ kept_as (get_or hs d 0)
heights_read hs d l = ap kept_as (get_d_any hs d 255 0 l)

heights_set : (hs : List ℕ) (d x : ℕ) → d < length hs → heights_of (set hs d x) ≡ keep (heights_of hs) d (kept_as x)
unfolding keep
heights_set hs d x l = fun_ext (λ y. by y (eqb y d) refl)
  where
    by : (y : ℕ) (b : Bool) → eqb y d ≡ b → heights_of (set hs d x) y ≡ (when b then kept_as x else heights_of hs y)
    by y true q = rw (eqb-true y d q, get_or-set_same hs d x 255 l)
    by y false q = rw (get_or-set_other hs d y x 255 (eqb-false y d q))

fits_kept : (x left : ℕ) → x < left → left < 255 → fits (kept_as x) left ≡ true
unfolding fits
fits_kept x left l h = rw (lt-ltb x 255 (omega arith), lt-ltb x left l)

not_fits_kept : (x left : ℕ) → left ≤ x → fits (kept_as x) left ≡ false
unfolding fits
not_fits_kept x left l = by (ltb x 255)
  where
    by : (b : Bool) → fits (when b then height x else unfinished) left ≡ false
    by true = le-ltb x left l
    by false = refl

-- ---- a turn

framed_pass : (u : UseArrays) (o : Frames) → Framed u o → top_of o < length o.next
    → next_of o + 1 ≤ end_of u (last_of o) → Framed u (passed o)
framed_pass u o framed l h =
    record {
      deep = framed.deep;
      stacks = framed.stacks;
      nexts = length-set o.next (top_of o) (next_of o + 1) ∙ framed.nexts;
      kept = framed.kept;
      description = framed.description;
      within = λ j q. by j q (eqb j (top_of o)) refl;
    }
  where
    by : (j : ℕ) → j < o.depth → (b : Bool) → eqb j (top_of o) ≡ b
        → get_or (set o.next (top_of o) (next_of o + 1)) j 0 ≤ end_of u (get_or o.stack j 0)
    by j q true e = rw (eqb-true j (top_of o) e, get_or-set_same o.next (top_of o) (next_of o + 1) 0 l) h
    by j q false e =
        rw (get_or-set_other o.next (top_of o) j (next_of o + 1) 0 (eqb-false j (top_of o) e)) (framed.within j q)

framed_push : (u : UseArrays) (stack next hs : List ℕ) (depth t v : ℕ) → Framed u (frames stack next hs depth)
    → depth < 9 → t < u.count → v ≤ end_of u t
    → Framed u (frames (set stack depth t) (set next depth v) hs (depth + 1))
framed_push u stack next hs depth t v framed few a h =
    let l : depth < length stack = let z = framed.stacks in omega arith in
    let l' : depth < length next = let z = framed.nexts in omega arith in
    record {
      deep = omega arith;
      stacks = length-set stack depth t ∙ framed.stacks;
      nexts = length-set next depth v ∙ framed.nexts;
      kept = framed.kept;
      description = λ j q. one l j q (eqb j depth) refl;
      within = λ j q. two l l' j q (eqb j depth) refl;
    }
  where
    one : depth < length stack → (j : ℕ) → j < depth + 1 → (b : Bool) → eqb j depth ≡ b
        → get_or (set stack depth t) j 0 < u.count
    one l j q true e = rw (eqb-true j depth e, get_or-set_same stack depth t 0 l) a
    one l j q false e =
        let n = eqb-false j depth e in
        rw (get_or-set_other stack depth j t 0 n) (framed.description j (omega arith))

    two : depth < length stack → depth < length next → (j : ℕ) → j < depth + 1 → (b : Bool) → eqb j depth ≡ b
        → get_or (set next depth v) j 0 ≤ end_of u (get_or (set stack depth t) j 0)
    two l l' j q true e =
        rw (eqb-true j depth e, get_or-set_same stack depth t 0 l, get_or-set_same next depth v 0 l') h
    two l l' j q false e =
        let n = eqb-false j depth e in
        rw (get_or-set_other stack depth j t 0 n, get_or-set_other next depth j v 0 n) (framed.within j (omega arith))

module _ {S : Type 0} (put : S → ℕ → S) (u : UseArrays) (o : Frames) (holds : HoldsUses u) (framed : Framed u o)
    (some-frame : 0 < o.depth) where
  abbrev g : Graph
  g = graph_of u

  abbrev others : List Frame
  others = frames_of u o.stack o.next (top_of o)

  abbrev now : List Use → List Frame
  now us = frame (last_of o) us ∷ others

  last_below : last_of o < u.count
  last_below = framed.description (top_of o) (omega arith)

  frames_at : (us : List Use) → uses_left u (last_of o) (next_of o) ≡ us
      → frames_of u o.stack o.next o.depth ≡ now us
  frames_at us e = frames_cons u o.stack o.next o.depth (top_of o) some-frame refl ∙ ap now e

  resume_at_lem : (us : List Use) → uses_left u (last_of o) (next_of o) ≡ us → (s : S)
      → resume_at put u o s ≡ resume put g (left_of o) (now us) (met_of o.heights s)
  resume_at_lem us e s = ap (λ l. resume put g (left_of o) l (met_of o.heights s)) (frames_at us e)

  weight_at_lem : (us : List Use) → uses_left u (last_of o) (next_of o) ≡ us
      → weight_at u o ≡ weight (length u.targets + 2) (left_of o) (now us)
  weight_at_lem us e = ap (λ l. weight (length u.targets + 2) (left_of o) l) (frames_at us e)

  -- the open descriptions
  chain_at : last_of o ∷ chain_of others ≡ open_of o.stack o.depth
  unfolding open_of
  chain_at = by o.depth refl
    where
      by : (n : ℕ) → o.depth ≡ n → last_of o ∷ chain_of others ≡ open_of o.stack n
      by zero q = absurd (let z : ⊥ = omega arith in z)
      by (suc n) q =
          let p : top_of o ≡ n = omega arith in
          rw p (ap (λ l. get_or o.stack n 0 ∷ l) (chain_frames u o.stack o.next n))

  -- the height x is kept
  finish_kept : (x : ℕ) → kept_as x ≡ low (height_of (heights_of o.heights) (g (last_of o))) → (s : S)
      → finish g (last_of o) (met_of o.heights s) ≡ met_of (set o.heights (last_of o) x) s
  unfolding finish
  finish_kept x e s =
      let h : last_of o < length o.heights =
      let a = last_below in let b = holds.few in let c = framed.kept in omega arith
      in
      ap (λ f. record { heights = f; state = s })
      (ap (keep (heights_of o.heights) (last_of o)) (sym e) ∙ sym (heights_set o.heights (last_of o) x h))

  -- no use is left of the last one: its height x is kept
  pub went_end : (x : ℕ) → end_of u (last_of o) ≤ next_of o
      → kept_as x ≡ low (height_of (heights_of o.heights) (g (last_of o))) → Went put u o (finished o x) (λ s. s)
  went_end x l e =
      let n = uses_none u.places u.targets (next_of o) (end_of u (last_of o)) l in
      let k : suc (left_of o) ≡ 9 - top_of o = let dp = framed.deep in omega arith in
      record {
        same =
            λ s. resume_at_lem [] n s
            ∙ (turn_end put g (left_of o) (last_of o) others (met_of o.heights s)
            ∙ (ap (λ r. resume put g (suc (left_of o)) others r) (finish_kept x e s)
            ∙ ap (λ j. resume put g j others (met_of (set o.heights (last_of o) x) s)) k));
        framed =
            record {
              deep = let dp = framed.deep in omega arith;
              stacks = framed.stacks;
              nexts = framed.nexts;
              kept = length-set o.heights (last_of o) x ∙ framed.kept;
              description = λ j q. framed.description j (omega arith);
              within = λ j q. framed.within j (omega arith);
            };
        falls =
            rw (weight_at_lem [] n, ← k)
            (weight_end (length u.targets + 2) (omega arith) (left_of o) (last_of o) others);
      }

  -- a use of no description
  pub stops_missing : next_of o < end_of u (last_of o) → get_or u.targets (next_of o) 0 ≡ 255 → (s : S)
      → resume_at put u o s ≡ refused 18 (get_or u.places (next_of o) 0 ∷ [])
  stops_missing l e s =
      let p : ℕ = get_or u.places (next_of o) 0 in
      let us : List Use = uses_left u (last_of o) (next_of o + 1) in
      let n : uses_left u (last_of o) (next_of o) ≡ missing p ∷ us =
      uses_more u.places u.targets (next_of o) (end_of u (last_of o)) l
      ∙ rw (eq-eqb (get_or u.targets (next_of o) 0) 255 e)
      in
      resume_at_lem _ n s ∙ turn_missing put g (left_of o) (last_of o) p us others (met_of o.heights s)

  module _ (t : ℕ) (leads : LeadsTo u o t) where
    abbrev p : ℕ
    p = get_or u.places (next_of o) 0

    abbrev after : List Use
    after = uses_left u (last_of o) (next_of o + 1)

    uses_found : uses_left u (last_of o) (next_of o) ≡ found p t ∷ after
    uses_found =
        uses_more u.places u.targets (next_of o) (end_of u (last_of o)) leads.more
        ∙ rw (← leads.target, ne_eqb t 255 leads.there)

    pub leads_below : t < u.count
    leads_below =
        let a = leads.more in
        let b = holds.inside (last_of o) last_below in
        rw leads.target (holds.known (next_of o) (omega arith) (λ e. leads.there (leads.target ∙ e)))

    -- a use of an open one
    pub stops_back : is_in t (open_of o.stack o.depth) ≡ true → (s : S) → resume_at put u o s ≡ refused 19 (p ∷ [])
    stops_back e s =
        resume_at_lem _ uses_found s
        ∙ turn_back put g (left_of o) (last_of o) p t after others (met_of o.heights s) (rw chain_at e)

    module _ (fresh : is_in t (open_of o.stack o.depth) ≡ false) where
      -- no use is left on the chain
      pub stops_ninth : left_of o ≡ 0 → (s : S) → resume_at put u o s ≡ refused 20 (p ∷ [])
      stops_ninth z s =
          resume_at_lem _ uses_found s
          ∙ (ap (λ j. resume put g j (now (found p t ∷ after)) (met_of o.heights s)) z
          ∙ turn_ninth put g (last_of o) p t after others (met_of o.heights s) (rw chain_at fresh))

      t_kept : t < length o.heights
      t_kept = let a = leads_below in let b = holds.few in let c = framed.kept in omega arith

      next_there : top_of o < length o.next
      next_there = let a = framed.nexts in let b = framed.deep in omega arith

      frames_passed : frames_of u o.stack (passed o).next o.depth ≡ now after
      frames_passed = frames_next u o.stack o.next o.depth (top_of o) (next_of o + 1) some-frame refl next_there

      -- a use of a finished one that fits
      pub went_pass : get_or o.heights t 0 < left_of o → Went put u o (passed o) (λ s. s)
      went_pass lh =
          let k : left_of o ≡ suc (8 - o.depth) = omega arith in
          record {
            same =
                λ s. resume_at_lem _ uses_found s
                ∙ (ap (λ j. resume put g j (now (found p t ∷ after)) (met_of o.heights s)) k
                ∙ (turn_pass put g (8 - o.depth) (last_of o) p t after others (met_of o.heights s)
                (rw chain_at fresh)
                (rw (heights_read o.heights t t_kept)
                (fits_kept (get_or o.heights t 0) (suc (8 - o.depth)) (omega arith) (omega arith)))
                ∙ (ap (λ j. resume put g j (now after) (met_of o.heights s)) (sym k)
                ∙ ap (λ fs. resume put g (left_of o) fs (met_of o.heights s)) (sym frames_passed))));
            framed = framed_pass u o framed next_there (omega arith);
            falls =
                rw (weight_at_lem _ uses_found, frames_passed)
                (weight_pass (length u.targets + 2) (omega arith) (left_of o) (last_of o) (found p t) after others);
          }

      -- a use of one that is to be entered
      pub went_enter : o.depth < 9 → left_of o ≤ get_or o.heights t 0 → Went put u o (entered u o t) (λ s. put s t)
      went_enter few lh =
          let k : left_of o ≡ suc (8 - o.depth) = omega arith in
          let k' : 8 - o.depth ≡ 9 - (o.depth + 1) = omega arith in
          let ls : o.depth < length o.stack = let a = framed.stacks in omega arith in
          let ln : o.depth < length (passed o).next =
          let a = framed.nexts in let b = length-set o.next (top_of o) (next_of o + 1) in omega arith
          in
          let fs : frames_of u (entered u o t).stack (entered u o t).next (o.depth + 1) ≡ frame t (g t) ∷ now after =
          frames_push u o.stack (passed o).next o.depth t (get_or u.starts t 0) ls ln
          ∙ ap (λ l. frame t (g t) ∷ l) frames_passed
          in
          record {
            same =
                λ s. resume_at_lem _ uses_found s
                ∙ (ap (λ j. resume put g j (now (found p t ∷ after)) (met_of o.heights s)) k
                ∙ (turn_enter put g (8 - o.depth) (last_of o) p t after others (met_of o.heights s)
                (rw chain_at fresh)
                (rw (heights_read o.heights t t_kept)
                (not_fits_kept (get_or o.heights t 0) (suc (8 - o.depth)) (omega arith)))
                ∙ (ap (λ j. resume put g j (frame t (g t) ∷ now after) (enter put t (met_of o.heights s))) k'
                ∙ (ap (λ l. resume put g (9 - (o.depth + 1)) l (enter put t (met_of o.heights s))) (sym fs)
                ∙ unfold enter in refl))));
            framed =
                framed_push u o.stack (passed o).next o.heights o.depth t (get_or u.starts t 0)
                (framed_pass u o framed next_there (omega arith)) few leads_below (holds.ordered t leads_below);
            falls =
                let a = holds.inside t leads_below in
                let b = holds.targeted in
                let v : ℕ = get_or u.starts t 0 in
                let n = length_uses u.places u.targets v (end_of u t - v) in
                rw (weight_at_lem _ uses_found, fs, k, ← k')
                (weight_enter (length u.targets + 2) (omega arith) (8 - o.depth) (last_of o) t (found p t) after
                (g t) others (omega arith));
          }

-- ---- the start and the end

unfinished_all : (n d : ℕ) → ◌≡◌ {A = ℕ} (get_or (replicate n 255) d 255) 255
unfinished_all zero d = refl
unfinished_all (suc n) zero = refl
unfinished_all (suc n) (suc d) = unfinished_all n d

heights_start : heights_of (replicate 64 255) ≡ (λ d. unfinished)
heights_start = fun_ext (λ d. rw (unfinished_all 64 d))

module _ {S : Type 0} (put : S → ℕ → S) (u : UseArrays) where
  pub resume_start : (s : S) (d : ℕ)
      → map_answer (λ r. r.state) (resume_at put u (started u d) (put s d)) ≡ fast put (graph_of u) s d
  unfolding frames_of enter
  resume_start s d = rw heights_start (turn_first put (graph_of u) s d)

  pub resume_end : (o : Frames) (s : S) → o.depth ≤ 0 → map_answer (λ r. r.state) (resume_at put u o s) ≡ gives s
  resume_end o s h = by o.depth (omega arith)
    where
      by : (n : ℕ) → n ≡ 0
          → map_answer (λ r. r.state)
          (resume put (graph_of u) (9 - n) (frames_of u o.stack o.next n) (met_of o.heights s))
          ≡ gives s
      by n e = rw e (unfold frames_of resume in refl)

pub framed_start : (u : UseArrays) (d : ℕ) → HoldsUses u → d < u.count → Framed u (started u d)
framed_start u d holds h =
    record {
      deep = omega arith;
      stacks = refl;
      nexts = refl;
      kept = refl;
      description = λ j q. let z : j ≡ 0 = omega arith in rw z h;
      within = λ j q. let z : j ≡ 0 = omega arith in rw z (holds.ordered d h);
    }
