-- Laws of the walk's turns: what the next use comes to, and the turns before a description is entered.
-- Assumes nothing.
use mathlib.Core.Path.{◌≡◌, sym, ap, ◌∙◌}
use mathlib.Core.Bool.{true, false}
use Prim.Native.Nat.{ℕ, ◌+◌, ◌≤◌, ◌<◌}
use native.Mathlib.Omega.{arith}
use lib.ListN.{length, get_or}
use Rattle.base.specs.Answer.{map_answer}
use Rattle.entry.specs.Reading.{Entry}
use Rattle.text.specs.declared.TextRefusal.TheVariants as R
use Rattle.std.specs.Prelude.{Ok}
use Rattle.uses.specs.Walk.{is_in}
use Rattle.use_turns.specs.declared.Frames.{Frames}
use Rattle.use_turns.specs.Frames.{UseArrays, end_of, HoldsUses, top_of, last_of, next_of, left_of}
use Rattle.use_turns.specs.Frames.{open_of, Framed, resume_at, LeadsTo, passed, entered}
use Rattle.use_turns.specs.declared.Next.TheVariants as N
use Rattle.use_turns.specs.Weight.{weight_at}
use Rattle.use_turns.specs.Turned.{Went, Put, Stops, Enters, Ends, Judged, Finishes}
use Rattle.use_turns.proofs.FrameLaws.{went_end, went_pass, went_enter, leads_below}
use Rattle.use_turns.proofs.FrameLaws.{stops_missing, stops_back, stops_ninth, resume_end}

-- ---- the last open description

-- where it and its uses lie
pub record Bounds (u : UseArrays) (o : Frames) : Type 0 where
  pub few : last_of o < 64
  pub starts : last_of o + 1 < length u.starts
  pub ordered : get_or u.starts (last_of o) 0 ≤ end_of u (last_of o)
  pub targets : end_of u (last_of o) ≤ length u.targets
  pub places : end_of u (last_of o) ≤ length u.places

module _ {u : UseArrays} {o : Frames} (holds : HoldsUses u) (framed : Framed u o) (some : 0 < o.depth) where
  pub bounds : Bounds u o
  bounds =
      let d = framed.description (top_of o) (omega arith) in
      let a = holds.few in
      let b = holds.ends in
      let i = holds.inside (last_of o) d in
      let t = holds.targeted in
      let p = holds.placed in
      record {
        few = omega arith;
        starts = omega arith;
        ordered = holds.ordered (last_of o) d;
        targets = omega arith;
        places = omega arith;
      }

  -- its uses lead to descriptions, or to none
  pub known_below : (i : ℕ) → i < end_of u (last_of o) → (get_or u.targets i 0 ≡ 255 → ⊥) → get_or u.targets i 0 < 64
  known_below i l n =
      let d = framed.description (top_of o) (omega arith) in
      let b = holds.inside (last_of o) d in
      let a = holds.few in
      let k = holds.known i (omega arith) n in
      omega arith

  -- ---- its next use, which has a target and a place

  module _ (more : next_of o < end_of u (last_of o)) (t p : ℕ) (is-t : t ≡ get_or u.targets (next_of o) 0)
      (is-p : p ≡ get_or u.places (next_of o) 0) where
    pub judged_missing : t ≡ 255 → Stops u o (record { why = R.NotFound; at = p })
    judged_missing e = λ put s. rw is-p (stops_missing put u o holds framed some more (sym is-t ∙ e) s)

    module _ (there : t ≡ 255 → ⊥) where
      abbrev leads : LeadsTo u o t
      leads = record { more = more; target = is-t; there = there }

      pub target_below : t < u.count
      target_below = leads_below (λ (s : Entry) (d : ℕ). s) u o holds framed some t leads

      pub judged_open : is_in t (open_of o.stack o.depth) ≡ true → Stops u o (record { why = R.Circular; at = p })
      judged_open e = λ put s. rw is-p (stops_back put u o holds framed some t leads e s)

      module _ (fresh : is_in t (open_of o.stack o.depth) ≡ false) where
        pub judged-ninth : o.depth ≡ 9 → Stops u o (record { why = R.NinthUse; at = p })
        judged-ninth e = λ put s. rw is-p (stops_ninth put u o holds framed some t leads fresh (omega arith) s)

        pub judged-pass : get_or o.heights t 0 < left_of o → Judged u o (Ok N.Pass)
        judged-pass l = (more, λ put. went_pass put u o holds framed some t leads fresh l)

        pub judged-enter : (o.depth ≡ 9 → ⊥) → left_of o ≤ get_or o.heights t 0 → Judged u o (Ok (N.Enter t))
        judged-enter n l =
            let d = framed.deep in
            let few : o.depth < 9 = omega arith in
            (more, (target_below, (few, λ put. went_enter put u o holds framed some t leads fresh few l)))

-- ---- turns before a description is entered

-- from o the walk has come to o'
pub record Along (u : UseArrays) (o o' : Frames) : Type 0 where
  pub same : (put : Put) (s : Entry) → resume_at put u o s ≡ resume_at put u o' s
  pub framed : Framed u o'
  pub falls : weight_at u o' ≤ weight_at u o

abbrev keeping : Put
keeping s d = s

module _ {u : UseArrays} {o o' : Frames} (along : Along u o o') where
  along_went : {o'' : Frames} → ((put : Put) → Went put u o' o'' (λ s. s)) → Along u o o''
  along_went w =
      let a = along.falls in
      let b = (w keeping).falls in
      record {
        same = λ put s. along.same put s ∙ (w put).same s;
        framed = (w keeping).framed;
        falls = omega arith;
      }

  module _ {o'' : Frames} (holds : HoldsUses u) (some : 0 < o'.depth) (ended : end_of u (last_of o') ≤ next_of o')
      (finish : Finishes u o' o'') where
    pub along_finished : Along u o o''
    along_finished =
        rw finish.1 (along_went (λ put. went_end put u o' holds along.framed some finish.0 ended finish.2))

    pub falls_finished : weight_at u o'' < weight_at u o'
    falls_finished =
        rw finish.1 ((went_end keeping u o' holds along.framed some finish.0 ended finish.2).falls)

  pub along_passed : Judged u o' (Ok N.Pass) → Along u o (passed o')
  along_passed j = along_went j.1

  pub falls_passed : Judged u o' (Ok N.Pass) → weight_at u (passed o') < weight_at u o'
  falls_passed j = (j.1 keeping).falls

  pub along_entered : (t : ℕ) → Judged u o' (Ok (N.Enter t))
      → (t < u.count) × Enters u o (entered u o' t) t
  along_entered t j = (
    j.1.0,
    λ put. record {
      same = λ s. along.same put s ∙ (j.1.1.1 put).same s;
      framed = (j.1.1.1 put).framed;
      falls = let a = along.falls in let b = (j.1.1.1 put).falls in omega arith;
    },
  )

  pub along_done : o'.depth ≤ 0 → Ends u o
  along_done h = λ put s. ap (map_answer (λ r. r.state)) (along.same put s) ∙ resume_end put u o' s h
