-- A run: any count from what is left of the string on gives the same, and the equations, which show no count.
-- Assumes nothing.
use Rattle.std.specs.Prelude.{◌≡◌, true, false, List, [], ℤ}
use Rattle.std.proofs.Math.Path.{refl, sym, ap}
use Rattle.std.proofs.Common.{◌∙◌, append-nil, arith, lt-ltb, le-ltb}
use Prim.Native.Nat.{ℕ, zero, suc, ◌+◌, ◌-◌, ◌≤◌, ◌<◌}
use Rattle.std.proofs.Math.ListN.{length}
use Rattle.base.proofs.IfLaws.{below_or}
use Rattle.expansion.specs.Items.{item_at}
use Rattle.expansion.specs.Values.{Value}
use Rattle.expansion.specs.Machine.{started, Outcome, finished, failed, running, run}
use Rattle.expansion.specs.Machine.{Taken, goes_on, goes_to_else, goes_to_end, empty, full, mismatched, taking}
use Rattle.item_parts.proofs.Laws.{item_on}
use Rattle.expansion_laws.specs.Passes.{passed_on}
use Rattle.expansion_laws.specs.Steps.{Point, start_of, Step, leads, refuses, step_by, step}

-- what is left of a run
unfoldable pub run_of_rest : List ℕ → Point → Outcome
run_of_rest s p = running (length s - p.place) s p.place p.machine p.output p.steps

-- the run behind the item at a point, by what the item comes to
abbrev pub run_behind : List ℕ → Point → Step → Outcome
run_behind s p (leads q) = run_of_rest s q
run_behind s p (refuses n) = failed n p.place

-- ---- a step leads on, and counts

abbrev place_of : ℕ → Step → ℕ
place_of i (leads q) = q.place
place_of i (refuses n) = i

abbrev steps_of : ℕ → Step → ℕ
steps_of n (leads q) = q.steps
steps_of n (refuses k) = n

module _ (s : List ℕ) (p q : Point) (h : p.place < length s) (e : step s p ≡ leads q) where
  pub step_on : p.place < q.place
  unfolding step
  step_on =
      let f : place_of (p.place + 1) (step s p) ≡ q.place = ap (place_of (p.place + 1)) e in
      omega (arith, f, by_taken (taking (item_at s p.place).item p.machine))
    where
      next : ℕ
      next = (item_at s p.place).next

      on : p.place < next
      on = item_on s p.place h

      by_taken : (t : Taken) → p.place < place_of (p.place + 1) (step_by s p (item_at s p.place).next t)
      by_taken (goes_on m bytes) = on
      by_taken (goes_to_else m) = omega (arith, on, passed_on true s next 0)
      by_taken (goes_to_end m) = omega (arith, on, passed_on false s next 0)
      by_taken empty = omega arith
      by_taken full = omega arith
      by_taken mismatched = omega arith

  pub step_counts : q.steps ≡ p.steps + 1
  unfolding step
  step_counts =
      sym (ap (steps_of (p.steps + 1)) e) ∙ by_taken (taking (item_at s p.place).item p.machine)
    where
      by_taken : (t : Taken) → steps_of (p.steps + 1) (step_by s p (item_at s p.place).next t) ≡ p.steps + 1
      by_taken (goes_on m bytes) = refl
      by_taken (goes_to_else m) = refl
      by_taken (goes_to_end m) = refl
      by_taken empty = refl
      by_taken full = refl
      by_taken mismatched = refl

-- ---- steps with a count

abbrev running_from : ℕ → List ℕ → Point → Outcome
running_from k s p = running k s p.place p.machine p.output p.steps

abbrev running_behind : ℕ → List ℕ → Point → Step → Outcome
running_behind k s p (leads q) = running_from k s q
running_behind k s p (refuses n) = failed n p.place

running_step : (k : ℕ) (s : List ℕ) (p : Point) → p.place < length s
    → running_from (suc k) s p ≡ running_behind k s p (step s p)
unfolding running step
running_step k s p h = by_taken (taking (item_at s p.place).item p.machine) refl
  where
    by_taken : (t : Taken) → taking (item_at s p.place).item p.machine ≡ t
        → running_from (suc k) s p ≡ running_behind k s p (step_by s p (item_at s p.place).next t)
    by_taken (goes_on m bytes) e = rw (running, lt-ltb p.place (length s) h, e)
    by_taken (goes_to_else m) e = rw (running, lt-ltb p.place (length s) h, e, append-nil p.output)
    by_taken (goes_to_end m) e = rw (running, lt-ltb p.place (length s) h, e, append-nil p.output)
    by_taken empty e = rw (running, lt-ltb p.place (length s) h, e)
    by_taken full e = rw (running, lt-ltb p.place (length s) h, e)
    by_taken mismatched e = rw (running, lt-ltb p.place (length s) h, e)

running_ended : (k : ℕ) (s : List ℕ) (p : Point) → length s ≤ p.place
    → running_from k s p ≡ finished p.machine p.output p.steps
unfolding running
running_ended zero s p h = refl
running_ended (suc k) s p h = rw (running, le-ltb p.place (length s) h)

-- two counts that are enough
running_same : (f g : ℕ) (s : List ℕ) (p : Point) → length s - p.place ≤ f → length s - p.place ≤ g
    → running_from f s p ≡ running_from g s p
running_same zero g s p a b = running_ended zero s p (omega arith) ∙ sym (running_ended g s p (omega arith))
running_same (suc f) zero s p a b =
    running_ended (suc f) s p (omega arith) ∙ sym (running_ended zero s p (omega arith))
running_same (suc f) (suc g) s p a b =
    below_or p.place (length s)
    (λ l.
    let again = by_step (step s p) refl l (λ q c d. running_same f g s q c d) in
    running_step f s p l ∙ again ∙ sym (running_step g s p l))
    (λ l. running_ended (suc f) s p l ∙ sym (running_ended (suc g) s p l))
  where
    by_step : (t : Step) → step s p ≡ t → p.place < length s
        → ((q : Point) → length s - q.place ≤ f → length s - q.place ≤ g → running_from f s q ≡ running_from g s q)
        → running_behind f s p t ≡ running_behind g s p t
    by_step (leads q) e l again = again q (omega (arith, step_on s p q l e)) (omega (arith, step_on s p q l e))
    by_step (refuses n) e l again = refl

-- ---- the laws

module _ (s : List ℕ) where
  pub running_enough : (k : ℕ) (p : Point) → length s - p.place ≤ k
      → running k s p.place p.machine p.output p.steps ≡ run_of_rest s p
  unfolding run_of_rest
  running_enough k p h = running_same k (length s - p.place) s p (omega arith) (omega arith)

  module _ (arguments : List Value) (lasting : List ℤ) where
    pub run_start : run s arguments lasting ≡ run_of_rest s (start_of arguments lasting)
    unfolding run
    run_start = running_enough (length s) (start_of arguments lasting) (omega arith)

    -- for the whole string its length is enough
    pub run_enough : (k : ℕ) → length s ≤ k → running k s 0 (started arguments lasting) [] 0 ≡ run s arguments lasting
    run_enough k h = running_enough k (start_of arguments lasting) (omega arith) ∙ sym run_start

  module _ (p : Point) where
    -- an item
    pub run_step : p.place < length s → run_of_rest s p ≡ run_behind s p (step s p)
    unfolding run_of_rest
    run_step h =
        running_same left (suc left) s p (omega arith) (omega arith)
        ∙ running_step left s p h
        ∙ by_step (step s p) refl
      where
        left : ℕ
        left = length s - p.place

        by_step : (t : Step) → step s p ≡ t → running_behind left s p t ≡ run_behind s p t
        by_step (leads q) e = running_enough left q (omega (arith, step_on s p q h e))
        by_step (refuses n) e = refl

    -- the string's end
    pub run_end_lem : length s ≤ p.place → run_of_rest s p ≡ finished p.machine p.output p.steps
    unfolding run_of_rest
    run_end_lem h = running_ended (length s - p.place) s p h
