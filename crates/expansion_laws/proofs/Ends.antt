-- A run has an outcome exactly if its steps end with it: no run ends early. And what follows from that for every run.
-- Assumes nothing.
use Rattle.std.specs.Prelude.{◌≡◌, refl, List, ◌↔◌, ℕ, zero, suc, ◌-◌, ◌≤◌, ◌<◌, ℤ, length}
use Rattle.std.proofs.Common.{◌∙◌, arith}
use Rattle.base.proofs.IfLaws.{below_or}
use Rattle.expansion.specs.Values.{Value}
use Rattle.expansion.specs.Machine.{Outcome, finished, failed, run}
use Rattle.expansion_laws.specs.Steps.{Point, start_of, Step, leads, refuses, step}
use Rattle.expansion_laws.specs.Steps.{Reaches, here, onward, EndsAt, Ends}
use Rattle.expansion_laws.specs.Runs.{run_of_rest, run_start, run_step, run_end_lem, step_on}

-- steps leave the outcome as it is
reaches_run : {s : List ℕ} {p q : Point} → Reaches s p q → run_of_rest s p ≡ run_of_rest s q
reaches_run (here p) = refl
reaches_run {s} (onward p q r h e w) = run_step s p h ∙ rw e (reaches_run w)

ends_run : (s : List ℕ) (p : Point) (y : Outcome) → EndsAt s p y → run_of_rest s p ≡ y
ends_run s p (finished m out n) h = run_end_lem s p (omega (arith, h.0)) ∙ rw (h.1, h.2, h.3)
ends_run s p (failed n i) h = run_step s p (omega (arith, h.0)) ∙ rw (h.2, h.1)

at_end : (s : List ℕ) (p : Point) → length s ≤ p.place → Ends s p (run_of_rest s p)
at_end s p h = (p, here p, rw (run_end_lem s p h) (omega arith, refl, refl, refl))

-- places only grow, so that the steps end
end_by : (k : ℕ) (s : List ℕ) (p : Point) → length s - p.place ≤ k → Ends s p (run_of_rest s p)
end_by zero s p h = at_end s p (omega arith)
end_by (suc k) s p h =
    below_or p.place (length s) (λ l. by_step (step s p) refl l (λ q m. end_by k s q m)) (λ l. at_end s p l)
  where
    by_step : (t : Step) → step s p ≡ t → p.place < length s
        → ((q : Point) → length s - q.place ≤ k → Ends s q (run_of_rest s q)) → Ends s p (run_of_rest s p)
    by_step (leads q) e l again =
        let r = again q (omega (arith, step_on s p q l e)) in
        (r.0, onward p q r.0 l e r.1, rw (run_step s p l, e) r.2)
    by_step (refuses n) e l again = (p, here p, rw (run_step s p l, e) (omega arith, refl, e))

-- ---- the laws

pub rest_ends : (s : List ℕ) (p : Point) (y : Outcome) → run_of_rest s p ≡ y ↔ Ends s p y
rest_ends s p y = (
  λ e. rw e at (end_by (length s - p.place) s p (omega arith)),
  λ r. reaches_run r.1 ∙ ends_run s r.0 y r.2,
)

-- a run has an outcome exactly if its steps, from the start on, end with it
pub run_ends : (s : List ℕ) (arguments : List Value) (lasting : List ℤ) (y : Outcome)
    → run s arguments lasting ≡ y ↔ Ends s (start_of arguments lasting) y
run_ends s arguments lasting y = rw (run_start s arguments lasting) (rest_ends s (start_of arguments lasting) y)
