-- What each item keeps of the bytes printed so far holds of the output.
-- Assumes nothing.
use Rattle.std.specs.Prelude.{◌≡◌, List, [], ◌++◌, Bool, ℕ, ◌<◌, ℤ, length}
use Rattle.std.proofs.Math.Bool.{true, false}
use Rattle.expansion.specs.Items.{item_at}
use Rattle.expansion.specs.Values.{Value}
use Rattle.expansion.specs.Machine.{Machine, started, finished, run}
use Rattle.expansion.specs.Machine.{Taken, goes_on, goes_to_else, goes_to_end, empty, full, mismatched, taking}
use Rattle.expansion_laws.specs.Passes.{passed_to}
use Rattle.expansion_laws.specs.Steps.{Point, start_of, Step, leads, refuses, step_by, step, Reaches, EndsAt}
use Rattle.expansion_laws.specs.Ends.{reaches_keeps}
use Rattle.expansion_laws.proofs.Ends.{run_ends}

-- what taking an item comes to: K holds of the machine that it leaves, and P of the bytes that it prints
abbrev pub HoldOf : (Machine → Type 0) → (List ℕ → Type 0) → Taken → Type 0
HoldOf K P (goes_on m bytes) = K m × P bytes
HoldOf K P (goes_to_else m) = K m × P []
HoldOf K P (goes_to_end m) = K m × P []
HoldOf K P empty = Unit {0}
HoldOf K P full = Unit {0}
HoldOf K P mismatched = Unit {0}

-- P i x: a property of the bytes x that are printed before the item at i. It holds of no bytes at the first item, and
-- passing over items keeps it. Each item of s, taken by a machine of which K holds, leaves one of which K holds, and
-- the property holds of the bytes with what it prints at the place behind it
module _ (K : Machine → Type 0) (P : ℕ → List ℕ → Type 0) (s : List ℕ) (none : P 0 [])
    (passes : (elses : Bool) (i : ℕ) (x : List ℕ) → P i x → P (passed_to elses s i 0) x)
    (each : (i : ℕ) (m : Machine) (x : List ℕ) → i < length s → K m → P i x
    → HoldOf K (λ bytes. P (item_at s i).next (x ++ bytes)) (taking (item_at s i).item m)) where
  -- what holds at a point of a run
  abbrev Kept : Point → Type 0
  Kept p = K p.machine × P p.place p.output

  abbrev KeptBy : Step → Type 0
  KeptBy (leads q) = Kept q
  KeptBy (refuses n) = Unit {0}

  step_keeps : (p q : Point) → p.place < length s → step s p ≡ leads q → Kept p → Kept q
  unfolding step
  step_keeps p q h e x =
      rw e
      at (by_taken (taking (item_at s p.place).item p.machine)
      (each p.place p.machine p.output h x.0 x.1))
    where
      by_taken : (t : Taken) → HoldOf K (λ bytes. P (item_at s p.place).next (p.output ++ bytes)) t
          → KeptBy (step_by s p (item_at s p.place).next t)
      by_taken (goes_on m bytes) l = l
      by_taken (goes_to_else m) l = (l.0, passes true (item_at s p.place).next (p.output ++ []) l.1)
      by_taken (goes_to_end m) l = (l.0, passes false (item_at s p.place).next (p.output ++ []) l.1)
      by_taken empty l = tt
      by_taken full l = tt
      by_taken mismatched l = tt

  -- ---- the law: the output of a finished run has the property at the place at which the run ends

  pub output_holds : (arguments : List Value) (lasting : List ℤ) (m : Machine) (out : List ℕ) (n : ℕ)
      → K (started arguments lasting) → run s arguments lasting ≡ finished m out n
      → (q : Point) × Reaches s (start_of arguments lasting) q × EndsAt s q (finished m out n) × K m × P q.place out
  output_holds arguments lasting m out n x e =
      let r = (run_ends s arguments lasting (finished m out n)).0 e in
      let k = reaches_keeps Kept step_keeps r.1 (x, none) in
      (r.0, r.1, r.2, rw r.2.1 at k.0, rw r.2.2 at k.1)
