-- `put::put_pad` meets its contract: the test decides whether there is a pad byte.
-- Assumes nothing.
use mathlib.Core.Path.{sym, ap, ◌∙◌}
use Prim.Native.Nat.{ℕ}
use native.Mathlib.Omega.{arith}
use native.Mathlib.Decide.{ℕ_discrete}
use borrow.Author.Rules.{rules}
use Rattle.base.specs.Overwrite.{put_at}
use Rattle.base.proofs.OverwriteLaws.{put_nil, put_set}
use Rattle.entry.specs.Writing.{padding}
use Rattle.put.proofs.TableLaws.{padding_one}
use Rattle.put.proofs.put_pad.Goals as goal

pub bounds-b-at : goal.bounds-b-at
bounds-b-at c = let h = c.if-pad-ne0.true in elim (ℕ_discrete c.args.pad 0) [ yes e ↦ absurd (h e) | no e ↦ omega arith ]

pub returns-then-pad-ne0 : goal.returns-then-pad-ne0
returns-then-pad-ne0 c =
    let p = padding_one c.args.pad c.if-pad-ne0.true in
    put_set _ _ 0 (search rules) ∙ ap (put_at c.args.b.now c.args.at) (sym p)

pub returns-else-pad-ne0 : goal.returns-else-pad-ne0
unfolding padding
returns-else-pad-ne0 c =
    sym (put_nil _ _) ∙ ap (λ (n : ℕ). put_at c.args.b.now c.args.at (padding n)) (sym c.if-pad-ne0.false)
