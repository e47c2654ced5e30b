-- `print::put_byte` meets its contract, by the test whether the byte fits.
-- Assumes nothing.
use mathlib.Core.Path.{sym, ◌∙◌}
use mathlib.Core.List.{[], ◌∷◌}
use native.Mathlib.Omega.{arith}
use Rattle.base.proofs.OverwriteLaws.{put_set}
use Rattle.print.proofs.EmitLaws.{emitted_fits, emitted_not}
use Rattle.print.proofs.put_byte.Goals as goal

pub returns-then-at-out : goal.returns-then-at-out
returns-then-at-out c =
    put_set c.args.out.now c.args.at c.args.b c.if-at-out.true ∙ sym (emitted_fits c.args.out.now c.args.at (c.args.b ∷ []) (omega arith))

pub returns-else-at-out : goal.returns-else-at-out
returns-else-at-out c = sym (emitted_not c.args.out.now c.args.at (c.args.b ∷ []) (omega arith))
