-- `expand_output::keep` meets its contract: of two lengths the smaller is copied.
-- Assumes nothing.
use native.Mathlib.Omega.{arith}
use Rattle.expand_output.proofs.BufferLaws.{kept_front}
use Rattle.expand_output.proofs.keep.Goals as goal

pub returns : goal.returns
returns c =
    kept_front c.args.out.now c.args.short.now _ c.min-end.result (omega (arith, c.min-end.ensures)) (omega (arith, c.min-end.ensures)) c.copy_from_slice.ensures.after
