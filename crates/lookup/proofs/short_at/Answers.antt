-- `lookup::short_at` meets its contract: a word of two bytes, each below 256.
use native.Mathlib.Omega.{arith}
use Rattle.word.proofs.WordLaws.{short_eq}
use Rattle.lookup.proofs.short_at.Goals as goal

pub returns : goal.returns
returns c =
    (omega (arith, short_eq c.args.name.now c.args.i), omega arith)
