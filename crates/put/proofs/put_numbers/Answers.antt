-- `put::put_numbers` meets its contract. The loop's invariant: the slots passed are put.
-- Assumes nothing.
use mathlib.Core.Path.{◌≡◌, refl, sym, ap, ◌∙◌}
use mathlib.Core.List.{map}
use Prim.Native.Nat.{ℕ}
use native.Mathlib.Omega.{arith}
use lib.ListN.{get_or}
use Rattle.base.specs.Tabulate.{tabulate}
use Rattle.base.specs.Overwrite.{put_at}
use Rattle.base.proofs.OverwriteLaws.{put_nil}
use Rattle.word.specs.Word.{words}
use Rattle.entry.specs.Limits.{number_width}
use Rattle.entry.specs.Writing.{number_code, state_of}
use Rattle.put.specs.Table.{numbers_of}
use Rattle.put.proofs.TableLaws.{short_turn}
use Rattle.put.proofs.put_numbers.Goals as goal

pub loop-i-init : goal.loop-i-init
unfolding tabulate words
loop-i-init c = (refl, sym (put_nil _ _))

pub loop-i-preserved : goal.loop-i-preserved
loop-i-preserved c =
    (c.put_short.auto.b ∙ c.loop-i.invariant.0, c.put_short.ensures ∙ short_turn number_code (λ (j : ℕ). state_of (get_or c.args.numbers.now.kinds.now j 0) (get_or c.args.numbers.now.values.now j 0)) c.args.b.now c.loop-i.b c.args.at c.loop-i.i c.args.n c.slot_code-code.result c.requires.0 c.loop-i-test.true c.loop-i.invariant.1 c.slot_code-code.ensures)

pub shape_of-b : goal.shape_of-b
shape_of-b c = c.loop-i.invariant.0

pub returns : goal.returns
returns c =
    let e : c.loop-i.i ≡ c.args.n = let h = c.loop-i.auto.i-end in let g = c.loop-i-test.false in omega arith in
    c.loop-i.invariant.1 ∙ ap (λ (k : ℕ). put_at c.args.b.now c.args.at (words number_width (map number_code (numbers_of c.args.numbers.now.kinds.now c.args.numbers.now.values.now k)))) e
