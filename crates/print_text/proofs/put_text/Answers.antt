-- `print_text::put_text` meets its contract: before each turn the first i bytes are put.
-- Assumes nothing.
use mathlib.Core.Path.{refl, sym, ◌∙◌}
use lib.ListN.{length-set}
use Rattle.base.proofs.OverwriteLaws.{put_nil}
use Rattle.print_text.proofs.Laws.{part_none, part_turn, part_all}
use Rattle.print_text.proofs.put_text.Goals as goal

pub returns-then-out-at : goal.returns-then-out-at
returns-then-out-at c =
    part_none c.args.out.now c.args.at c.args.texts.now c.args.start c.args.n c.requires.2 c.if-out-at.true

pub loop-i-init : goal.loop-i-init
loop-i-init c = (refl, sym (put_nil _ _))

pub loop-i-preserved : goal.loop-i-preserved
loop-i-preserved c = (
  length-set c.loop-i.out _ _ ∙ c.loop-i.invariant.0,
  part_turn c.args.out.now c.loop-i.out c.args.at c.loop-i.i c.args.texts.now c.args.start c.args.n c.requires.2 c.if-out-at.false c.loop-i-test.true c.loop-i.invariant.1,
)

pub shape_of-out : goal.shape_of-out
shape_of-out c = c.loop-i.invariant.0

pub returns : goal.returns
returns c =
    part_all c.args.out.now c.loop-i.out c.args.at c.loop-i.i c.args.texts.now c.args.start c.args.n c.requires.2 c.if-out-at.false c.loop-i-test.false c.loop-i.invariant.1
