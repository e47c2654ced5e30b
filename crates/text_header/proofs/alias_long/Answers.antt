use Rattle.text_header.proofs.alias_long.Goals.{then-b-eq124+else-i-start-gt-ALIAS_MOST, else-b-eq124}
use native.Mathlib.Omega.{arith}
use Rattle.text_laws.specs.HeadingLaws.{passed_none, passed_more, passed_bar, passed_long, passed_all}
use Rattle.text_header.proofs.alias_long.Goals as goal

pub loop-i-init : goal.loop-i-init
loop-i-init c = passed_none c.args.names.now

pub returns-then-i-start-gt-ALIAS_MOST : goal.returns-then-i-start-gt-ALIAS_MOST
returns-then-i-start-gt-ALIAS_MOST c = passed_long c.args.names.now c.loop-i.start c.loop-i.i c.loop-i.invariant c.loop-i-test.true c.if-b-eq124.true c.if-i-start-gt-ALIAS_MOST.true

pub overflow_add-start : goal.overflow_add-start
overflow_add-start c = omega arith

pub loop-i-preserved : goal.loop-i-preserved
loop-i-preserved c =
    elim c.if-b-eq124.branch [
      | then-b-eq124+else-i-start-gt-ALIAS_MOST w ↦ rw w.start-is (passed_bar c.args.names.now c.loop-i.start c.loop-i.i c.loop-i.invariant c.loop-i-test.true w.if-b-eq124.true w.if-i-start-gt-ALIAS_MOST.false)
      | else-b-eq124 w ↦ rw w.start-is (passed_more c.args.names.now c.loop-i.start c.loop-i.i c.loop-i.invariant c.loop-i-test.true w.if-b-eq124.false)
    ]

pub returns : goal.returns
returns c = passed_all c.args.names.now c.loop-i.start c.loop-i.i c.loop-i.invariant c.loop-i-test.false
