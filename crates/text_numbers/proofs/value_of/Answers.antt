use Prim.Native.Nat.{ℕ, ◌+◌, ◌*◌}
use mathlib.Core.Path.{ap}
use native.Mathlib.Omega.{arith}
use Rattle.text_laws.specs.NumberLaws.{valued_none, valued_all, valued_more, valued_large, valued_fits}
use Rattle.text_numbers.proofs.value_of.Goals as goal

pub loop-i-init : goal.loop-i-init
loop-i-init c = valued_none c.args.base c.args.text.now c.args.at c.args.end c.requires.1.0

pub overflow_mul-v : goal.overflow_mul-v
overflow_mul-v c = omega (arith, valued_fits c.args.base c.args.text.now c.args.at c.args.end c.loop-i.i c.loop-i.v c.loop-i.invariant c.requires.0.1)

pub bounds-text-i : goal.bounds-text-i
bounds-text-i c = omega arith

pub overflow_add-v : goal.overflow_add-v
overflow_add-v c = omega (arith, valued_fits c.args.base c.args.text.now c.args.at c.args.end c.loop-i.i c.loop-i.v c.loop-i.invariant c.requires.0.1)

pub returns-then-v-gt-NUMBER_MOST : goal.returns-then-v-gt-NUMBER_MOST
returns-then-v-gt-NUMBER_MOST c = valued_large c.args.base c.args.text.now c.args.at c.args.end c.loop-i.i c.loop-i.v c.loop-i.invariant (c.loop-i.v * c.args.base + c.digit.result) c.loop-i-test.true (ap (λ (d : ℕ). c.loop-i.v * c.args.base + d) c.digit.ensures) c.requires.0.0 c.if-v-gt-NUMBER_MOST.true

pub loop-i-preserved : goal.loop-i-preserved
loop-i-preserved c = valued_more c.args.base c.args.text.now c.args.at c.args.end c.loop-i.i c.loop-i.v c.loop-i.invariant (c.loop-i.v * c.args.base + c.digit.result) c.loop-i-test.true (ap (λ (d : ℕ). c.loop-i.v * c.args.base + d) c.digit.ensures) c.if-v-gt-NUMBER_MOST.false

pub returns : goal.returns
returns c = valued_all c.args.base c.args.text.now c.args.at c.args.end c.loop-i.i c.loop-i.v c.loop-i.invariant c.loop-i-test.false
