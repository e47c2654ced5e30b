use native.Mathlib.Omega.{arith}
use borrow.Author.Tests.{le-leb, lt-leb}
use Rattle.text.specs.Strings.{is_control}
use Rattle.escapes.proofs.is_control.Goals as goal

pub returns-in-64-to-95 : goal.returns-in-64-to-95
unfolding is_control
returns-in-64-to-95 c = let b = c.args.b in simp (le-leb 64 b (omega arith), le-leb b 95 (omega arith))

pub returns-in-64-to-95-2 : goal.returns-in-64-to-95-2
unfolding is_control
returns-in-64-to-95-2 c = let b = c.args.b in simp (le-leb 64 b (omega arith), lt-leb b 95 (omega arith), le-leb 97 b (omega arith), le-leb b 122 (omega arith))

pub returns-in_default : goal.returns-in_default
unfolding is_control
returns-in_default c = let b = c.args.b in simp (lt-leb 64 b (omega arith), lt-leb 97 b (omega arith))

pub returns-in_default-2 : goal.returns-in_default-2
unfolding is_control
returns-in_default-2 c = let b = c.args.b in simp (le-leb 64 b (omega arith), lt-leb b 95 (omega arith), lt-leb 97 b (omega arith))

pub returns-in_default-3 : goal.returns-in_default-3
unfolding is_control
returns-in_default-3 c = let b = c.args.b in simp (le-leb 64 b (omega arith), lt-leb b 95 (omega arith), le-leb 97 b (omega arith), lt-leb b 122 (omega arith))
