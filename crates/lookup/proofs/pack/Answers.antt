-- `lookup::pack` meets its contract, for each count of bytes that a name has.
use native.Mathlib.Omega.{arith}
use lib.Dec.{lit≤}
use Rattle.word.specs.Word.{word}
use Rattle.names.proofs.LookupLaws.{sought_short, sought_other, sought_nul, sought_bytes}
use Rattle.lookup.proofs.pack.Goals as goal

pub returns-then-n-lt2 : goal.returns-then-n-lt2
returns-then-n-lt2 c = sought_short c.args.name.now c.if-n-lt2.true

pub returns-then-name-n-eq0 : goal.returns-then-name-n-eq0
returns-then-name-n-eq0 c = sought_nul c.args.name.now c.if-name-n-eq0.true

pub returns-in-2 : goal.returns-in-2
unfolding word
returns-in-2 c =
    let s = sought_bytes c.args.name.now 2 c.in-2.is (lit≤ tt) (lit≤ tt) c.if-name-n-eq0.false in
    omega arith

pub returns-in-3 : goal.returns-in-3
unfolding word
returns-in-3 c =
    let s = sought_bytes c.args.name.now 3 c.in-3.is (lit≤ tt) (lit≤ tt) c.if-name-n-eq0.false in
    omega arith

pub returns-in-4 : goal.returns-in-4
unfolding word
returns-in-4 c =
    let s = sought_bytes c.args.name.now 4 c.in-4.is (lit≤ tt) (lit≤ tt) c.if-name-n-eq0.false in
    omega arith

pub returns-in-5 : goal.returns-in-5
unfolding word
returns-in-5 c =
    let s = sought_bytes c.args.name.now 5 c.in-5.is (lit≤ tt) (lit≤ tt) c.if-name-n-eq0.false in
    omega arith

pub returns-in-6 : goal.returns-in-6
unfolding word
returns-in-6 c =
    let s = sought_bytes c.args.name.now 6 c.in-6.is (lit≤ tt) (lit≤ tt) c.if-name-n-eq0.false in
    omega arith

pub returns-in_default : goal.returns-in_default
returns-in_default c =
    let r = c.in_default.in_default-own.rest in
    sought_other c.args.name.now c.if-n-lt2.false r.0.0.0.0.1 r.0.0.0.1 r.0.0.1 r.0.1 r.1
