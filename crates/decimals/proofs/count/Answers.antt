-- `decimals::count` meets its contract: the comparisons leave a number between two powers of ten.
-- Assumes nothing.
use mathlib.Core.Path.{refl, sym, ap}
use native.Mathlib.Omega.{arith}
use lib.ListN.{length}
use Rattle.decimals.proofs.Laws.{one_digit, count_between}
use Rattle.decimals.proofs.count.Goals as goal

pub returns-then-n-lt10 : goal.returns-then-n-lt10
returns-then-n-lt10 c = sym (ap length (one_digit _ c.if-n-lt10.true))

pub returns-else-n-lt10 : goal.returns-else-n-lt10
returns-else-n-lt10 c = count_between 1 10 100 _ refl refl c.if-n-lt10.false c.if-n-lt100.true

pub returns-then-n-lt1000 : goal.returns-then-n-lt1000
returns-then-n-lt1000 c = count_between 2 100 1000 _ refl refl c.if-n-lt100.false c.if-n-lt1000.true

pub returns-else-n-lt1000 : goal.returns-else-n-lt1000
returns-else-n-lt1000 c = count_between 3 1000 10000 _ refl refl c.if-n-lt1000.false c.if-n-lt10000.true

pub returns-then-n-lt100000 : goal.returns-then-n-lt100000
returns-then-n-lt100000 c = count_between 4 10000 100000 _ refl refl c.if-n-lt10000.false c.if-n-lt100000.true

pub returns-else-n-lt100000 : goal.returns-else-n-lt100000
returns-else-n-lt100000 c = count_between 5 100000 1000000 _ refl refl c.if-n-lt100000.false c.if-n-lt1000000.true

pub returns-then-n-lt10000000 : goal.returns-then-n-lt10000000
returns-then-n-lt10000000 c = count_between 6 1000000 10000000 _ refl refl c.if-n-lt1000000.false c.if-n-lt10000000.true

pub returns-else-n-lt10000000 : goal.returns-else-n-lt10000000
returns-else-n-lt10000000 c = count_between 7 10000000 100000000 _ refl refl c.if-n-lt10000000.false c.if-n-lt100000000.true

pub returns-then-n-lt1000000000 : goal.returns-then-n-lt1000000000
returns-then-n-lt1000000000 c = count_between 8 100000000 1000000000 _ refl refl c.if-n-lt100000000.false c.if-n-lt1000000000.true

pub returns-else-n-lt1000000000 : goal.returns-else-n-lt1000000000
returns-else-n-lt1000000000 c = count_between 9 1000000000 10000000000 _ refl refl c.if-n-lt1000000000.false (omega arith)
