-- `number_words::with_digit` meets its contract, by its tests in order.
-- Assumes nothing.
use native.Mathlib.Omega.{arith}
use Rattle.number_words.proofs.Laws.{digit_below, digit_above, digit_none, digit_large, digit_fits}
use Rattle.number_words.proofs.with_digit.Goals.{then-c-lt48-via-then-c-lt48, then-c-lt48-via-else-c-lt48+then-c-gt57}
use Rattle.number_words.proofs.with_digit.Goals as goal

pub returns-then-c-lt48-clause-value : goal.returns-then-c-lt48-clause-value
returns-then-c-lt48-clause-value c =
    elim c.then-c-lt48.branch [
      | then-c-lt48-via-then-c-lt48 w ↦ digit_below c.args.n c.args.c w.if-c-lt48.true
      | then-c-lt48-via-else-c-lt48+then-c-gt57 w ↦ digit_above c.args.n c.args.c w.if-c-gt57.true
    ]

pub returns-then-n-gt-LARGE_MAGNITUDE-clause-value : goal.returns-then-n-gt-LARGE_MAGNITUDE-clause-value
returns-then-n-gt-LARGE_MAGNITUDE-clause-value c =
    digit_none c.args.n c.args.c c.if-c-lt48.false c.if-c-gt57.false c.if-n-gt-LARGE_MAGNITUDE.true

pub returns-then-m-gt-MAGNITUDE_MOST-clause-value : goal.returns-then-m-gt-MAGNITUDE_MOST-clause-value
returns-then-m-gt-MAGNITUDE_MOST-clause-value c =
    digit_large c.args.n c.args.c c.if-c-lt48.false c.if-c-gt57.false c.if-n-gt-LARGE_MAGNITUDE.false
    (omega (arith, c.from.ensures))

pub returns-clause-value : goal.returns-clause-value
returns-clause-value c =
    rw c.from.ensures
    (digit_fits c.args.n c.args.c c.if-c-lt48.false c.if-c-gt57.false c.if-n-gt-LARGE_MAGNITUDE.false
    (omega (arith, c.from.ensures)))
