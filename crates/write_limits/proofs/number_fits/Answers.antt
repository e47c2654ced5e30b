-- `judge::number_fits_lem` meets its contract: each test decides the kind or the value.
-- Assumes nothing.
use borrow.Author.Tests.{le-leb, lt-leb}
use Rattle.write_laws.proofs.AnswerLaws.{number_fits_none, number_fits_present}
use Rattle.write_limits.proofs.number_fits.Goals as goal

pub returns-then-kind-gt-CANCELLED : goal.returns-then-kind-gt-CANCELLED
returns-then-kind-gt-CANCELLED c = rw (lt-leb _ _ c.if-kind-gt-CANCELLED.true)

pub returns-then-kind-ne-PRESENT : goal.returns-then-kind-ne-PRESENT
returns-then-kind-ne-PRESENT c =
    rw (le-leb _ _ c.if-kind-gt-CANCELLED.false, number_fits_none c.args.kind c.args.value c.if-kind-ne-PRESENT.true)

pub returns : goal.returns
returns c =
    rw (le-leb _ _ c.if-kind-gt-CANCELLED.false, number_fits_present c.args.kind c.args.value c.if-kind-ne-PRESENT.false)
