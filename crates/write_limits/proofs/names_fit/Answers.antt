-- `judge::names_fit` meets its contract: each test decides one part of `names_fit`.
-- Assumes nothing.
use mathlib.Core.Path.{◌∙◌}
use mathlib.Core.Bool.{and-false}
use borrow.Author.Tests.{le-leb, lt-leb}
use Rattle.entry.specs.Writing.{names_fit}
use Rattle.write_limits.proofs.names_fit.Goals as goal

pub returns-then-n-lt-GIVEN_NAMES_LEAST : goal.returns-then-n-lt-GIVEN_NAMES_LEAST
unfolding names_fit
returns-then-n-lt-GIVEN_NAMES_LEAST c = rw (lt-leb _ _ c.if-n-lt-GIVEN_NAMES_LEAST.true)

pub returns-then-n-gt-GIVEN_NAMES_MOST : goal.returns-then-n-gt-GIVEN_NAMES_MOST
unfolding names_fit
returns-then-n-gt-GIVEN_NAMES_MOST c = simp (lt-leb _ _ c.if-n-gt-GIVEN_NAMES_MOST.true, and-false)

pub returns : goal.returns
unfolding names_fit
returns c = c.no_nul.ensures ∙ rw (le-leb _ _ c.if-n-lt-GIVEN_NAMES_LEAST.false, le-leb _ _ c.if-n-gt-GIVEN_NAMES_MOST.false)
