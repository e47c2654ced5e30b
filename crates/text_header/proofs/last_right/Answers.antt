use mathlib.Core.Path.{sym, ◌∙◌}
use borrow.Author.Tests.{le-ltb}
use Rattle.text.specs.declared.ByteClass.TheVariants as C
use Rattle.text_laws.specs.HeadingLaws.{made_none, made_run}
use Rattle.text_header.proofs.last_right.Goals as goal

pub returns-then-not-several : goal.returns-then-not-several
returns-then-not-several c = rw (c.if-not-several.true)

pub returns-then-at-end : goal.returns-then-at-end
returns-then-at-end c = rw (c.if-not-several.false, c.run_end-end.ensures) (sym (made_run C.LastName c.args.names.now c.args.at (rw c.run_end-end.ensures at c.if-at-end.true)))

pub returns-else-at-end : goal.returns-else-at-end
returns-else-at-end c = le-ltb _ _ c.if-at-end.false ∙ rw (c.if-not-several.false) (sym (made_none C.LastName c.args.names.now c.args.at (rw c.run_end-end.ensures at c.if-at-end.false)))
