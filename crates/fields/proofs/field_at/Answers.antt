use mathlib.Core.Path.{◌∙◌}
use native.Mathlib.Omega.{arith}
use borrow.Author.Tests.{ne_eqb}
use Rattle.text.specs.Fields.{field_at}
use Rattle.fields.proofs.field_at.Goals as goal
use Rattle.fields.proofs.field_at.Goals.{then-dropped, else-dropped}

pub named_at-requires : goal.named_at-requires
named_at-requires c =
    elim c.if-dropped.branch [ then-dropped w ↦ omega arith | else-dropped w ↦ omega arith ]

pub returns : goal.returns
unfolding field_at
returns c =
    c.named_at.ensures
    ∙ elim c.if-dropped.branch [
      | then-dropped w ↦ rw (w.name-is, w.if-dropped.true)
      | else-dropped w ↦ rw (w.name-is, ne_eqb _ _ w.if-dropped.false)
    ]
