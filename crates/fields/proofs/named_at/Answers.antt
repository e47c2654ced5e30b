use mathlib.Core.Path.{refl, sym, ◌∙◌}
use native.Mathlib.Omega.{arith}
use Rattle.text.specs.declared.ByteClass.TheVariants as C
use Rattle.text_laws.specs.Runs.{run_le}
use Rattle.text_laws.specs.FieldLaws.{byte_within, named_none, named_wrong, named_open, named_closed}
use Rattle.fields.proofs.named_at.Goals as goal

pub returns-then-end-at : goal.returns-then-end-at
returns-then-end-at c = named_none c.args.text.now c.args.dropped c.args.at c.name_end-end.result c.name_end-end.ensures c.if-end-at.true

pub form_at-requires : goal.form_at-requires
form_at-requires c = rw c.name_end-end.ensures (run_le C.Name c.args.text.now c.args.at c.requires)

pub returns-then-byte_at-ne44 : goal.returns-then-byte_at-ne44
returns-then-byte_at-ne44 c = named_open c.args.text.now c.args.dropped c.args.at c.name_end-end.result c.name_end-end.ensures c.if-end-at.false _ _ (sym c.in_ok-formed.was ∙ c.form_at.ensures) (λ e. c.if-byte_at-ne44.true (c.byte_at.ensures ∙ e))

pub overflow_add-result : goal.overflow_add-result
overflow_add-result c = omega (arith, byte_within c.args.text.now c.in_ok-formed.formed.next 44 refl (sym c.byte_at.ensures ∙ c.if-byte_at-ne44.false))

pub returns : goal.returns
returns c = named_closed c.args.text.now c.args.dropped c.args.at c.name_end-end.result c.name_end-end.ensures c.if-end-at.false _ _ (sym c.in_ok-formed.was ∙ c.form_at.ensures) (sym c.byte_at.ensures ∙ c.if-byte_at-ne44.false)

pub returns-in_err-formed : goal.returns-in_err-formed
returns-in_err-formed c =
    c.from_residual.ensures
    ∙ named_wrong c.args.text.now c.args.dropped c.args.at c.name_end-end.result c.name_end-end.ensures
    c.if-end-at.false (sym c.in_err-formed.was ∙ c.form_at.ensures)
