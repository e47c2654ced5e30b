use Rattle.text_laws.specs.NumberLaws.{digits_after, digits_none, digits_some, digits_within}
use Rattle.text_numbers.proofs.digits_at.Goals as goal

pub returns-then-past-at : goal.returns-then-past-at
returns-then-past-at c =
    digits_none c.args.base c.args.text.now c.args.at c.run_end-past.result c.run_end-past.ensures
    c.if-past-at.true

pub number_form-requires : goal.number_form-requires
number_form-requires c = (
  digits_after c.args.base c.args.text.now c.args.at c.run_end-past.result c.run_end-past.ensures,
  digits_within c.args.base c.args.text.now c.args.at c.run_end-past.result c.run_end-past.ensures
      c.if-past-at.false,
)

pub returns : goal.returns
returns c =
    rw c.number_form.ensures
    (digits_some c.args.base c.args.text.now c.args.at c.run_end-past.result c.run_end-past.ensures
    c.if-past-at.false)
