use Rattle.text_laws.specs.NumberLaws.{base_fits, form_many, form_large, form_small}
use Rattle.text_numbers.proofs.number_form.Goals as goal

pub value_of-value-requires : goal.value_of-value-requires
value_of-value-requires c = (rw c.base_of.ensures (base_fits c.args.base), c.requires)

pub returns-then-past-at-gt-DIGITS_MOST : goal.returns-then-past-at-gt-DIGITS_MOST
returns-then-past-at-gt-DIGITS_MOST c = form_many _ _ c.if-past-at-gt-DIGITS_MOST.true

pub returns-then-value-gt-NUMBER_MOST : goal.returns-then-value-gt-NUMBER_MOST
returns-then-value-gt-NUMBER_MOST c =
    form_large _ _ _ (rw c.base_of.ensures at c.value_of-value.ensures) c.if-value-gt-NUMBER_MOST.true

pub returns : goal.returns
returns c =
    form_small _ _ _ (rw c.base_of.ensures at c.value_of-value.ensures) c.if-past-at-gt-DIGITS_MOST.false
    c.if-value-gt-NUMBER_MOST.false
