use Rattle.text_numbers.specs.Bases.{number_digits}
use Rattle.text_numbers.proofs.number_at.Goals as goal

pub returns : goal.returns
returns c = rw (c.digits_at.ensures, c.first_digit.ensures, c.base_at-base.ensures) (number_digits _ _)
