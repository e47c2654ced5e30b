-- `arguments::numbers` meets its contract, place by place.
-- Assumes nothing.
use Rattle.arguments.proofs.Laws.{number_is, numbers_are}
use Rattle.arguments.proofs.numbers.Goals as goal

pub returns : goal.returns
returns c =
    numbers_are c.args.values c.well_formed.0.1.0.1
    (number_is _ c.number-arg-1.given c.number.ensures)
    (number_is _ c.number-arg-2-1.given c.number-2.ensures)
    (number_is _ c.number-arg-3-1.given c.number-3.ensures)
    (number_is _ c.number-arg-4-1.given c.number-4.ensures)
    (number_is _ c.number-arg-5-1.given c.number-5.ensures)
    (number_is _ c.number-arg-6-1.given c.number-6.ensures)
    (number_is _ c.number-arg-7-1.given c.number-7.ensures)
    (number_is _ c.number-arg-8-1.given c.number-8.ensures)
    (number_is _ c.number-arg-9-1.given c.number-9.ensures)
