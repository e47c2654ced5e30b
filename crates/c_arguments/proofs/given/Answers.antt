-- `c_arguments::given` meets its contract, place by place.
-- Assumes nothing.
use Rattle.c_arguments.proofs.Laws.{given_at, given_are}
use Rattle.c_arguments.proofs.given.Goals as goal

pub returns : goal.returns
returns c =
    let k = c.args.kinds.now in
    let v = c.args.numbers.now in
    let s = c.args.starts.now in
    let n = c.args.lengths.now in
    given_are k v s n
    (given_at k v s n 0 c.argument-arg-2-1.given c.argument.ensures)
    (given_at k v s n 1 c.argument-arg-6-1.given c.argument-2.ensures)
    (given_at k v s n 2 c.argument-arg-10-1.given c.argument-3.ensures)
    (given_at k v s n 3 c.argument-arg-14-1.given c.argument-4.ensures)
    (given_at k v s n 4 c.argument-arg-18-1.given c.argument-5.ensures)
    (given_at k v s n 5 c.argument-arg-22-1.given c.argument-6.ensures)
    (given_at k v s n 6 c.argument-arg-26-1.given c.argument-7.ensures)
    (given_at k v s n 7 c.argument-arg-30-1.given c.argument-8.ensures)
    (given_at k v s n 8 c.argument-arg-34-1.given c.argument-9.ensures)
