-- `list_states::room_for` meets its contract: the arrays in the order of refusal.
use Rattle.list_states.specs.Listing.{rooms}
use Rattle.list_states.proofs.Laws.{short_booleans, short_number_kinds, short_number_values, short-string-kinds}
use Rattle.list_states.proofs.Laws.{short-string-starts, short-string-lengths, room_enough}
use Rattle.list_states.proofs.room_for.Goals as goal

pub returns-then-boolean_kinds-e : goal.returns-then-boolean_kinds-e
returns-then-boolean_kinds-e c = (short_booleans c.args.e (rooms c.args.boolean_kinds c.args.number_kinds c.args.number_values c.args.string_kinds c.args.string_starts c.args.string_lengths) c.if-boolean_kinds-e.true, c.requires.0)

pub returns-then-number_kinds-e : goal.returns-then-number_kinds-e
returns-then-number_kinds-e c = (short_number_kinds c.args.e (rooms c.args.boolean_kinds c.args.number_kinds c.args.number_values c.args.string_kinds c.args.string_starts c.args.string_lengths) c.if-boolean_kinds-e.false c.if-number_kinds-e.true, c.requires.1.0)

pub returns-then-number_values-e : goal.returns-then-number_values-e
returns-then-number_values-e c = (short_number_values c.args.e (rooms c.args.boolean_kinds c.args.number_kinds c.args.number_values c.args.string_kinds c.args.string_starts c.args.string_lengths) c.if-boolean_kinds-e.false c.if-number_kinds-e.false c.if-number_values-e.true, c.requires.1.0)

pub returns-then-string_kinds-e : goal.returns-then-string_kinds-e
returns-then-string_kinds-e c = (short-string-kinds c.args.e (rooms c.args.boolean_kinds c.args.number_kinds c.args.number_values c.args.string_kinds c.args.string_starts c.args.string_lengths) c.if-boolean_kinds-e.false c.if-number_kinds-e.false c.if-number_values-e.false c.if-string_kinds-e.true, c.requires.1.1)

pub returns-then-string_starts-e : goal.returns-then-string_starts-e
returns-then-string_starts-e c = (short-string-starts c.args.e (rooms c.args.boolean_kinds c.args.number_kinds c.args.number_values c.args.string_kinds c.args.string_starts c.args.string_lengths) c.if-boolean_kinds-e.false c.if-number_kinds-e.false c.if-number_values-e.false c.if-string_kinds-e.false c.if-string_starts-e.true, c.requires.1.1)

pub returns-then-string_lengths-e : goal.returns-then-string_lengths-e
returns-then-string_lengths-e c = (short-string-lengths c.args.e (rooms c.args.boolean_kinds c.args.number_kinds c.args.number_values c.args.string_kinds c.args.string_starts c.args.string_lengths) c.if-boolean_kinds-e.false c.if-number_kinds-e.false c.if-number_values-e.false c.if-string_kinds-e.false c.if-string_starts-e.false c.if-string_lengths-e.true, c.requires.1.1)

pub returns : goal.returns
returns c = (room_enough c.args.e (rooms c.args.boolean_kinds c.args.number_kinds c.args.number_values c.args.string_kinds c.args.string_starts c.args.string_lengths) c.if-boolean_kinds-e.false c.if-number_kinds-e.false c.if-number_values-e.false c.if-string_kinds-e.false c.if-string_starts-e.false c.if-string_lengths-e.false, tt)
