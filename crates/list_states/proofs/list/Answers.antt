-- `list_states::list` meets its contract: by what opening says, then by the arrays' rooms.
use mathlib.Core.Path.{sym}
use Rattle.std.proofs.lemmas.Result.{err_from_is_err_and}
use Rattle.list_states.specs.Listing.{arrays}
use Rattle.file_positions.proofs.Positions.{opened_fits}
use Rattle.list_states.proofs.Laws.{as_opened, opened_counts, rooms_lent, same_arrays, list_refused, list_short, list_states}
use Rattle.list_states.proofs.list.Goals as goal

pub room_for-requires : goal.room_for-requires
room_for-requires c = opened_counts (as_opened c.in_ok-opened.ensures)

pub list_booleans-requires : goal.list_booleans-requires
list_booleans-requires c =
    let l = rooms_lent c.args.edition
    (arrays c.args.boolean_kinds.now c.args.number_kinds.now c.args.number_values.now c.args.string_kinds.now
    c.args.string_starts.now c.args.string_lengths.now)
    c.in_ok-room_for.ensures.0 in
    (as_opened c.in_ok-opened.ensures, l.boolean_kinds)

pub list_numbers-requires : goal.list_numbers-requires
list_numbers-requires c =
    let l = rooms_lent c.args.edition
    (arrays c.args.boolean_kinds.now c.args.number_kinds.now c.args.number_values.now c.args.string_kinds.now
    c.args.string_starts.now c.args.string_lengths.now)
    c.in_ok-room_for.ensures.0 in
    record { opened = as_opened c.in_ok-opened.ensures; kinds_lent = l.number_kinds; values_lent = l.number_values }

pub list_strings-requires : goal.list_strings-requires
list_strings-requires c =
    let l = rooms_lent c.args.edition
    (arrays c.args.boolean_kinds.now c.args.number_kinds.now c.args.number_values.now c.args.string_kinds.now
    c.args.string_starts.now c.args.string_lengths.now)
    c.in_ok-room_for.ensures.0 in
    record {
      opened = as_opened c.in_ok-opened.ensures;
      kinds_lent = l.string_kinds;
      starts_lent = l.string_starts;
      lengths_lent = l.string_lengths;
    }

pub returns : goal.returns
returns c =
    let n = c.list_numbers.ensures in
    let s = c.list_strings.ensures in (
      list_states (as_opened c.in_ok-opened.ensures)
          (arrays c.args.boolean_kinds.now c.args.number_kinds.now c.args.number_values.now c.args.string_kinds.now
          c.args.string_starts.now c.args.string_lengths.now)
          (arrays c.list_booleans.new.kinds c.list_numbers.new.kinds c.list_numbers.new.values c.list_strings.new.kinds
          c.list_strings.new.starts c.list_strings.new.lengths)
          c.in_ok-room_for.ensures.0 (same_arrays c.list_booleans.ensures n.0 n.1 s.0 s.1.0 s.1.1),
      tt,
    )

pub returns-in_err-opened : goal.returns-in_err-opened
returns-in_err-opened c =
    let p = err_from_is_err_and c.from_residual.result c.from_residual.ensures.1 in
    rw (p.1, p.2) (
      list_refused c.args.edition c.args.file.now
          (arrays c.args.boolean_kinds.now c.args.number_kinds.now c.args.number_values.now c.args.string_kinds.now
          c.args.string_starts.now c.args.string_lengths.now)
          _ _ c.in_err-opened.ensures,
      opened_fits c.args.edition c.args.file.now _ _ (sym c.in_err-opened.ensures),
    )

pub returns-in_err-room_for : goal.returns-in_err-room_for
returns-in_err-room_for c =
    let p = err_from_is_err_and c.from_residual-in_err-room_for.result c.from_residual-in_err-room_for.ensures.1 in
    let e = c.in_err-room_for.ensures in
    rw (p.1, p.2) (
      list_short (as_opened c.in_ok-opened.ensures)
          (arrays c.args.boolean_kinds.now c.args.number_kinds.now c.args.number_values.now c.args.string_kinds.now
          c.args.string_starts.now c.args.string_lengths.now)
          c.in_err-room_for.field-0.0 e.0,
      e.1,
    )
