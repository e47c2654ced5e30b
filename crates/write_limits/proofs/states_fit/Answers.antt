-- `judge::states_fit` meets its contract: each scan decides one part of `states_fit`.
-- Assumes nothing.
use mathlib.Core.List.{[]}
use borrow.Author.Tests.{eq-eqb, ne_eqb}
use Rattle.entry.specs.Writing.{is_lent, boolean_fits_at, number_fits_at, string_fits_at, states_fit}
use Rattle.write_laws.proofs.AnswerLaws.{enough}
use Rattle.entry.specs.Handed.{handed_by}
use Rattle.write_limits.proofs.states_fit.Goals as goal

pub find_boolean_past-requires : goal.find_boolean_past-requires
find_boolean_past-requires c =
    let k = enough c.args.e (handed_by [] c.args.states.now c.args.lent.now) c.requires.0 in
    k.booleans

pub returns-then-find_boolean_past-e : goal.returns-then-find_boolean_past-e
unfolding states_fit boolean_fits_at number_fits_at string_fits_at
returns-then-find_boolean_past-e c = rw (← c.find_boolean_past.ensures, ne_eqb _ _ c.if-find_boolean_past-e.true)

pub find_number_past-requires : goal.find_number_past-requires
find_number_past-requires c =
    let k = enough c.args.e (handed_by [] c.args.states.now c.args.lent.now) c.requires.0 in
    (k.number_kinds, k.number_values)

pub returns-then-find_number_past-e : goal.returns-then-find_number_past-e
unfolding states_fit boolean_fits_at number_fits_at string_fits_at
returns-then-find_number_past-e c = rw (← c.find_boolean_past.ensures, eq-eqb _ _ c.if-find_boolean_past-e.false, ← c.find_number_past.ensures, ne_eqb _ _ c.if-find_number_past-e.true)

pub find_string_past-requires : goal.find_string_past-requires
unfolding is_lent
find_string_past-requires c =
    let k = enough c.args.e (handed_by [] c.args.states.now c.args.lent.now) c.requires.0 in
    (k.string_kinds, (k.string_starts, (k.string_lengths, c.requires.1)))

pub returns : goal.returns
unfolding states_fit boolean_fits_at number_fits_at string_fits_at
returns c = rw (← c.find_boolean_past.ensures, eq-eqb _ _ c.if-find_boolean_past-e.false, ← c.find_number_past.ensures, eq-eqb _ _ c.if-find_number_past-e.false, ← c.find_string_past.ensures)
