-- `file::put_slots` meets its contract: the two tables of slots are put one behind the other.
-- Assumes nothing.
use mathlib.Core.Path.{◌∙◌}
use mathlib.Core.List.{[]}
use native.Mathlib.Omega.{arith}
use Rattle.write_laws.proofs.FileLaws.{slots_put}
use Rattle.entry.specs.Handed.{handed_by}
use Rattle.write_file.proofs.put_slots.Goals as goal

pub put_numbers-requires : goal.put_numbers-requires
put_numbers-requires c =
    let r = c.requires.room in
    (omega arith, (c.requires.number_kinds, c.requires.number_values))

pub overflow_mul-s : goal.overflow_mul-s
overflow_mul-s c =
    let r = c.requires.room in
    omega (arith, c.well_formed)

pub overflow_add-at : goal.overflow_add-at
overflow_add-at c =
    let r = c.requires.room in
    omega (arith, c.well_formed)

pub put_slots-requires : goal.put_slots-requires
put_slots-requires c =
    let r = c.requires.room in
    let m = c.requires.most in
    let k = c.put_numbers.auto.b in
    (omega arith, (c.requires.string_kinds, (c.requires.string_lengths, omega arith)))

pub shape_of-b : goal.shape_of-b
shape_of-b c = c.put_slots.auto.b ∙ c.put_numbers.auto.b

pub returns : goal.returns
returns c =
    slots_put c.args.s (handed_by [] c.args.states.now []) c.args.b.now c.put_numbers.new.b c.put_slots.new.b c.args.at c.requires.room c.put_numbers.ensures c.put_slots.ensures
