-- `file::put_front` meets its contract: the head and the slots are put one behind the other.
-- Assumes nothing.
use mathlib.Core.Path.{◌∙◌}
use mathlib.Core.List.{[]}
use native.Mathlib.Omega.{arith}
use Rattle.write_laws.specs.File.{head, slots}
use Rattle.write_laws.proofs.FileLaws.{front_put}
use Rattle.entry.specs.Handed.{handed_by}
use Rattle.write_file.proofs.put_front.Goals as goal

pub put_head-requires : goal.put_head-requires
put_head-requires c =
    record { named = c.requires.named; booleans = c.requires.booleans; room = c.requires.room }

pub numbers_at-requires : goal.numbers_at-requires
numbers_at-requires c =
    let m = c.requires.most in
    omega arith

pub put_slots-requires : goal.put_slots-requires
put_slots-requires c =
    let r = c.requires.room in
    let m = c.requires.most in
    let t = c.requires.table in
    let k = c.put_head.auto.b in
    let q = c.numbers_at.ensures in
    record { number_kinds = c.requires.number_kinds; number_values = c.requires.number_values; string_kinds = c.requires.string_kinds; string_lengths = c.requires.string_lengths; most = omega arith; room = omega arith }

pub shape_of-b : goal.shape_of-b
shape_of-b c = c.put_slots.auto.b ∙ c.put_head.auto.b

pub returns : goal.returns
unfolding head slots
returns c =
    front_put c.args.s (handed_by c.args.names.now c.args.states.now []) c.requires.named c.args.b.now c.put_head.new.b c.put_slots.new.b c.requires.room c.numbers_at.ensures c.put_head.ensures c.put_slots.ensures
