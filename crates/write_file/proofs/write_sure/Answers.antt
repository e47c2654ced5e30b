-- `file::write_sure` meets its contract: the front and the string table are put one behind the other.
-- Assumes nothing.
use mathlib.Core.Path.{◌≡◌, ap, ◌∙◌, subst}
use mathlib.Core.List.{◌++◌}
use Prim.Native.Nat.{◌≤◌}
use native.Mathlib.Omega.{arith}
use lib.ListN.{length}
use Rattle.entry.specs.declared.Sizes.{Sizes}
use Rattle.entry.specs.Layout.{size_of}
use Rattle.entry.specs.Writing.{entry_of, string_handed}
use Rattle.put.proofs.TableLaws.{lent_described}
use Rattle.write_laws.specs.File.{sizes_handed, head, slots}
use Rattle.write_laws.proofs.FileLaws.{file_put, front_fits}
use Rattle.entry.specs.Handed.{handed_by}
use Rattle.write_file.proofs.write_sure.Goals as goal

pub put_front-requires : goal.put_front-requires
put_front-requires c =
    front_fits c.args.b.now c.args.s c.args.e (handed_by c.args.names.now c.args.states.now (c.args.first.now ++ c.args.second.now)) c.args.first.now c.args.second.now c.requires

pub put_table-requires : goal.put_table-requires
put_table-requires c =
    let g = c.requires.given in
    let r = c.requires.room in
    let q = c.table_at.ensures in
    let z : c.args.s.table ≡ (sizes_handed c.args.e (handed_by c.args.names.now c.args.states.now (c.args.first.now ++ c.args.second.now))).table = ap (λ (t : Sizes). t.table) c.requires.sized in
    let k = c.put_front.auto.b in
    record { kinds_given = g.string_kinds; starts_given = g.string_starts; lengths_given = g.string_lengths; lent = c.requires.lent; fits = omega arith }

pub shape_of-b : goal.shape_of-b
shape_of-b c = c.put_table.auto.b ∙ c.put_front.auto.b

pub returns : goal.returns
unfolding entry_of head slots
returns c =
    let h = handed_by c.args.names.now c.args.states.now (c.args.first.now ++ c.args.second.now) in
    let d = lent_described c.args.states.now.strings.kinds.now c.args.states.now.strings.starts.now c.args.states.now.strings.lengths.now (c.args.first.now ++ c.args.second.now) c.args.e.strings (λ i h q. (c.requires.lent i h q).0) in
    let r : size_of (sizes_handed c.args.e h) ≤ length c.args.b.now = subst (λ (t : Sizes). size_of t ≤ length c.args.b.now) c.requires.sized c.requires.room in
    file_put c.args.e h (string_handed h) d c.args.b.now c.put_front.new.b c.put_table.new.b c.requires.sized r c.table_at.ensures c.put_front.ensures c.put_table.ensures
