-- `merge::merge_filled` meets its contract: what is filled is the merged entry.
use mathlib.Core.Path.{ap}
use native.Mathlib.Omega.{arith}
use Rattle.entry.specs.Writing.{encode}
use Rattle.entry.specs.Says.{says_merged}
use Rattle.entry_laws.specs.Merge.{edition_counts}
use Rattle.opened_file.proofs.Laws.{names_inside}
use Rattle.merge_states.proofs.Laws.{opened_file, opened_edition, opened_names, entry_merged, ready, merge_fitted}
use Rattle.merge.proofs.merge_filled.Goals as goal

pub fill_booleans-requires : goal.fill_booleans-requires
fill_booleans-requires c =
    let o = c.requires.0 in
    (o, (edition_counts c.args.both.now.edition (opened_edition c.requires.0.first)).0)

pub fill_numbers-requires : goal.fill_numbers-requires
fill_numbers-requires c =
    let o = c.requires.0 in
    let m = edition_counts c.args.both.now.edition (opened_edition c.requires.0.first) in
    (o, (m.1.0, m.1.0))

pub overflow_add-end : goal.overflow_add-end
overflow_add-end c =
    let n = names_inside c.args.both.now.edition c.args.both.now.first.now c.names_opened-part.result c.names_opened-part.ensures in
    let m = (opened_file c.requires.0.first).most in
    omega arith

pub slice_bounds-write_fitting-end : goal.slice_bounds-write_fitting-end
slice_bounds-write_fitting-end c =
    names_inside c.args.both.now.edition c.args.both.now.first.now c.names_opened-part.result c.names_opened-part.ensures

pub write_fitting-requires : goal.write_fitting-requires
write_fitting-requires c =
    let o = c.requires.0 in
    ready o _ c.fill_booleans.new.kinds c.fill_numbers.new.kinds c.fill_numbers.new.values c.args.strings.now.kinds.now c.args.strings.now.starts.now c.args.strings.now.lengths.now c.args.table (opened_names c.requires.0.first c.names_opened-part.result c.names_opened-part.ensures) c.requires.1.0 c.requires.1.1 c.fill_booleans.auto.kinds c.fill_numbers.auto.kinds c.fill_numbers.auto.values

pub returns : goal.returns
returns c =
    let o = c.requires.0 in
    merge_fitted c.args.both.now.edition c.args.both.now.first.now c.args.both.now.second.now c.args.buffer.now o _ _ (says_merged c.write_fitting.result) (ap encode (entry_merged o _ c.fill_booleans.new.kinds c.fill_numbers.new.kinds c.fill_numbers.new.values c.args.strings.now.kinds.now c.args.strings.now.starts.now c.args.strings.now.lengths.now c.args.table (opened_names c.requires.0.first c.names_opened-part.result c.names_opened-part.ensures) c.requires.1.0 c.fill_booleans.ensures c.fill_numbers.ensures)) c.write_fitting.ensures
