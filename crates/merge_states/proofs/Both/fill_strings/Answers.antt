-- `merge_states::Both::fill_strings` meets its contract. The loop's invariant: the places passed are filled, and the sum is the length of
-- their string table, which is no longer than a file may be.
use mathlib.Core.Path.{◌≡◌, refl}
use Prim.Native.Nat.{◌+◌}
use native.Mathlib.Omega.{arith}
use lib.ListN.{length-set}
use Rattle.base.specs.Tabulate.{tabulate}
use Rattle.entry.specs.Writing.{string_table}
use Rattle.merge_states.proofs.Laws.{table_turn, string_most_lem, table_whole, table_large, strings_turn}
use Rattle.merge_states.proofs.Both.fill_strings.Goals as goal

pub loop-i-init : goal.loop-i-init
unfolding tabulate string_table
loop-i-init c = (refl, refl, refl, (λ j h. absurd (let z : ⊥ = omega arith in z)), refl, omega arith)

pub string-s-requires : goal.string-s-requires
string-s-requires c = (c.requires.0, c.loop-i-test.true)

pub bounds-kinds-i : goal.bounds-kinds-i
bounds-kinds-i c = omega arith

pub offset_bounds-starts-i : goal.offset_bounds-starts-i
offset_bounds-starts-i c = omega arith

pub bounds-starts-i : goal.bounds-starts-i
bounds-starts-i c = omega arith

pub offset_bounds-lengths-i : goal.offset_bounds-lengths-i
offset_bounds-lengths-i c = omega arith

pub bounds-lengths-i : goal.bounds-lengths-i
bounds-lengths-i c = omega arith

pub bytes_in_table-table-requires : goal.bytes_in_table-table-requires
bytes_in_table-table-requires c =
    let m = string_most_lem c.string-s.ensures c.requires.0 in
    omega arith

pub overflow_add-table : goal.overflow_add-table
overflow_add-table c =
    let m = string_most_lem c.string-s.ensures c.requires.0 in
    let q = c.bytes_in_table-table.ensures in
    omega arith

pub shape_of-kinds-then-table-gt-FILE_MOST : goal.shape_of-kinds-then-table-gt-FILE_MOST
shape_of-kinds-then-table-gt-FILE_MOST c = rw length-set c.loop-i.invariant.0

pub shape_of-starts-then-table-gt-FILE_MOST : goal.shape_of-starts-then-table-gt-FILE_MOST
shape_of-starts-then-table-gt-FILE_MOST c = rw length-set c.loop-i.invariant.1

pub shape_of-lengths-then-table-gt-FILE_MOST : goal.shape_of-lengths-then-table-gt-FILE_MOST
shape_of-lengths-then-table-gt-FILE_MOST c = rw length-set c.loop-i.invariant.2

pub returns-then-table-gt-FILE_MOST : goal.returns-then-table-gt-FILE_MOST
returns-then-table-gt-FILE_MOST c =
    let m = table_turn c.string-s.ensures in
    let q = c.bytes_in_table-table.ensures in
    table_large c.args.self.now.edition c.args.self.now.first.now c.args.self.now.second.now (c.loop-i.i + 1) (omega arith) (omega arith)

pub loop-i-preserved : goal.loop-i-preserved
loop-i-preserved c =
    let m = table_turn c.string-s.ensures in
    let q = c.bytes_in_table-table.ensures in
    (rw length-set c.loop-i.invariant.0, rw length-set c.loop-i.invariant.1, rw length-set c.loop-i.invariant.2, strings_turn c.args.self.now.first.now c.args.self.now.second.now c.loop-i.i c.loop-i.kinds c.loop-i.starts c.loop-i.lengths c.string-s.result.kind c.string-s.result.part.start c.string-s.result.part.length (omega arith) (omega arith) (omega arith) c.loop-i.invariant.3 c.string-s.ensures, omega arith, omega arith)

pub shape_of-kinds : goal.shape_of-kinds
shape_of-kinds c = c.loop-i.invariant.0

pub shape_of-starts : goal.shape_of-starts
shape_of-starts c = c.loop-i.invariant.1

pub shape_of-lengths : goal.shape_of-lengths
shape_of-lengths c = c.loop-i.invariant.2

pub returns : goal.returns
returns c =
    let e : c.loop-i.i ≡ c.args.self.now.edition.strings = let h = c.loop-i.auto.i-end in let g = c.loop-i-test.false in omega arith in
    let w = table_whole c.args.self.now.edition c.args.self.now.first.now c.args.self.now.second.now c.loop-i.i e in
    record { filled = λ j h. c.loop-i.invariant.3 j (omega arith); whole = omega arith; most = c.loop-i.invariant.5 }
