-- `put::put_slots` meets its contract. The loop's invariant: the slots passed are put, and the next present string starts at their total.
-- Assumes nothing.
use mathlib.Core.Path.{◌≡◌, refl, sym, ap, ◌∙◌}
use mathlib.Core.List.{map}
use Prim.Native.Nat.{ℕ}
use native.Mathlib.Omega.{arith}
use lib.ListN.{get_or}
use Rattle.base.specs.Tabulate.{tabulate}
use Rattle.base.specs.Overwrite.{put_at}
use Rattle.base.proofs.OverwriteLaws.{put_nil}
use Rattle.word.specs.Word.{words}
use Rattle.entry.specs.Limits.{offset_width}
use Rattle.entry.specs.Reading.{offset}
use Rattle.entry.specs.Writing.{offset_code, state_of}
use Rattle.put.specs.Table.{total, slot_at, slots_of}
use Rattle.put.proofs.TableLaws.{total_more, total_below, short_turn}
use Rattle.put.proofs.put_slots.Goals as goal

pub loop-i-init : goal.loop-i-init
unfolding tabulate words total
loop-i-init c = (refl, refl, sym (put_nil _ _))

pub bytes_in_table-next-requires : goal.bytes_in_table-next-requires
bytes_in_table-next-requires c =
    let h = total_below c.args.strings.now.kinds.now c.args.strings.now.lengths.now c.loop-i.i c.args.n c.loop-i-test.true in
    omega (arith, c.requires)

pub overflow_add-next : goal.overflow_add-next
overflow_add-next c =
    let h = total_below c.args.strings.now.kinds.now c.args.strings.now.lengths.now c.loop-i.i c.args.n c.loop-i-test.true in
    let q = c.bytes_in_table-next.ensures in
    omega (arith, c.requires)

pub loop-i-preserved : goal.loop-i-preserved
loop-i-preserved c =
    let r = c.bytes_in_table-next.ensures in
    let m = total_more c.args.strings.now.kinds.now c.args.strings.now.lengths.now c.loop-i.i in
    let o : offset_code (state_of (get_or c.args.strings.now.kinds.now c.loop-i.i 0) (offset c.loop-i.next)) ≡ offset_code (slot_at c.args.strings.now.kinds.now c.args.strings.now.lengths.now c.loop-i.i) =
    ap (λ (k : ℕ). offset_code (state_of (get_or c.args.strings.now.kinds.now c.loop-i.i 0) (offset k))) c.loop-i.invariant.1 in
    (c.put_slot.auto.b ∙ c.loop-i.invariant.0, omega arith, c.put_slot.ensures ∙ short_turn offset_code (slot_at c.args.strings.now.kinds.now c.args.strings.now.lengths.now) c.args.b.now c.loop-i.b c.args.at c.loop-i.i c.args.n _ c.requires.0 c.loop-i-test.true c.loop-i.invariant.2 o)

pub shape_of-b : goal.shape_of-b
shape_of-b c = c.loop-i.invariant.0

pub returns : goal.returns
returns c =
    let e : c.loop-i.i ≡ c.args.n = let h = c.loop-i.auto.i-end in let g = c.loop-i-test.false in omega arith in
    c.loop-i.invariant.2 ∙ ap (λ (k : ℕ). put_at c.args.b.now c.args.at (words offset_width (map offset_code (slots_of c.args.strings.now.kinds.now c.args.strings.now.lengths.now k)))) e
