-- `text_file::put_table` meets its contract. The loop's invariant: the strings passed are put, and the next place is behind their total.
-- Assumes nothing.
use mathlib.Core.Path.{◌≡◌, refl, sym, ap, ◌∙◌}
use mathlib.Core.List.{List, [], ◌∷◌}
use Prim.Native.Nat.{ℕ, ◌+◌, ◌≤◌, ◌<◌}
use native.Mathlib.Omega.{arith}
use lib.ListN.{length, get_or}
use borrow.Author.Rules.{rules}
use Rattle.base.specs.Tabulate.{tabulate}
use Rattle.base.specs.Overwrite.{put_at}
use Rattle.base.proofs.OverwriteLaws.{put_nil}
use Rattle.entry.specs.Writing.{state_of, string_table}
use Rattle.put.specs.Table.{table_bytes, total}
use Rattle.put.proofs.TableLaws.{bytes_present, bytes_none, part_none, total_more, total_below, string_turn}
use Rattle.entry.specs.Handed.{strings_by}
use Rattle.text.specs.Strings.{read_at, read_bytes}
use Rattle.compile_laws.specs.Held.{text_string}
use Rattle.compile_laws.proofs.WriteLaws.{text_described}
use Rattle.text_file.proofs.put_table.Goals as goal
use Rattle.text_file.proofs.put_table.Goals.{then-strings-i-eq-PRESENT, else-strings-i-eq-PRESENT}

-- a present string and its NUL have room in the table
present-below : (kinds lengths : List ℕ) (i n : ℕ) → i < n → get_or kinds i 0 ≡ 1 → total kinds lengths i + (get_or lengths i 0 + 1) ≤ total kinds lengths n
present-below kinds lengths i n h e =
    let t = total_below kinds lengths i n h in
    let z = bytes_present (get_or kinds i 0) (get_or lengths i 0) e in
    omega arith

pub loop-i-init : goal.loop-i-init
unfolding tabulate string_table total
loop-i-init c = record { sized = refl; place = search rules; table = sym (put_nil _ _) }

pub put_string-requires : goal.put_string-requires
put_string-requires c =
    let h = present-below c.args.strings.now.kinds.now c.args.strings.now.lengths.now c.loop-i.i c.args.n c.loop-i-test.true c.if-strings-i-eq-PRESENT.true in
    let r = c.requires.fits in
    let q = c.loop-i.invariant in
    (omega arith, (c.requires.strings c.loop-i.i c.loop-i-test.true c.if-strings-i-eq-PRESENT.true).0)

pub overflow_add-p : goal.overflow_add-p
overflow_add-p c =
    let h = present-below c.args.strings.now.kinds.now c.args.strings.now.lengths.now c.loop-i.i c.args.n c.loop-i-test.true c.if-strings-i-eq-PRESENT.true in
    let r = c.requires.fits in
    omega (arith, c.well_formed)

pub overflow_add-p-then-strings-i-eq-PRESENT : goal.overflow_add-p-then-strings-i-eq-PRESENT
overflow_add-p-then-strings-i-eq-PRESENT c =
    let h = present-below c.args.strings.now.kinds.now c.args.strings.now.lengths.now c.loop-i.i c.args.n c.loop-i-test.true c.if-strings-i-eq-PRESENT.true in
    let r = c.requires.fits in
    let q = c.loop-i.invariant in
    omega (arith, c.well_formed)

pub loop-i-preserved : goal.loop-i-preserved
unfolding state_of
loop-i-preserved c =
    let h = strings_by c.args.strings.now c.args.text.now in
    let k : ℕ = get_or c.args.strings.now.kinds.now c.loop-i.i 0 in
    let l : ℕ = get_or c.args.strings.now.lengths.now c.loop-i.i 0 in
    let s : List ℕ = read_bytes (read_at c.args.text.now (get_or c.args.strings.now.starts.now c.loop-i.i 0)) in
    let put : (length c.if-strings-i-eq-PRESENT.b ≡ length c.loop-i.b) × (c.if-strings-i-eq-PRESENT.p ≡ c.loop-i.p + table_bytes (state_of k l)) × (c.if-strings-i-eq-PRESENT.b ≡ put_at c.loop-i.b c.loop-i.p (string_table (state_of k s ∷ []))) =
    elim c.if-strings-i-eq-PRESENT.branch [
      | then-strings-i-eq-PRESENT w ↦ (ap length w.b-is ∙ w.put_string.auto.b, (let z = bytes_present k l w.if-strings-i-eq-PRESENT.true in omega arith), w.b-is ∙ w.put_string.ensures ∙ ap (λ (j : ℕ). put_at c.loop-i.b c.loop-i.p (string_table (state_of j s ∷ []))) (sym w.if-strings-i-eq-PRESENT.true))
      | else-strings-i-eq-PRESENT w ↦ (ap length w.b-is, (let z = bytes_none k l w.if-strings-i-eq-PRESENT.false in omega arith), w.b-is ∙ sym (put_nil _ _) ∙ ap (put_at c.loop-i.b c.loop-i.p) (sym (part_none k s w.if-strings-i-eq-PRESENT.false)))
    ] in
    let m = total_more c.args.strings.now.kinds.now c.args.strings.now.lengths.now c.loop-i.i in
    let d = text_described h c.args.n c.requires.strings in
    record { sized = put.0 ∙ c.loop-i.invariant.sized; place = omega arith; table = put.2 ∙ string_turn c.args.strings.now.kinds.now c.args.strings.now.lengths.now (text_string h) c.args.b.now c.loop-i.b c.args.at c.loop-i.p c.loop-i.i c.args.n d c.requires.fits c.loop-i-test.true c.loop-i.invariant.place c.loop-i.invariant.table }

pub shape_of-b : goal.shape_of-b
shape_of-b c = c.loop-i.invariant.sized

pub returns : goal.returns
returns c =
    let h = c.loop-i.auto.i-end in
    let g = c.loop-i-test.false in
    let e : c.loop-i.i ≡ c.args.n = omega arith in
    c.loop-i.invariant.table ∙ ap (λ (k : ℕ). put_at c.args.b.now c.args.at (string_table (tabulate (text_string (strings_by c.args.strings.now c.args.text.now)) k))) e
