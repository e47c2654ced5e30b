-- `put::put_table` meets its contract. The loop's invariant: the strings passed are put, and the next place is behind their total.
-- Assumes nothing.
use mathlib.Core.Path.{◌≡◌, refl, sym, ap, ◌∙◌}
use mathlib.Core.List.{◌++◌}
use Prim.Native.Nat.{ℕ}
use native.Mathlib.Omega.{arith}
use borrow.Author.Rules.{rules}
use Rattle.base.specs.Tabulate.{tabulate}
use Rattle.base.specs.Overwrite.{put_at}
use Rattle.base.proofs.OverwriteLaws.{put_nil}
use Rattle.entry.specs.Writing.{string_table}
use Rattle.put.specs.Table.{string_at, strings_of, total}
use Rattle.put.proofs.TableLaws.{total_more, total_below, lent_described, string_turn}
use Rattle.put.proofs.put_table.Goals as goal

pub loop-i-init : goal.loop-i-init
unfolding tabulate string_table total
loop-i-init c = (refl, search rules, sym (put_nil _ _))

pub put_content-p-requires : goal.put_content-p-requires
put_content-p-requires c =
    let h = total_below c.args.strings.now.kinds.now c.args.strings.now.lengths.now c.loop-i.i c.args.n c.loop-i-test.true in
    (omega arith, (λ e. c.requires.lent c.loop-i.i c.loop-i-test.true e))

pub loop-i-preserved : goal.loop-i-preserved
loop-i-preserved c =
    let r = c.put_content-p.ensures.1 in
    let m = total_more c.args.strings.now.kinds.now c.args.strings.now.lengths.now c.loop-i.i in
    let d = lent_described c.args.strings.now.kinds.now c.args.strings.now.starts.now c.args.strings.now.lengths.now (c.args.first.now ++ c.args.second.now) c.args.n (λ j l e. (c.requires.lent j l e).0) in
    (c.put_content-p.auto.b ∙ c.loop-i.invariant.0, omega arith, c.put_content-p.ensures.0 ∙ string_turn c.args.strings.now.kinds.now c.args.strings.now.lengths.now (string_at c.args.strings.now.kinds.now c.args.strings.now.starts.now c.args.strings.now.lengths.now (c.args.first.now ++ c.args.second.now)) c.args.b.now c.loop-i.b c.args.at c.loop-i.p c.loop-i.i c.args.n d c.requires.fits c.loop-i-test.true c.loop-i.invariant.1 c.loop-i.invariant.2)

pub shape_of-b : goal.shape_of-b
shape_of-b c = c.loop-i.invariant.0

pub returns : goal.returns
returns c =
    let e : c.loop-i.i ≡ c.args.n = let h = c.loop-i.auto.i-end in let g = c.loop-i-test.false in omega arith in
    c.loop-i.invariant.2 ∙ ap (λ (k : ℕ). put_at c.args.b.now c.args.at (string_table (strings_of c.args.strings.now.kinds.now c.args.strings.now.starts.now c.args.strings.now.lengths.now (c.args.first.now ++ c.args.second.now) k))) e
