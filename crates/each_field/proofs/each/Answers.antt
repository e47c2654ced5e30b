-- `each_field::each` meets its contract. The loop's invariant: what is kept of the fields passed.
-- Assumes nothing.
use mathlib.Core.Path.{sym, ◌∙◌}
use native.Mathlib.Omega.{arith}
use Rattle.kept_states.proofs.ArrayLaws.{arrays_themselves, arrays_on}
use Rattle.each_field.proofs.KeepingLaws.{same_itself, same_on, going_start, going_end, going_column, going_refused}
use Rattle.each_field.proofs.KeepingLaws.{going_asks, going_on}
use Rattle.each_field.proofs.RecordLaws.{field_place, field_read}
use Rattle.each_field.proofs.each.Goals as goal

pub loop-p-init : goal.loop-p-init
loop-p-init c =
    record {
      few = c.requires.0;
      lent = same_itself c.args.keeping.now;
      arrays = arrays_themselves c.args.states.now;
      going =
          going_start c.args.edition c.args.text.now c.args.at c.args.keeping.now c.args.states.now c.args.uses
          c.requires.1;
    }

pub returns-in-End-clause-come : goal.returns-in-End-clause-come
returns-in-End-clause-come c =
    going_end _ _ _ _ _ _ _ _ _ _ c.requires.1 c.loop-p.invariant.going (sym c.next_at.ensures ∙ c.in-End.is)

pub returns-in-Column-clause-come : goal.returns-in-Column-clause-come
returns-in-Column-clause-come c =
    going_column _ _ _ _ _ _ _ _ _ _ _ c.requires.1 c.loop-p.invariant.going (sym c.next_at.ensures ∙ c.in-Column.is)

pub judge-requires : goal.judge-requires
judge-requires c = (field_place c.args.edition c.args.text.now _ _ (sym c.next_at.ensures ∙ c.in-Indented.is)).1

pub returns-in-Err-clause-come : goal.returns-in-Err-clause-come
returns-in-Err-clause-come c =
    going_refused _ _ _ _ _ _ _ _ _ _ _ _ c.requires.1 c.loop-p.invariant.going
    (sym c.next_at.ensures ∙ c.in-Indented.is) c.in-Err.ensures.0

pub keep_field-requires : goal.keep_field-requires
keep_field-requires c =
    going_asks _ _ _ _ _ _ _ _ _ _ _ _ c.requires.1 c.loop-p.invariant.going (sym c.next_at.ensures ∙ c.in-Indented.is)
    c.in-Ok.ensures.0 c.in-Ok.ensures.1

pub count_use-count-requires : goal.count_use-count-requires
count_use-count-requires c =
    let l = field_place c.args.edition c.args.text.now _ _ (sym c.next_at.ensures ∙ c.in-Indented.is) in
    let f = c.loop-p.invariant.few in
    let g = c.well_formed in
    omega arith

pub loop-p-smaller : goal.loop-p-smaller
loop-p-smaller c =
    let f = field_read c.args.edition c.args.text.now _ _ (sym c.next_at.ensures ∙ c.in-Indented.is) c.in-Ok.judged c.in-Ok.ensures.0 in
    let a = f.after in
    let b = f.forward in
    let d = f.within in
    omega arith

pub loop-p-preserved : goal.loop-p-preserved
loop-p-preserved c =
    let q = sym c.next_at.ensures ∙ c.in-Indented.is in
    let f = field_read c.args.edition c.args.text.now _ _ q c.in-Ok.judged c.in-Ok.ensures.0 in
    record {
      few =
          (let a = f.after in
          let b = f.long in
          let d = c.loop-p.invariant.few in
          let n = c.count_use-count.ensures in
          omega arith);
      lent = same_on _ _ _ c.loop-p.invariant.lent c.keep_field.ensures.lent;
      arrays = arrays_on _ _ _ c.loop-p.invariant.arrays c.keep_field.ensures.arrays;
      going =
          going_on _ _ _ _ _ _ _ _ _ _ _ _ _ _ _ c.requires.1 c.loop-p.invariant.going q c.in-Ok.ensures.0
          c.keep_field.ensures.kept c.count_use-count.ensures;
    }
