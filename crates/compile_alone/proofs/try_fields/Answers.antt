-- `compile_alone::try_fields` meets its contract: the arrays are cleared, walked and written.
-- Assumes nothing.
use mathlib.Core.Path.{sym, ap, ◌∙◌, subst}
use Prim.Native.Nat.{◌+◌}
use native.Mathlib.Omega.{arith}
use lib.ListN.{length}
use Rattle.std.specs.Prelude.{Ok}
use Rattle.base.specs.Answer.{Leaves}
use Rattle.entry.specs.Writing.{Handed}
use Rattle.text.specs.Heading.{names_to}
use Rattle.text.specs.Compiling.{fitting_named, says_compiled}
use Rattle.text_laws.specs.HeadingLaws.{header_right}
use Rattle.compile_laws.specs.Held.{Holds, text_entry}
use Rattle.compile_laws.proofs.ClearedLaws.{cleared, cleared_holds, holds_named}
use Rattle.walk_fields.specs.Walks.{Walks}
use Rattle.compile_alone.proofs.Alone.{fields_alone, fields_bad}
use Rattle.compile_alone.proofs.try_fields.Goals as goal

pub overflow_add-comma : goal.overflow_add-comma
overflow_add-comma c = let h = header_right c.args.text.now c.args.at c.args.comma c.requires.1.1 in let k = h.within in let g = c.well_formed in omega arith

pub walk-requires : goal.walk-requires
walk-requires c = cleared_holds c.args.edition c.args.text.now c.requires.0

pub slice_bounds-names-count : goal.slice_bounds-names-count
slice_bounds-names-count c = let h = header_right c.args.text.now c.args.at c.args.comma c.requires.1.1 in let k = h.place in let l = h.within in omega arith

pub slice_bounds-names-start : goal.slice_bounds-names-start
slice_bounds-names-start c = let h = header_right c.args.text.now c.args.at c.args.comma c.requires.1.1 in let k = h.place in let l = h.within in omega arith

pub slice_bounds-names-end : goal.slice_bounds-names-end
slice_bounds-names-end c = let h = header_right c.args.text.now c.args.at c.args.comma c.requires.1.1 in let k = h.place in let l = h.within in omega arith

pub write-requires : goal.write-requires
write-requires c = (
  c.requires.0,
  subst (Holds c.args.edition) (sym (c.lent.ensures c.args.text.now (names_to c.args.text.now c.args.at c.args.comma)))
      (holds_named _ _ _ _ _ _ _ _ _ c.walk.ensures.walked.holds),
)

pub returns-then-is_alone : goal.returns-then-is_alone
returns-then-is_alone c = λ w o.
    fields_alone c.args.edition c.args.text.now c.args.at c.args.comma c.requires.1.0 c.requires.1.1 _
    (subst (Walks c.args.edition (c.args.comma + 1) (cleared c.args.edition c.args.text.now) _)
    (c.in-Ok.is ∙ ap Ok c.if-is_alone.true) c.walk.ensures.walked)
    w o c.args.buffer.now _ _
    (subst (λ (h : Handed). Leaves (fitting_named (length c.args.buffer.now) (text_entry c.args.edition h)) c.args.buffer.now
    c.write.new.buffer (says_compiled c.write.result))
    (c.lent.ensures c.args.text.now (names_to c.args.text.now c.args.at c.args.comma)) c.write.ensures)

pub returns-in-Err : goal.returns-in-Err
returns-in-Err c = λ w o.
    fields_bad c.args.edition c.args.text.now c.args.at c.args.comma c.requires.1.0 c.requires.1.1 _ _
    (subst (Walks c.args.edition (c.args.comma + 1) (cleared c.args.edition c.args.text.now) _) c.in-Err.is
    c.walk.ensures.walked) w c.args.buffer.now
