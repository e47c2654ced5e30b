use mathlib.Core.Path.{sym, ◌∙◌}
use Rattle.text.specs.declared.ByteClass.TheVariants as C
use Rattle.text_laws.specs.Runs.{run_ge}
use Rattle.text_laws.specs.HeadingLaws.{header_past, header_wrong, header_more, header_long, header_is}
use Rattle.text_header.proofs.header_at.Goals as goal

pub returns-then-text-comma : goal.returns-then-text-comma
returns-then-text-comma c = header_past c.args.text.now c.args.at c.run_end-comma.result c.run_end-comma.ensures c.if-text-comma.true

pub slice_bounds-names_right-count : goal.slice_bounds-names_right-count
slice_bounds-names_right-count c = rw c.run_end-comma.ensures (run_ge C.Header c.args.text.now c.args.at)

pub slice_bounds-names_right-start : goal.slice_bounds-names_right-start
slice_bounds-names_right-start c = rw c.run_end-comma.ensures (run_ge C.Header c.args.text.now c.args.at)

pub returns-then-not-names_right : goal.returns-then-not-names_right
returns-then-not-names_right c = header_wrong c.args.text.now c.args.at c.run_end-comma.result c.run_end-comma.ensures c.if-text-comma.false (sym c.names_right.ensures ∙ c.if-not-names_right.true)

pub returns-then-not-line_ends : goal.returns-then-not-line_ends
returns-then-not-line_ends c = header_more c.args.text.now c.args.at c.run_end-comma.result c.run_end-comma.ensures c.if-text-comma.false (sym c.names_right.ensures ∙ c.if-not-names_right.false) (sym c.line_ends.ensures ∙ c.if-not-line_ends.true)

pub slice_bounds-alias_long-count : goal.slice_bounds-alias_long-count
slice_bounds-alias_long-count c = rw c.run_end-comma.ensures (run_ge C.Header c.args.text.now c.args.at)

pub slice_bounds-alias_long-start : goal.slice_bounds-alias_long-start
slice_bounds-alias_long-start c = rw c.run_end-comma.ensures (run_ge C.Header c.args.text.now c.args.at)

pub returns-then-alias_long : goal.returns-then-alias_long
returns-then-alias_long c = header_long c.args.text.now c.args.at c.run_end-comma.result c.run_end-comma.ensures c.if-text-comma.false (sym c.names_right.ensures ∙ c.if-not-names_right.false) (sym c.line_ends.ensures ∙ c.if-not-line_ends.false) (sym c.alias_long.ensures ∙ c.if-alias_long.true)

pub returns : goal.returns
returns c = header_is c.args.text.now c.args.at c.run_end-comma.result c.run_end-comma.ensures c.if-text-comma.false (sym c.names_right.ensures ∙ c.if-not-names_right.false) (sym c.line_ends.ensures ∙ c.if-not-line_ends.false) (sym c.alias_long.ensures ∙ c.if-alias_long.false)
