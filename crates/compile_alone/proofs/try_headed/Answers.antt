-- `compile_alone::try_headed` meets its contract: by what the header is.
-- Assumes nothing.
use mathlib.Core.Path.{sym, ◌∙◌}
use native.Mathlib.Omega.{arith}
use Rattle.text_laws.specs.HeadingLaws.{header_right}
use Rattle.compile_alone.proofs.Alone.{wants_has}
use Rattle.compile_alone.proofs.try_headed.Goals as goal

pub slice_bounds-is_wanted-count : goal.slice_bounds-is_wanted-count
slice_bounds-is_wanted-count c = let h = header_right c.args.text.now c.args.at _ (sym c.header_at.ensures ∙ c.in-Ok.is) in let k = h.place in let l = h.within in omega arith

pub slice_bounds-is_wanted-start : goal.slice_bounds-is_wanted-start
slice_bounds-is_wanted-start c = let h = header_right c.args.text.now c.args.at _ (sym c.header_at.ensures ∙ c.in-Ok.is) in let k = h.place in let l = h.within in omega arith

pub slice_bounds-is_wanted-end : goal.slice_bounds-is_wanted-end
slice_bounds-is_wanted-end c = let h = header_right c.args.text.now c.args.at _ (sym c.header_at.ensures ∙ c.in-Ok.is) in let k = h.place in let l = h.within in omega arith

pub try_fields-requires : goal.try_fields-requires
try_fields-requires c = (c.requires.0, (c.requires.1.0, sym c.header_at.ensures ∙ c.in-Ok.is))

pub returns-then-is_wanted : goal.returns-then-is_wanted
returns-then-is_wanted c = c.try_fields.ensures _ (wants_has _ _ (sym c.is_wanted.ensures ∙ c.if-is_wanted.true))
