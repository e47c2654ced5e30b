-- A text starts in its word.
use mathlib.Core.Path.{sym, ap, ◌∙◌}
use native.Mathlib.Omega.{arith}
use Rattle.std.specs.Prelude.{Some}
use Rattle.ti_arguments.proofs.Laws.{text_inside}
use Rattle.ti_arguments.proofs.take_word.Goals as goal

pub overflow_add-start : goal.overflow_add-start
overflow_add-start c =
    let a = c.in-Some-Text in
    let h = text_inside _ a.k (sym c.parse.ensures ∙ a.is ∙ ap Some a.field-0-is) in
    omega (arith, h, c.in_ok-word.ensures, c.requires)

pub overflow_sub-word : goal.overflow_sub-word
overflow_sub-word c =
    let a = c.in-Some-Text in
    let h = text_inside _ a.k (sym c.parse.ensures ∙ a.is ∙ ap Some a.field-0-is) in
    omega (arith, h)
