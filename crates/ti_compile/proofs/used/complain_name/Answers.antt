-- `ti_compile::used::complain_name` is safe: the name has room.
-- Assumes nothing.
use mathlib.Core.Path.{sym, ◌∙◌}
use native.Mathlib.Omega.{arith}
use Rattle.ti_compile.proofs.NameLaws.{read_fits, put_first}
use Rattle.ti_compile.proofs.used.complain_name.Goals as goal

pub put_read-requires : goal.put_read-requires
put_read-requires c =
    let r = c.buffer-name.ensures in
    read_fits _ c.buffer-name.result _ c.in-Some.content (sym c.in-Some.is ∙ c.content_at.ensures) (omega arith)

pub slice_bounds-complain_quoted-end : goal.slice_bounds-complain_quoted-end
slice_bounds-complain_quoted-end c =
    let r = c.buffer-name.ensures in
    put_first _ _ _ _ _
    (read_fits _ c.buffer-name.result _ c.in-Some.content (sym c.in-Some.is ∙ c.content_at.ensures) (omega arith))
    c.put_read.ensures
