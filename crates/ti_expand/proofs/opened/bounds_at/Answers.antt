-- `ti_expand::opened::bounds_at` is safe: the string lies in the file.
-- Assumes nothing.
use Rattle.opened_file.proofs.Laws.{string_inside}
use Rattle.ti_expand.proofs.opened.bounds_at.Goals as goal

pub string_if_opened-requires : goal.string_if_opened-requires
string_if_opened-requires c = c.args.opened.opened

pub part-requires : goal.part-requires
part-requires c =
    let e = rw c.in-Some-Present.field-0-is at c.in-Some-Present.ensures in
    string_inside _ _ c.args.place _ e
