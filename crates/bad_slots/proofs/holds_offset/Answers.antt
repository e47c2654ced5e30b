-- `bad_slots::holds_offset` meets its contract: the slot lies in the file, and its code is below the table size.
use mathlib.Core.Path.{◌∙◌}
use lib.Dec.{ltb}
use Rattle.bad_slots.proofs.Laws.{no_header, past_end, in_file}
use Rattle.bad_slots.proofs.holds_offset.Goals as goal

pub returns-then-file-lt-HEADER_SIZE : goal.returns-then-file-lt-HEADER_SIZE
returns-then-file-lt-HEADER_SIZE c = no_header _ _ c.if-file-lt-HEADER_SIZE.true

pub returns-then-file-at : goal.returns-then-file-at
returns-then-file-at c = past_end _ _ c.if-file-lt-HEADER_SIZE.false c.if-file-at.true

pub returns : goal.returns
returns c =
    (λ i. ltb (c.short_at.ensures.0 i) (c.sizes-s.ensures.0 i).table)
    ∙ in_file _ _ c.if-file-lt-HEADER_SIZE.false c.if-file-at.false
