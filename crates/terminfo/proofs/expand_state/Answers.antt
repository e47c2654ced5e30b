-- `terminfo::expand_state` meets its contract, by the string's state.
-- Assumes nothing.
use mathlib.Core.Path.{refl}
use Rattle.terminfo.proofs.Laws.{present_ok, present_err}
use Rattle.terminfo.proofs.expand_state.Goals as goal

pub part-string-requires : goal.part-string-requires
part-string-requires c = rw c.in-Present.is at c.requires

pub returns-in-Ok : goal.returns-in-Ok
returns-in-Ok c =
    rw c.in-Present.is
    (present_ok _ _ _ _ _ _ _ c.part-string.result.now c.expand_texts-e.result c.zero_lasting.result.values c.in-Present.p
    c.in-Ok.output c.in-Ok.is c.part-string.ensures.bytes c.zero_lasting.ensures c.expand_texts-e.ensures)

pub returns-in-Err : goal.returns-in-Err
returns-in-Err c =
    rw c.in-Present.is
    (present_err _ _ _ _ _ _ _ c.part-string.result.now c.expand_texts-e.result c.zero_lasting.result.values c.in-Present.p
    c.in-Err.why c.in-Err.is c.part-string.ensures.bytes c.zero_lasting.ensures c.expand_texts-e.ensures)

pub returns-in-Absent : goal.returns-in-Absent
returns-in-Absent c = rw c.in-Absent.is (record { answer = refl; output = refl })

pub returns-in-Cancelled : goal.returns-in-Cancelled
returns-in-Cancelled c = rw c.in-Cancelled.is (record { answer = refl; output = refl })
