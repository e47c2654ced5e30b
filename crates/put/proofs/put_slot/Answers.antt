-- `put::put_slot` meets its contract: the slot's code is that of the offset.
-- Assumes nothing.
use mathlib.Core.Path.{ap, ◌∙◌}
use Prim.Native.Nat.{ℕ}
use Rattle.base.specs.Overwrite.{put_at}
use Rattle.word.specs.Word.{bytes}
use Rattle.put.proofs.TableLaws.{offset_code_lem}
use Rattle.entry.specs.Limits.{short_width}
use Rattle.put.proofs.put_slot.Goals as goal

pub returns : goal.returns
returns c =
    c.put_short.ensures ∙ ap (λ (k : ℕ). put_at c.args.b.now c.args.at (bytes short_width k)) (c.slot_code-code.ensures ∙ offset_code_lem c.args.kind c.args.o)
