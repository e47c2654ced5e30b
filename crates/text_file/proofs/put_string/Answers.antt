-- `text_file::put_string` meets its contract: the bytes put by the call, and a store behind them.
-- Assumes nothing.
use mathlib.Core.Path.{refl}
use Rattle.entry.specs.Writing.{state_of}
use Rattle.text.specs.Strings.{read_at, read_bytes}
use Rattle.compile_laws.proofs.WriteLaws.{read_put}
use Rattle.text_file.proofs.put_string.Goals as goal

pub returns : goal.returns
unfolding state_of
returns c =
    read_put c.args.b.now _ c.args.at 1 c.args.size (read_bytes (read_at c.args.text.now c.args.start)) refl c.requires.1.counted c.requires.0 c.put_read.ensures
