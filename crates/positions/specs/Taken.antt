-- What the program takes in.
-- Assumes nothing.
use Rattle.std.specs.Prelude.{ℕ, ◌+◌}
use Rattle.text.specs.Bytes.{text_most}

-- the room for a text: one byte more than it may have, so that a longer text is refused and never cut
abbrev pub text_room : ℕ
text_room = text_most + 1
