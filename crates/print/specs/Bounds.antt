-- Bounds on output that the proofs go by.
-- Assumes nothing.
use Rattle.std.specs.Prelude.{ℕ, ◌+◌, ◌*◌}
use Rattle.expansion.specs.Limits.{string_most, text_most}

-- an item that prints no text prints no more bytes than this, whatever width a byte holds
abbrev pub printed_most : ℕ
printed_most = 255

-- a string prints no more bytes than this: it has no more items than bytes
abbrev pub output_most : ℕ
output_most = (printed_most + text_most) * string_most
