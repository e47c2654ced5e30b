-- Output that is put where it fits, while its length counts in any case.
-- Assumes nothing.
use Rattle.std.specs.Prelude.{List, ℕ, ◌+◌, leb, length}
use Rattle.base.specs.If.{when◌then◌else◌}
use Rattle.base.specs.Overwrite.{put_at}

-- b with bytes from place at on, where they fit; else b
unfoldable pub emitted : List ℕ → ℕ → List ℕ → List ℕ
emitted b at bytes = when leb (at + length bytes) (length b) then put_at b at bytes else b

-- b with bytes from place at on, where so many more fit behind them; else b
unfoldable pub begun : List ℕ → ℕ → List ℕ → ℕ → List ℕ
begun b at bytes more = when leb (at + (length bytes + more)) (length b) then put_at b at bytes else b
