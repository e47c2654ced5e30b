-- `read::sizes` meets its contract: field by field.
use Rattle.entry.specs.Layout.{sizes_of}
use Rattle.read.proofs.sizes.Goals as goal

pub returns : goal.returns
unfolding sizes_of
returns c =
    let n = c.short_at-names.ensures in
    let b = c.short_at-booleans.ensures in
    let k = c.short_at-numbers.ensures in
    let s = c.short_at-strings.ensures in
    let t = c.short_at-table.ensures in (
      λ i. record { names = n.0 i; booleans = b.0 i; numbers = k.0 i; strings = s.0 i; table = t.0 i },
      record { names = n.1; booleans = b.1; numbers = k.1; strings = s.1; table = t.1 },
    )
