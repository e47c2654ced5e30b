-- `compile_several::compile` meets its contract: the descriptions are read, and the wanted one compiled.
-- Assumes nothing.
use Prim.Native.Nat.{ℕ}
use native.Mathlib.Omega.{arith}
use lib.ListN.{length-replicate}
use Rattle.std.proofs.lemmas.Result.{err_from_is_err_and}
use Rattle.wanted.specs.Wanted.{wanted_by}
use Rattle.compile_laws.proofs.ClearedLaws.{zero_at}
use Rattle.compile_laws.proofs.ListedLaws.{listed_heads}
use Rattle.compile_several.proofs.Built.{text_bad, uses_few}
use Rattle.compile_several.proofs.compile.Goals as goal

pub read-requires : goal.read-requires
read-requires c =
    let n = length-replicate {A = ℕ} 64 0 in
    let m = length-replicate {A = ℕ} 65 0 in
    let k = length-replicate {A = ℕ} 3276 0 in
    (c.requires.1, (omega arith, (omega arith, (omega arith, (omega arith, zero_at 65)))))

pub returns-in_err-count : goal.returns-in_err-count
returns-in_err-count c =
    let p = err_from_is_err_and c.from_residual.result c.from_residual.ensures.1 in
    rw (p.1, p.2) (text_bad c.args.edition c.args.text.now (wanted_by c.args.wanted) _ _ c.in_err-count.ensures c.args.buffer.now)

pub invariant_of-headers : goal.invariant_of-headers
invariant_of-headers c = record { inside = listed_heads c.in_ok-count.ensures.1.0 }

pub compile_found-requires : goal.compile_found-requires
compile_found-requires c =
    let h = c.in_ok-count.ensures in
    let f = uses_few c.args.edition c.args.text.now _ _ _ _ _ h.1.0 h.1.1 in
    let k = length-replicate {A = ℕ} 3276 0 in
    let m = c.read.auto.places in
    (c.requires.0, (h.0, (h.1.0, (h.1.1, omega arith))))
