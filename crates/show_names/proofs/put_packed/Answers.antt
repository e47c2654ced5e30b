-- `show_names::put_packed` meets its contract: the number's bytes, up to the first NUL.
-- Assumes nothing.
use mathlib.Core.Path.{◌≡◌, ap, subst, ◌∙◌}
use mathlib.Core.List.{List}
use Prim.Native.Nat.{ℕ, ◌<◌, ◌≤◌}
use native.Mathlib.Omega.{arith}
use lib.ListN.{length, take}
use lib.Seq.{length-take-le}
use borrow.Author.Rules.{rules}
use Rattle.word.specs.Word.{bytes}
use Rattle.names.specs.Naming.{before_nul, unpacked}
use Rattle.shown.specs.Puts.{Puts}
use Rattle.shown.proofs.PutsLaws.{puts_most}
use Rattle.show_names.proofs.Laws.{eight_bytes, before_first, before_none}
use Rattle.show_names.proofs.put_packed.Goals as goal

pub returns-in-Some : goal.returns-in-Some
unfolding unpacked
returns-in-Some c =
    let b : List ℕ = c.to_le_bytes-bytes.result in
    let e : b ≡ bytes 8 c.args.name = c.to_le_bytes-bytes.ensures ∙ eight_bytes c.args.name in
    let l : length b ≡ 8 = ap length c.to_le_bytes-bytes.ensures in
    let i : c.in-Some.n < length b = search rules in
    let u : take c.in-Some.n b ≡ unpacked c.args.name = before_first b c.in-Some.n i (search rules) (search rules) ∙ ap before_nul e in
    let m : length (take c.in-Some.n b) ≤ 8 = omega (arith, length-take-le c.in-Some.n b (omega arith)) in
    subst (λ (xs : List ℕ). Puts c.args.out.now c.put_text.new.out 0 xs 8 c.put_text.result) u (puts_most c.put_text.ensures m)

pub returns-in-None : goal.returns-in-None
unfolding unpacked
returns-in-None c =
    let b : List ℕ = c.to_le_bytes-bytes.result in
    let e : b ≡ bytes 8 c.args.name = c.to_le_bytes-bytes.ensures ∙ eight_bytes c.args.name in
    let l : length b ≡ 8 = ap length c.to_le_bytes-bytes.ensures in
    let u : b ≡ unpacked c.args.name = before_none b (search rules) ∙ ap before_nul e in
    let m : length b ≤ 8 = omega arith in
    subst (λ (xs : List ℕ). Puts c.args.out.now c.put_text-in-None.new.out 0 xs 8 c.put_text-in-None.result) u (puts_most c.put_text-in-None.ensures m)
