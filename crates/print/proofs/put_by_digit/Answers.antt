-- `print::put_by_digit` meets its contract: what stands before the digits, and the digits where both fit.
-- Assumes nothing.
use mathlib.Core.Path.{◌≡◌, ap, ◌∙◌}
use mathlib.Core.List.{List}
use Prim.Native.Nat.{ℕ, ◌+◌, ◌-◌, ◌^◌, ◌≤◌, ◌<◌}
use native.Mathlib.Omega.{arith}
use lib.ListN.{length, length-append}
use Rattle.expansion.specs.Print.{digits}
use Rattle.expansion_laws.specs.DigitCount.{digits_word}
use Rattle.print.specs.Bounds.{printed_most}
use Rattle.print.specs.Emit.{begun}
use Rattle.print.specs.Numeral.{before}
use Rattle.print.proofs.EmitLaws.{begun_put, begun_left}
use Rattle.print.proofs.NumeralLaws.{before_short}
use borrow.Author.Rules.{rules}
use Rattle.print.proofs.put_by_digit.Goals as goal

pub put_before-before-requires : goal.put_before-before-requires
put_before-before-requires c =
    let few : c.count_digits-count.result ≤ 32 = let m : c.args.n.magnitude < 2 ^ 32 = search rules in
    rw (c.count_digits-count.ensures 97) (digits_word c.args.n.radix 97 c.args.n.magnitude c.requires.0 m) in
    (c.requires.1.1.1, few)

pub overflow_add-total : goal.overflow_add-total
overflow_add-total c =
    let few : c.count_digits-count.result ≤ 32 = let m : c.args.n.magnitude < 2 ^ 32 = search rules in
    rw (c.count_digits-count.ensures 97) (digits_word c.args.n.radix 97 c.args.n.magnitude c.requires.0 m) in
    let short : c.put_before-before.result + c.count_digits-count.result ≤ printed_most = let k = c.count_digits-count.result in
    rw c.put_before-before.ensures.0
    (before_short c.args.n.minus c.args.zero c.args.width k c.ranges.width.fits few) in
    omega (arith, short)

pub overflow_add-at : goal.overflow_add-at
overflow_add-at c =
    let few : c.count_digits-count.result ≤ 32 = let m : c.args.n.magnitude < 2 ^ 32 = search rules in
    rw (c.count_digits-count.ensures 97) (digits_word c.args.n.radix 97 c.args.n.magnitude c.requires.0 m) in
    let short : c.put_before-before.result + c.count_digits-count.result ≤ printed_most = let k = c.count_digits-count.result in
    rw c.put_before-before.ensures.0
    (before_short c.args.n.minus c.args.zero c.args.width k c.ranges.width.fits few) in
    omega (arith, short, c.requires.1.1.1)

-- the whole numeral, with its length
pub returns-then-out-at : goal.returns-then-out-at
returns-then-out-at c =
    let whole : let ds : List ℕ = digits c.args.n.radix c.args.n.letters c.args.n.magnitude in
    let xs : List ℕ = before c.args.n.minus c.args.zero c.args.width (length ds) in
    (c.count_digits-count.result ≡ length ds)
    × ((c.put_before-before.result ≡ length xs)
    × (c.put_before-before.new.out ≡ begun c.args.out.now c.args.at xs (length ds))) = let e = c.count_digits-count.ensures c.args.n.letters in (
      e,
      (
        c.put_before-before.ensures.0 ∙ ap (λ (k : ℕ). length (before c.args.n.minus c.args.zero c.args.width k)) e,
        c.put_before-before.ensures.1 ∙ ap (λ (k : ℕ). begun c.args.out.now c.args.at (before c.args.n.minus c.args.zero c.args.width k) k) e,
      ),
    ) in
    let ds : List ℕ = digits c.args.n.radix c.args.n.letters c.args.n.magnitude in
    let xs : List ℕ = before c.args.n.minus c.args.zero c.args.width (length ds) in
    let w = whole in (
      omega (arith, w.0, w.1.0, length-append xs ds),
      begun_left c.args.out.now _ c.args.at xs ds w.1.1 (omega (arith, c.if-out-at.true, w.0, w.1.0)),
    )

pub put_in_base-requires : goal.put_in_base-requires
put_in_base-requires c =
    let whole : let ds : List ℕ = digits c.args.n.radix c.args.n.letters c.args.n.magnitude in
    let xs : List ℕ = before c.args.n.minus c.args.zero c.args.width (length ds) in
    (c.count_digits-count.result ≡ length ds)
    × ((c.put_before-before.result ≡ length xs)
    × (c.put_before-before.new.out ≡ begun c.args.out.now c.args.at xs (length ds))) = let e = c.count_digits-count.ensures c.args.n.letters in (
      e,
      (
        c.put_before-before.ensures.0 ∙ ap (λ (k : ℕ). length (before c.args.n.minus c.args.zero c.args.width k)) e,
        c.put_before-before.ensures.1 ∙ ap (λ (k : ℕ). begun c.args.out.now c.args.at (before c.args.n.minus c.args.zero c.args.width k) k) e,
      ),
    ) in
    let w = whole in
    (c.requires.0, c.requires.1.0, c.requires.1.1.0, omega (arith, w.0), c.if-out-at.false)

pub returns : goal.returns
returns c =
    let whole : let ds : List ℕ = digits c.args.n.radix c.args.n.letters c.args.n.magnitude in
    let xs : List ℕ = before c.args.n.minus c.args.zero c.args.width (length ds) in
    (c.count_digits-count.result ≡ length ds)
    × ((c.put_before-before.result ≡ length xs)
    × (c.put_before-before.new.out ≡ begun c.args.out.now c.args.at xs (length ds))) = let e = c.count_digits-count.ensures c.args.n.letters in (
      e,
      (
        c.put_before-before.ensures.0 ∙ ap (λ (k : ℕ). length (before c.args.n.minus c.args.zero c.args.width k)) e,
        c.put_before-before.ensures.1 ∙ ap (λ (k : ℕ). begun c.args.out.now c.args.at (before c.args.n.minus c.args.zero c.args.width k) k) e,
      ),
    ) in
    let ds : List ℕ = digits c.args.n.radix c.args.n.letters c.args.n.magnitude in
    let xs : List ℕ = before c.args.n.minus c.args.zero c.args.width (length ds) in
    let w = whole in
    let p : c.args.at + (c.put_before-before.result + c.count_digits-count.result) - length ds ≡ c.args.at + length xs =
    omega (arith, w.0, w.1.0) in (
      omega (arith, w.0, w.1.0, length-append xs ds),
      begun_put c.args.out.now _ _ c.args.at _ xs ds w.1.1 p c.put_in_base.ensures
          (omega (arith, c.if-out-at.false, w.0, w.1.0)),
    )
