-- `print::put_number` meets its contract: a decimal is put by what stands before its digits and by its digits.
-- Assumes nothing.
use mathlib.Core.Path.{◌≡◌, ◌∙◌}
use mathlib.Core.List.{List, ◌++◌}
use Prim.Native.Nat.{ℕ, ◌+◌, ◌^◌, ◌≤◌, ◌<◌}
use native.Mathlib.Omega.{arith}
use lib.ListN.{length, length-append}
use mir.Facts.{to_z-of_z}
use Rattle.expansion.specs.Print.{printed}
use Rattle.decimals.specs.Decimals.{decimal_digits}
use Rattle.expansion_laws.specs.DigitCount.{digits_word}
use Rattle.print.specs.Bounds.{printed_most}
use Rattle.print.specs.Numeral.{before, NumeralOf}
use Rattle.print.proofs.EmitLaws.{begun_emitted}
use Rattle.print.proofs.NumeralLaws.{numeral_printed, before_short, bytes_short}
use borrow.Author.Rules.{rules}
use Rattle.print.proofs.put_number.Goals as goal

pub returns-then-n-ne10 : goal.returns-then-n-ne10
returns-then-n-ne10 c =
    let m : c.numeral_of-n.result.magnitude < 2 ^ 32 = search rules in
    let q : NumeralOf c.args.base c.args.value c.numeral_of-n.result = rw (to_z-of_z c.ranges.value) at c.numeral_of-n.ensures in
    let e = numeral_printed c.args.zero c.args.width c.numeral_of-n.result q in
    let k = bytes_short c.numeral_of-n.result c.args.zero c.args.width q.radix_least m c.ranges.width.fits in
    rw e (c.put_by_digit.ensures.0, omega (arith, c.put_by_digit.ensures.0, k), c.put_by_digit.ensures.1)

pub overflow_add-at : goal.overflow_add-at
overflow_add-at c =
    let short : c.put_before_decimal-before.result + length (decimal_digits c.numeral_of-n.result.magnitude) ≤ printed_most = let m : c.numeral_of-n.result.magnitude < 2 ^ 32 = search rules in
    let few = digits_word 10 97 c.numeral_of-n.result.magnitude (omega arith) m in
    rw c.put_before_decimal-before.ensures.0
    (before_short c.numeral_of-n.result.minus c.args.zero c.args.width (length (decimal_digits c.numeral_of-n.result.magnitude)) c.ranges.width.fits few) in
    omega (arith, short, c.requires)

pub put_decimal-requires : goal.put_decimal-requires
put_decimal-requires c =
    let short : c.put_before_decimal-before.result + length (decimal_digits c.numeral_of-n.result.magnitude) ≤ printed_most = let m : c.numeral_of-n.result.magnitude < 2 ^ 32 = search rules in
    let few = digits_word 10 97 c.numeral_of-n.result.magnitude (omega arith) m in
    rw c.put_before_decimal-before.ensures.0
    (before_short c.numeral_of-n.result.minus c.args.zero c.args.width (length (decimal_digits c.numeral_of-n.result.magnitude)) c.ranges.width.fits few) in
    omega (arith, short, c.requires)

pub overflow_add-result : goal.overflow_add-result
overflow_add-result c =
    let short : c.put_before_decimal-before.result + length (decimal_digits c.numeral_of-n.result.magnitude) ≤ printed_most = let m : c.numeral_of-n.result.magnitude < 2 ^ 32 = search rules in
    let few = digits_word 10 97 c.numeral_of-n.result.magnitude (omega arith) m in
    rw c.put_before_decimal-before.ensures.0
    (before_short c.numeral_of-n.result.minus c.args.zero c.args.width (length (decimal_digits c.numeral_of-n.result.magnitude)) c.ranges.width.fits few) in
    omega (arith, short, c.put_decimal.ensures.0)

pub returns : goal.returns
returns c =
    let short : c.put_before_decimal-before.result + length (decimal_digits c.numeral_of-n.result.magnitude) ≤ printed_most = let m : c.numeral_of-n.result.magnitude < 2 ^ 32 = search rules in
    let few = digits_word 10 97 c.numeral_of-n.result.magnitude (omega arith) m in
    rw c.put_before_decimal-before.ensures.0
    (before_short c.numeral_of-n.result.minus c.args.zero c.args.width (length (decimal_digits c.numeral_of-n.result.magnitude)) c.ranges.width.fits few) in
    let ds : List ℕ = decimal_digits c.numeral_of-n.result.magnitude in
    let xs : List ℕ = before c.numeral_of-n.result.minus c.args.zero c.args.width (length ds) in
    let q : NumeralOf c.args.base c.args.value c.numeral_of-n.result = rw (to_z-of_z c.ranges.value) at c.numeral_of-n.ensures in
    let t : c.numeral_of-n.result.radix ≡ 10 = c.if-n-ne10.false in
    let e : printed c.args.base c.args.zero c.args.width c.args.value ≡ xs ++ ds =
    numeral_printed c.args.zero c.args.width c.numeral_of-n.result q ∙ rw (t, q.decimal_letters t) in
    let k = short in
    let a : c.args.at + c.put_before_decimal-before.result ≡ c.args.at + length xs = omega (arith, c.put_before_decimal-before.ensures.0) in
    rw e (
      omega (arith, c.put_before_decimal-before.ensures.0, c.put_decimal.ensures.0, length-append xs ds),
      omega (arith, k, c.put_decimal.ensures.0),
      c.put_decimal.ensures.1 ∙ rw (c.put_before_decimal-before.ensures.1, a) (begun_emitted c.args.out.now c.args.at xs ds),
    )
