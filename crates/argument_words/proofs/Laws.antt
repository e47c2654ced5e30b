-- Laws that the proofs cite: a word's tests in order.
-- Assumes nothing.
use Rattle.std.specs.Prelude.{Some}
use mathlib.Core.Path.{◌≡◌}
use mathlib.Core.Bool.{true, false}
use mathlib.Core.List.{List}
use Prim.Native.Nat.{ℕ}
use lib.ListN.{get_or, drop}
use borrow.Author.Tests.{eq-eqb, ne_eqb}
use Rattle.number_words.specs.Number.{is_numeral, value_of}
use Rattle.argument_words.specs.declared.ArgumentWord.TheVariants.{Text}
use Rattle.argument_words.specs.Argument.{unsigned, number_of, argument_of}

-- ---- digits, after a minus or not

module _ (w : List ℕ) where
  pub decimal_plain : (get_or w 0 0 ≡ 45 → ⊥) → is_numeral w ≡ is_numeral (unsigned w)
  unfolding unsigned
  decimal_plain h = rw (ne_eqb (get_or w 0 0) 45 h)

  pub decimal_minus : get_or w 0 0 ≡ 45 → is_numeral (drop 1 w) ≡ is_numeral (unsigned w)
  unfolding unsigned
  decimal_minus h = rw (eq-eqb (get_or w 0 0) 45 h)

-- ---- words

module _ (w : List ℕ) where
  pub word_equals : get_or w 0 0 ≡ 61 → Some (Text 1) ≡ argument_of w
  unfolding argument_of
  word_equals h = rw (eq-eqb (get_or w 0 0) 61 h)

  pub word_number : (get_or w 0 0 ≡ 61 → ⊥) → is_numeral (unsigned w) ≡ true → number_of (value_of w) ≡ argument_of w
  unfolding argument_of
  word_number h e = rw (ne_eqb (get_or w 0 0) 61 h, e)

  pub word_text : (get_or w 0 0 ≡ 61 → ⊥) → is_numeral (unsigned w) ≡ false → Some (Text 0) ≡ argument_of w
  unfolding argument_of
  word_text h e = rw (ne_eqb (get_or w 0 0) 61 h, e)
