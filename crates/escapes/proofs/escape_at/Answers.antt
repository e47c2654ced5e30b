use borrow.Author.Tests.{lt-ltb, le-ltb, eq-eqb, ne_eqb}
use Rattle.text.specs.Strings.{escape_at}
use Rattle.escapes.proofs.escape_at.Goals as goal

pub returns-then-a-lt8 : goal.returns-then-a-lt8
unfolding escape_at
returns-then-a-lt8 c =
    simp (
      ← c.byte_at-b.ensures,
      ← c.digit-a.ensures,
      lt-ltb _ _ c.if-a-lt8.true,
      ← c.byte_at.ensures,
      ← c.digit.ensures,
      ← c.byte_at-then-a-lt8.ensures,
      ← c.digit-then-a-lt8.ensures,
      c.octal.ensures,
    )

pub returns-then-v-eq0 : goal.returns-then-v-eq0
unfolding escape_at
returns-then-v-eq0 c = simp (← c.byte_at-b.ensures, ← c.digit-a.ensures, le-ltb _ _ c.if-a-lt8.false, ← c.letter-v.ensures, eq-eqb _ _ c.if-v-eq0.true)

pub returns : goal.returns
unfolding escape_at
returns c = simp (← c.byte_at-b.ensures, ← c.digit-a.ensures, le-ltb _ _ c.if-a-lt8.false, ← c.letter-v.ensures, ne_eqb _ _ c.if-v-eq0.false)
