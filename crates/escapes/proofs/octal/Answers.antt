use borrow.Author.Tests.{lt-ltb, le-ltb, le-leb, lt-leb}
use Rattle.text.specs.Strings.{octal_of}
use Rattle.escapes.proofs.octal.Goals as goal

pub returns-then-v-le255 : goal.returns-then-v-le255
unfolding octal_of
returns-then-v-le255 c = simp (lt-ltb _ _ c.if-b-lt8.true, lt-ltb _ _ c.if-c-lt8.true, le-leb _ _ c.if-v-le255.true)

pub returns-then-c-lt8 : goal.returns-then-c-lt8
unfolding octal_of
returns-then-c-lt8 c = simp (lt-ltb _ _ c.if-b-lt8.true, lt-ltb _ _ c.if-c-lt8.true, lt-leb _ _ c.if-v-le255.false)

pub returns-then-b-lt8 : goal.returns-then-b-lt8
unfolding octal_of
returns-then-b-lt8 c = simp (lt-ltb _ _ c.if-b-lt8.true, le-ltb _ _ c.if-c-lt8.false)

pub returns : goal.returns
unfolding octal_of
returns c = simp (le-ltb _ _ c.if-b-lt8.false)
