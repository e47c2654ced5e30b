-- An expansion contains no NUL, where no text among its arguments does.
-- Assumes nothing.
use Rattle.base.specs.Answer.{Answer, refused, gives}
use Rattle.word.specs.Nul.{NoNul}
use Rattle.expansion.specs.Expanding.{Expanding}

abbrev pub AnswerFree : Answer Expanding → Type 0
AnswerFree (refused n v) = Unit {0}
AnswerFree (gives x) = NoNul x.output
