-- The numbers of a text's refusals (document 01: Numbers of refusal; document 02).
-- Assumes nothing.
use Rattle.std.specs.Prelude.{[], ◌∷◌, ℕ}
use Rattle.base.specs.Answer.{Answer, refused}
use Rattle.text.specs.declared.TextRefusal.{TextRefusal}
use Rattle.text.specs.declared.TextRefusal.TheVariants as R
use Rattle.text.specs.declared.TextRefused.{TextRefused}

abbrev pub text_number : TextRefusal → ℕ
text_number R.Malformed = 10
text_number R.Unknown = 11
text_number R.Limit = 13
text_number R.NotFound = 18
text_number R.Circular = 19
text_number R.NinthUse = 20

-- a text's refusal gives its place
abbrev pub text_refused : {A : Type 0} → TextRefused → Answer A
text_refused r = refused (text_number r.why) (r.at ∷ [])
