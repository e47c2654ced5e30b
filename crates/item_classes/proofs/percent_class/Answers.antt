-- `item_classes::percent_class` meets its contract: each arm's bytes are a case of the definition, and the last arm has the bytes that start no item.
-- Assumes nothing.
use mathlib.Core.Path.{◌≡◌, refl, ap, ◌∙◌}
use mathlib.Core.List.{List, [], ◌∷◌}
use mathlib.Core.Logic.{⊎_elim}
use Prim.Native.Nat.{ℕ, ◌+◌}
use types.Run.{OneOf}
use Rattle.base.specs.Tabulate.{Each}
use Rattle.expansion.specs.Items.{byte_at, singles, found, percent_at}
use Rattle.expansion.specs.Form.{class_of}
use Rattle.expansion.specs.declared.Class.TheVariants.{Plain}
use Rattle.expansion.specs.declared.Classed.{Classed}
use Rattle.item_parts.specs.Classes.{item_class}
use Rattle.item_parts.proofs.Cases.{behind, percent_byte, percent_other, one_of}
use Rattle.item_classes.proofs.percent_class.Goals as goal

-- the bytes of the arms of plain items
abbrev first : List ℕ
first = 33 ∷ 37 ∷ 88 ∷ 99 ∷ 105 ∷ 111 ∷ 120 ∷ 126 ∷ []

abbrev second : List ℕ
second = 43 ∷ 45 ∷ 47 ∷ 61 ∷ 94 ∷ 109 ∷ 115 ∷ 124 ∷ []

abbrev third : List ℕ
third = 38 ∷ 42 ∷ 60 ∷ 62 ∷ 65 ∷ 79 ∷ 100 ∷ 108 ∷ []

-- `%` and x are a plain item
abbrev IsPlain : List ℕ → ℕ → ℕ → Type 0
IsPlain s j x = ◌≡◌ {A = Classed} (record { class = Plain; next = j + 1 }) (item_class (behind x s j))

-- an arm whose bytes are plain items
plain : (ks : List ℕ) → ((s : List ℕ) (j : ℕ) → Each (IsPlain s j) ks) → (s : List ℕ) (j b : ℕ) {r : Classed}
    → r ≡ record { class = Plain; next = j + 1 } → b ≡ byte_at s j → OneOf ks b → r ≡ item_class (percent_at s j)
plain ks h s j b p e o = p ∙ one_of (IsPlain s j) ks b (h s j) o ∙ ap item_class (percent_byte s j e b refl)

pub returns-in-112 : goal.returns-in-112
unfolding singles found class_of
returns-in-112 c = c.argument_class.ensures ∙ ap item_class (percent_byte _ _ c.byte_at-c.ensures 112 c.in-112.is)

pub returns-in-39 : goal.returns-in-39
unfolding singles found class_of
returns-in-39 c = c.quoted_class.ensures ∙ ap item_class (percent_byte _ _ c.byte_at-c.ensures 39 c.in-39.is)

pub returns-in-123 : goal.returns-in-123
unfolding singles found class_of
returns-in-123 c = c.constant_class.ensures ∙ ap item_class (percent_byte _ _ c.byte_at-c.ensures 123 c.in-123.is)

pub returns-in-80 : goal.returns-in-80
unfolding singles found class_of
returns-in-80 c = ⊎_elim (λ q. c.variable_class.ensures.0 ∙ ap item_class (percent_byte _ _ c.byte_at-c.ensures 80 q)) (λ q. c.variable_class.ensures.1 ∙ ap item_class (percent_byte _ _ c.byte_at-c.ensures 103 q)) c.in-80.is

pub returns-in-37 : goal.returns-in-37
unfolding singles found class_of
returns-in-37 c = plain first (λ s j. (refl, (refl, (refl, (refl, (refl, (refl, (refl, (refl, tt))))))))) _ _ c.byte_at-c.result c.classed.ensures c.byte_at-c.ensures c.in-37.is

pub returns-in-43 : goal.returns-in-43
unfolding singles found class_of
returns-in-43 c = plain second (λ s j. (refl, (refl, (refl, (refl, (refl, (refl, (refl, (refl, tt))))))))) _ _ c.byte_at-c.result c.classed-in-43.ensures c.byte_at-c.ensures c.in-43.is

pub returns-in-42 : goal.returns-in-42
unfolding singles found class_of
returns-in-42 c = plain third (λ s j. (refl, (refl, (refl, (refl, (refl, (refl, (refl, (refl, tt))))))))) _ _ c.byte_at-c.result c.classed-in-42.ensures c.byte_at-c.ensures c.in-42.is

pub returns-in-63 : goal.returns-in-63
unfolding singles found class_of
returns-in-63 c = c.classed-in-63.ensures ∙ ap item_class (percent_byte _ _ c.byte_at-c.ensures 63 c.in-63.is)

pub returns-in-116 : goal.returns-in-116
unfolding singles found class_of
returns-in-116 c = c.classed-in-116.ensures ∙ ap item_class (percent_byte _ _ c.byte_at-c.ensures 116 c.in-116.is)

pub returns-in-101 : goal.returns-in-101
unfolding singles found class_of
returns-in-101 c = c.classed-in-101.ensures ∙ ap item_class (percent_byte _ _ c.byte_at-c.ensures 101 c.in-101.is)

pub returns-in-59 : goal.returns-in-59
unfolding singles found class_of
returns-in-59 c = c.classed-in-59.ensures ∙ ap item_class (percent_byte _ _ c.byte_at-c.ensures 59 c.in-59.is)

pub returns-in_default : goal.returns-in_default
unfolding singles found class_of
returns-in_default c = c.other_class.ensures ∙ ap item_class (percent_other ((112 ∷ []) ∷ (39 ∷ []) ∷ (123 ∷ []) ∷ (80 ∷ 103 ∷ []) ∷ first ∷ second ∷ third ∷ (63 ∷ []) ∷ (116 ∷ []) ∷ (101 ∷ []) ∷ (59 ∷ []) ∷ []) _ _ c.byte_at-c.ensures c.in_default.in_default-own.rest ((refl, (refl, (refl, (refl, (refl, tt))))), refl))
