-- What looking a name up says (document 01: Numbers of refusal, 11: "unknown name, or wrong kind").
-- Assumes nothing.
use Rattle.std.specs.Prelude.{[], Option, Some, None}
use Rattle.base.specs.Answer.{Answer, refused, gives}
use Rattle.edition.specs.declared.Kind.{Kind}
use Rattle.edition.specs.declared.Kind.TheVariants as K
use Rattle.edition.specs.declared.Place.{Place}
use Rattle.names.specs.declared.Found.{Found}
use Rattle.names.specs.declared.Found.TheVariants as F

-- the list that has the name, and the place in it
pub record Capability : Type 0 where
  pub kind : Kind
  pub place : Place

abbrev pub says_found : Option Found → Answer Capability
says_found (Some (F.Boolean p)) = gives (record { kind = K.Boolean; place = p })
says_found (Some (F.Number p)) = gives (record { kind = K.Number; place = p })
says_found (Some (F.String p)) = gives (record { kind = K.String; place = p })
says_found None = refused 11 []

-- where a string is wanted, a name of another kind is 11 too
abbrev pub string_found : Answer Capability → Answer Place
string_found (refused n v) = refused n v
string_found (gives c) = of_kind c.kind
  where
    of_kind : Kind → Answer Place
    of_kind K.Boolean = refused 11 []
    of_kind K.Number = refused 11 []
    of_kind K.String = gives c.place
