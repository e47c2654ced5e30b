-- Laws of what the arrays hold of a text's descriptions.
-- Assumes nothing.
use mathlib.Core.List.{List}
use Prim.Native.Nat.{ℕ, ◌<◌}
use native.Mathlib.Omega.{arith}
use lib.ListN.{get_or}
use Rattle.edition.specs.declared.Edition.{Edition}
use Rattle.text.specs.Describing.{Description}
use Rattle.text_laws.specs.HeadingLaws.{Headed, header_right}
use Rattle.compile_laws.specs.Listed.{Listed, HeadsIn}

-- headers that are listed lie in the text
pub listed_heads : {e : Edition} {t heads commas : List ℕ} {count : ℕ} {ds : List Description}
    → Listed e t heads commas count ds → HeadsIn t heads commas count
listed_heads {e} {t} {heads} {commas} {count} {ds} w =
    record {
      many_heads = w.many_heads;
      many_commas = w.many_commas;
      before = λ d l. (headed d l).place;
      within = λ d l. let h = (headed d l).within in omega arith;
    }
  where
    headed : (d : ℕ) → d < count → Headed t (get_or heads d 0) (get_or commas d 0)
    headed d l = header_right t (get_or heads d 0) (get_or commas d 0) (w.stands d l).header
