-- The three ordered lists of names, in compiled order (document 01: Three ordered lists; document 02, 2026-01).
-- Assumes nothing.
use Rattle.std.specs.Prelude.{ℕ, ◌+◌, List, [], ◌∷◌, ◌++◌, eqb}
use Prim.Native.Char.{code}
use Prim.Native.String.{String}
use Prim.Native.String.String.{[] as empty, ◌∷◌ as join}
use Rattle.base.specs.If.{when◌then◌else◌}
use Rattle.edition.specs.declared.Edition.{Edition}
use Rattle.edition.specs.declared.Kind.{Kind}
use Rattle.edition.specs.declared.Kind.TheVariants as Kinds

-- a quoted text as bytes
unfoldable pub ascii : String → List ℕ
ascii empty = []
ascii (join c s) = code c ∷ ascii s

-- one more byte in front of the first part
abbrev pub on_first : ℕ → List (List ℕ) → List (List ℕ)
on_first b [] = (b ∷ []) ∷ []
on_first b (n ∷ ns) = (b ∷ n) ∷ ns

-- the parts of bytes between single marks
unfoldable pub parted : ℕ → List ℕ → List (List ℕ)
parted mark [] = [] ∷ []
parted mark (b ∷ s) = let rest : List (List ℕ) = parted mark s in when eqb b mark then [] ∷ rest else on_first b rest

-- the names between single spaces
unfoldable pub named : String → List (List ℕ)
named s = parted (code " ") (ascii s)

-- Two editions are named: "Names of the first edition, in compiled order (21, 8, 138)"; document 02, 2026-01, has 37,
-- 16 and 158 in all. Each is a beginning of the lists below; the second counts all of their names
abbrev pub first_edition : Edition
first_edition = record { booleans = 21; numbers = 8; strings = 138 }

abbrev pub second_edition : Edition
second_edition = record { booleans = 37; numbers = 16; strings = 158 }

-- how many names each list has; where those of the strings start among all; and how many all are
abbrev pub booleans_named : ℕ
booleans_named = second_edition.booleans

abbrev pub numbers_named : ℕ
numbers_named = second_edition.numbers

abbrev pub strings_named : ℕ
strings_named = second_edition.strings

abbrev pub strings_from : ℕ
strings_from = booleans_named + numbers_named

abbrev pub all_named : ℕ
all_named = strings_from + strings_named

-- Booleans, with those of the second edition "after xon"
unfoldable pub boolean_names : List (List ℕ)
boolean_names =
    named "bw am xsb xhp xenl eo gn hc km hs in da db mir msgr os eslok xt hz ul xon"
    ++ named "nxon mc5i chts nrrmc npc ndscr ccc bce hls xhpa crxm daisy xvpa sam cpix lpix"

-- Numbers, with those of the second edition "after wsl"
unfoldable pub number_names : List (List ℕ)
number_names =
    named "cols it lines lm xmc pb vt wsl"
    ++ named "nlab lh lw ma wnum colors pairs ncv"

-- Strings, with those of the second edition "after hu"
unfoldable pub string_names : List (List ℕ)
string_names =
    named "cbt bel cr csr tbc clear el ed hpa cmdch cup cud1 home civis cub1 mrcup cnorm cuf1 ll cuu1"
    ++ (named "cvvis dch1 dl1 dsl hd smacs blink bold smcup smdc dim smir invis prot rev smso smul ech"
    ++ (named "rmacs sgr0 rmcup rmdc rmir rmso rmul flash ff fsl is1 is2 is3 if ich1 il1 ip kbs ktbc kclr"
    ++ (named "kctab kdch1 kdl1 kcud1 krmir kel ked kf0 kf1 kf10 kf2 kf3 kf4 kf5 kf6 kf7 kf8 kf9 khome"
    ++ (named "kich1 kil1 kcub1 kll knp kpp kcuf1 kind kri khts kcuu1 rmkx smkx lf0 lf1 lf10 lf2 lf3 lf4"
    ++ (named "lf5 lf6 lf7 lf8 lf9 rmm smm nel pad dch dl cud ich indn il cub cuf rin cuu pfkey pfloc pfx"
    ++ (named "mc0 mc4 mc5 rep rs1 rs2 rs3 rf rc vpa sc ind ri sgr hts wind ht tsl uc hu"
    ++ named "iprog ka1 ka3 kb2 kc1 kc3 mc5p rmp acsc pln kcbt smxon rmxon smam rmam xonc xoffc enacs smln rmln"))))))

-- the names of a kind of capability
abbrev pub names_of : Kind → List (List ℕ)
names_of Kinds.Boolean = boolean_names
names_of Kinds.Number = number_names
names_of Kinds.String = string_names

-- all names: booleans, numbers, strings
unfoldable pub all_names : List (List ℕ)
all_names = boolean_names ++ (number_names ++ string_names)
