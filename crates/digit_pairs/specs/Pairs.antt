-- The 100 pairs of decimal digits (document 02, 2026-03: "a table of the 100 pairs, proved once to hold at each k the
-- two digits of k").
-- Assumes nothing.
use Rattle.std.specs.Prelude.{List, ◌++◌, ℕ}
use Prim.Native.Char.{code}
use Prim.Native.String.{String}
use Rattle.names.specs.Names.{ascii, parted}

-- the pairs between single spaces
abbrev row : String → List (List ℕ)
row s = parted (code " ") (ascii s)

-- the pairs in order, the pair of k at place k
unfoldable pub pairs : List (List ℕ)
pairs =
    row "00 01 02 03 04 05 06 07 08 09"
    ++ (row "10 11 12 13 14 15 16 17 18 19"
    ++ (row "20 21 22 23 24 25 26 27 28 29"
    ++ (row "30 31 32 33 34 35 36 37 38 39"
    ++ (row "40 41 42 43 44 45 46 47 48 49"
    ++ (row "50 51 52 53 54 55 56 57 58 59"
    ++ (row "60 61 62 63 64 65 66 67 68 69"
    ++ (row "70 71 72 73 74 75 76 77 78 79"
    ++ (row "80 81 82 83 84 85 86 87 88 89"
    ++ row "90 91 92 93 94 95 96 97 98 99"))))))))
