-- `digit_pairs::pair_of` meets its contract: each arm's value is the pair of its key, and there is one for each k.
-- Assumes nothing.
use mathlib.Core.Path.{refl}
use Rattle.base.specs.Tabulate.{tabulate}
use Rattle.word.specs.Word.{word}
use Rattle.names.specs.Names.{ascii, parted}
use Rattle.digit_pairs.specs.Pairs.{pairs}
use Rattle.digit_pairs.proofs.Arms.{arm_pair, no_rest}
use Rattle.digit_pairs.proofs.pair_of.Goals as goal

pub returns-in-0 : goal.returns-in-0
unfolding pairs parted ascii word tabulate
returns-in-0 c = arm_pair 0 c.in-0.is refl

pub returns-in-1 : goal.returns-in-1
unfolding pairs parted ascii word tabulate
returns-in-1 c = arm_pair 1 c.in-1.is refl

pub returns-in-2 : goal.returns-in-2
unfolding pairs parted ascii word tabulate
returns-in-2 c = arm_pair 2 c.in-2.is refl

pub returns-in-3 : goal.returns-in-3
unfolding pairs parted ascii word tabulate
returns-in-3 c = arm_pair 3 c.in-3.is refl

pub returns-in-4 : goal.returns-in-4
unfolding pairs parted ascii word tabulate
returns-in-4 c = arm_pair 4 c.in-4.is refl

pub returns-in-5 : goal.returns-in-5
unfolding pairs parted ascii word tabulate
returns-in-5 c = arm_pair 5 c.in-5.is refl

pub returns-in-6 : goal.returns-in-6
unfolding pairs parted ascii word tabulate
returns-in-6 c = arm_pair 6 c.in-6.is refl

pub returns-in-7 : goal.returns-in-7
unfolding pairs parted ascii word tabulate
returns-in-7 c = arm_pair 7 c.in-7.is refl

pub returns-in-8 : goal.returns-in-8
unfolding pairs parted ascii word tabulate
returns-in-8 c = arm_pair 8 c.in-8.is refl

pub returns-in-9 : goal.returns-in-9
unfolding pairs parted ascii word tabulate
returns-in-9 c = arm_pair 9 c.in-9.is refl

pub returns-in-10 : goal.returns-in-10
unfolding pairs parted ascii word tabulate
returns-in-10 c = arm_pair 10 c.in-10.is refl

pub returns-in-11 : goal.returns-in-11
unfolding pairs parted ascii word tabulate
returns-in-11 c = arm_pair 11 c.in-11.is refl

pub returns-in-12 : goal.returns-in-12
unfolding pairs parted ascii word tabulate
returns-in-12 c = arm_pair 12 c.in-12.is refl

pub returns-in-13 : goal.returns-in-13
unfolding pairs parted ascii word tabulate
returns-in-13 c = arm_pair 13 c.in-13.is refl

pub returns-in-14 : goal.returns-in-14
unfolding pairs parted ascii word tabulate
returns-in-14 c = arm_pair 14 c.in-14.is refl

pub returns-in-15 : goal.returns-in-15
unfolding pairs parted ascii word tabulate
returns-in-15 c = arm_pair 15 c.in-15.is refl

pub returns-in-16 : goal.returns-in-16
unfolding pairs parted ascii word tabulate
returns-in-16 c = arm_pair 16 c.in-16.is refl

pub returns-in-17 : goal.returns-in-17
unfolding pairs parted ascii word tabulate
returns-in-17 c = arm_pair 17 c.in-17.is refl

pub returns-in-18 : goal.returns-in-18
unfolding pairs parted ascii word tabulate
returns-in-18 c = arm_pair 18 c.in-18.is refl

pub returns-in-19 : goal.returns-in-19
unfolding pairs parted ascii word tabulate
returns-in-19 c = arm_pair 19 c.in-19.is refl

pub returns-in-20 : goal.returns-in-20
unfolding pairs parted ascii word tabulate
returns-in-20 c = arm_pair 20 c.in-20.is refl

pub returns-in-21 : goal.returns-in-21
unfolding pairs parted ascii word tabulate
returns-in-21 c = arm_pair 21 c.in-21.is refl

pub returns-in-22 : goal.returns-in-22
unfolding pairs parted ascii word tabulate
returns-in-22 c = arm_pair 22 c.in-22.is refl

pub returns-in-23 : goal.returns-in-23
unfolding pairs parted ascii word tabulate
returns-in-23 c = arm_pair 23 c.in-23.is refl

pub returns-in-24 : goal.returns-in-24
unfolding pairs parted ascii word tabulate
returns-in-24 c = arm_pair 24 c.in-24.is refl

pub returns-in-25 : goal.returns-in-25
unfolding pairs parted ascii word tabulate
returns-in-25 c = arm_pair 25 c.in-25.is refl

pub returns-in-26 : goal.returns-in-26
unfolding pairs parted ascii word tabulate
returns-in-26 c = arm_pair 26 c.in-26.is refl

pub returns-in-27 : goal.returns-in-27
unfolding pairs parted ascii word tabulate
returns-in-27 c = arm_pair 27 c.in-27.is refl

pub returns-in-28 : goal.returns-in-28
unfolding pairs parted ascii word tabulate
returns-in-28 c = arm_pair 28 c.in-28.is refl

pub returns-in-29 : goal.returns-in-29
unfolding pairs parted ascii word tabulate
returns-in-29 c = arm_pair 29 c.in-29.is refl

pub returns-in-30 : goal.returns-in-30
unfolding pairs parted ascii word tabulate
returns-in-30 c = arm_pair 30 c.in-30.is refl

pub returns-in-31 : goal.returns-in-31
unfolding pairs parted ascii word tabulate
returns-in-31 c = arm_pair 31 c.in-31.is refl

pub returns-in-32 : goal.returns-in-32
unfolding pairs parted ascii word tabulate
returns-in-32 c = arm_pair 32 c.in-32.is refl

pub returns-in-33 : goal.returns-in-33
unfolding pairs parted ascii word tabulate
returns-in-33 c = arm_pair 33 c.in-33.is refl

pub returns-in-34 : goal.returns-in-34
unfolding pairs parted ascii word tabulate
returns-in-34 c = arm_pair 34 c.in-34.is refl

pub returns-in-35 : goal.returns-in-35
unfolding pairs parted ascii word tabulate
returns-in-35 c = arm_pair 35 c.in-35.is refl

pub returns-in-36 : goal.returns-in-36
unfolding pairs parted ascii word tabulate
returns-in-36 c = arm_pair 36 c.in-36.is refl

pub returns-in-37 : goal.returns-in-37
unfolding pairs parted ascii word tabulate
returns-in-37 c = arm_pair 37 c.in-37.is refl

pub returns-in-38 : goal.returns-in-38
unfolding pairs parted ascii word tabulate
returns-in-38 c = arm_pair 38 c.in-38.is refl

pub returns-in-39 : goal.returns-in-39
unfolding pairs parted ascii word tabulate
returns-in-39 c = arm_pair 39 c.in-39.is refl

pub returns-in-40 : goal.returns-in-40
unfolding pairs parted ascii word tabulate
returns-in-40 c = arm_pair 40 c.in-40.is refl

pub returns-in-41 : goal.returns-in-41
unfolding pairs parted ascii word tabulate
returns-in-41 c = arm_pair 41 c.in-41.is refl

pub returns-in-42 : goal.returns-in-42
unfolding pairs parted ascii word tabulate
returns-in-42 c = arm_pair 42 c.in-42.is refl

pub returns-in-43 : goal.returns-in-43
unfolding pairs parted ascii word tabulate
returns-in-43 c = arm_pair 43 c.in-43.is refl

pub returns-in-44 : goal.returns-in-44
unfolding pairs parted ascii word tabulate
returns-in-44 c = arm_pair 44 c.in-44.is refl

pub returns-in-45 : goal.returns-in-45
unfolding pairs parted ascii word tabulate
returns-in-45 c = arm_pair 45 c.in-45.is refl

pub returns-in-46 : goal.returns-in-46
unfolding pairs parted ascii word tabulate
returns-in-46 c = arm_pair 46 c.in-46.is refl

pub returns-in-47 : goal.returns-in-47
unfolding pairs parted ascii word tabulate
returns-in-47 c = arm_pair 47 c.in-47.is refl

pub returns-in-48 : goal.returns-in-48
unfolding pairs parted ascii word tabulate
returns-in-48 c = arm_pair 48 c.in-48.is refl

pub returns-in-49 : goal.returns-in-49
unfolding pairs parted ascii word tabulate
returns-in-49 c = arm_pair 49 c.in-49.is refl

pub returns-in-50 : goal.returns-in-50
unfolding pairs parted ascii word tabulate
returns-in-50 c = arm_pair 50 c.in-50.is refl

pub returns-in-51 : goal.returns-in-51
unfolding pairs parted ascii word tabulate
returns-in-51 c = arm_pair 51 c.in-51.is refl

pub returns-in-52 : goal.returns-in-52
unfolding pairs parted ascii word tabulate
returns-in-52 c = arm_pair 52 c.in-52.is refl

pub returns-in-53 : goal.returns-in-53
unfolding pairs parted ascii word tabulate
returns-in-53 c = arm_pair 53 c.in-53.is refl

pub returns-in-54 : goal.returns-in-54
unfolding pairs parted ascii word tabulate
returns-in-54 c = arm_pair 54 c.in-54.is refl

pub returns-in-55 : goal.returns-in-55
unfolding pairs parted ascii word tabulate
returns-in-55 c = arm_pair 55 c.in-55.is refl

pub returns-in-56 : goal.returns-in-56
unfolding pairs parted ascii word tabulate
returns-in-56 c = arm_pair 56 c.in-56.is refl

pub returns-in-57 : goal.returns-in-57
unfolding pairs parted ascii word tabulate
returns-in-57 c = arm_pair 57 c.in-57.is refl

pub returns-in-58 : goal.returns-in-58
unfolding pairs parted ascii word tabulate
returns-in-58 c = arm_pair 58 c.in-58.is refl

pub returns-in-59 : goal.returns-in-59
unfolding pairs parted ascii word tabulate
returns-in-59 c = arm_pair 59 c.in-59.is refl

pub returns-in-60 : goal.returns-in-60
unfolding pairs parted ascii word tabulate
returns-in-60 c = arm_pair 60 c.in-60.is refl

pub returns-in-61 : goal.returns-in-61
unfolding pairs parted ascii word tabulate
returns-in-61 c = arm_pair 61 c.in-61.is refl

pub returns-in-62 : goal.returns-in-62
unfolding pairs parted ascii word tabulate
returns-in-62 c = arm_pair 62 c.in-62.is refl

pub returns-in-63 : goal.returns-in-63
unfolding pairs parted ascii word tabulate
returns-in-63 c = arm_pair 63 c.in-63.is refl

pub returns-in-64 : goal.returns-in-64
unfolding pairs parted ascii word tabulate
returns-in-64 c = arm_pair 64 c.in-64.is refl

pub returns-in-65 : goal.returns-in-65
unfolding pairs parted ascii word tabulate
returns-in-65 c = arm_pair 65 c.in-65.is refl

pub returns-in-66 : goal.returns-in-66
unfolding pairs parted ascii word tabulate
returns-in-66 c = arm_pair 66 c.in-66.is refl

pub returns-in-67 : goal.returns-in-67
unfolding pairs parted ascii word tabulate
returns-in-67 c = arm_pair 67 c.in-67.is refl

pub returns-in-68 : goal.returns-in-68
unfolding pairs parted ascii word tabulate
returns-in-68 c = arm_pair 68 c.in-68.is refl

pub returns-in-69 : goal.returns-in-69
unfolding pairs parted ascii word tabulate
returns-in-69 c = arm_pair 69 c.in-69.is refl

pub returns-in-70 : goal.returns-in-70
unfolding pairs parted ascii word tabulate
returns-in-70 c = arm_pair 70 c.in-70.is refl

pub returns-in-71 : goal.returns-in-71
unfolding pairs parted ascii word tabulate
returns-in-71 c = arm_pair 71 c.in-71.is refl

pub returns-in-72 : goal.returns-in-72
unfolding pairs parted ascii word tabulate
returns-in-72 c = arm_pair 72 c.in-72.is refl

pub returns-in-73 : goal.returns-in-73
unfolding pairs parted ascii word tabulate
returns-in-73 c = arm_pair 73 c.in-73.is refl

pub returns-in-74 : goal.returns-in-74
unfolding pairs parted ascii word tabulate
returns-in-74 c = arm_pair 74 c.in-74.is refl

pub returns-in-75 : goal.returns-in-75
unfolding pairs parted ascii word tabulate
returns-in-75 c = arm_pair 75 c.in-75.is refl

pub returns-in-76 : goal.returns-in-76
unfolding pairs parted ascii word tabulate
returns-in-76 c = arm_pair 76 c.in-76.is refl

pub returns-in-77 : goal.returns-in-77
unfolding pairs parted ascii word tabulate
returns-in-77 c = arm_pair 77 c.in-77.is refl

pub returns-in-78 : goal.returns-in-78
unfolding pairs parted ascii word tabulate
returns-in-78 c = arm_pair 78 c.in-78.is refl

pub returns-in-79 : goal.returns-in-79
unfolding pairs parted ascii word tabulate
returns-in-79 c = arm_pair 79 c.in-79.is refl

pub returns-in-80 : goal.returns-in-80
unfolding pairs parted ascii word tabulate
returns-in-80 c = arm_pair 80 c.in-80.is refl

pub returns-in-81 : goal.returns-in-81
unfolding pairs parted ascii word tabulate
returns-in-81 c = arm_pair 81 c.in-81.is refl

pub returns-in-82 : goal.returns-in-82
unfolding pairs parted ascii word tabulate
returns-in-82 c = arm_pair 82 c.in-82.is refl

pub returns-in-83 : goal.returns-in-83
unfolding pairs parted ascii word tabulate
returns-in-83 c = arm_pair 83 c.in-83.is refl

pub returns-in-84 : goal.returns-in-84
unfolding pairs parted ascii word tabulate
returns-in-84 c = arm_pair 84 c.in-84.is refl

pub returns-in-85 : goal.returns-in-85
unfolding pairs parted ascii word tabulate
returns-in-85 c = arm_pair 85 c.in-85.is refl

pub returns-in-86 : goal.returns-in-86
unfolding pairs parted ascii word tabulate
returns-in-86 c = arm_pair 86 c.in-86.is refl

pub returns-in-87 : goal.returns-in-87
unfolding pairs parted ascii word tabulate
returns-in-87 c = arm_pair 87 c.in-87.is refl

pub returns-in-88 : goal.returns-in-88
unfolding pairs parted ascii word tabulate
returns-in-88 c = arm_pair 88 c.in-88.is refl

pub returns-in-89 : goal.returns-in-89
unfolding pairs parted ascii word tabulate
returns-in-89 c = arm_pair 89 c.in-89.is refl

pub returns-in-90 : goal.returns-in-90
unfolding pairs parted ascii word tabulate
returns-in-90 c = arm_pair 90 c.in-90.is refl

pub returns-in-91 : goal.returns-in-91
unfolding pairs parted ascii word tabulate
returns-in-91 c = arm_pair 91 c.in-91.is refl

pub returns-in-92 : goal.returns-in-92
unfolding pairs parted ascii word tabulate
returns-in-92 c = arm_pair 92 c.in-92.is refl

pub returns-in-93 : goal.returns-in-93
unfolding pairs parted ascii word tabulate
returns-in-93 c = arm_pair 93 c.in-93.is refl

pub returns-in-94 : goal.returns-in-94
unfolding pairs parted ascii word tabulate
returns-in-94 c = arm_pair 94 c.in-94.is refl

pub returns-in-95 : goal.returns-in-95
unfolding pairs parted ascii word tabulate
returns-in-95 c = arm_pair 95 c.in-95.is refl

pub returns-in-96 : goal.returns-in-96
unfolding pairs parted ascii word tabulate
returns-in-96 c = arm_pair 96 c.in-96.is refl

pub returns-in-97 : goal.returns-in-97
unfolding pairs parted ascii word tabulate
returns-in-97 c = arm_pair 97 c.in-97.is refl

pub returns-in-98 : goal.returns-in-98
unfolding pairs parted ascii word tabulate
returns-in-98 c = arm_pair 98 c.in-98.is refl

pub returns-in-99 : goal.returns-in-99
unfolding pairs parted ascii word tabulate
returns-in-99 c = arm_pair 99 c.in-99.is refl

pub returns-in_default : goal.returns-in_default
unfolding pairs parted ascii word tabulate
returns-in_default c = absurd (no_rest _ c.in_default.in_default-own.rest c.requires)
