-- `lookup::place_of` meets its contract: each arm's key is the name's number at its place, and the keys are all names.
use lib.Dec.{lit<}
use Rattle.word.specs.Word.{word}
use Rattle.names.specs.Names.{ascii, parted, named, boolean_names, number_names, string_names, all_names}
use Rattle.names.specs.Naming.{packed, packed_names}
use Rattle.lookup.proofs.Keys.{key_place, rest_place}
use Rattle.lookup.proofs.place_of.Goals as goal

pub returns-in-30562 : goal.returns-in-30562
unfolding packed_names packed word all_names boolean_names number_names string_names named parted ascii
returns-in-30562 c = key_place 0 (lit< tt) c.in-30562.is

pub returns-in-28001 : goal.returns-in-28001
unfolding packed_names packed word all_names boolean_names number_names string_names named parted ascii
returns-in-28001 c = key_place 1 (lit< tt) c.in-28001.is

pub returns-in-6452088 : goal.returns-in-6452088
unfolding packed_names packed word all_names boolean_names number_names string_names named parted ascii
returns-in-6452088 c = key_place 2 (lit< tt) c.in-6452088.is

pub returns-in-7366776 : goal.returns-in-7366776
unfolding packed_names packed word all_names boolean_names number_names string_names named parted ascii
returns-in-7366776 c = key_place 3 (lit< tt) c.in-7366776.is

pub returns-in-1819174264 : goal.returns-in-1819174264
unfolding packed_names packed word all_names boolean_names number_names string_names named parted ascii
returns-in-1819174264 c = key_place 4 (lit< tt) c.in-1819174264.is

pub returns-in-28517 : goal.returns-in-28517
unfolding packed_names packed word all_names boolean_names number_names string_names named parted ascii
returns-in-28517 c = key_place 5 (lit< tt) c.in-28517.is

pub returns-in-28263 : goal.returns-in-28263
unfolding packed_names packed word all_names boolean_names number_names string_names named parted ascii
returns-in-28263 c = key_place 6 (lit< tt) c.in-28263.is

pub returns-in-25448 : goal.returns-in-25448
unfolding packed_names packed word all_names boolean_names number_names string_names named parted ascii
returns-in-25448 c = key_place 7 (lit< tt) c.in-25448.is

pub returns-in-28011 : goal.returns-in-28011
unfolding packed_names packed word all_names boolean_names number_names string_names named parted ascii
returns-in-28011 c = key_place 8 (lit< tt) c.in-28011.is

pub returns-in-29544 : goal.returns-in-29544
unfolding packed_names packed word all_names boolean_names number_names string_names named parted ascii
returns-in-29544 c = key_place 9 (lit< tt) c.in-29544.is

pub returns-in-28265 : goal.returns-in-28265
unfolding packed_names packed word all_names boolean_names number_names string_names named parted ascii
returns-in-28265 c = key_place 10 (lit< tt) c.in-28265.is

pub returns-in-24932 : goal.returns-in-24932
unfolding packed_names packed word all_names boolean_names number_names string_names named parted ascii
returns-in-24932 c = key_place 11 (lit< tt) c.in-24932.is

pub returns-in-25188 : goal.returns-in-25188
unfolding packed_names packed word all_names boolean_names number_names string_names named parted ascii
returns-in-25188 c = key_place 12 (lit< tt) c.in-25188.is

pub returns-in-7498093 : goal.returns-in-7498093
unfolding packed_names packed word all_names boolean_names number_names string_names named parted ascii
returns-in-7498093 c = key_place 13 (lit< tt) c.in-7498093.is

pub returns-in-1919382381 : goal.returns-in-1919382381
unfolding packed_names packed word all_names boolean_names number_names string_names named parted ascii
returns-in-1919382381 c = key_place 14 (lit< tt) c.in-1919382381.is

pub returns-in-29551 : goal.returns-in-29551
unfolding packed_names packed word all_names boolean_names number_names string_names named parted ascii
returns-in-29551 c = key_place 15 (lit< tt) c.in-29551.is

pub returns-in-461430879077 : goal.returns-in-461430879077
unfolding packed_names packed word all_names boolean_names number_names string_names named parted ascii
returns-in-461430879077 c = key_place 16 (lit< tt) c.in-461430879077.is

pub returns-in-29816 : goal.returns-in-29816
unfolding packed_names packed word all_names boolean_names number_names string_names named parted ascii
returns-in-29816 c = key_place 17 (lit< tt) c.in-29816.is

pub returns-in-31336 : goal.returns-in-31336
unfolding packed_names packed word all_names boolean_names number_names string_names named parted ascii
returns-in-31336 c = key_place 18 (lit< tt) c.in-31336.is

pub returns-in-27765 : goal.returns-in-27765
unfolding packed_names packed word all_names boolean_names number_names string_names named parted ascii
returns-in-27765 c = key_place 19 (lit< tt) c.in-27765.is

pub returns-in-7237496 : goal.returns-in-7237496
unfolding packed_names packed word all_names boolean_names number_names string_names named parted ascii
returns-in-7237496 c = key_place 20 (lit< tt) c.in-7237496.is

pub returns-in-1852799086 : goal.returns-in-1852799086
unfolding packed_names packed word all_names boolean_names number_names string_names named parted ascii
returns-in-1852799086 c = key_place 21 (lit< tt) c.in-1852799086.is

pub returns-in-1765106541 : goal.returns-in-1765106541
unfolding packed_names packed word all_names boolean_names number_names string_names named parted ascii
returns-in-1765106541 c = key_place 22 (lit< tt) c.in-1765106541.is

pub returns-in-1937008739 : goal.returns-in-1937008739
unfolding packed_names packed word all_names boolean_names number_names string_names named parted ascii
returns-in-1937008739 c = key_place 23 (lit< tt) c.in-1937008739.is

pub returns-in-427037979246 : goal.returns-in-427037979246
unfolding packed_names packed word all_names boolean_names number_names string_names named parted ascii
returns-in-427037979246 c = key_place 24 (lit< tt) c.in-427037979246.is

pub returns-in-6516846 : goal.returns-in-6516846
unfolding packed_names packed word all_names boolean_names number_names string_names named parted ascii
returns-in-6516846 c = key_place 25 (lit< tt) c.in-6516846.is

pub returns-in-491294778478 : goal.returns-in-491294778478
unfolding packed_names packed word all_names boolean_names number_names string_names named parted ascii
returns-in-491294778478 c = key_place 26 (lit< tt) c.in-491294778478.is

pub returns-in-6513507 : goal.returns-in-6513507
unfolding packed_names packed word all_names boolean_names number_names string_names named parted ascii
returns-in-6513507 c = key_place 27 (lit< tt) c.in-6513507.is

pub returns-in-6644578 : goal.returns-in-6644578
unfolding packed_names packed word all_names boolean_names number_names string_names named parted ascii
returns-in-6644578 c = key_place 28 (lit< tt) c.in-6644578.is

pub returns-in-7564392 : goal.returns-in-7564392
unfolding packed_names packed word all_names boolean_names number_names string_names named parted ascii
returns-in-7564392 c = key_place 29 (lit< tt) c.in-7564392.is

pub returns-in-1634756728 : goal.returns-in-1634756728
unfolding packed_names packed word all_names boolean_names number_names string_names named parted ascii
returns-in-1634756728 c = key_place 30 (lit< tt) c.in-1634756728.is

pub returns-in-1836610147 : goal.returns-in-1836610147
unfolding packed_names packed word all_names boolean_names number_names string_names named parted ascii
returns-in-1836610147 c = key_place 31 (lit< tt) c.in-1836610147.is

pub returns-in-521627328868 : goal.returns-in-521627328868
unfolding packed_names packed word all_names boolean_names number_names string_names named parted ascii
returns-in-521627328868 c = key_place 32 (lit< tt) c.in-521627328868.is

pub returns-in-1634760312 : goal.returns-in-1634760312
unfolding packed_names packed word all_names boolean_names number_names string_names named parted ascii
returns-in-1634760312 c = key_place 33 (lit< tt) c.in-1634760312.is

pub returns-in-7168371 : goal.returns-in-7168371
unfolding packed_names packed word all_names boolean_names number_names string_names named parted ascii
returns-in-7168371 c = key_place 34 (lit< tt) c.in-7168371.is

pub returns-in-2020175971 : goal.returns-in-2020175971
unfolding packed_names packed word all_names boolean_names number_names string_names named parted ascii
returns-in-2020175971 c = key_place 35 (lit< tt) c.in-2020175971.is

pub returns-in-2020175980 : goal.returns-in-2020175980
unfolding packed_names packed word all_names boolean_names number_names string_names named parted ascii
returns-in-2020175980 c = key_place 36 (lit< tt) c.in-2020175980.is

pub returns-in-1936486243 : goal.returns-in-1936486243
unfolding packed_names packed word all_names boolean_names number_names string_names named parted ascii
returns-in-1936486243 c = key_place 37 (lit< tt) c.in-1936486243.is

pub returns-in-29801 : goal.returns-in-29801
unfolding packed_names packed word all_names boolean_names number_names string_names named parted ascii
returns-in-29801 c = key_place 38 (lit< tt) c.in-29801.is

pub returns-in-495622973804 : goal.returns-in-495622973804
unfolding packed_names packed word all_names boolean_names number_names string_names named parted ascii
returns-in-495622973804 c = key_place 39 (lit< tt) c.in-495622973804.is

pub returns-in-28012 : goal.returns-in-28012
unfolding packed_names packed word all_names boolean_names number_names string_names named parted ascii
returns-in-28012 c = key_place 40 (lit< tt) c.in-28012.is

pub returns-in-6516088 : goal.returns-in-6516088
unfolding packed_names packed word all_names boolean_names number_names string_names named parted ascii
returns-in-6516088 c = key_place 41 (lit< tt) c.in-6516088.is

pub returns-in-25200 : goal.returns-in-25200
unfolding packed_names packed word all_names boolean_names number_names string_names named parted ascii
returns-in-25200 c = key_place 42 (lit< tt) c.in-25200.is

pub returns-in-29814 : goal.returns-in-29814
unfolding packed_names packed word all_names boolean_names number_names string_names named parted ascii
returns-in-29814 c = key_place 43 (lit< tt) c.in-29814.is

pub returns-in-7107447 : goal.returns-in-7107447
unfolding packed_names packed word all_names boolean_names number_names string_names named parted ascii
returns-in-7107447 c = key_place 44 (lit< tt) c.in-7107447.is

pub returns-in-1650551918 : goal.returns-in-1650551918
unfolding packed_names packed word all_names boolean_names number_names string_names named parted ascii
returns-in-1650551918 c = key_place 45 (lit< tt) c.in-1650551918.is

pub returns-in-26732 : goal.returns-in-26732
unfolding packed_names packed word all_names boolean_names number_names string_names named parted ascii
returns-in-26732 c = key_place 46 (lit< tt) c.in-26732.is

pub returns-in-30572 : goal.returns-in-30572
unfolding packed_names packed word all_names boolean_names number_names string_names named parted ascii
returns-in-30572 c = key_place 47 (lit< tt) c.in-30572.is

pub returns-in-24941 : goal.returns-in-24941
unfolding packed_names packed word all_names boolean_names number_names string_names named parted ascii
returns-in-24941 c = key_place 48 (lit< tt) c.in-24941.is

pub returns-in-1836412535 : goal.returns-in-1836412535
unfolding packed_names packed word all_names boolean_names number_names string_names named parted ascii
returns-in-1836412535 c = key_place 49 (lit< tt) c.in-1836412535.is

pub returns-in-126935332843363 : goal.returns-in-126935332843363
unfolding packed_names packed word all_names boolean_names number_names string_names named parted ascii
returns-in-126935332843363 c = key_place 50 (lit< tt) c.in-126935332843363.is

pub returns-in-495840747888 : goal.returns-in-495840747888
unfolding packed_names packed word all_names boolean_names number_names string_names named parted ascii
returns-in-495840747888 c = key_place 51 (lit< tt) c.in-495840747888.is

pub returns-in-7758702 : goal.returns-in-7758702
unfolding packed_names packed word all_names boolean_names number_names string_names named parted ascii
returns-in-7758702 c = key_place 52 (lit< tt) c.in-7758702.is

pub returns-in-7627363 : goal.returns-in-7627363
unfolding packed_names packed word all_names boolean_names number_names string_names named parted ascii
returns-in-7627363 c = key_place 53 (lit< tt) c.in-7627363.is

pub returns-in-7103842 : goal.returns-in-7103842
unfolding packed_names packed word all_names boolean_names number_names string_names named parted ascii
returns-in-7103842 c = key_place 54 (lit< tt) c.in-7103842.is

pub returns-in-29283 : goal.returns-in-29283
unfolding packed_names packed word all_names boolean_names number_names string_names named parted ascii
returns-in-29283 c = key_place 55 (lit< tt) c.in-29283.is

pub returns-in-7500643 : goal.returns-in-7500643
unfolding packed_names packed word all_names boolean_names number_names string_names named parted ascii
returns-in-7500643 c = key_place 56 (lit< tt) c.in-7500643.is

pub returns-in-6513268 : goal.returns-in-6513268
unfolding packed_names packed word all_names boolean_names number_names string_names named parted ascii
returns-in-6513268 c = key_place 57 (lit< tt) c.in-6513268.is

pub returns-in-491260308579 : goal.returns-in-491260308579
unfolding packed_names packed word all_names boolean_names number_names string_names named parted ascii
returns-in-491260308579 c = key_place 58 (lit< tt) c.in-491260308579.is

pub returns-in-27749 : goal.returns-in-27749
unfolding packed_names packed word all_names boolean_names number_names string_names named parted ascii
returns-in-27749 c = key_place 59 (lit< tt) c.in-27749.is

pub returns-in-25701 : goal.returns-in-25701
unfolding packed_names packed word all_names boolean_names number_names string_names named parted ascii
returns-in-25701 c = key_place 60 (lit< tt) c.in-25701.is

pub returns-in-6385768 : goal.returns-in-6385768
unfolding packed_names packed word all_names boolean_names number_names string_names named parted ascii
returns-in-6385768 c = key_place 61 (lit< tt) c.in-6385768.is

pub returns-in-448344124771 : goal.returns-in-448344124771
unfolding packed_names packed word all_names boolean_names number_names string_names named parted ascii
returns-in-448344124771 c = key_place 62 (lit< tt) c.in-448344124771.is

pub returns-in-7370083 : goal.returns-in-7370083
unfolding packed_names packed word all_names boolean_names number_names string_names named parted ascii
returns-in-7370083 c = key_place 63 (lit< tt) c.in-7370083.is

pub returns-in-828667235 : goal.returns-in-828667235
unfolding packed_names packed word all_names boolean_names number_names string_names named parted ascii
returns-in-828667235 c = key_place 64 (lit< tt) c.in-828667235.is

pub returns-in-1701670760 : goal.returns-in-1701670760
unfolding packed_names packed word all_names boolean_names number_names string_names named parted ascii
returns-in-1701670760 c = key_place 65 (lit< tt) c.in-1701670760.is

pub returns-in-495690606947 : goal.returns-in-495690606947
unfolding packed_names packed word all_names boolean_names number_names string_names named parted ascii
returns-in-495690606947 c = key_place 66 (lit< tt) c.in-495690606947.is

pub returns-in-828536163 : goal.returns-in-828536163
unfolding packed_names packed word all_names boolean_names number_names string_names named parted ascii
returns-in-828536163 c = key_place 67 (lit< tt) c.in-828536163.is

pub returns-in-483005788781 : goal.returns-in-483005788781
unfolding packed_names packed word all_names boolean_names number_names string_names named parted ascii
returns-in-483005788781 c = key_place 68 (lit< tt) c.in-483005788781.is

pub returns-in-470071340643 : goal.returns-in-470071340643
unfolding packed_names packed word all_names boolean_names number_names string_names named parted ascii
returns-in-470071340643 c = key_place 69 (lit< tt) c.in-470071340643.is

pub returns-in-828798307 : goal.returns-in-828798307
unfolding packed_names packed word all_names boolean_names number_names string_names named parted ascii
returns-in-828798307 c = key_place 70 (lit< tt) c.in-828798307.is

pub returns-in-27756 : goal.returns-in-27756
unfolding packed_names packed word all_names boolean_names number_names string_names named parted ascii
returns-in-27756 c = key_place 71 (lit< tt) c.in-27756.is

pub returns-in-829781347 : goal.returns-in-829781347
unfolding packed_names packed word all_names boolean_names number_names string_names named parted ascii
returns-in-829781347 c = key_place 72 (lit< tt) c.in-829781347.is

pub returns-in-495690610275 : goal.returns-in-495690610275
unfolding packed_names packed word all_names boolean_names number_names string_names named parted ascii
returns-in-495690610275 c = key_place 73 (lit< tt) c.in-495690610275.is

pub returns-in-828924772 : goal.returns-in-828924772
unfolding packed_names packed word all_names boolean_names number_names string_names named parted ascii
returns-in-828924772 c = key_place 74 (lit< tt) c.in-828924772.is

pub returns-in-3239012 : goal.returns-in-3239012
unfolding packed_names packed word all_names boolean_names number_names string_names named parted ascii
returns-in-3239012 c = key_place 75 (lit< tt) c.in-3239012.is

pub returns-in-7107428 : goal.returns-in-7107428
unfolding packed_names packed word all_names boolean_names number_names string_names named parted ascii
returns-in-7107428 c = key_place 76 (lit< tt) c.in-7107428.is

pub returns-in-25704 : goal.returns-in-25704
unfolding packed_names packed word all_names boolean_names number_names string_names named parted ascii
returns-in-25704 c = key_place 77 (lit< tt) c.in-25704.is

pub returns-in-495588568435 : goal.returns-in-495588568435
unfolding packed_names packed word all_names boolean_names number_names string_names named parted ascii
returns-in-495588568435 c = key_place 78 (lit< tt) c.in-495588568435.is

pub returns-in-461413903458 : goal.returns-in-461413903458
unfolding packed_names packed word all_names boolean_names number_names string_names named parted ascii
returns-in-461413903458 c = key_place 79 (lit< tt) c.in-461413903458.is

pub returns-in-1684828002 : goal.returns-in-1684828002
unfolding packed_names packed word all_names boolean_names number_names string_names named parted ascii
returns-in-1684828002 c = key_place 80 (lit< tt) c.in-1684828002.is

pub returns-in-483005787507 : goal.returns-in-483005787507
unfolding packed_names packed word all_names boolean_names number_names string_names named parted ascii
returns-in-483005787507 c = key_place 81 (lit< tt) c.in-483005787507.is

pub returns-in-1667526003 : goal.returns-in-1667526003
unfolding packed_names packed word all_names boolean_names number_names string_names named parted ascii
returns-in-1667526003 c = key_place 82 (lit< tt) c.in-1667526003.is

pub returns-in-7170404 : goal.returns-in-7170404
unfolding packed_names packed word all_names boolean_names number_names string_names named parted ascii
returns-in-7170404 c = key_place 83 (lit< tt) c.in-7170404.is

pub returns-in-1919511923 : goal.returns-in-1919511923
unfolding packed_names packed word all_names boolean_names number_names string_names named parted ascii
returns-in-1919511923 c = key_place 84 (lit< tt) c.in-1919511923.is

pub returns-in-495690608233 : goal.returns-in-495690608233
unfolding packed_names packed word all_names boolean_names number_names string_names named parted ascii
returns-in-495690608233 c = key_place 85 (lit< tt) c.in-495690608233.is

pub returns-in-1953460848 : goal.returns-in-1953460848
unfolding packed_names packed word all_names boolean_names number_names string_names named parted ascii
returns-in-1953460848 c = key_place 86 (lit< tt) c.in-1953460848.is

pub returns-in-7759218 : goal.returns-in-7759218
unfolding packed_names packed word all_names boolean_names number_names string_names named parted ascii
returns-in-7759218 c = key_place 87 (lit< tt) c.in-7759218.is

pub returns-in-1869835635 : goal.returns-in-1869835635
unfolding packed_names packed word all_names boolean_names number_names string_names named parted ascii
returns-in-1869835635 c = key_place 88 (lit< tt) c.in-1869835635.is

pub returns-in-1819635059 : goal.returns-in-1819635059
unfolding packed_names packed word all_names boolean_names number_names string_names named parted ascii
returns-in-1819635059 c = key_place 89 (lit< tt) c.in-1819635059.is

pub returns-in-6841189 : goal.returns-in-6841189
unfolding packed_names packed word all_names boolean_names number_names string_names named parted ascii
returns-in-6841189 c = key_place 90 (lit< tt) c.in-6841189.is

pub returns-in-495588568434 : goal.returns-in-495588568434
unfolding packed_names packed word all_names boolean_names number_names string_names named parted ascii
returns-in-495588568434 c = key_place 91 (lit< tt) c.in-495588568434.is

pub returns-in-812803955 : goal.returns-in-812803955
unfolding packed_names packed word all_names boolean_names number_names string_names named parted ascii
returns-in-812803955 c = key_place 92 (lit< tt) c.in-812803955.is

pub returns-in-483005787506 : goal.returns-in-483005787506
unfolding packed_names packed word all_names boolean_names number_names string_names named parted ascii
returns-in-483005787506 c = key_place 93 (lit< tt) c.in-483005787506.is

pub returns-in-1667526002 : goal.returns-in-1667526002
unfolding packed_names packed word all_names boolean_names number_names string_names named parted ascii
returns-in-1667526002 c = key_place 94 (lit< tt) c.in-1667526002.is

pub returns-in-1919511922 : goal.returns-in-1919511922
unfolding packed_names packed word all_names boolean_names number_names string_names named parted ascii
returns-in-1919511922 c = key_place 95 (lit< tt) c.in-1919511922.is

pub returns-in-1869835634 : goal.returns-in-1869835634
unfolding packed_names packed word all_names boolean_names number_names string_names named parted ascii
returns-in-1869835634 c = key_place 96 (lit< tt) c.in-1869835634.is

pub returns-in-1819635058 : goal.returns-in-1819635058
unfolding packed_names packed word all_names boolean_names number_names string_names named parted ascii
returns-in-1819635058 c = key_place 97 (lit< tt) c.in-1819635058.is

pub returns-in-448612363366 : goal.returns-in-448612363366
unfolding packed_names packed word all_names boolean_names number_names string_names named parted ascii
returns-in-448612363366 c = key_place 98 (lit< tt) c.in-448612363366.is

pub returns-in-26214 : goal.returns-in-26214
unfolding packed_names packed word all_names boolean_names number_names string_names named parted ascii
returns-in-26214 c = key_place 99 (lit< tt) c.in-26214.is

pub returns-in-7107430 : goal.returns-in-7107430
unfolding packed_names packed word all_names boolean_names number_names string_names named parted ascii
returns-in-7107430 c = key_place 100 (lit< tt) c.in-7107430.is

pub returns-in-3240809 : goal.returns-in-3240809
unfolding packed_names packed word all_names boolean_names number_names string_names named parted ascii
returns-in-3240809 c = key_place 101 (lit< tt) c.in-3240809.is

pub returns-in-3306345 : goal.returns-in-3306345
unfolding packed_names packed word all_names boolean_names number_names string_names named parted ascii
returns-in-3306345 c = key_place 102 (lit< tt) c.in-3306345.is

pub returns-in-3371881 : goal.returns-in-3371881
unfolding packed_names packed word all_names boolean_names number_names string_names named parted ascii
returns-in-3371881 c = key_place 103 (lit< tt) c.in-3371881.is

pub returns-in-26217 : goal.returns-in-26217
unfolding packed_names packed word all_names boolean_names number_names string_names named parted ascii
returns-in-26217 c = key_place 104 (lit< tt) c.in-26217.is

pub returns-in-828924777 : goal.returns-in-828924777
unfolding packed_names packed word all_names boolean_names number_names string_names named parted ascii
returns-in-828924777 c = key_place 105 (lit< tt) c.in-828924777.is

pub returns-in-3239017 : goal.returns-in-3239017
unfolding packed_names packed word all_names boolean_names number_names string_names named parted ascii
returns-in-3239017 c = key_place 106 (lit< tt) c.in-3239017.is

pub returns-in-28777 : goal.returns-in-28777
unfolding packed_names packed word all_names boolean_names number_names string_names named parted ascii
returns-in-28777 c = key_place 107 (lit< tt) c.in-28777.is

pub returns-in-7561835 : goal.returns-in-7561835
unfolding packed_names packed word all_names boolean_names number_names string_names named parted ascii
returns-in-7561835 c = key_place 108 (lit< tt) c.in-7561835.is

pub returns-in-1667396715 : goal.returns-in-1667396715
unfolding packed_names packed word all_names boolean_names number_names string_names named parted ascii
returns-in-1667396715 c = key_place 109 (lit< tt) c.in-1667396715.is

pub returns-in-1919705963 : goal.returns-in-1919705963
unfolding packed_names packed word all_names boolean_names number_names string_names named parted ascii
returns-in-1919705963 c = key_place 110 (lit< tt) c.in-1919705963.is

pub returns-in-422541812587 : goal.returns-in-422541812587
unfolding packed_names packed word all_names boolean_names number_names string_names named parted ascii
returns-in-422541812587 c = key_place 111 (lit< tt) c.in-422541812587.is

pub returns-in-212204741739 : goal.returns-in-212204741739
unfolding packed_names packed word all_names boolean_names number_names string_names named parted ascii
returns-in-212204741739 c = key_place 112 (lit< tt) c.in-212204741739.is

pub returns-in-829187179 : goal.returns-in-829187179
unfolding packed_names packed word all_names boolean_names number_names string_names named parted ascii
returns-in-829187179 c = key_place 113 (lit< tt) c.in-829187179.is

pub returns-in-212138812267 : goal.returns-in-212138812267
unfolding packed_names packed word all_names boolean_names number_names string_names named parted ascii
returns-in-212138812267 c = key_place 114 (lit< tt) c.in-212138812267.is

pub returns-in-491395052139 : goal.returns-in-491395052139
unfolding packed_names packed word all_names boolean_names number_names string_names named parted ascii
returns-in-491395052139 c = key_place 115 (lit< tt) c.in-491395052139.is

pub returns-in-7103851 : goal.returns-in-7103851
unfolding packed_names packed word all_names boolean_names number_names string_names named parted ascii
returns-in-7103851 c = key_place 116 (lit< tt) c.in-7103851.is

pub returns-in-6579563 : goal.returns-in-6579563
unfolding packed_names packed word all_names boolean_names number_names string_names named parted ascii
returns-in-6579563 c = key_place 117 (lit< tt) c.in-6579563.is

pub returns-in-3171947 : goal.returns-in-3171947
unfolding packed_names packed word all_names boolean_names number_names string_names named parted ascii
returns-in-3171947 c = key_place 118 (lit< tt) c.in-3171947.is

pub returns-in-3237483 : goal.returns-in-3237483
unfolding packed_names packed word all_names boolean_names number_names string_names named parted ascii
returns-in-3237483 c = key_place 119 (lit< tt) c.in-3237483.is

pub returns-in-808543851 : goal.returns-in-808543851
unfolding packed_names packed word all_names boolean_names number_names string_names named parted ascii
returns-in-808543851 c = key_place 120 (lit< tt) c.in-808543851.is

pub returns-in-3303019 : goal.returns-in-3303019
unfolding packed_names packed word all_names boolean_names number_names string_names named parted ascii
returns-in-3303019 c = key_place 121 (lit< tt) c.in-3303019.is

pub returns-in-3368555 : goal.returns-in-3368555
unfolding packed_names packed word all_names boolean_names number_names string_names named parted ascii
returns-in-3368555 c = key_place 122 (lit< tt) c.in-3368555.is

pub returns-in-3434091 : goal.returns-in-3434091
unfolding packed_names packed word all_names boolean_names number_names string_names named parted ascii
returns-in-3434091 c = key_place 123 (lit< tt) c.in-3434091.is

pub returns-in-3499627 : goal.returns-in-3499627
unfolding packed_names packed word all_names boolean_names number_names string_names named parted ascii
returns-in-3499627 c = key_place 124 (lit< tt) c.in-3499627.is

pub returns-in-3565163 : goal.returns-in-3565163
unfolding packed_names packed word all_names boolean_names number_names string_names named parted ascii
returns-in-3565163 c = key_place 125 (lit< tt) c.in-3565163.is

pub returns-in-3630699 : goal.returns-in-3630699
unfolding packed_names packed word all_names boolean_names number_names string_names named parted ascii
returns-in-3630699 c = key_place 126 (lit< tt) c.in-3630699.is

pub returns-in-3696235 : goal.returns-in-3696235
unfolding packed_names packed word all_names boolean_names number_names string_names named parted ascii
returns-in-3696235 c = key_place 127 (lit< tt) c.in-3696235.is

pub returns-in-3761771 : goal.returns-in-3761771
unfolding packed_names packed word all_names boolean_names number_names string_names named parted ascii
returns-in-3761771 c = key_place 128 (lit< tt) c.in-3761771.is

pub returns-in-435627714667 : goal.returns-in-435627714667
unfolding packed_names packed word all_names boolean_names number_names string_names named parted ascii
returns-in-435627714667 c = key_place 129 (lit< tt) c.in-435627714667.is

pub returns-in-212204743019 : goal.returns-in-212204743019
unfolding packed_names packed word all_names boolean_names number_names string_names named parted ascii
returns-in-212204743019 c = key_place 130 (lit< tt) c.in-212204743019.is

pub returns-in-829188459 : goal.returns-in-829188459
unfolding packed_names packed word all_names boolean_names number_names string_names named parted ascii
returns-in-829188459 c = key_place 131 (lit< tt) c.in-829188459.is

pub returns-in-212105257835 : goal.returns-in-212105257835
unfolding packed_names packed word all_names boolean_names number_names string_names named parted ascii
returns-in-212105257835 c = key_place 132 (lit< tt) c.in-212105257835.is

pub returns-in-7105643 : goal.returns-in-7105643
unfolding packed_names packed word all_names boolean_names number_names string_names named parted ascii
returns-in-7105643 c = key_place 133 (lit< tt) c.in-7105643.is

pub returns-in-7368299 : goal.returns-in-7368299
unfolding packed_names packed word all_names boolean_names number_names string_names named parted ascii
returns-in-7368299 c = key_place 134 (lit< tt) c.in-7368299.is

pub returns-in-7368811 : goal.returns-in-7368811
unfolding packed_names packed word all_names boolean_names number_names string_names named parted ascii
returns-in-7368811 c = key_place 135 (lit< tt) c.in-7368811.is

pub returns-in-212172366699 : goal.returns-in-212172366699
unfolding packed_names packed word all_names boolean_names number_names string_names named parted ascii
returns-in-212172366699 c = key_place 136 (lit< tt) c.in-212172366699.is

pub returns-in-1684957547 : goal.returns-in-1684957547
unfolding packed_names packed word all_names boolean_names number_names string_names named parted ascii
returns-in-1684957547 c = key_place 137 (lit< tt) c.in-1684957547.is

pub returns-in-6910571 : goal.returns-in-6910571
unfolding packed_names packed word all_names boolean_names number_names string_names named parted ascii
returns-in-6910571 c = key_place 138 (lit< tt) c.in-6910571.is

pub returns-in-1937008747 : goal.returns-in-1937008747
unfolding packed_names packed word all_names boolean_names number_names string_names named parted ascii
returns-in-1937008747 c = key_place 139 (lit< tt) c.in-1937008747.is

pub returns-in-212424024939 : goal.returns-in-212424024939
unfolding packed_names packed word all_names boolean_names number_names string_names named parted ascii
returns-in-212424024939 c = key_place 140 (lit< tt) c.in-212424024939.is

pub returns-in-2020306290 : goal.returns-in-2020306290
unfolding packed_names packed word all_names boolean_names number_names string_names named parted ascii
returns-in-2020306290 c = key_place 141 (lit< tt) c.in-2020306290.is

pub returns-in-2020306291 : goal.returns-in-2020306291
unfolding packed_names packed word all_names boolean_names number_names string_names named parted ascii
returns-in-2020306291 c = key_place 142 (lit< tt) c.in-2020306291.is

pub returns-in-3171948 : goal.returns-in-3171948
unfolding packed_names packed word all_names boolean_names number_names string_names named parted ascii
returns-in-3171948 c = key_place 143 (lit< tt) c.in-3171948.is

pub returns-in-3237484 : goal.returns-in-3237484
unfolding packed_names packed word all_names boolean_names number_names string_names named parted ascii
returns-in-3237484 c = key_place 144 (lit< tt) c.in-3237484.is

pub returns-in-808543852 : goal.returns-in-808543852
unfolding packed_names packed word all_names boolean_names number_names string_names named parted ascii
returns-in-808543852 c = key_place 145 (lit< tt) c.in-808543852.is

pub returns-in-3303020 : goal.returns-in-3303020
unfolding packed_names packed word all_names boolean_names number_names string_names named parted ascii
returns-in-3303020 c = key_place 146 (lit< tt) c.in-3303020.is

pub returns-in-3368556 : goal.returns-in-3368556
unfolding packed_names packed word all_names boolean_names number_names string_names named parted ascii
returns-in-3368556 c = key_place 147 (lit< tt) c.in-3368556.is

pub returns-in-3434092 : goal.returns-in-3434092
unfolding packed_names packed word all_names boolean_names number_names string_names named parted ascii
returns-in-3434092 c = key_place 148 (lit< tt) c.in-3434092.is

pub returns-in-3499628 : goal.returns-in-3499628
unfolding packed_names packed word all_names boolean_names number_names string_names named parted ascii
returns-in-3499628 c = key_place 149 (lit< tt) c.in-3499628.is

pub returns-in-3565164 : goal.returns-in-3565164
unfolding packed_names packed word all_names boolean_names number_names string_names named parted ascii
returns-in-3565164 c = key_place 150 (lit< tt) c.in-3565164.is

pub returns-in-3630700 : goal.returns-in-3630700
unfolding packed_names packed word all_names boolean_names number_names string_names named parted ascii
returns-in-3630700 c = key_place 151 (lit< tt) c.in-3630700.is

pub returns-in-3696236 : goal.returns-in-3696236
unfolding packed_names packed word all_names boolean_names number_names string_names named parted ascii
returns-in-3696236 c = key_place 152 (lit< tt) c.in-3696236.is

pub returns-in-3761772 : goal.returns-in-3761772
unfolding packed_names packed word all_names boolean_names number_names string_names named parted ascii
returns-in-3761772 c = key_place 153 (lit< tt) c.in-3761772.is

pub returns-in-7171442 : goal.returns-in-7171442
unfolding packed_names packed word all_names boolean_names number_names string_names named parted ascii
returns-in-7171442 c = key_place 154 (lit< tt) c.in-7171442.is

pub returns-in-7171443 : goal.returns-in-7171443
unfolding packed_names packed word all_names boolean_names number_names string_names named parted ascii
returns-in-7171443 c = key_place 155 (lit< tt) c.in-7171443.is

pub returns-in-7103854 : goal.returns-in-7103854
unfolding packed_names packed word all_names boolean_names number_names string_names named parted ascii
returns-in-7103854 c = key_place 156 (lit< tt) c.in-7103854.is

pub returns-in-6578544 : goal.returns-in-6578544
unfolding packed_names packed word all_names boolean_names number_names string_names named parted ascii
returns-in-6578544 c = key_place 157 (lit< tt) c.in-6578544.is

pub returns-in-6841188 : goal.returns-in-6841188
unfolding packed_names packed word all_names boolean_names number_names string_names named parted ascii
returns-in-6841188 c = key_place 158 (lit< tt) c.in-6841188.is

pub returns-in-27748 : goal.returns-in-27748
unfolding packed_names packed word all_names boolean_names number_names string_names named parted ascii
returns-in-27748 c = key_place 159 (lit< tt) c.in-27748.is

pub returns-in-6583651 : goal.returns-in-6583651
unfolding packed_names packed word all_names boolean_names number_names string_names named parted ascii
returns-in-6583651 c = key_place 160 (lit< tt) c.in-6583651.is

pub returns-in-6841193 : goal.returns-in-6841193
unfolding packed_names packed word all_names boolean_names number_names string_names named parted ascii
returns-in-6841193 c = key_place 161 (lit< tt) c.in-6841193.is

pub returns-in-1852075625 : goal.returns-in-1852075625
unfolding packed_names packed word all_names boolean_names number_names string_names named parted ascii
returns-in-1852075625 c = key_place 162 (lit< tt) c.in-1852075625.is

pub returns-in-27753 : goal.returns-in-27753
unfolding packed_names packed word all_names boolean_names number_names string_names named parted ascii
returns-in-27753 c = key_place 163 (lit< tt) c.in-27753.is

pub returns-in-6452579 : goal.returns-in-6452579
unfolding packed_names packed word all_names boolean_names number_names string_names named parted ascii
returns-in-6452579 c = key_place 164 (lit< tt) c.in-6452579.is

pub returns-in-6714723 : goal.returns-in-6714723
unfolding packed_names packed word all_names boolean_names number_names string_names named parted ascii
returns-in-6714723 c = key_place 165 (lit< tt) c.in-6714723.is

pub returns-in-7235954 : goal.returns-in-7235954
unfolding packed_names packed word all_names boolean_names number_names string_names named parted ascii
returns-in-7235954 c = key_place 166 (lit< tt) c.in-7235954.is

pub returns-in-7697763 : goal.returns-in-7697763
unfolding packed_names packed word all_names boolean_names number_names string_names named parted ascii
returns-in-7697763 c = key_place 167 (lit< tt) c.in-7697763.is

pub returns-in-521392580208 : goal.returns-in-521392580208
unfolding packed_names packed word all_names boolean_names number_names string_names named parted ascii
returns-in-521392580208 c = key_place 168 (lit< tt) c.in-521392580208.is

pub returns-in-427071137392 : goal.returns-in-427071137392
unfolding packed_names packed word all_names boolean_names number_names string_names named parted ascii
returns-in-427071137392 c = key_place 169 (lit< tt) c.in-427071137392.is

pub returns-in-7890544 : goal.returns-in-7890544
unfolding packed_names packed word all_names boolean_names number_names string_names named parted ascii
returns-in-7890544 c = key_place 170 (lit< tt) c.in-7890544.is

pub returns-in-3171181 : goal.returns-in-3171181
unfolding packed_names packed word all_names boolean_names number_names string_names named parted ascii
returns-in-3171181 c = key_place 171 (lit< tt) c.in-3171181.is

pub returns-in-3433325 : goal.returns-in-3433325
unfolding packed_names packed word all_names boolean_names number_names string_names named parted ascii
returns-in-3433325 c = key_place 172 (lit< tt) c.in-3433325.is

pub returns-in-3498861 : goal.returns-in-3498861
unfolding packed_names packed word all_names boolean_names number_names string_names named parted ascii
returns-in-3498861 c = key_place 173 (lit< tt) c.in-3498861.is

pub returns-in-7366002 : goal.returns-in-7366002
unfolding packed_names packed word all_names boolean_names number_names string_names named parted ascii
returns-in-7366002 c = key_place 174 (lit< tt) c.in-7366002.is

pub returns-in-3240818 : goal.returns-in-3240818
unfolding packed_names packed word all_names boolean_names number_names string_names named parted ascii
returns-in-3240818 c = key_place 175 (lit< tt) c.in-3240818.is

pub returns-in-3306354 : goal.returns-in-3306354
unfolding packed_names packed word all_names boolean_names number_names string_names named parted ascii
returns-in-3306354 c = key_place 176 (lit< tt) c.in-3306354.is

pub returns-in-3371890 : goal.returns-in-3371890
unfolding packed_names packed word all_names boolean_names number_names string_names named parted ascii
returns-in-3371890 c = key_place 177 (lit< tt) c.in-3371890.is

pub returns-in-26226 : goal.returns-in-26226
unfolding packed_names packed word all_names boolean_names number_names string_names named parted ascii
returns-in-26226 c = key_place 178 (lit< tt) c.in-26226.is

pub returns-in-25458 : goal.returns-in-25458
unfolding packed_names packed word all_names boolean_names number_names string_names named parted ascii
returns-in-25458 c = key_place 179 (lit< tt) c.in-25458.is

pub returns-in-6385782 : goal.returns-in-6385782
unfolding packed_names packed word all_names boolean_names number_names string_names named parted ascii
returns-in-6385782 c = key_place 180 (lit< tt) c.in-6385782.is

pub returns-in-25459 : goal.returns-in-25459
unfolding packed_names packed word all_names boolean_names number_names string_names named parted ascii
returns-in-25459 c = key_place 181 (lit< tt) c.in-25459.is

pub returns-in-6581865 : goal.returns-in-6581865
unfolding packed_names packed word all_names boolean_names number_names string_names named parted ascii
returns-in-6581865 c = key_place 182 (lit< tt) c.in-6581865.is

pub returns-in-26994 : goal.returns-in-26994
unfolding packed_names packed word all_names boolean_names number_names string_names named parted ascii
returns-in-26994 c = key_place 183 (lit< tt) c.in-26994.is

pub returns-in-7497587 : goal.returns-in-7497587
unfolding packed_names packed word all_names boolean_names number_names string_names named parted ascii
returns-in-7497587 c = key_place 184 (lit< tt) c.in-7497587.is

pub returns-in-7566440 : goal.returns-in-7566440
unfolding packed_names packed word all_names boolean_names number_names string_names named parted ascii
returns-in-7566440 c = key_place 185 (lit< tt) c.in-7566440.is

pub returns-in-1684957559 : goal.returns-in-1684957559
unfolding packed_names packed word all_names boolean_names number_names string_names named parted ascii
returns-in-1684957559 c = key_place 186 (lit< tt) c.in-1684957559.is

pub returns-in-29800 : goal.returns-in-29800
unfolding packed_names packed word all_names boolean_names number_names string_names named parted ascii
returns-in-29800 c = key_place 187 (lit< tt) c.in-29800.is

pub returns-in-7107444 : goal.returns-in-7107444
unfolding packed_names packed word all_names boolean_names number_names string_names named parted ascii
returns-in-7107444 c = key_place 188 (lit< tt) c.in-7107444.is

pub returns-in-25461 : goal.returns-in-25461
unfolding packed_names packed word all_names boolean_names number_names string_names named parted ascii
returns-in-25461 c = key_place 189 (lit< tt) c.in-25461.is

pub returns-in-30056 : goal.returns-in-30056
unfolding packed_names packed word all_names boolean_names number_names string_names named parted ascii
returns-in-30056 c = key_place 190 (lit< tt) c.in-30056.is

pub returns-in-444251402345 : goal.returns-in-444251402345
unfolding packed_names packed word all_names boolean_names number_names string_names named parted ascii
returns-in-444251402345 c = key_place 191 (lit< tt) c.in-444251402345.is

pub returns-in-3236203 : goal.returns-in-3236203
unfolding packed_names packed word all_names boolean_names number_names string_names named parted ascii
returns-in-3236203 c = key_place 192 (lit< tt) c.in-3236203.is

pub returns-in-3367275 : goal.returns-in-3367275
unfolding packed_names packed word all_names boolean_names number_names string_names named parted ascii
returns-in-3367275 c = key_place 193 (lit< tt) c.in-3367275.is

pub returns-in-3301995 : goal.returns-in-3301995
unfolding packed_names packed word all_names boolean_names number_names string_names named parted ascii
returns-in-3301995 c = key_place 194 (lit< tt) c.in-3301995.is

pub returns-in-3236715 : goal.returns-in-3236715
unfolding packed_names packed word all_names boolean_names number_names string_names named parted ascii
returns-in-3236715 c = key_place 195 (lit< tt) c.in-3236715.is

pub returns-in-3367787 : goal.returns-in-3367787
unfolding packed_names packed word all_names boolean_names number_names string_names named parted ascii
returns-in-3367787 c = key_place 196 (lit< tt) c.in-3367787.is

pub returns-in-1882547053 : goal.returns-in-1882547053
unfolding packed_names packed word all_names boolean_names number_names string_names named parted ascii
returns-in-1882547053 c = key_place 197 (lit< tt) c.in-1882547053.is

pub returns-in-7368050 : goal.returns-in-7368050
unfolding packed_names packed word all_names boolean_names number_names string_names named parted ascii
returns-in-7368050 c = key_place 198 (lit< tt) c.in-7368050.is

pub returns-in-1668506465 : goal.returns-in-1668506465
unfolding packed_names packed word all_names boolean_names number_names string_names named parted ascii
returns-in-1668506465 c = key_place 199 (lit< tt) c.in-1668506465.is

pub returns-in-7236720 : goal.returns-in-7236720
unfolding packed_names packed word all_names boolean_names number_names string_names named parted ascii
returns-in-7236720 c = key_place 200 (lit< tt) c.in-7236720.is

pub returns-in-1952605035 : goal.returns-in-1952605035
unfolding packed_names packed word all_names boolean_names number_names string_names named parted ascii
returns-in-1952605035 c = key_place 201 (lit< tt) c.in-1952605035.is

pub returns-in-474316565875 : goal.returns-in-474316565875
unfolding packed_names packed word all_names boolean_names number_names string_names named parted ascii
returns-in-474316565875 c = key_place 202 (lit< tt) c.in-474316565875.is

pub returns-in-474316565874 : goal.returns-in-474316565874
unfolding packed_names packed word all_names boolean_names number_names string_names named parted ascii
returns-in-474316565874 c = key_place 203 (lit< tt) c.in-474316565874.is

pub returns-in-1835101555 : goal.returns-in-1835101555
unfolding packed_names packed word all_names boolean_names number_names string_names named parted ascii
returns-in-1835101555 c = key_place 204 (lit< tt) c.in-1835101555.is

pub returns-in-1835101554 : goal.returns-in-1835101554
unfolding packed_names packed word all_names boolean_names number_names string_names named parted ascii
returns-in-1835101554 c = key_place 205 (lit< tt) c.in-1835101554.is

pub returns-in-1668181880 : goal.returns-in-1668181880
unfolding packed_names packed word all_names boolean_names number_names string_names named parted ascii
returns-in-1668181880 c = key_place 206 (lit< tt) c.in-1668181880.is

pub returns-in-426919751544 : goal.returns-in-426919751544
unfolding packed_names packed word all_names boolean_names number_names string_names named parted ascii
returns-in-426919751544 c = key_place 207 (lit< tt) c.in-426919751544.is

pub returns-in-495588568677 : goal.returns-in-495588568677
unfolding packed_names packed word all_names boolean_names number_names string_names named parted ascii
returns-in-495588568677 c = key_place 208 (lit< tt) c.in-495588568677.is

pub returns-in-1852599667 : goal.returns-in-1852599667
unfolding packed_names packed word all_names boolean_names number_names string_names named parted ascii
returns-in-1852599667 c = key_place 209 (lit< tt) c.in-1852599667.is

pub returns-in-1852599666 : goal.returns-in-1852599666
unfolding packed_names packed word all_names boolean_names number_names string_names named parted ascii
returns-in-1852599666 c = key_place 210 (lit< tt) c.in-1852599666.is

pub returns-in_default : goal.returns-in_default
unfolding packed_names packed word all_names boolean_names number_names string_names named parted ascii
returns-in_default c = rest_place _ c.in_default.in_default-own.rest
