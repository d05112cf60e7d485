-- Numbers, words, lines and lists, by hand.
use Rattle.std.proofs.Common.{◌≡◌, ℕ, true, false, List, [], ◌∷◌, ◌++◌, Some, None, refl, arith}
use Rattle.std.specs.Prelude.{codes}
use Rattle.jls_bad.specs.ListText.{words, number, meaning, AreNamed, IsFirstFault}
use Rattle.jls_bad.specs.declared.lines.Line.TheVariants.{Bad, Nothing, Fault}

pub decimal : number (codes "512") ≡ Some 512
decimal = refl

pub hexadecimal : number (codes "0X1fA") ≡ Some 506
hexadecimal = refl

pub largest : number (codes "0xFFFFFFFFFFFFFFFF") ≡ Some 0xFFFF_FFFF_FFFF_FFFF
largest = refl

pub too_large : number (codes "18446744073709551616") ≡ None
too_large = refl

pub no_digits : number (codes "0x") ≡ None
no_digits = refl

pub no_sign : number (codes "+5") ≡ None
no_sign = refl

pub two_words : words (codes "  12   0x3 # 4") ≡ codes "12" ∷ codes "0x3" ∷ []
two_words = refl

pub a_place : meaning false (words (codes "12 0x3")) ≡ Bad (record { offset = 12; length = 3 })
a_place = refl

pub not_read : meaning false (words (codes "0x10 0x20 -")) ≡ Bad (record { offset = 16; length = 32 })
not_read = refl

pub rescued : meaning false (words (codes "0x10 0x20 +")) ≡ Nothing
rescued = refl

pub a_run : meaning true (words (codes "0x00002000     ?               1")) ≡ Nothing
a_run = refl

pub an_older_run : meaning true (words (codes "0x00002000 F")) ≡ Nothing
an_older_run = refl

pub a_later_run : meaning false (words (codes "0x00002000 F")) ≡ Fault
a_later_run = refl

pub a_later_pass : meaning false (words (codes "0x00002000 ? 1")) ≡ Fault
a_later_pass = refl

pub a_comment : meaning false (words (codes "# Mapfile")) ≡ Nothing
a_comment = refl

pub one_word : meaning false (words (codes "12")) ≡ Fault
one_word = refl

pub other_status : meaning false (words (codes "12 3 F")) ≡ Fault
other_status = refl

pub four_words : meaning false (words (codes "1 2 - 3")) ≡ Fault
four_words = refl

abbrev text : List ℕ
text = codes "# Mapfile" ++ 10 ∷ codes "0x600  +  2" ++ 10 ∷ codes "0x0 0x200 +" ++ 10 ∷ codes "0x200 0x400 -" ++ 10 ∷ []

pub of_a_mapfile : AreNamed text (record { offset = 512; length = 1024 } ∷ [])
of_a_mapfile = record { understood = refl; named = refl }

-- a place that lost its length
pub bad_later_status : IsFirstFault (codes "# Mapfile" ++ 10 ∷ codes "0 +" ++ 10 ∷ codes "0x200 -" ++ 10 ∷ []) 3
bad_later_status = record { counted = omega arith; first = refl }

pub bad_second_line : IsFirstFault (codes "1 2" ++ 10 ∷ codes "1 2 3" ++ 10 ∷ codes "4") 2
bad_second_line = record { counted = omega arith; first = refl }
