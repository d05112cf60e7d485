-- Numbers as they are printed, for worked lines.
use Rattle.std.proofs.Common.{◌≡◌, lit<}
use Rattle.std.specs.Prelude.{codes, decimal}
use Rattle.std.proofs.lemmas.Fmt.{decimal_digit, decimal-digits_of}

pub d0 : decimal 0 ≡ codes "0"
d0 = decimal_digit 0 (lit< tt)

pub d1 : decimal 1 ≡ codes "1"
d1 = decimal_digit 1 (lit< tt)

pub d2 : decimal 2 ≡ codes "2"
d2 = decimal_digit 2 (lit< tt)

pub d3 : decimal 3 ≡ codes "3"
d3 = decimal_digit 3 (lit< tt)

pub d4 : decimal 4 ≡ codes "4"
d4 = decimal_digit 4 (lit< tt)

pub d5 : decimal 5 ≡ codes "5"
d5 = decimal_digit 5 (lit< tt)

pub d6 : decimal 6 ≡ codes "6"
d6 = decimal_digit 6 (lit< tt)

pub d7 : decimal 7 ≡ codes "7"
d7 = decimal_digit 7 (lit< tt)

pub d8 : decimal 8 ≡ codes "8"
d8 = decimal_digit 8 (lit< tt)

pub d9 : decimal 9 ≡ codes "9"
d9 = decimal_digit 9 (lit< tt)

pub d12 : decimal 12 ≡ codes "12"
d12 = decimal-digits_of 12 (lit< tt) (lit< tt)

pub d16 : decimal 16 ≡ codes "16"
d16 = decimal-digits_of 16 (lit< tt) (lit< tt)

pub d18 : decimal 18 ≡ codes "18"
d18 = decimal-digits_of 18 (lit< tt) (lit< tt)

pub d19 : decimal 19 ≡ codes "19"
d19 = decimal-digits_of 19 (lit< tt) (lit< tt)

pub d29 : decimal 29 ≡ codes "29"
d29 = decimal-digits_of 29 (lit< tt) (lit< tt)

pub d30 : decimal 30 ≡ codes "30"
d30 = decimal-digits_of 30 (lit< tt) (lit< tt)

pub d31 : decimal 31 ≡ codes "31"
d31 = decimal-digits_of 31 (lit< tt) (lit< tt)

pub d33 : decimal 33 ≡ codes "33"
d33 = decimal-digits_of 33 (lit< tt) (lit< tt)

pub d41 : decimal 41 ≡ codes "41"
d41 = decimal-digits_of 41 (lit< tt) (lit< tt)

pub d45 : decimal 45 ≡ codes "45"
d45 = decimal-digits_of 45 (lit< tt) (lit< tt)

pub d46 : decimal 46 ≡ codes "46"
d46 = decimal-digits_of 46 (lit< tt) (lit< tt)

pub d59 : decimal 59 ≡ codes "59"
d59 = decimal-digits_of 59 (lit< tt) (lit< tt)

pub d60 : decimal 60 ≡ codes "60"
d60 = decimal-digits_of 60 (lit< tt) (lit< tt)

pub d128 : decimal 128 ≡ codes "128"
d128 = decimal-digits_of 128 (lit< tt) (lit< tt)

pub d153 : decimal 153 ≡ codes "153"
d153 = decimal-digits_of 153 (lit< tt) (lit< tt)

pub d904 : decimal 904 ≡ codes "904"
d904 = decimal-digits_of 904 (lit< tt) (lit< tt)

pub d4095 : decimal 4095 ≡ codes "4095"
d4095 = decimal-digits_of 4095 (lit< tt) (lit< tt)
