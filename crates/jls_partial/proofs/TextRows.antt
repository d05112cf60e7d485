-- Texts that were written out by hand, and what is read of them.
use Rattle.std.proofs.Common.{◌≡◌, ℕ, List, [], ◌∷◌, ◌++◌, take, drop, refl, ap, arith}
use Rattle.std.specs.Prelude.{Ok, Err}
use Rattle.std.specs.List.Sorted.{IsStrictlySortedBy}
use Rattle.std.specs.Ordering.{nat_cmp}
use Rattle.jls_values.specs.Shape.{PictureShape}
use Rattle.jls_partial.specs.declared.text_fault.TextFault.TheVariants.{Magic, BadShape, Truncated, Place, Count, Order, Sample, Trailing}
use Rattle.jls_partial.specs.declared.version.Version.TheVariants.{One, Two}
use Rattle.jls_partial.specs.Entries.{Entry, partial_of}
use Rattle.jls_partial.specs.Held.{AreEntries}
use Rattle.jls_partial.specs.Text.{text_of, text}
use Rattle.jls_partial.specs.TextReading.{read_text, text_fields, magic_field, version_field, byte_field, bytes_field, shape_fields}
use Rattle.jls_partial.specs.TextReading.{sample_field, samples_fields, reading_fields, source_field, sources_fields, own_sources_fields}
use Rattle.jls_partial.specs.TextReading.{kept_fields, readings_fields, place_fields, count_field, entry_fields, entries_fields}
use Rattle.jls_partial.proofs.KeptEntries.{entries_again}

-- one sample of 8 bits, component 1
abbrev one_sample : PictureShape
one_sample = record { precision = 8; width = 1; height = 1; ids = 1 ∷ [] }

-- the reading 3 with the sources 2 and 7
abbrev sourced : List Entry
sourced = (record { component = 0; line = 0 }, (3 ∷ [], 2 ∷ 7 ∷ []) ∷ []) ∷ []

-- what stands before its sources, up to their number
abbrev start : List ℕ
start = 0x4A ∷ 0x4C ∷ 0x53 ∷ 0x50 ∷ 2 ∷ 8 ∷ 0 ∷ 1 ∷ 0 ∷ 1 ∷ 1 ∷ 1 ∷ 0 ∷ 0 ∷ 0 ∷ 1 ∷ 0 ∷ 0 ∷ 0 ∷ 0 ∷ 0 ∷ 0 ∷ 0 ∷ 0 ∷ 0 ∷ 0 ∷ 1 ∷ 0 ∷ 3 ∷ 0
    ∷ 0 ∷ 0 ∷ 0 ∷ 0 ∷ 0 ∷ 0 ∷ 2 ∷ []

abbrev its_text : List ℕ
its_text = start ++ 0 ∷ 0 ∷ 0 ∷ 2 ∷ 0 ∷ 0 ∷ 0 ∷ 7 ∷ []

-- what is written of it
written : text_of Two one_sample sourced ≡ its_text
written = refl

-- the entries are in order and fit, so that they are those of their partial picture
kept : AreEntries one_sample ((record { component = 0; line = 0 }, (3 ∷ []) ∷ []) ∷ [])
unfolding IsStrictlySortedBy
kept = record {
  sorted = (tt, tt);
  each = (record { read = omega arith; sorted = (tt, tt); countable = omega arith; fitting = (refl, tt) }, tt);
}

rises : IsStrictlySortedBy nat_cmp (2 ∷ 7 ∷ [])
unfolding IsStrictlySortedBy
rises = ((refl, tt), (tt, tt))

its_text_is : text (partial_of one_sample sourced) ≡ its_text
its_text_is = ap (text_of Two one_sample) (entries_again one_sample sourced kept ((rises, tt), tt))

-- the readings 3 and 5, without sources, and their texts
abbrev two_readings : List Entry
two_readings = (record { component = 0; line = 0 }, (3 ∷ [], []) ∷ (5 ∷ [], []) ∷ []) ∷ []

abbrev first_start : List ℕ
first_start = 0x4A ∷ 0x4C ∷ 0x53 ∷ 0x50 ∷ 1 ∷ 8 ∷ 0 ∷ 1 ∷ 0 ∷ 1 ∷ 1 ∷ 1 ∷ 0 ∷ 0 ∷ 0 ∷ 1 ∷ 0 ∷ 0 ∷ 0 ∷ 0 ∷ 0 ∷ 0 ∷ 0 ∷ 0 ∷ 0 ∷ 0 ∷ 2 ∷ []

abbrev first_text : List ℕ
first_text = first_start ++ 0 ∷ 3 ∷ 0 ∷ 5 ∷ []

in_version_one : text_of One one_sample two_readings ≡ first_text
in_version_one = refl

in_version_two : text_of Two one_sample two_readings
    ≡ 0x4A ∷ 0x4C ∷ 0x53 ∷ 0x50 ∷ 2 ∷ drop 5 first_start ++ 0 ∷ 3 ∷ 0 ∷ 0 ∷ 0 ∷ 0 ∷ 0 ∷ 0 ∷ 0 ∷ 0 ∷ 0 ∷ 5 ∷ 0 ∷ 0 ∷ 0 ∷ 0 ∷ 0 ∷ 0 ∷ 0 ∷ 0
    ∷ []
in_version_two = refl

-- what opens the readers, so that they compute
unfoldable readers : Unit {0}
unfolding read_text text_fields magic_field version_field byte_field bytes_field shape_fields sample_field samples_fields reading_fields
    source_field sources_fields own_sources_fields kept_fields readings_fields place_fields count_field entry_fields entries_fields
readers = tt

-- the text itself
read_back : read_text its_text ≡ Ok (partial_of one_sample sourced)
unfolding readers
read_back = refl

-- its sources the other way round, and one of them twice
sources_swapped : read_text (start ++ 0 ∷ 0 ∷ 0 ∷ 7 ∷ 0 ∷ 0 ∷ 0 ∷ 2 ∷ []) ≡ Err (Order 41)
unfolding readers
sources_swapped = refl

source_twice : read_text (start ++ 0 ∷ 0 ∷ 0 ∷ 7 ∷ 0 ∷ 0 ∷ 0 ∷ 7 ∷ []) ≡ Err (Order 41)
unfolding readers
source_twice = refl

-- without the last byte, and with one byte more
one_less : read_text (start ++ 0 ∷ 0 ∷ 0 ∷ 2 ∷ 0 ∷ 0 ∷ 0 ∷ []) ≡ Err (Truncated 44)
unfolding readers
one_less = refl

one_more : read_text (its_text ++ 0 ∷ []) ≡ Err (Trailing 45)
unfolding readers
one_more = refl

-- a text of version 1
first_read_back : read_text first_text ≡ Ok (partial_of one_sample two_readings)
unfolding readers
first_read_back = refl

-- its bytes under version 2, and under version 3
as_version_two : read_text (0x4A ∷ 0x4C ∷ 0x53 ∷ 0x50 ∷ 2 ∷ drop 5 first_text) ≡ Err (Truncated 31)
unfolding readers
as_version_two = refl

as_version_three : read_text (0x4A ∷ 0x4C ∷ 0x53 ∷ 0x50 ∷ 3 ∷ drop 5 first_text) ≡ Err (Magic 4)
unfolding readers
as_version_three = refl

-- the readings the other way round
readings_swapped : read_text (first_start ++ 0 ∷ 5 ∷ 0 ∷ 3 ∷ []) ≡ Err (Order 29)
unfolding readers
readings_swapped = refl

-- a sample of 256
large_sample : read_text (first_start ++ 0 ∷ 3 ∷ 1 ∷ 0 ∷ []) ≡ Err (Sample 29)
unfolding readers
large_sample = refl

-- a precision of 1
one_bit : read_text (0x4A ∷ 0x4C ∷ 0x53 ∷ 0x50 ∷ 1 ∷ 1 ∷ drop 6 first_text) ≡ Err (BadShape 5)
unfolding readers
one_bit = refl

-- the number of readings is 0
no_readings : read_text (take 26 first_start ++ 0 ∷ 0 ∷ 3 ∷ 0 ∷ 5 ∷ []) ≡ Err (Count 19)
unfolding readers
no_readings = refl

-- line 1 of a picture with one line
no_such_line : read_text (take 18 first_start ++ 1 ∷ drop 19 first_text) ≡ Err (Place 16)
unfolding readers
no_such_line = refl

-- the empty text
nothing : read_text ([]) ≡ Err (Truncated 0)
unfolding readers
nothing = refl
