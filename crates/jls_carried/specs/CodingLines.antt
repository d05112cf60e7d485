-- The lines of copies in several codings: which copies are of which, and what each of them has otherwise than its mended file.
use Rattle.std.specs.Prelude.{ℕ, ◌+◌, ◌-◌, ◌<◌, ◌^◌, List, [], ◌∷◌, ◌++◌, codes, decimal, length, take, nat_eq, nat_lt}
use Rattle.std.specs.Prelude.{Bool, not, if◌then◌else◌}
use Rattle.std.specs.List.{AllByRecursion, flat_map, list_all, list_any, range_with_len}
use Rattle.jls_held.specs.Edits.{Edit}
use Rattle.jls_held.specs.Judging.{EditedCopy}

-- the number of each copy, counted from 1, fits into eight bytes
abbrev pub HasPrintedNumber : EditedCopy → Type 0
HasPrintedNumber e = e.number + 1 < 2 ^ 64

-- and that of each copy of all codings
abbrev pub HavePrintedNumbers : List (List EditedCopy) → Type 0
HavePrintedNumbers codings = AllByRecursion (AllByRecursion HasPrintedNumber) codings

-- a space and the number of a copy, counted from 1
abbrev pub listed_number : EditedCopy → List ℕ
listed_number e = codes " " ++ decimal (e.number + 1)

-- the line of a coding of this number: its copies
abbrev pub coding_line : ℕ → List EditedCopy → List ℕ
coding_line number copies = codes "coding " ++ decimal number ++ codes ", copies" ++ flat_map listed_number copies ++ codes "\n"

-- the lines of codings, numbered from this one on
abbrev pub coding_lines_from : ℕ → List (List EditedCopy) → List ℕ
coding_lines_from number [] = []
coding_lines_from number (copies ∷ more) = coding_line number copies ++ coding_lines_from (number + 1) more

-- whether the copy of this number, from 0, is in one of the codings
abbrev pub is_listed : List (List EditedCopy) → ℕ → Bool
is_listed codings number = list_any (list_any (λ e. nat_eq e.number number)) codings

-- whether it is one of these copies that agree with no other
abbrev pub is_stranger : List ℕ → ℕ → Bool
is_stranger strangers number = list_any (λ stranger. nat_eq stranger number) strangers

-- the end of the line of a copy that is in none of the codings
abbrev pub unlisted_end : List ℕ → ℕ → List ℕ
unlisted_end strangers number = if is_stranger strangers number then codes " agrees with no other\n" else codes " left out\n"

-- the line of a copy that is in none of them; no line if it is in one
abbrev pub unlisted_line : List (List EditedCopy) → List ℕ → ℕ → List ℕ
unlisted_line codings strangers number =
    if is_listed codings number then [] else codes "copy " ++ decimal (number + 1) ++ unlisted_end strangers number

-- the lines of those of so many copies that are in none of the codings
abbrev pub unlisted_lines : ℕ → List (List EditedCopy) → List ℕ → List ℕ
unlisted_lines count codings strangers = flat_map (unlisted_line codings strangers) (range_with_len 0 count)

-- The line of an edit of the copy of this number, from 0. It has its offset in the copy, how many bytes the copy has there, and how many
-- the mended file
abbrev pub edit_line : ℕ → Edit → List ℕ
edit_line number edit =
    codes "copy " ++ decimal (number + 1) ++ codes " differs " ++ decimal edit.offset ++ codes " " ++ decimal edit.count ++ codes " "
    ++ decimal (length edit.bytes) ++ codes "\n"

-- the line of how many of so many edits have no line; no line if there are none
abbrev pub more_edits_line : ℕ → ℕ → List ℕ
more_edits_line number count =
    if nat_lt 4096 count
    then codes "copy " ++ decimal (number + 1) ++ codes " differs more " ++ decimal (count - 4096) ++ codes "\n"
    else []

-- the lines of a copy: its first 4,096 edits, then how many more there are
abbrev pub copy_lines : EditedCopy → List ℕ
copy_lines e = flat_map (edit_line e.number) (take 4096 e.edits) ++ more_edits_line e.number (length e.edits)

-- All lines of codings of so many copies, of which these agree with no other. They say which copies each coding has, which are in none, and
-- then the edits of the copies
abbrev pub coding_lines : ℕ → List (List EditedCopy) → List ℕ → List ℕ
coding_lines count codings strangers =
    coding_lines_from 1 codings ++ unlisted_lines count codings strangers ++ flat_map (flat_map copy_lines) codings

-- whether each edit of these copies has a line: a copy has 4,096 lines at most
abbrev pub has_each_a_line : List EditedCopy → Bool
has_each_a_line copies = list_all (λ e. not (nat_lt 4096 (length e.edits))) copies

-- and each edit of the copies of all codings
abbrev pub are_all_printed : List (List EditedCopy) → Bool
are_all_printed codings = list_all has_each_a_line codings
