-- The lines of two codings of copies, worked out by hand.
use Rattle.std.proofs.Common.{◌≡◌, ℕ, true, false, ◌&&◌, List, [], ◌∷◌, ◌++◌, length, refl, ap, ◌∙◌, lit≤}
use Rattle.std.specs.Prelude.{codes, not, nat_lt, replicate}
use Rattle.std.specs.List.{flat_map}
use Rattle.std.proofs.lemmas.List.{length-replicate, take-replicate}
use Rattle.jls_held.specs.Edits.{Edit}
use Rattle.jls_held.specs.Judging.{EditedCopy}
use Rattle.jls_carried.specs.CodingLines.{are_all_printed, coding_lines, copy_lines, edit_line, more_edits_line}
use Rattle.jls_report.proofs.PrintedNumbers.{d0, d1, d2, d3, d4, d5, d6, d12, d128}

-- copies 1 and 3 are of the first coding, and copy 4 of the second. Copy 1 lost 4 bytes at 128, and in copy 4 the mended file has 1 byte
-- in place of 2
abbrev codings : List (List EditedCopy)
codings =
    (record { number = 0; edits = record { offset = 128; count = 0; bytes = 1 ∷ 2 ∷ 3 ∷ 4 ∷ [] } ∷ [] } ∷ record { number = 2; edits = [] } ∷ [])
    ∷ (record { number = 3; edits = record { offset = 12; count = 2; bytes = 9 ∷ [] } ∷ [] } ∷ []) ∷ []

their_lines : coding_lines 4 codings []
    ≡ codes "coding 1, copies 1 3\ncoding 2, copies 4\ncopy 2 left out\ncopy 1 differs 128 0 4\ncopy 4 differs 12 2 1\n"
their_lines = rw (d0, d1, d2, d3, d4, d12, d128) refl

-- of six copies 2 and 5 agree with no other
with_strangers : coding_lines 6 codings (1 ∷ 4 ∷ [])
    ≡ codes "coding 1, copies 1 3\ncoding 2, copies 4\ncopy 2 agrees with no other\ncopy 5 agrees with no other\ncopy 6 left out\n"
    ++ codes "copy 1 differs 128 0 4\ncopy 4 differs 12 2 1\n"
with_strangers = rw (d0, d1, d2, d3, d4, d5, d6, d12, d128) refl

all_printed : are_all_printed codings ≡ true
all_printed = refl

none_more : more_edits_line 0 4096 ≡ []
none_more = refl

four_more : more_edits_line 2 4100 ≡ codes "copy 3 differs more 4\n"
four_more = rw (d3, d4) refl

-- copies with 4,096 edits and with one more: 4,096 have a line
abbrev edit : Edit
edit = record { offset = 12; count = 0; bytes = [] }

abbrev pub with_edits : ℕ → EditedCopy
with_edits count = record { number = 2; edits = replicate count edit }

one_more : more_edits_line 2 4097 ≡ codes "copy 3 differs more 1\n"
one_more = rw (d1, d3) refl

last_of_4097 : copy_lines (with_edits 4097) ≡ flat_map (edit_line 2) (replicate 4096 edit) ++ codes "copy 3 differs more 1\n"
last_of_4097 =
    ap (λ (edits : List Edit). flat_map (edit_line 2) edits ++ more_edits_line 2 (length (replicate 4097 edit)))
    (take-replicate 4096 4097 edit (lit≤ tt))
    ∙ ap (λ n. flat_map (edit_line 2) (replicate 4096 edit) ++ more_edits_line 2 n) (length-replicate 4097 edit)
    ∙ ap (λ t. flat_map (edit_line 2) (replicate 4096 edit) ++ t) one_more

all_of_4096 : are_all_printed ((with_edits 4096 ∷ []) ∷ []) ≡ true
all_of_4096 = ap (λ n. (not (nat_lt 4096 n) && true) && true) (length-replicate 4096 edit)

-- in the last coding, beside a copy that has few
pub not_all_of_4097 : are_all_printed ((with_edits 2 ∷ []) ∷ (with_edits 3 ∷ with_edits 4097 ∷ []) ∷ []) ≡ false
not_all_of_4097 = ap (λ n. (not (nat_lt 4096 n) && true) && true) (length-replicate 4097 edit)
