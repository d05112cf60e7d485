-- Parts of two copies, and what is printed of them, worked out by hand.
use Rattle.std.proofs.Common.{◌≡◌, true, false, List, [], ◌∷◌, ◌++◌, Some, None, map, refl}
use Rattle.std.specs.Prelude.{codes}
use Rattle.jls_diff.specs.Parts.{Part, Same, Differ}
use Rattle.jls_splice_run.specs.Differences.{differences}
use Rattle.jls_splice_run.specs.Lines.{before_line, differ_lines, eoi_line, files_line, found_text, groups_line, limit_line, more_line}
use Rattle.jls_splice_run.specs.Lines.{progress_line}
use Rattle.jls_splice_run.specs.Lines.{promise_line, single_line, splices_line, used_up_line}
use Rattle.jls_splice_run.specs.declared.differences.Difference.{Difference}
use Rattle.jls_splice_run.specs.declared.found.Promise.TheVariants.{Picture, Lines}
use Rattle.jls_splice_run.specs.declared.found.SearchReport.{SearchReport}
use Rattle.jls_report.proofs.PrintedNumbers.{d0, d1, d2, d3, d4, d12, d128, d4095}

-- "abXc" and "abYcZZ": one byte differs, and two stand after the end of the first
abbrev parts : List Part
parts = Same (codes "ab") ∷ Differ (codes "X" ∷ codes "Y" ∷ []) ∷ Same (codes "c") ∷ Differ ([] ∷ codes "ZZ" ∷ []) ∷ []

abbrev two : List Difference
two = record { offset = 2; length = 1 } ∷ record { offset = 4; length = 0 } ∷ []

their_differences : differences parts ≡ two
their_differences = refl

their_lines : differ_lines two ≡ codes "differ 2 1\ndiffer 4 0\n"
their_lines = rw (d0, d1, d2, d4) refl

-- copies that are equal
no_difference : differences (Same (codes "ab") ∷ []) ≡ []
no_difference = refl

no_line : differ_lines [] ≡ []
no_line = refl

-- 4,096 differences have lines, and of 4,100 four have none
none_more : more_line 4096 ≡ []
none_more = refl

four_more : more_line 4100 ≡ codes "differ more 4\n"
four_more = rw d4 refl

three_splices : splices_line 3 ≡ codes "splices 3\n"
three_splices = rw d3 refl

cut_off : used_up_line true ≡ codes "tries used up\n"
cut_off = refl

all_groups : groups_line (Some (record { groups = 2; is_used_up = false })) ≡ codes "by groups 2\n"
all_groups = rw d2 refl

some_groups : groups_line (Some (record { groups = 12; is_used_up = true })) ≡ codes "by groups 12, tries used up\n"
some_groups = rw d12 refl

no_groups : groups_line None ≡ []
no_groups = refl

how_far : progress_line 128 2 ≡ codes "128 tries, 2 files\n"
how_far = rw (d2, d128) refl

two_files : files_line (Some 2) ≡ codes "files 2\n"
two_files = rw d2 refl

no_files : files_line None ≡ []
no_files = refl

completed : eoi_line true ≡ codes "eoi added\n"
completed = refl

lacking : single_line true ≡ codes "no single file\n"
lacking = refl

cut_at : before_line (Some (record { offset = 128; ceiling = None })) ≡ codes "before 128\n"
cut_at = rw d128 refl

cut_within : before_line (Some (record { offset = 12; ceiling = Some 4095 })) ≡ codes "before 12, samples up to 4095\n"
cut_within = rw (d12, d4095) refl

no_cut : before_line None ≡ []
no_cut = refl

picture : promise_line false (Picture None)
    ≡ codes "promise picture if the true file has what one copy has at each differ, and what all have elsewhere\n"
picture = refl

picture_without_bad : promise_line true (Picture None)
    ≡ codes "promise picture if the true file has what one copy has at each differ, and what all have elsewhere"
    ++ codes " (copies are without their bad places)\n"
picture_without_bad = refl

picture_within : promise_line false (Picture (Some 4095))
    ≡ codes "promise picture if the true file has what one copy has at each differ, and what all have elsewhere"
    ++ codes " and samples are up to 4095\n"
picture_within = rw d4095 refl

picture_within_and_without_bad : promise_line true (Picture (Some 4095))
    ≡ codes "promise picture if the true file has what one copy has at each differ, and what all have elsewhere"
    ++ codes " (copies are without their bad places) and samples are up to 4095\n"
picture_within_and_without_bad = rw d4095 refl

only_lines : map (λ has_lists. promise_line has_lists Lines) (false ∷ true ∷ []) ≡ codes "promise lines\n" ∷ codes "promise lines\n" ∷ []
only_lines = refl

counted_limit : limit_line (Some 4095) ≡ codes "limit 4095\n"
counted_limit = rw d4095 refl

no_ceiling : limit_line None ≡ []
no_ceiling = refl

-- all lines of a run whose searches were cut off, of one that found nothing, and of one that found all that it asked for
abbrev cut_short : SearchReport
cut_short = record {
  splices = 3;
  is_used_up = true;
  ceiling = None;
  by_groups = Some (record { groups = 2; is_used_up = true });
  before = None;
  files = Some 12;
  is_eoi_added = true;
  lacks_single_file = true;
  has_lists = false;
  promise = Lines;
}

its_text : found_text two cut_short
    ≡ codes "differ 2 1\ndiffer 4 0\nsplices 3\ntries used up\nby groups 2, tries used up\nfiles 12\neoi added\n"
    ++ codes "no single file\npromise lines\n"
its_text = rw (d0, d1, d2, d3, d4, d12) refl

abbrev before_a_place : SearchReport
before_a_place = record {
  splices = 0;
  is_used_up = false;
  ceiling = None;
  by_groups = Some (record { groups = 1; is_used_up = false });
  before = Some (record { offset = 4; ceiling = None });
  files = None;
  is_eoi_added = false;
  lacks_single_file = false;
  has_lists = false;
  promise = Lines;
}

text_before_a_place : found_text two before_a_place
    ≡ codes "differ 2 1\ndiffer 4 0\nsplices 0\nby groups 1\nbefore 4\npromise lines\n"
text_before_a_place = rw (d0, d1, d2, d4) refl

abbrev complete : SearchReport
complete = record {
  splices = 1;
  is_used_up = false;
  ceiling = Some 4095;
  by_groups = None;
  before = None;
  files = None;
  is_eoi_added = false;
  lacks_single_file = false;
  has_lists = false;
  promise = Picture (Some 4095);
}

text_of_complete : found_text two complete
    ≡ codes "differ 2 1\ndiffer 4 0\nsplices 1\nlimit 4095\n"
    ++ codes "promise picture if the true file has what one copy has at each differ, and what all have elsewhere"
    ++ codes " and samples are up to 4095\n"
text_of_complete = rw (d0, d1, d2, d4, d4095) refl
