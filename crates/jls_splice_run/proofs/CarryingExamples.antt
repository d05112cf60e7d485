-- What is promised of copies in two codings, which files get names, and what is printed, worked out by hand.
use Rattle.std.proofs.Common.{◌≡◌, ℕ, true, false, List, [], ◌∷◌, ◌++◌, Some, None, length, refl, ap}
use Rattle.std.specs.Prelude.{codes, nat_eq, replicate, if◌then◌else◌}
use Rattle.jls_held.specs.Judging.{EditedCopy}
use Rattle.jls_held.specs.MendedFiles.{MendedFile}
use Rattle.jls_partial.specs.Partial.{PartialPicture, union, with_source}
use Rattle.jls_carried.proofs.CodingLineExamples.{not_all_of_4097, with_edits}
use Rattle.jls_report.proofs.PrintedNumbers.{d0, d1, d2, d3, d4, d12}
use Rattle.jls_splice_run.specs.Carrying.{carried_file, carried_files, handed_by, promise_for}
use Rattle.jls_splice_run.specs.CodingLines.{carried_noted_text, carried_text}
use Rattle.jls_splice_run.specs.Lines.{promise_line}
use Rattle.jls_splice_run.specs.declared.differences.Difference.{Difference}
use Rattle.jls_splice_run.specs.declared.found.Promise.TheVariants.{Held, Picture, Lines}
use Rattle.jls_splice_run.specs.declared.found.SearchReport.{SearchReport}

-- the first copy has no edit, and the second has one, in place of 2 bytes
abbrev codings : List (List EditedCopy)
codings =
    (record { number = 0; edits = [] } ∷ []) ∷ (record { number = 1; edits = record { offset = 12; count = 2; bytes = 9 ∷ [] } ∷ [] } ∷ []) ∷ []

abbrev one : MendedFile
one = record { bytes = codes "one"; held = [] }

abbrev other : MendedFile
other = record { bytes = codes "other"; held = [] }

abbrev two : List Difference
two = record { offset = 2; length = 1 } ∷ record { offset = 4; length = 0 } ∷ []

-- a run that was asked for all files
abbrev report : SearchReport
report = record {
  splices = 0;
  is_used_up = false;
  ceiling = None;
  by_groups = Some (record { groups = 1; is_used_up = false });
  before = None;
  files = Some 2;
  is_eoi_added = false;
  lacks_single_file = false;
  has_lists = false;
  promise = Held;
}

record CarryingExamples : Type 0 where
  -- each line is held, the files read so, and no copy is strange
  promised : promise_for codings [] true true ≡ Held
  not_held : promise_for codings [] false true ≡ Lines
  not_read : promise_for codings [] true false ≡ Lines
  strange : promise_for codings (2 ∷ []) true true ≡ Lines
  two_strange : promise_for codings (2 ∷ 4 ∷ []) true true ≡ Lines
  -- an edit has no line
  not_printed : promise_for ((with_edits 2 ∷ []) ∷ (with_edits 3 ∷ with_edits 4097 ∷ []) ∷ []) [] true true ≡ Lines
  -- a promised picture is what is held, though a file taken says otherwise; else both are handed out
  held_alone : (held given : PartialPicture) → handed_by Held None held given ≡ held
  under_a_source : (held given : PartialPicture) → handed_by Held (Some 3) held given ≡ with_source held 3
  of_both : (held given : PartialPicture) → handed_by Lines (Some 3) held given ≡ union held given
  -- the file of the first coding, under that promise alone, if it is asked for
  first_file : carried_file (Some (codes "out.jls")) Held (one ∷ other ∷ []) ≡ Some (codes "one")
  without_promise : carried_file (Some (codes "out.jls")) Lines (one ∷ other ∷ []) ≡ None
  another_promise : carried_file (Some (codes "out.jls")) (Picture None) (one ∷ other ∷ []) ≡ None
  no_name : carried_file {A = List ℕ} None Held (one ∷ other ∷ []) ≡ None
  no_file : carried_file (Some (codes "out.jls")) Held [] ≡ None
  -- all files in their order, 64 at most, if they are asked for
  both_files : carried_files (Some (codes "part")) (one ∷ other ∷ [])
      ≡ record { name = codes "part-1"; bytes = codes "one" } ∷ record { name = codes "part-2"; bytes = codes "other" } ∷ []
  not_asked : carried_files None (one ∷ other ∷ []) ≡ []
  sixty_four : length (carried_files (Some (codes "part")) (replicate 65 one)) ≡ 64
  its_line_without_bad : promise_line true Held
      ≡ codes "promise picture if copies of one coding are of one file of it, true outside of their differs, there as long as printed, "
      ++ codes "with the marker segments of the mended file (copies are without their bad places)\n"
  its_line : promise_line false Held
      ≡ codes "promise picture if copies of one coding are of one file of it, true outside of their differs, there as long as printed, "
      ++ codes "with the marker segments of the mended file\n"
  -- of four copies the third agrees with no other, and the fourth is left out
  text : carried_text two 4 codings (2 ∷ []) report
      ≡ codes "differ 2 1\ndiffer 4 0\nsplices 0\nby groups 1\ncoding 1, copies 1\ncoding 2, copies 2\n"
      ++ codes "copy 3 agrees with no other\ncopy 4 left out\ncopy 2 differs 12 2 1\nfiles 2\n" ++ promise_line false Held
  noted : carried_noted_text 4 codings (2 ∷ []) (record report { promise = Lines })
      ≡ codes "jls-splice: splices 0\njls-splice: by groups 1\njls-splice: coding 1, copies 1\njls-splice: coding 2, copies 2\n"
      ++ codes "jls-splice: copy 3 agrees with no other\njls-splice: copy 4 left out\njls-splice: copy 2 differs 12 2 1\n"
      ++ codes "jls-splice: files 2\njls-splice: promise lines\n"

carrying_examples : CarryingExamples
carrying_examples = record {
  promised = refl;
  not_held = refl;
  not_read = refl;
  strange = refl;
  two_strange = refl;
  not_printed = ap (λ b. if (if b then nat_eq 0 0 else false) then Held else Lines) not_all_of_4097;
  held_alone = λ held given. refl;
  under_a_source = λ held given. refl;
  of_both = λ held given. refl;
  first_file = refl;
  without_promise = refl;
  another_promise = refl;
  no_name = refl;
  no_file = refl;
  both_files = rw (d1, d2) refl;
  not_asked = refl;
  sixty_four = refl;
  its_line_without_bad = refl;
  its_line = refl;
  text = rw (d0, d1, d2, d3, d4, d12) refl;
  noted = rw (d0, d1, d2, d3, d4, d12) refl;
}
