-- What lines of a report come from, by hand from the rows of docs/GUIDE.md: `promise`, `before`, `splices`, `limit`, `files` and `no single
-- file`; and the names of numbered files.
use Rattle.std.proofs.Common.{◌≡◌, ℕ, Bool, true, false, List, [], ◌∷◌, Some, None, refl}
use Rattle.std.specs.Prelude.{codes}
use Rattle.jls_diff.specs.Parts.{Part, Same, Differ}
use Rattle.jls_report.proofs.PrintedNumbers.{d1, d60}
use Rattle.jls_search.specs.Found.{Found}
use Rattle.jls_splice_run.specs.Files.{count_new}
use Rattle.jls_splice_run.specs.Listing.{numbered}
use Rattle.jls_splice_run.specs.Making.{cut_end, files_reported, lacks_single, ceiling_reported, promise_of}
use Rattle.jls_splice_run.specs.declared.found.Promise.TheVariants.{Picture, Lines}

-- "abXc" and "abYcZZ"
abbrev parts : List Part
parts = Same (codes "ab") ∷ Differ (codes "X" ∷ codes "Y" ∷ []) ∷ Same (codes "c") ∷ Differ ([] ∷ codes "ZZ" ∷ []) ∷ []

-- a search that found these splices, and was cut off or not
abbrev found : List (List ℕ) → Bool → Found
found choices is_used_up = record { parts = parts; choices = choices; is_used_up = is_used_up; by_groups = None }

-- the choices of one splice, which is the second copy
abbrev one : List (List ℕ)
one = (0 ∷ 1 ∷ 0 ∷ 1 ∷ []) ∷ []

record ReportedExamples : Type 0 where
  -- the picture is promised in one of eight cases: the search was not cut off, it found a file, and each line is settled
  promised : promise_of (Some 4095) (found one false) true ≡ Picture (Some 4095)
  not_settled : promise_of (Some 4095) (found one false) false ≡ Lines
  none_found : promise_of (Some 4095) (found [] false) true ≡ Lines
  none_found_not_settled : promise_of (Some 4095) (found [] false) false ≡ Lines
  cut_off : promise_of (Some 4095) (found one true) true ≡ Lines
  cut_off_not_settled : promise_of (Some 4095) (found one true) false ≡ Lines
  cut_off_none_found : promise_of (Some 4095) (found [] true) true ≡ Lines
  cut_off_none_found_not_settled : promise_of (Some 4095) (found [] true) false ≡ Lines
  -- with no ceiling
  promised_without_ceiling : promise_of None (found one false) true ≡ Picture None
  -- the cut file of so many choices ends in the first copy before the part that has none: "ab", "abX", "abXc"
  before_the_first_differ : cut_end parts None (0 ∷ []) ≡ record { offset = 2; ceiling = None }
  after_the_first_differ : cut_end parts (Some 4095) (0 ∷ 1 ∷ []) ≡ record { offset = 3; ceiling = Some 4095 }
  before_the_second_differ : cut_end parts None (0 ∷ 1 ∷ 0 ∷ []) ≡ record { offset = 4; ceiling = None }
  -- of three files found one is a copy
  two_new : count_new (codes "abXc" ∷ codes "abYcZZ" ∷ []) (codes "abYc" ∷ codes "abYcZZ" ∷ codes "abXcZZ" ∷ []) ≡ 2
  none_new : count_new (codes "abXc" ∷ []) (codes "abXc" ∷ []) ≡ 0
  -- a ceiling that was given has no line, and one that the search took has
  given_ceiling : ceiling_reported (Some 4095) (Some 4095) ≡ None
  own_ceiling : ceiling_reported None (Some 4095) ≡ Some 4095
  -- how many files are written, where they are asked for
  two_files : files_reported (Some (codes "part")) (codes "x" ∷ codes "y" ∷ []) ≡ Some 2
  not_asked : files_reported {A = List ℕ} None (codes "x" ∷ []) ≡ None
  -- a single file was asked for, and there is none
  lacking : lacks_single {B = List ℕ} (Some (codes "out.jls")) None ≡ true
  not_lacking : lacks_single (Some (codes "out.jls")) (Some (codes "x")) ≡ false
  first_name : numbered (codes "part") 1 ≡ codes "part-1"
  sixtieth_name : numbered (codes "part") 60 ≡ codes "part-60"

reported_examples : ReportedExamples
reported_examples = record {
  promised = refl;
  not_settled = refl;
  none_found = refl;
  none_found_not_settled = refl;
  cut_off = refl;
  cut_off_not_settled = refl;
  cut_off_none_found = refl;
  cut_off_none_found_not_settled = refl;
  promised_without_ceiling = refl;
  before_the_first_differ = refl;
  after_the_first_differ = refl;
  before_the_second_differ = refl;
  two_new = refl;
  none_new = refl;
  given_ceiling = refl;
  own_ceiling = refl;
  two_files = refl;
  not_asked = refl;
  lacking = refl;
  not_lacking = refl;
  first_name = rw d1 refl;
  sixtieth_name = rw d60 refl;
}
