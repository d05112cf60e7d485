-- The lines that are printed of what was found: ASCII, each with a newline at its end, and numbers in decimal.
use Rattle.std.specs.Prelude.{ℕ, ◌-◌, Bool, true, false, List, [], ◌∷◌, ◌++◌, Option, Some, None, codes, decimal, length, take, nat_eq}
use Rattle.std.specs.Prelude.{nat_lt, if◌then◌else◌}
use Rattle.std.specs.List.{flat_map}
use Rattle.jls_splice_run.specs.declared.differences.Difference.{Difference}
use Rattle.jls_splice_run.specs.declared.found.GroupSearch.{GroupSearch}
use Rattle.jls_splice_run.specs.declared.found.CutFileEnd.{CutFileEnd}
use Rattle.jls_splice_run.specs.declared.found.Promise.{Promise}
use Rattle.jls_splice_run.specs.declared.found.Promise.TheVariants.{Held, Picture, Lines}
use Rattle.jls_splice_run.specs.declared.found.SearchReport.{SearchReport}

-- the line of a difference: its offset in the first copy, and how many bytes that copy has there
abbrev pub differ_line : Difference → List ℕ
differ_line d = codes "differ " ++ decimal d.offset ++ codes " " ++ decimal d.length ++ codes "\n"

-- the line of how many differences have no line; no line if there are none
abbrev pub more_line : ℕ → List ℕ
more_line count = if nat_lt 4096 count then codes "differ more " ++ decimal (count - 4096) ++ codes "\n" else []

-- the lines of differences: the first 4,096, then how many more there are
abbrev pub differ_lines : List Difference → List ℕ
differ_lines ds = flat_map differ_line (take 4096 ds) ++ more_line (length ds)

-- the line of how many files were taken that are no copies
abbrev pub splices_line : ℕ → List ℕ
splices_line count = codes "splices " ++ decimal count ++ codes "\n"

-- the line of a search that was cut off; no line if it was not
abbrev pub used_up_line : Bool → List ℕ
used_up_line is_used_up = if is_used_up then codes "tries used up\n" else []

-- the line of the ceiling of the search that counts; no line if it has none, or it was given
abbrev pub limit_line : Option ℕ → List ℕ
limit_line None = []
limit_line (Some ceiling) = codes "limit " ++ decimal ceiling ++ codes "\n"

-- how the line of the search by groups ends. It says if that search was cut off
abbrev pub groups_end : Bool → List ℕ
groups_end is_used_up = if is_used_up then codes ", tries used up\n" else codes "\n"

-- the line of the search by groups; no line if there was none
abbrev pub groups_line : Option GroupSearch → List ℕ
groups_line None = []
groups_line (Some found) = codes "by groups " ++ decimal found.groups ++ groups_end found.is_used_up

-- how a line ends: with the ceiling, if there is one, after these words
abbrev pub samples_end : List ℕ → Option ℕ → List ℕ
samples_end words None = codes "\n"
samples_end words (Some ceiling) = words ++ decimal ceiling ++ codes "\n"

-- the line of where the cut file ends: its offset in the first copy; no line if none was taken
abbrev pub before_line : Option CutFileEnd → List ℕ
before_line None = []
before_line (Some end) = codes "before " ++ decimal end.offset ++ samples_end (codes ", samples up to ") end.ceiling

-- what the line of a promise of the picture begins with: its premise, but for the ceiling
abbrev pub picture_words : List ℕ
picture_words = codes "promise picture if the true file has what one copy has at each differ, and what all have elsewhere"

-- a promise that rests on what copies hold, and its premise
abbrev pub held_words : List ℕ
held_words =
    codes "promise picture if copies of one coding are of one file of it, true outside of their differs, there as long as printed, "
    ++ codes "with the marker segments of the mended file"

-- where there are lists of bad places, a promise is of copies without these
abbrev pub lists_words : Bool → List ℕ
lists_words has_lists = if has_lists then codes " (copies are without their bad places)" else []

-- the line of the promise that holds, where there are lists of bad places or none
abbrev pub promise_line : Bool → Promise → List ℕ
promise_line has_lists (Picture ceiling) = picture_words ++ lists_words has_lists ++ samples_end (codes " and samples are up to ") ceiling
promise_line has_lists Held = held_words ++ lists_words has_lists ++ codes "\n"
promise_line has_lists Lines = codes "promise lines\n"

-- the line of how many files get numbers; no line if these were not asked for
abbrev pub files_line : Option ℕ → List ℕ
files_line None = []
files_line (Some count) = codes "files " ++ decimal count ++ codes "\n"

-- the line of EOI that was added to a file that is handed out; no line if it was added to none
abbrev pub eoi_line : Bool → List ℕ
eoi_line is_eoi_added = if is_eoi_added then codes "eoi added\n" else []

-- the line of a run that was asked for a single file and has none
abbrev pub single_line : Bool → List ℕ
single_line lacks_single_file = if lacks_single_file then codes "no single file\n" else []

-- the lines of what the searches came to, in their order
abbrev pub search_lines : SearchReport → List ℕ
search_lines r = splices_line r.splices ++ used_up_line r.is_used_up ++ limit_line r.ceiling ++ groups_line r.by_groups

-- the lines of what is made of it, in their order
abbrev pub outcome_lines : SearchReport → List ℕ
outcome_lines r =
    before_line r.before ++ files_line r.files ++ eoi_line r.is_eoi_added ++ single_line r.lacks_single_file
    ++ promise_line r.has_lists r.promise

-- all lines of what was found: where copies differ, what the searches came to, and what is made of it
abbrev pub found_text : List Difference → SearchReport → List ℕ
found_text ds report = differ_lines ds ++ search_lines report ++ outcome_lines report

-- text with these words before each of its lines, where it begins a line or not
abbrev pub in_prefix : List ℕ → Bool → List ℕ → List ℕ
in_prefix words begins [] = []
in_prefix words true (b ∷ bs) = words ++ b ∷ in_prefix words (nat_eq b 10) bs
in_prefix words false (b ∷ bs) = b ∷ in_prefix words (nat_eq b 10) bs

-- What standard error has where the output is standard output: the lines of what the searches came to and of what is made of it. Each has
-- the program's name first
abbrev pub noted_text : SearchReport → List ℕ
noted_text report = in_prefix (codes "jls-splice: ") true (search_lines report ++ outcome_lines report)

-- the line of how far a search is: how many prefixes and files were tried, and how many files were found
abbrev pub progress_line : ℕ → ℕ → List ℕ
progress_line tries files = decimal tries ++ codes " tries, " ++ decimal files ++ codes " files\n"
