-- The lines of what was found in copies of several codings.
use Rattle.std.specs.Prelude.{ℕ, List, ◌++◌, codes, true}
use Rattle.jls_held.specs.Judging.{EditedCopy}
use Rattle.jls_carried.specs.CodingLines.{coding_lines}
use Rattle.jls_splice_run.specs.declared.differences.Difference.{Difference}
use Rattle.jls_splice_run.specs.Lines.{differ_lines, in_prefix, outcome_lines, search_lines}
use Rattle.jls_splice_run.specs.declared.found.SearchReport.{SearchReport}

-- all lines of what was found in so many copies of several codings, of which these agree with no other
abbrev pub carried_text : List Difference → ℕ → List (List EditedCopy) → List ℕ → SearchReport → List ℕ
carried_text ds count codings strangers report =
    differ_lines ds ++ search_lines report ++ coding_lines count codings strangers ++ outcome_lines report

-- what standard error has of it where the output is standard output: all but where copies differ, each line with the program's name first
abbrev pub carried_noted_text : ℕ → List (List EditedCopy) → List ℕ → SearchReport → List ℕ
carried_noted_text count codings strangers report =
    in_prefix (codes "jls-splice: ") true (search_lines report ++ coding_lines count codings strangers ++ outcome_lines report)
