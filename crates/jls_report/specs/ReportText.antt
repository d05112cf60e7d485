-- The text of a report: lines of ASCII, each of which ends with a newline. Numbers are decimal, and components are named by
-- their identifiers.
use Rattle.std.specs.Prelude.{ℕ, List, ◌++◌, codes, decimal, get_or}
use Rattle.std.specs.List.{flat_map, join_by}
use Rattle.jls_values.specs.Shape.{PictureShape}
use Rattle.jls_report.specs.declared.entry.ReportEntry.{ReportEntry}
use Rattle.jls_report.specs.declared.entry.ReportEntry.TheVariants.{Missing, Disputed}
use Rattle.jls_report.specs.Report.{PictureReport}

-- the identifier of a component in decimal
abbrev pub id_text : List ℕ → ℕ → List ℕ
id_text ids component = decimal (get_or ids component 0)

-- the width and the height in decimal, after the word picture
abbrev pub size_text : PictureShape → List ℕ
size_text shape = codes "picture " ++ decimal shape.width ++ codes "x" ++ decimal shape.height

-- the text of the precision
abbrev pub precision_text : PictureShape → List ℕ
precision_text shape = codes ", " ++ decimal shape.precision ++ codes " bits, components "

-- the first line of a report: size, precision, and the identifiers of the components
abbrev pub shape_line : PictureShape → List ℕ
shape_line shape =
    size_text shape ++ precision_text shape ++ join_by decimal (codes ",") shape.ids ++ codes "\n"

-- the second line: how many lines of the picture are settled, missing and disputed
abbrev pub counts_line : PictureReport → List ℕ
counts_line r =
    codes "settled " ++ decimal r.settled ++ codes ", missing " ++ decimal r.missing
    ++ codes ", disputed " ++ decimal r.disputed ++ codes "\n"

-- the line of an entry: a range of missing lines, or a disputed line and how many readings it has
abbrev pub entry_line : List ℕ → ReportEntry → List ℕ
entry_line ids (Missing component first last) =
    codes "missing " ++ id_text ids component ++ codes " " ++ decimal first ++ codes "-" ++ decimal last ++ codes "\n"
entry_line ids (Disputed component line readings) =
    codes "disputed " ++ id_text ids component ++ codes " " ++ decimal line ++ codes " " ++ decimal readings ++ codes "\n"

-- the lines that are printed of a report: the two lines, and a line for each entry
abbrev pub report_text : PictureReport → List ℕ
report_text r = shape_line r.shape ++ counts_line r ++ flat_map (entry_line r.shape.ids) r.entries
