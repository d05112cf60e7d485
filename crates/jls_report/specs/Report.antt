-- The report of a partial picture: how many of its lines are settled, missing and disputed, and which are missing and disputed.
use Rattle.std.specs.Prelude.{ℕ, ◌+◌, ◌-◌, List, [], ◌∷◌, length, Bool, not, ◌&&◌, ◌||◌, ◌==◌, ◌<◌, if◌then◌else◌}
use Rattle.std.specs.List.{flat_map, prefix_len, range_with_len, AllByRecursion}
use Rattle.jls_values.specs.Shape.{PictureShape}
use Rattle.jls_partial.specs.Partial.{PartialPicture}
use Rattle.jls_report.specs.declared.entry.ReportEntry.{ReportEntry}
use Rattle.jls_report.specs.declared.entry.ReportEntry.TheVariants.{Missing, Disputed}
use Rattle.jls_report.specs.Lines.{components, lines, line_count, reading_count, is_missing, is_settled_line, is_disputed}

-- the shape, the numbers of lines over all components, and the entries: by component in the order of the frame, and then by line
pub record PictureReport : Type 0 where
  pub shape : PictureShape
  pub settled : ℕ
  pub missing : ℕ
  pub disputed : ℕ
  pub entries : List ReportEntry

-- whether a longest range of missing lines begins with this line: it is missing, and the line above is not, or there is none
abbrev pub begins_range : PartialPicture → ℕ → ℕ → Bool
begins_range p component line = is_missing p component line && (line == 0 || not (is_missing p component (line - 1)))

-- how many lines of a component are missing one after the other, from this one on
abbrev pub missing_from : PartialPicture → ℕ → ℕ → ℕ
missing_from p component line = prefix_len (is_missing p component) (range_with_len line (p.shape.height - line))

-- the entry that begins with a line, if one does
abbrev pub entries_at : PartialPicture → ℕ → ℕ → List ReportEntry
entries_at p component line =
    if begins_range p component line then Missing component line (line + missing_from p component line - 1) ∷ []
    else if is_disputed p component line then Disputed component line (reading_count p component line) ∷ []
    else []

-- the entries of a component, by line
abbrev pub component_entries : PartialPicture → ℕ → List ReportEntry
component_entries p component = flat_map (entries_at p component) (lines p.shape)

-- an entry for each longest range of missing lines and for each disputed line, by component and line
abbrev pub report_entries : PartialPicture → List ReportEntry
report_entries p = flat_map (component_entries p) (components p.shape)

-- the report of a partial picture
abbrev pub report_of : PartialPicture → PictureReport
report_of p = record {
  shape = p.shape;
  settled = line_count p.shape (is_settled_line p);
  missing = line_count p.shape (is_missing p);
  disputed = line_count p.shape (is_disputed p);
  entries = report_entries p;
}

-- the component that an entry is of
abbrev pub component_of : ReportEntry → ℕ
component_of (Missing component first last) = component
component_of (Disputed component line readings) = component

-- each entry is of a component of the shape
abbrev pub AreOfShape : PictureShape → List ReportEntry → Type 0
AreOfShape shape es = AllByRecursion (λ e. component_of e < length shape.ids) es
