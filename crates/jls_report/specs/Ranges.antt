-- What the entries of a report say of each line.
use Rattle.std.specs.Prelude.{◌≡◌, ℕ, ◌+◌, ◌-◌, ◌*◌, ◌<◌, ◌≤◌, ◌↔◌, Bool, true, false, ◌&&◌}
use Rattle.std.specs.Prelude.{◌==◌, nat_le, length, count_by, sum_by, Contains, if◌then◌else◌}
use Rattle.jls_partial.specs.Partial.{PartialPicture}
use Rattle.jls_partial.specs.Status.{IsSettled}
use Rattle.jls_report.specs.declared.entry.ReportEntry.{ReportEntry}
use Rattle.jls_report.specs.declared.entry.ReportEntry.TheVariants.{Missing, Disputed}
use Rattle.jls_report.specs.Lines.{line_count, reading_count, is_missing, is_settled_line, is_disputed}
use Rattle.jls_report.specs.Report.{report_entries, report_of}

-- a longest range of missing lines. Its lines are all missing, and the line above it and the line below it, if there are such, are not
pub record IsLongestRange (p : PartialPicture) (component first last : ℕ) : Type 0 where
  pub component_in : component < length p.shape.ids
  pub rising : first ≤ last
  pub last_in : last < p.shape.height
  pub each : (line : ℕ) → first ≤ line → line ≤ last → is_missing p component line ≡ true
  pub above : (line : ℕ) → line + 1 ≡ first → is_missing p component line ≡ false
  pub below : last + 1 < p.shape.height → is_missing p component (last + 1) ≡ false

-- a disputed line with the number of its readings, of which there are two or more
pub record IsDisputedLine (p : PartialPicture) (component line readings : ℕ) : Type 0 where
  pub component_in : component < length p.shape.ids
  pub line_in : line < p.shape.height
  pub several : 2 ≤ readings
  pub counted : reading_count p component line ≡ readings

-- the ranges of a report are the longest ranges of missing lines, and no others
abbrev pub RangesAreLongest : Type 0
RangesAreLongest = (p : PartialPicture) (component first last : ℕ)
    → Contains (report_entries p) (Missing component first last) ↔ IsLongestRange p component first last

-- its disputed lines are those of the picture, and no others
abbrev pub DisputedAreListed : Type 0
DisputedAreListed = (p : PartialPicture) (component line readings : ℕ)
    → Contains (report_entries p) (Disputed component line readings) ↔ IsDisputedLine p component line readings

-- whether an entry speaks of a line
abbrev pub speaks_of : ℕ → ℕ → ReportEntry → Bool
speaks_of component line (Missing c first last) = c == component && (nat_le first line && nat_le line last)
speaks_of component line (Disputed c l readings) = c == component && l == line

-- each line is settled, or an entry speaks of it: one of these holds, and no second entry speaks of it
abbrev pub EachLineOnce : Type 0
EachLineOnce = (p : PartialPicture) (component line : ℕ) → component < length p.shape.ids → line < p.shape.height
    → (if is_settled_line p component line then 1 else 0) + count_by (speaks_of component line) (report_entries p) ≡ 1

-- the three numbers are those of all lines
abbrev pub CountsAreAllLines : Type 0
CountsAreAllLines = (p : PartialPicture) →
    line_count p.shape (is_settled_line p) + line_count p.shape (is_missing p) + line_count p.shape (is_disputed p)
    ≡ length p.shape.ids * p.shape.height

-- all lines are counted as settled if and only if each line of the picture is settled
abbrev pub FullCountIsSettled : Type 0
FullCountIsSettled = (p : PartialPicture) → (line_count p.shape (is_settled_line p) ≡ length p.shape.ids * p.shape.height) ↔ IsSettled p

-- how many missing lines an entry names
abbrev pub missing_of : ReportEntry → ℕ
missing_of (Missing component first last) = last + 1 - first
missing_of (Disputed component line readings) = 0

-- how many disputed lines an entry names: one or none
abbrev pub disputed_of : ReportEntry → ℕ
disputed_of (Missing component first last) = 0
disputed_of (Disputed component line readings) = 1

-- the numbers of missing and of disputed lines that a report has are those of its entries
abbrev pub CountsAreOfEntries : Type 0
CountsAreOfEntries = (p : PartialPicture) →
    ((report_of p).missing ≡ sum_by missing_of (report_of p).entries) × ((report_of p).disputed ≡ sum_by disputed_of (report_of p).entries)
