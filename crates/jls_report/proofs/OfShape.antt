-- Each entry of a report is of a component of the shape.
use Rattle.std.proofs.Common.{ℕ, zero, suc, ◌+◌, ◌-◌, ◌<◌, Bool, true, false, cond, List, [], ◌∷◌, length, arith}
use Rattle.std.specs.List.{range_with_len, flat_map, AllByRecursion}
use Rattle.jls_values.proofs.Lists.{all_append}
use Rattle.jls_partial.specs.Partial.{PartialPicture}
use Rattle.jls_report.specs.declared.entry.ReportEntry.{ReportEntry}
use Rattle.jls_report.specs.declared.entry.ReportEntry.TheVariants.{Missing, Disputed}
use Rattle.jls_report.specs.Lines.{reading_count, is_disputed}
use Rattle.jls_report.specs.Report.{begins_range, missing_from, entries_at, component_entries, report_entries, component_of, AreOfShape}

-- what holds of all that each number makes holds of all that they make
all-over : {X : Type 0} (P : X → Type 0) (f : ℕ → List X) (a n : ℕ) → ((k : ℕ) → k < a + n → AllByRecursion P (f k))
    → AllByRecursion P (flat_map f (range_with_len a n))
all-over P f a zero each = tt
all-over P f a (suc n) each =
    all_append P (f a) (flat_map f (range_with_len (a + 1) n)) (each a (omega arith))
    (all-over P f (a + 1) n (λ k below. each k (omega arith)))

abbrev IsOf : ℕ → ReportEntry → Type 0
IsOf n e = component_of e < n

-- the entry of a line, whichever it is
either_is : (n component first last line readings : ℕ) (b d : Bool) → component < n
    → AllByRecursion (IsOf n) (cond b (Missing component first last ∷ []) (cond d (Disputed component line readings ∷ []) []))
either_is n component first last line readings true d within = (within, tt)
either_is n component first last line readings false true within = (within, tt)
either_is n component first last line readings false false within = tt

-- each entry of a report is of a component of the shape
pub of_shape : (p : PartialPicture) → AreOfShape p.shape (report_entries p)
of_shape p =
    let n : ℕ = length p.shape.ids in
    all-over (IsOf n) (component_entries p) 0 n (λ component below.
    all-over (IsOf n) (entries_at p component) 0 p.shape.height (λ line _.
    either_is n component line (line + missing_from p component line - 1) line (reading_count p component line)
    (begins_range p component line) (is_disputed p component line) (omega arith)))
