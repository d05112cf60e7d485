-- One line by itself, from what is held of it.
use Rattle.std.proofs.Common.{◌≡◌, ℕ, ◌+◌, ◌<◌, Bool, true, false, List, [], ◌∷◌, length, refl, sym, ap, ◌∙◌, subst, arith, ◌⊎◌, inl, inr}
use Rattle.std.specs.Prelude.{filter, cond, count_by}
use Rattle.std.specs.List.{AllByRecursion, Contains}
use Rattle.std.proofs.lemmas.Bool.{cases_Bool, eqb-true}
use Rattle.jls_values.specs.OrderedSet as set
use Rattle.jls_values.specs.Shape.{PictureShape}
use Rattle.jls_partial.specs.Partial.{PartialPicture, readings_at}
use Rattle.jls_partial.specs.Reading.{Reading, reading_of}
use Rattle.jls_partial.specs.ReadingOrder.{reading_total, reading_exact}
use Rattle.jls_partial.proofs.Statuses.{settled_by}
use Rattle.jls_write.specs.Picture.{WholePicture, line_of}
use Rattle.jls_report.specs.Lines.{is_settled_line}
use Rattle.jls_report.specs.Report.{PictureReport, report_entries}
use Rattle.jls_report.specs.Ranges.{speaks_of}
use Rattle.jls_report.proofs.EachLine.{each_line_once}
use Rattle.jls_copy_laws.specs.CopyScans.{ScanWithData}
use Rattle.jls_copy_laws.specs.Gives.{GivesReading}
use Rattle.jls_copy_laws.proofs.CopyScans.{one_list_of_scans}
use Rattle.jls_copy_laws.proofs.Members.{is_first, in_rest, none_in, first_or_rest, all_at, all_from, of_map}
use Rattle.jls_headline.specs.Damaged.{numbered_pieces, picture_reading, DamagedScan, Survives}
use Rattle.jls_headline.specs.ScanLaws.{IsScanUnder}
use Rattle.jls_headline.specs.Stations.{HasShape, HoldsExactly}
use Rattle.jls_headline.specs.Sources.{copies_of}
use Rattle.jls_headline.specs.LineLaws.{SaysNoOther, TellsOfLine, StationsTellOfLines, UnnamedLinesHaveOneReading}
use Rattle.jls_headline.specs.LineLaws.{UnnamedLinesAreThePicture, HasPictureLine, DamagedScanAt, DamagedAtSaysNoOther}
use Rattle.jls_headline.specs.LineLaws.{DamagedIsDamagedAtEach}
use Rattle.jls_headline.proofs.Held.{set_holds_items, is_there, there_is, one_reading, is_at_line}
use Rattle.jls_headline.proofs.ScanNumbers.{numbered_pieces_give}
use Rattle.jls_headline.proofs.ScansInRange.{scans_are_of_the_frame}
use Rattle.jls_headline.proofs.LostIntervals.{given_by_scan, surviving_lines_are_given, piece_gives_no_other}
use Rattle.jls_headline.proofs.StationPictures.{only_one}
use Rattle.jls_headline.proofs.Collected.{collected_holds}

-- what is among the readings of a line is held
of_filter : {X : Type 0} (pass : X → Bool) (xs : List X) (x : X) → Contains (filter pass xs) x → Contains xs x × (pass x ≡ true)
of_filter pass [] x c = absurd (none_in x c)
of_filter pass (y ∷ ys) x c =
    elim (cases_Bool (pass y)) [
      | inl e ↦
          (elim (first_or_rest x y (filter pass ys) (subst (λ (b : Bool). Contains (cond b (y ∷ filter pass ys) (filter pass ys)) x) e c)) [
            | inl is ↦ ((0, omega arith, is), subst (λ z. pass z ≡ true) is e)
            | inr later ↦ (let from = of_filter pass ys x later in (in_rest x y ys from.0, from.1))
          ])
      | inr e ↦ (
          let from = of_filter pass ys x (subst (λ (b : Bool). Contains (cond b (y ∷ filter pass ys) (filter pass ys)) x) e c) in
          (in_rest x y ys from.0, from.1))
    ]

held_of_line : (p : PartialPicture) (component line : ℕ) (samples : List ℕ) → Contains (readings_at p component line) samples
    → set.contains p.readings (reading_of component line samples) ≡ true
held_of_line p component line samples c =
    let from = of_map (λ (r : Reading). r.samples) (filter (is_there component line) (set.items p.readings)) samples c in
    let passed = of_filter (is_there component line) (set.items p.readings) from.0 from.1 in
    let at = there_is component line from.0 passed.1 in
    let is : from.0 ≡ reading_of component line samples = λ i. reading_of (at.0 i) (at.1 i) (from.2 i) in
    subst (λ (r : Reading). set.contains p.readings r ≡ true) is
    ((set_holds_items reading_total reading_exact p.readings from.0).1 passed.0)

module _ (pic : WholePicture) (station : PartialPicture) (copies : List (List ℕ)) (h : HoldsExactly station copies)
    (component line : ℕ) where
  -- no copy gives another reading of the line, so none is held
  only : AllByRecursion (SaysNoOther pic component line) copies → (r : Reading) → set.contains station.readings r ≡ true
      → r.component ≡ component → r.line ≡ line → r ≡ picture_reading pic component line
  only others r held e f =
      let from = (h.readings r).0 held in
      let here : r ≡ reading_of component line r.samples = λ i. reading_of (e i) (f i) r.samples in
      let samples : r.samples ≡ line_of pic component line =
      all_at (SaysNoOther pic component line) copies from.0 others from.1 r.samples (subst (GivesReading from.0) here from.2) in
      here ∙ ap (reading_of component line) samples

  held : (copy : List ℕ) → Contains copies copy → GivesReading copy (picture_reading pic component line)
      → set.contains station.readings (picture_reading pic component line) ≡ true
  held copy c g = (h.readings (picture_reading pic component line)).1 (copy, c, g)

  settled_so : AllByRecursion (SaysNoOther pic component line) copies
      → set.contains station.readings (picture_reading pic component line) ≡ true
      → readings_at station component line ≡ line_of pic component line ∷ []
  settled_so others x = one_reading station component line (line_of pic component line) x (only others)

  missing_or_settled : AllByRecursion (SaysNoOther pic component line) copies → (xs : List (List ℕ))
      → readings_at station component line ≡ xs
      → (readings_at station component line ≡ []) ⊎ (readings_at station component line ≡ line_of pic component line ∷ [])
  missing_or_settled others [] e = inl e
  missing_or_settled others (x ∷ xs) e =
      let there = held_of_line station component line x (subst (λ (ys : List (List ℕ)). Contains ys x) (sym e) (is_first x xs)) in
      let is = only others (reading_of component line x) there refl refl in
      inr (settled_so others (subst (λ (r : Reading). set.contains station.readings r ≡ true) is there))

  among : (copy : List ℕ) → Contains copies copy → Survives pic copy component line
      → Contains (readings_at station component line) (line_of pic component line)
  among copy c s =
      is_at_line station component line (line_of pic component line) (held copy c (surviving_lines_are_given pic copy component line s))

  tells_of_line : TellsOfLine pic station copies component line
  tells_of_line = record {
    settled = λ others copy c g. settled_so others (held copy c g);
    no_other = λ others. missing_or_settled others (readings_at station component line) refl;
    survives =
        λ copy c s. (
          among copy c s,
          λ one. only_one (readings_at station component line) (line_of pic component line) one
              (among copy c s),
        );
  }

pub stations_tell_of_lines : StationsTellOfLines
stations_tell_of_lines pic station copies collected component line =
    tells_of_line pic station (copies_of copies) (collected_holds station copies collected) component line

-- The report -----------------------------------------------------------------------------------------------------

pub unnamed_lines_have_one_reading : UnnamedLinesHaveOneReading
unnamed_lines_have_one_reading station report is component line l k unnamed =
    let once = each_line_once station component line l k in
    let none : count_by (speaks_of component line) (report_entries station) ≡ 0 =
    sym (ap (λ (x : PictureReport). count_by (speaks_of component line) x.entries) is) ∙ unnamed in
    eqb-true (length (readings_at station component line)) 1
    (test_of (is_settled_line station component line) (count_by (speaks_of component line) (report_entries station)) once none)
  where
    test_of : (b : Bool) (n : ℕ) → cond b 1 0 + n ≡ 1 → n ≡ 0 → b ≡ true
    test_of true n e f = refl
    test_of false n e f = absurd (omega (arith, e, f))

pub unnamed_lines_are_the_picture : UnnamedLinesAreThePicture
unnamed_lines_are_the_picture pic station copies collected report is component line l k unnamed copy c s =
    ((stations_tell_of_lines pic station copies collected component line).survives copy c s).1
    (settled_by (readings_at station component line)
    (unnamed_lines_have_one_reading station report is component line (subst (λ (z : PictureShape). component < length z.ids) (sym shape) l)
    (subst (λ (z : PictureShape). line < z.height) (sym shape) k) unnamed))
  where
    shape : station.shape ≡ pic.shape
    shape =
        let h = collected_holds station copies collected in
        let of = all_at (HasShape station.shape) (copies_of copies) copy h.are_copies c in
        (one_list_of_scans copy station.shape pic.shape of.0 s.0 of.1 s.1).0

-- Damage at one line -----------------------------------------------------------------------

pub damaged_at_says_no_other : DamagedAtSaysNoOther
damaged_at_says_no_other pic component line copy (scans, has, damaged) samples gives =
    let r = reading_of component line samples in
    let g = given_by_scan copy pic.shape scans has r gives in
    let d = all_at (DamagedScanAt pic component line) scans g.0 damaged g.1 in
    let piece = (numbered_pieces_give g.0 d.0 d.1 r).0 g.2 in
    all_at (HasPictureLine pic component line g.0.scan) (numbered_pieces g.0 d.0) (piece.0, piece.1) d.2 piece.2 samples piece.3

pub damaged_is_damaged_at_each : DamagedIsDamagedAtEach
damaged_is_damaged_at_each pic copy (scans, has, damaged) component line = (
  scans,
  has,
  all_from (DamagedScanAt pic component line) scans (λ d c.
      at d (all_at (λ d. IsScanUnder pic.shape d.scan) scans d (scans_are_of_the_frame copy pic.shape scans has).1 c)
      (all_at (DamagedScan pic) scans d damaged c)),
)
  where
    at : (d : ScanWithData) → IsScanUnder pic.shape d.scan → DamagedScan pic d → DamagedScanAt pic component line d
    at d under (numbers, are, each) = (
      numbers,
      are,
      all_from (HasPictureLine pic component line d.scan) (numbered_pieces d numbers)
          (λ p c samples g. (piece_gives_no_other pic d under numbers are each p.0 p.1 c (reading_of component line samples) g).2),
    )
