-- What is written of a station, and the picture of one that holds exactly what copies give.
use Rattle.std.proofs.Common.{◌≡◌, ℕ, zero, suc, ◌<◌, true, List, [], ◌∷◌, length, sym, ap, ◌∙◌, subst, arith}
use Rattle.std.specs.List.{AllByRecursion, Contains}
use Rattle.jls_values.specs.OrderedSet as set
use Rattle.jls_values.specs.Shape.{PictureShape}
use Rattle.jls_partial.specs.Reading.{Reading, reading_of, reading_cmp}
use Rattle.jls_partial.specs.Partial.{PartialPicture, readings_at}
use Rattle.jls_partial.specs.Status.{status_of, IsSettled}
use Rattle.jls_partial.specs.Text.{text}
use Rattle.jls_partial.specs.declared.status.Status.TheVariants.{Settled}
use Rattle.jls_write.specs.Picture.{WholePicture, line_of, picture_of}
use Rattle.jls_write.specs.Pnm.{pnm}
use Rattle.jls_write.specs.WrittenFile.{written_file}
use Rattle.jls_report.specs.Report.{report_of}
use Rattle.jls_report.specs.ReportText.{report_text}
use Rattle.jls_copy_laws.proofs.CopyScans.{one_list_of_scans}
use Rattle.jls_headline.specs.Damaged.{Damaged, picture_reading, EachLineSurvives}
use Rattle.jls_headline.specs.Stations.{HasShape, HoldsExactly}
use Rattle.jls_write.specs.WholePictures.{IsPicture}
use Rattle.jls_headline.specs.ReadsAs.{GivesPicture, FilesReadAs}
use Rattle.jls_headline.specs.HeadlineLaws.{SameReadingsSayTheSame}
use Rattle.jls_copy_laws.proofs.Members.{all_at}
use Rattle.jls_headline.proofs.LostIntervals.{damaged_copies_give_no_other, surviving_lines_are_given}
use Rattle.jls_headline.proofs.Held.{one_reading, is_at_line}
use Rattle.jls_headline.proofs.Pictures.{gives_picture}
use Rattle.jls_headline.proofs.WrittenFiles.{files_read_as}

-- What is written ------------------------------------------------------------------------------------------------

-- what is said of a station rests on its shape and its readings
pub say_the_same : SameReadingsSayTheSame
say_the_same station other e f =
    let with_these = (λ (s : PictureShape) (rs : set.OrderedSet reading_cmp). record station { shape = s; readings = rs }) in
    record {
      readings = f;
      report = λ i. report_text (report_of (with_these (e i) (f i)));
      picture = λ i. picture_of (with_these (e i) (f i));
      pnm_file = λ i. pnm (picture_of (with_these (e i) (f i)));
      jls_file = λ o. λ i. written_file (picture_of (with_these (e i) (f i))) o;
      of_same_sources = λ g. λ i. text (record { shape = e i; readings = f i; marks = g i });
    }

-- The picture ----------------------------------------------------------------------------------------------------

-- a line that survives is held
pub survivor_held : (pic : WholePicture) (station : PartialPicture) (copies : List (List ℕ)) → HoldsExactly station copies
    → EachLineSurvives pic copies
    → (c y : ℕ) → c < length pic.shape.ids → y < pic.shape.height → set.contains station.readings (picture_reading pic c y) ≡ true
survivor_held pic station copies h each c y l k =
    let s = each c y l k in (h.readings (picture_reading pic c y)).1 (s.0, s.1, surviving_lines_are_given pic s.0 c y s.2)

-- so the station is of the picture's shape
pub same_shape : (pic : WholePicture) (station : PartialPicture) (copies : List (List ℕ)) → IsPicture pic → HoldsExactly station copies
    → EachLineSurvives pic copies → station.shape ≡ pic.shape
same_shape pic station copies is h each =
    let s = each 0 0 is.shape.ids_at_least is.shape.height_at_least in
    let of = all_at (HasShape station.shape) copies s.0 h.are_copies s.1 in
    (one_list_of_scans s.0 station.shape pic.shape of.0 s.2.0 of.1 s.2.1).0

-- each line has the picture's as its one reading
pub each_line_is_one : (pic : WholePicture) (station : PartialPicture) (copies : List (List ℕ)) → HoldsExactly station copies
    → AllByRecursion (Damaged pic) copies → EachLineSurvives pic copies
    → (c y : ℕ) → c < length pic.shape.ids → y < pic.shape.height → readings_at station c y ≡ line_of pic c y ∷ []
each_line_is_one pic station copies h damaged each c y l k =
    one_reading station c y (line_of pic c y) (survivor_held pic station copies h each c y l k) only
  where
    only : (r : Reading) → set.contains station.readings r ≡ true → r.component ≡ c → r.line ≡ y → r ≡ picture_reading pic c y
    only r held e f =
        let from = (h.readings r).0 held in
        let is = damaged_copies_give_no_other pic from.0 (all_at (Damaged pic) copies from.0 damaged from.1) r from.2 in
        let samples : r.samples ≡ line_of pic c y = is.2 ∙ ap (λ n. line_of pic n r.line) e ∙ ap (line_of pic c) f in
        λ i. reading_of (e i) (f i) (samples i)

pub exactly_gives_the_picture : (pic : WholePicture) → IsPicture pic → (station : PartialPicture) (copies : List (List ℕ))
    → HoldsExactly station copies → AllByRecursion (Damaged pic) copies → EachLineSurvives pic copies
    → GivesPicture station pic × FilesReadAs station pic
exactly_gives_the_picture pic is station copies h damaged each =
    let gives : GivesPicture station pic =
    gives_picture station pic is (same_shape pic station copies is h each) (each_line_is_one pic station copies h damaged each) in
    (gives, files_read_as station pic is gives.1)

-- the one reading of a settled line
pub only_one : (xs : List (List ℕ)) (x : List ℕ) → status_of xs ≡ Settled → Contains xs x → xs ≡ x ∷ []
only_one [] x s c = absurd cc
only_one (y ∷ []) x s (zero, l, e) = ap (λ z. z ∷ []) e
only_one (y ∷ []) x s (suc k, l, e) = absurd (omega (arith, l))
only_one (y ∷ z ∷ zs) x s c = absurd cc

pub settled_is_the_picture : (pic : WholePicture) → IsPicture pic → (station : PartialPicture) (copies : List (List ℕ))
    → HoldsExactly station copies → EachLineSurvives pic copies → IsSettled station → picture_of station ≡ pic
settled_is_the_picture pic is station copies h each settled =
    let e = same_shape pic station copies is h each in
    (gives_picture station pic is e
    (λ c y l k. only_one (readings_at station c y) (line_of pic c y)
    (settled c (subst (λ (s : PictureShape). c < length s.ids) (sym e) l) y (subst (λ (s : PictureShape). y < s.height) (sym e) k))
    (is_at_line station c y (line_of pic c y) (survivor_held pic station copies h each c y l k)))).1
