-- The headline, from what stations hold of the copies that calls read for them.
use Rattle.std.proofs.Common.{◌≡◌, ℕ, List, Result, Ok, Err, sym, ap, ◌∙◌, subst}
use Rattle.std.specs.Prelude.{IfOk, IfErr}
use Rattle.jls_partial.specs.Partial.{PartialPicture}
use Rattle.jls_partial.specs.Text.{text}
use Rattle.jls_partial.specs.Status.{IsSettled}
use Rattle.jls_write.specs.Picture.{WholePicture, picture_of}
use Rattle.jls_write.specs.Options.{OptionsFit}
use Rattle.jls_write.specs.Pnm.{pnm}
use Rattle.jls_write.specs.Unsettled.{NamesFirstUnsettled}
use Rattle.jls_write.specs.declared.picture.PictureFault.{PictureFault}
use Rattle.jls_write.specs.declared.picture.PictureFault.TheVariants.{Unsettled}
use Rattle.jls_write.specs.WrittenFile.{written_file}
use Rattle.jls_report.specs.ReportText.{report_text}
use Rattle.jls_headline.specs.Sources.{copies_of}
use Rattle.jls_headline.specs.ReadsAs.{ReadsAsOnly}
use Rattle.jls_headline.specs.Headline.{SinkCall, HandedOutBy, TookBytes, TookTheSame, SameCopiesHoldTheSame, SameSourcesAreOneStation}
use Rattle.jls_headline.specs.Headline.{SameCopiesWriteTheSame, DamagedCopiesWriteThePicture}
use Rattle.jls_headline.specs.HeadlineLaws.{SameCopiesSayTheSame, SameSourcesSameText}
use Rattle.jls_headline.specs.LineLaws.{NeverAnotherPicture}
use Rattle.jls_headline.proofs.Collected.{collected_holds, collected_holds_under}
use Rattle.jls_headline.proofs.Stations.{same_readings}
use Rattle.jls_headline.proofs.SourcedStations.{same_under}
use Rattle.jls_headline.proofs.StationPictures.{say_the_same, exactly_gives_the_picture, each_line_is_one, settled_is_the_picture}

pub same_copies_hold_the_same : SameCopiesHoldTheSame
same_copies_hold_the_same station other copies others collected collected' shape same =
    let h = collected_holds station copies collected in
    let k = collected_holds other others collected' in
    (h, k, same_readings station other (copies_of copies) (copies_of others) h k same.0 same.1)

pub same_sources_are_one_station : SameSourcesAreOneStation
same_sources_are_one_station station other copies others collected collected' shape same =
    let h = collected_holds_under station copies collected in
    let k = collected_holds_under other others collected' in
    (h, k, same_under station other copies others h k shape same.0 same.1)

-- what was handed out in each of two calls, where it is equal
took_the_same : (call again : SinkCall) (bytes bytes' : List ℕ) → bytes ≡ bytes' → HandedOutBy call bytes → HandedOutBy again bytes'
    → TookTheSame call again
took_the_same call again bytes bytes' e h k = (bytes, h.wrote, subst (TookBytes again) (sym e) k.wrote)

pub same_copies_write_the_same : SameCopiesWriteTheSame
same_copies_write_the_same station other copies others collected collected' shape same =
    let readings = (same_copies_hold_the_same station other copies others collected collected' shape same).2 in
    let says = say_the_same station other shape readings in (
      record {
        jls = λ pic pic' o call again e f h k.
            took_the_same call again (written_file pic o) (written_file pic' o)
            (ap (λ (x : WholePicture). written_file x o) e ∙ says.jls_file o ∙ sym (ap (λ (x : WholePicture). written_file x o) f)) h k;
        pnm_file = λ pic pic' call again e f h k.
            took_the_same call again (pnm pic) (pnm pic') (ap pnm e ∙ says.pnm_file ∙ sym (ap pnm f)) h k;
        report = λ report report' bytes bytes' e f b b'. b ∙ ap report_text e ∙ says.report ∙ sym (b' ∙ ap report_text f);
      },
      λ under under' sources bytes bytes' b b'.
          b ∙ ap text (same_sources_are_one_station station other copies others under under' shape sources).2 ∙ sym b',
    )

pub same_copies_say_the_same : SameCopiesSayTheSame
same_copies_say_the_same station other copies others collected collected' shape same =
    say_the_same station other shape (same_copies_hold_the_same station other copies others collected collected' shape same).2

pub same_sources_same_text : SameSourcesSameText
same_sources_same_text station other copies others collected collected' shape same =
    ap text (same_sources_are_one_station station other copies others collected collected' shape same).2

pub never_another_picture : NeverAnotherPicture
never_another_picture pic is station copies collected each settled =
    settled_is_the_picture pic is station (copies_of copies) (collected_holds station copies collected) each settled

-- where each line is settled, `Picture::of` can't refuse
answered : (station : PartialPicture) (pic : WholePicture) → IsSettled station → picture_of station ≡ pic
    → (result : Result WholePicture PictureFault) → IfOk result (λ answer. answer ≡ picture_of station)
    → IfErr result (λ fault. NamesFirstUnsettled station fault) → result ≡ Ok pic
answered station pic settled e (Ok answer) is none = ap (λ (x : WholePicture). Ok x) (is ∙ e)
answered station pic settled e (Err (Unsettled component line)) is named =
    absurd (named.first_line.unsettled (settled component named.first_line.component_in line named.first_line.line_in))

pub damaged_copies_write_the_picture : DamagedCopiesWriteThePicture
damaged_copies_write_the_picture pic is station copies collected damaged each =
    let held = collected_holds station copies collected in
    let gives = exactly_gives_the_picture pic is station (copies_of copies) held damaged each in
    record {
      settled = each_line_is_one pic station (copies_of copies) held damaged each;
      picture = answered station pic gives.0.0 gives.0.1;
      file = λ answer o call e params low fit handed. (
        written_file answer o,
        handed.wrote,
        subst (λ (x : WholePicture). ReadsAsOnly (written_file x o) pic) (sym e)
            (gives.1 o params low (subst (λ (x : WholePicture). OptionsFit x o) (e ∙ gives.0.1) fit)),
      );
    }
