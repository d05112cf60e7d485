-- Whole runs of `join` whose inputs are copies.
use Rattle.std.proofs.Common.{◌≡◌, ℕ, true, false, List, [], ◌∷◌, map, Option, Some, refl, sym, ap, ◌∙◌, subst, inl}
use Rattle.std.specs.List.{AllByRecursion, Contains}
use Rattle.jls_values.specs.OrderedSet as set
use Rattle.jls_values.specs.Shape.{PictureShape}
use Rattle.jls_partial.specs.Partial.{PartialPicture}
use Rattle.jls_partial.specs.Text.{text}
use Rattle.jls_write.specs.Picture.{WholePicture}
use Rattle.jls_copy_laws.specs.CopyScans.{ScanWithData, HasScans}
use Rattle.jls_copy_laws.proofs.CopyScans.{one_list_of_scans}
use Rattle.jls_station.specs.Given.{marked}
use Rattle.jls_station.specs.Texts.{is_text}
use Rattle.jls_station.proofs.TextsApart.{filled_is_no_text}
use Rattle.jls_salvage_run.specs.AllInputs.{partials, IsUnionOf}
use Rattle.jls_salvage_run.specs.CommandLaws.{input_bytes, output_bytes}
use Rattle.jls_headline.specs.Damaged.{Damaged}
use Rattle.jls_headline.specs.Stations.{HasShape, HoldsExactly, IsSameCopy, AreAmong}
use Rattle.jls_headline.specs.Sources.{SourcedCopy, copies_of, IsSameUnder}
use Rattle.jls_headline.specs.Sources.{sourced_copy}
use Rattle.jls_run_laws.specs.RunLaws.{DoneJoin, AreNoTexts, InputsStandFor, InputsStandUnder, RunsHoldExactly, RunsWithTextsHoldExactly}
use Rattle.jls_run_laws.specs.RunLaws.{RunsSayTheSame, RunsWithTextsSayTheSame, RunsGiveThePicture, RunsWithTextsGiveThePicture}
use Rattle.jls_run_laws.specs.RunLaws.{RunsHoldExactlyUnder, RunsUnderSourcesHandOutTheSame, RunsTellOfLines}
use Rattle.jls_partial.specs.Reading.{Reading}
use Rattle.jls_copy_laws.proofs.Members.{is_first, all_at, all_weaker, in_map, of_map}
use Rattle.jls_headline.proofs.SameCopies.{same_copy_has_shape}
use Rattle.jls_headline.proofs.Stations.{same_readings}
use Rattle.jls_headline.proofs.SourcedStations.{same_under}
use Rattle.jls_headline.proofs.StationPictures.{say_the_same, exactly_gives_the_picture}
use Rattle.jls_headline.proofs.Collected.{collected_holds, collected_holds_under}
use Rattle.jls_headline.proofs.OneLine.{stations_tell_of_lines}
use Rattle.jls_run_laws.proofs.CollectedRuns.{given_in, runs_are_collected, runs_are_collected_under}
use Rattle.jls_salvage_run.proofs.InputBytes.{AreGiven, output_of_join}

-- copies stand for themselves
copies_stand : (source : Option ℕ) (inputs : List (List ℕ)) → AreNoTexts inputs
    → InputsStandFor source inputs (map (sourced_copy source) inputs)
copies_stand source [] none = refl
copies_stand source (bytes ∷ inputs) none =
    (sourced_copy source bytes ∷ [], map (sourced_copy source) inputs, refl, inl (none.0, refl), copies_stand source inputs none.1)

copies_stand_under : (source : Option ℕ) (inputs : List (List ℕ)) → AreNoTexts inputs
    → InputsStandUnder source inputs (map (sourced_copy source) inputs)
copies_stand_under source [] none = refl
copies_stand_under source (bytes ∷ inputs) none =
    (sourced_copy source bytes ∷ [], map (sourced_copy source) inputs, refl, inl (none.0, refl), copies_stand_under source inputs none.1)

-- and are these copies again
bytes_again : (source : Option ℕ) (inputs : List (List ℕ)) → copies_of (map (sourced_copy source) inputs) ≡ inputs
bytes_again source [] = refl
bytes_again source (bytes ∷ inputs) = ap (λ xs. bytes ∷ xs) (bytes_again source inputs)

-- The laws -------------------------------------------------------------------------------------------------------

-- the output of a run
pub handed_by : (run : DoneJoin) → output_bytes run.events ≡ text run.joined ∷ []
handed_by run = output_of_join run.source run.out run.names run.joined run.settled run.whole run.events run.is_done

pub runs_hold_exactly_under : RunsHoldExactlyUnder
runs_hold_exactly_under run copies stand = collected_holds_under run.joined copies (runs_are_collected_under run copies stand)

pub runs_under_sources_hand_out_the_same : RunsUnderSourcesHandOutTheSame
runs_under_sources_hand_out_the_same run again copies others stand stand' shape same =
    let one = same_under run.joined again.joined copies others (runs_hold_exactly_under run copies stand)
    (runs_hold_exactly_under again others stand') shape same.0 same.1 in
    (one, handed_by run ∙ ap (λ (p : PartialPicture). text p ∷ []) one ∙ sym (handed_by again))

pub runs_with_texts_hold_exactly : RunsWithTextsHoldExactly
runs_with_texts_hold_exactly run copies stand = collected_holds run.joined copies (runs_are_collected run copies stand)

pub runs_hold_exactly : RunsHoldExactly
runs_hold_exactly run none =
    subst (HoldsExactly run.joined) (bytes_again run.source (input_bytes run.events))
    (runs_with_texts_hold_exactly run (map (sourced_copy run.source) (input_bytes run.events))
    (copies_stand run.source (input_bytes run.events) none))

pub runs_tell_of_lines : RunsTellOfLines
runs_tell_of_lines run copies stand pic component line =
    stations_tell_of_lines pic run.joined copies (runs_are_collected run copies stand) component line

pub scans_are_no_text : (bytes : List ℕ) (shape : PictureShape) (scans : List ScanWithData) → HasScans bytes shape scans
    → is_text bytes ≡ false
scans_are_no_text bytes shape scans has = ap is_text has.copy_is ∙ filled_is_no_text has.fill has.after_soi

-- damaged copies are no texts
pub are_no_texts : (pic : WholePicture) (inputs : List (List ℕ)) → AllByRecursion (Damaged pic) inputs → AreNoTexts inputs
are_no_texts pic inputs damaged =
    all_weaker (Damaged pic) (λ bytes. is_text bytes ≡ false) inputs (λ bytes d. scans_are_no_text bytes pic.shape d.0 d.1) damaged

pub runs_with_texts_give_the_picture : RunsWithTextsGiveThePicture
runs_with_texts_give_the_picture run copies stand pic is damaged each =
    exactly_gives_the_picture pic is run.joined (copies_of copies) (runs_with_texts_hold_exactly run copies stand) damaged each

pub runs_give_the_picture : RunsGiveThePicture
runs_give_the_picture run pic is damaged each =
    exactly_gives_the_picture pic is run.joined (input_bytes run.events)
    (runs_hold_exactly run (are_no_texts pic (input_bytes run.events) damaged)) damaged each

-- Two runs -------------------------------------------------------------------------------------------------------

some_input : (source : Option ℕ) (ps : List PartialPicture) (joined : PartialPicture) (inputs : List (List ℕ)) → AreGiven source inputs ps
    → IsUnionOf ps joined → (bytes : List ℕ) × Contains inputs bytes
some_input source [] joined inputs given u = absurd u
some_input source (p ∷ ps) joined [] given u = absurd given
some_input source (p ∷ ps) joined (bytes ∷ inputs) given u = (bytes, is_first bytes inputs)

pub one_shape_of : (bytes : List ℕ) (s t : PictureShape) → HasShape s bytes → HasShape t bytes → s ≡ t
one_shape_of bytes s t (scans, has) (scans', has') = (one_list_of_scans bytes s t scans scans' has has').0

shape_of_input : (p : PartialPicture) (copies : List (List ℕ)) (bytes : List ℕ) → HoldsExactly p copies → Contains copies bytes
    → HasShape p.shape bytes
shape_of_input p copies bytes h c = all_at (HasShape p.shape) copies bytes h.are_copies c

-- the readings of copies alone have the source of the run, and no other
pub marks_of_run : (run : DoneJoin) → AreNoTexts (input_bytes run.events)
    → (r : Reading) (number : ℕ) → set.contains run.joined.marks (r, number) ≡ true
    → (set.contains run.joined.readings r ≡ true) × (run.source ≡ Some number)
marks_of_run run none r number marked =
    let copies = map (sourced_copy run.source) (input_bytes run.events) in
    let under = runs_hold_exactly_under run copies (copies_stand_under run.source (input_bytes run.events) none) in
    let from = (under.sources r number).0 marked in
    let own = of_map (sourced_copy run.source) (input_bytes run.events) from.0 from.1 in (
      (under.readings.readings r).1 (from.0.bytes, in_map (λ (copy : SourcedCopy). copy.bytes) copies from.0 from.1, from.2.1),
      ap (λ (copy : SourcedCopy). copy.source) own.2 ∙ from.2.0,
    )

-- the same copies are the same under one source
among_under : (source source' : Option ℕ) (copies others : List (List ℕ)) → source ≡ source' → AreAmong IsSameCopy copies others
    → AreAmong IsSameUnder (map (sourced_copy source) copies) (map (sourced_copy source') others)
among_under source source' copies others e among copy c =
    let from = of_map (sourced_copy source) copies copy c in
    let there = among from.0 from.1 in (
      sourced_copy source' there.0,
      in_map (sourced_copy source') others there.0 there.1,
      (ap (λ (x : SourcedCopy). x.source) (sym from.2) ∙ e, subst (λ (x : SourcedCopy). IsSameCopy x.bytes there.0) from.2 there.2),
    )

pub runs_with_texts_say_the_same : RunsWithTextsSayTheSame
runs_with_texts_say_the_same run again copies others stand stand' shape same =
    say_the_same run.joined again.joined shape
    (same_readings run.joined again.joined (copies_of copies) (copies_of others) (runs_with_texts_hold_exactly run copies stand)
    (runs_with_texts_hold_exactly again others stand') same.0 same.1)

pub runs_say_the_same : RunsSayTheSame
runs_say_the_same run again none none' same =
    let one = runs_hold_exactly run none in
    let other = runs_hold_exactly again none' in
    let first = some_input run.source (partials run.is_done.taken.givens) run.joined (input_bytes run.events) (given_in run)
    run.is_done.taken.union_is in
    let there = same.0 first.0 first.1 in
    let shape : run.joined.shape ≡ again.joined.shape =
    one_shape_of there.0 run.joined.shape again.joined.shape
    (same_copy_has_shape first.0 there.0 run.joined.shape there.2 (shape_of_input run.joined (input_bytes run.events) first.0 one first.1))
    (shape_of_input again.joined (input_bytes again.events) there.0 other there.1) in
    let readings = same_readings run.joined again.joined (input_bytes run.events) (input_bytes again.events) one other same.0 same.1 in (
      say_the_same run.joined again.joined shape readings,
      λ e. ap text (runs_under_sources_hand_out_the_same run again
          (map (sourced_copy run.source) (input_bytes run.events)) (map (sourced_copy again.source) (input_bytes again.events))
          (copies_stand_under run.source (input_bytes run.events) none)
          (copies_stand_under again.source (input_bytes again.events) none') shape (
            among_under run.source again.source (input_bytes run.events) (input_bytes again.events) e same.0,
            among_under again.source run.source (input_bytes again.events) (input_bytes run.events) (sym e) same.1,
          )).0,
    )
