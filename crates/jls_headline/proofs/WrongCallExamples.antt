-- What wrong calls would come to: a station that keeps the first reading of each line only, one that drops a copy, one that takes a line
-- of a copy that it refuses, one that forgets a source, and a file without its last interval. None is what the laws say. So no proof of
-- them could stand if the contract of such a call, and the step of the history, allowed it.
use Rattle.std.proofs.Common.{◌≡◌, ℕ, true, false, List, [], ◌∷◌, ◌++◌, ◌<◌, Option, Some, refl, sym, subst, ◌∙◌, lit<}
use Rattle.std.specs.List.{AllByRecursion}
use Rattle.std.proofs.lemmas.List.{append-nil}
use Rattle.jls_values.specs.OrderedSet as set
use Rattle.jls_values.specs.OrderedSetLaws.{contains-empty}
use Rattle.jls_partial.specs.Reading.{Reading, reading_of, reading_cmp}
use Rattle.jls_partial.specs.Partial.{PartialPicture, nothing_known, has_same_shape, union}
use Rattle.jls_copy.specs.CopyReads.{CopyReads}
use Rattle.jls_copy.specs.ReadCopy.{ReadCopy}
use Rattle.jls_copy_laws.proofs.Members.{is_first, none_in}
use Rattle.jls_station.specs.Given.{marked}
use Rattle.jls_headline.specs.Damaged.{picture_reading}
use Rattle.jls_headline.specs.ReadsAs.{ReadsAs}
use Rattle.jls_headline.specs.Stations.{HoldsExactly}
use Rattle.jls_headline.specs.Sources.{SourcedCopy, sourced_copy, HoldsExactlyUnder}
use Rattle.jls_headline.specs.Collected.{Knowledge, Collected, reader_finished, partial_taken, same_again}
use Rattle.jls_headline.proofs.LostIntervals.{surviving_lines_are_given, damaged_copies_give_exactly}
use Rattle.jls_headline.proofs.TwoLineCopies.{shape, pic, first, third}
use Rattle.jls_headline.proofs.TwoLineExamples.{both_are_damaged, line_0, line_1_is_lost, third_gives_another}

-- line 0 as the first copy gives it, and as the third does
abbrev own : Reading
own = picture_reading pic 0 0

abbrev another : Reading
another = reading_of 0 0 (1 ∷ [])

not_one : (p : PartialPicture) (r : Reading) → set.contains p.readings r ≡ true → set.contains p.readings r ≡ false → ⊥
not_one p r held none = (let e : true ≡ false = sym held ∙ none in cc)

-- after both copies a station has both readings: one that has the first alone is not what the law says
keeps_the_first_alone : (p : PartialPicture) → HoldsExactly p (first ∷ third ∷ []) → set.contains p.readings another ≡ false → ⊥
keeps_the_first_alone p holds none = not_one p another ((holds.readings another).1 (third, (1, lit< tt, refl), third_gives_another)) none

keeps_the_second_alone : (p : PartialPicture) → HoldsExactly p (first ∷ third ∷ []) → set.contains p.readings own ≡ false → ⊥
keeps_the_second_alone p holds none =
    not_one p own ((holds.readings own).1 (first, is_first first (third ∷ []), surviving_lines_are_given pic first 0 0 (line_0 []))) none

-- nor is a new station after the first copy
drops_the_copy : HoldsExactly (nothing_known shape) (first ∷ []) → ⊥
drops_the_copy holds =
    not_one (nothing_known shape) own
    ((holds.readings own).1 (first, is_first first [], surviving_lines_are_given pic first 0 0 (line_0 [])))
    (contains-empty reading_cmp own)

-- nor one that took a line of no copy, as of one that it refused
takes_what_it_refused : (p : PartialPicture) (r : Reading) → set.contains p.readings r ≡ true → HoldsExactly p [] → ⊥
takes_what_it_refused p r held holds = (let from = (holds.readings r).0 held in none_in from.0 from.1)

-- nor one that took the first copy under a source, and has none
forgets_the_source : (p : PartialPicture) → HoldsExactlyUnder p (sourced_copy (Some 7) first ∷ []) → set.contains p.marks (own, 7) ≡ false
    → ⊥
forgets_the_source p holds none =
    let copy = sourced_copy (Some 7) first in
    let held = (holds.sources own 7).1 (copy, is_first copy [], (refl, surviving_lines_are_given pic first 0 0 (line_0 []))) in
    (let e : true ≡ false = sym held ∙ none in cc)

-- the first copy is the file of the picture in intervals of one line without its last interval, and doesn't read as the picture
ends_an_interval_early : ReadsAs first pic → ⊥
ends_an_interval_early reads =
    let given = (reads.readings (picture_reading pic 0 1)).1 (lit< tt, lit< tt, refl) in
    let damaged = (both_are_damaged []).0 in
    let from = (damaged_copies_give_exactly pic first damaged.0 damaged.1 damaged.2 (picture_reading pic 0 1)).0 given in
    line_1_is_lost (damaged.0, damaged.1, from.0, from.1, from.2)

-- What no law on histories sees: a `take_copy` that reads fewer bytes, under a contract that allows it. Whatever bytes the reads gave, if
-- the station took what they read as, these other calls give the same history: `CopyReader::finish` after these bytes, and `Station::take`
reads_less : (known : Knowledge) (source : Option ℕ) (old new : PartialPicture) (bytes : List ℕ) (read : ReadCopy) (copies over : List SourcedCopy)
    → Collected known old copies over → AllByRecursion (λ b. b < 256) bytes → CopyReads bytes read
    → has_same_shape old (marked source read.partial) ≡ true → new ≡ union old (marked source read.partial)
    → Collected known new (copies ++ sourced_copy source bytes ∷ []) over
reads_less known source old new bytes read copies over g low reads same is =
    let given = marked source read.partial in
    subst (Collected known new (copies ++ sourced_copy source bytes ∷ [])) (append-nil over)
    (partial_taken old new given copies over (sourced_copy source bytes ∷ []) [] g
    (reader_finished source bytes read given low reads refl) same is)

-- nor one that refuses a copy for another reason than there is, and leaves the station as it was
refuses_for_any_reason : (known : Knowledge) (old : PartialPicture) (copies over : List SourcedCopy) → Collected known old copies over
    → Collected known old copies over
refuses_for_any_reason known old copies over g = same_again old old copies over g refl
