-- Runs over what a reader gives of each of the two copies, as values, with nothing assumed.
use Rattle.std.proofs.Common.{◌≡◌, ℕ, true, ◌&&◌, ◌==◌, List, [], ◌∷◌, ◌++◌, map, refl, sym, ap, ◌∙◌, subst}
use Rattle.std.specs.Ordering.{nat_cmp, eq_by_cmp}
use Rattle.std.specs.declared.cmp.Ordering.{Ordering}
use Rattle.std.specs.Cmp.{IsTotalOrder}
use Rattle.std.specs.List.{filter}
use Rattle.std.specs.List.Sorted.{IsStrictlySortedBy}
use Rattle.std.proofs.lemmas.Cmp.{nat_cmp_total}
use Rattle.jls_values.specs.OrderedSet as set
use Rattle.jls_values.specs.OrderedSetLaws.{items-from_list, union-commutative}
use Rattle.jls_partial.specs.declared.line_place.LinePlace.{LinePlace}
use Rattle.jls_partial.specs.declared.version.Version.TheVariants.{Two}
use Rattle.jls_partial.specs.Entries.{BareEntry, at_place}
use Rattle.jls_partial.specs.LinePlace.{place, place_cmp, place_of}
use Rattle.jls_partial.specs.Marks.{mark_cmp}
use Rattle.jls_partial.specs.MarkLaws.{mark_total}
use Rattle.jls_partial.specs.ReadingOrder.{place_total, reading_total, reading_exact}
use Rattle.jls_partial.specs.Partial.{PartialPicture, union}
use Rattle.jls_partial.specs.Reading.{Reading, reading_of, reading_cmp}
use Rattle.jls_partial.specs.Text.{text, text_of}
use Rattle.jls_copy.specs.declared.piece.PieceKind.TheVariants as kind
use Rattle.jls_copy_laws.proofs.Members.{bytes_of_test}
use Rattle.jls_marker.specs.SegmentLaws.{AreBytes}
use Rattle.jls_cli.specs.Outcomes.{finished}
use Rattle.jls_salvage_run.specs.declared.writing.Format.TheVariants.{Pnm}
use Rattle.jls_run_laws.specs.JoinThenWrite.{JoinsDamagedCopies, JoinsForDamagedCopies, WritesWhatWasJoined}
use Rattle.jls_run_laws.proofs.JoinExamples as runs
use Rattle.jls_headline.proofs.TwoLineCopies.{shape, pic}
use Rattle.jls_headline.proofs.ClosedExamples.{first_read, second_read, first_reads, second_reads, station}

-- What both hold -------------------------------------------------------------------------------------------------

abbrev read_0 : Reading
read_0 = reading_of 0 0 (0 ∷ [])

abbrev read_1 : Reading
read_1 = reading_of 0 1 (255 ∷ [])

abbrev lines : List Reading
lines = read_0 ∷ read_1 ∷ []

items_of_first : set.items first_read.partial.readings ≡ read_0 ∷ []
unfolding IsStrictlySortedBy
items_of_first = items-from_list reading_total (read_0 ∷ []) (tt, tt)

items_of_none : {K : Type 0} {R : K → K → Ordering} → IsTotalOrder R → set.items (set.empty {R = R}) ≡ []
unfolding IsStrictlySortedBy
items_of_none total = items-from_list total [] tt

-- what is joined of both: line 0 and line 1, and no source
abbrev pub both : PartialPicture
both = runs.both first_read second_read first_reads second_reads

items_of_both : set.items both.readings ≡ lines
unfolding IsStrictlySortedBy
items_of_both =
    ap set.items (union-commutative reading_total reading_exact first_read.partial.readings second_read.partial.readings
    ∙ ap (set.insert_all second_read.partial.readings) items_of_first)
    ∙ items-from_list reading_total lines ((refl, tt), (tt, tt))

-- the station that took both copies holds the same readings
station_holds_both : station.readings ≡ both.readings
station_holds_both =
    ap (λ (rs : List Reading). set.union (set.insert_all {R = reading_cmp} set.empty rs) second_read.partial.readings) items_of_first

marks_of_both : set.items both.marks ≡ []
marks_of_both =
    ap (λ (ms : List (Reading × ℕ)). set.items (set.insert_all {R = mark_cmp reading_cmp} set.empty ms))
    (items_of_none (mark_total reading_total))
    ∙ items_of_none (mark_total reading_total)

-- Its text -------------------------------------------------------------------------------------------------------

-- the samples of the line at a place, the sources of a reading, and the places, of readings and marks in order
abbrev samples_at : List Reading → LinePlace → List (List ℕ)
samples_at rs at =
    map (λ (r : Reading). r.samples) (filter (λ (r : Reading). r.component == at.component && r.line == at.line) rs)

abbrev sources_in : List (Reading × ℕ) → Reading → List ℕ
sources_in ms r =
    set.items (set.from_list {R = nat_cmp} (map (λ (m : Reading × ℕ). m.1)
    (filter (λ (m : Reading × ℕ). eq_by_cmp reading_cmp r m.0) ms)))

abbrev places_in : List Reading → List LinePlace
places_in rs = set.items (set.from_list {R = place_cmp} (map place_of rs))

-- a text by its readings, their sources, and its places
abbrev text_by : List Reading → (Reading → List ℕ) → List LinePlace → List ℕ
text_by rs sources places =
    text_of Two shape
    (map (λ (e : BareEntry). (e.0, map (λ (samples : List ℕ). (samples, sources (at_place e.0 samples))) e.1))
    (map (λ (at : LinePlace). (at, samples_at rs at)) places))

-- `JLSP`, the version, and the shape; two entries; each with its place, one reading, its sample, and no source
abbrev pub bytes_of_text : List ℕ
bytes_of_text =
    0x4A ∷ 0x4C ∷ 0x53 ∷ 0x50 ∷ 2 ∷ 8 ∷ 0 ∷ 1 ∷ 0 ∷ 2 ∷ 1 ∷ 1 ∷ 0 ∷ 0 ∷ 0 ∷ 2
    ∷ 0 ∷ 0 ∷ 0 ∷ 0 ∷ 0 ∷ 0 ∷ 0 ∷ 0 ∷ 0 ∷ 0 ∷ 1 ∷ 0 ∷ 0 ∷ 0 ∷ 0 ∷ 0 ∷ 0 ∷ 0 ∷ 0 ∷ 0 ∷ 0
    ∷ 0 ∷ 0 ∷ 1 ∷ 0 ∷ 0 ∷ 0 ∷ 0 ∷ 0 ∷ 0 ∷ 0 ∷ 1 ∷ 0 ∷ 0xFF ∷ 0 ∷ 0 ∷ 0 ∷ 0 ∷ 0 ∷ 0 ∷ 0 ∷ 0 ∷ []

its_text : text both ≡ bytes_of_text
unfolding IsStrictlySortedBy
its_text =
    ap (λ (rs : List Reading). text_by rs (sources_in (set.items both.marks)) (places_in rs)) items_of_both
    ∙ ap (λ (ms : List (Reading × ℕ)). text_by lines (sources_in ms) (places_in lines)) marks_of_both
    ∙ ap (λ (places : List LinePlace). text_by lines (sources_in []) places)
    (items-from_list place_total (place 0 0 ∷ place 0 1 ∷ []) ((refl, tt), (tt, tt)))
    ∙ ap (λ (sources : List ℕ). text_by lines (λ r. sources) (place 0 0 ∷ place 0 1 ∷ [])) (items_of_none nat_cmp_total)

pub text_is_bytes : AreBytes (text both)
text_is_bytes = subst AreBytes (sym its_text) (bytes_of_test bytes_of_text refl)

-- Runs -----------------------------------------------------------------------------------------------------------

-- a run of `join` over both copies
pub join_of_both : JoinsDamagedCopies pic (runs.run first_read second_read first_reads second_reads)
join_of_both = runs.joins first_read second_read first_reads second_reads

-- one of `write` after it
pub write_of_the_join : WritesWhatWasJoined (runs.joining first_read second_read first_reads second_reads) Pnm (finished true true)
    (runs.text_reading first_read second_read first_reads second_reads text_is_bytes
    ++ runs.handing first_read second_read first_reads second_reads text_is_bytes)
write_of_the_join = runs.writes first_read second_read first_reads second_reads text_is_bytes

-- and one of `join` over the text
pub join_of_the_text : JoinsForDamagedCopies pic (runs.run_again first_read second_read first_reads second_reads text_is_bytes)
join_of_the_text = runs.joins_the_text first_read second_read first_reads second_reads text_is_bytes
