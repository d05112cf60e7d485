-- The reads of an input, and the bytes that they gave.
use Rattle.std.proofs.Common.{◌≡◌, ℕ, true, List, [], ◌∷◌, ◌++◌, refl, sym, ap, ◌∙◌, subst}
use Rattle.std.specs.List.{AllByRecursion}
use Rattle.std.proofs.lemmas.Grind.{flat_map-append}
use Rattle.std.proofs.lemmas.List.{append-nil}
use Rattle.jls_io.specs.Event.{Event, gave, read_failed, is_read}
use Rattle.jls_io.specs.Event.{bytes_given, bytes_given_by}
use Rattle.jls_station.specs.Reading.{GoesOn, StopsWith, IsRead}
use Rattle.jls_station.specs.declared.input.ReadStop.{ReadStop}

abbrev pub AreReads : List Event → Type 0
AreReads events = AllByRecursion (λ e. is_read e ≡ true) events

reads_both : (a b : List Event) → AreReads a → AreReads b → AreReads (a ++ b)
reads_both [] b h k = k
reads_both (e ∷ a) b h k = (h.0, reads_both a b h.1 k)

-- events with which reading goes on are reads
reads_on : (Enough : List ℕ → Type 0) (fed : List ℕ) (reads : List Event) → GoesOn Enough fed reads → AreReads reads
reads_on Enough fed [] h = tt
reads_on Enough fed (gave room bytes ∷ more) h = (refl, reads_on Enough (fed ++ bytes) more h.3)
reads_on Enough fed (e ∷ more) h = absurd h

-- the last read gave nothing
last_read : (Enough : List ℕ → Type 0) (bytes : List ℕ) (last : List Event) (stop : ReadStop) → StopsWith Enough bytes last stop
    → AreReads last × (bytes_given last ≡ [])
last_read Enough bytes [] stop h = (tt, refl)
last_read Enough bytes (gave room [] ∷ []) stop h = ((refl, tt), refl)
last_read Enough bytes (read_failed ∷ []) stop h = ((refl, tt), refl)
last_read Enough bytes last stop h = absurd h

-- the events of reading an input are reads, and gave its bytes
pub all_reads : (Enough : List ℕ → Type 0) (bytes : List ℕ) (reads : List Event) (stop : ReadStop) → IsRead Enough reads bytes stop
    → AreReads reads × (bytes_given reads ≡ bytes)
all_reads Enough bytes reads stop h =
    let l = last_read Enough bytes h.last stop h.stops in (
      subst AreReads (sym h.reads_are) (reads_both h.on h.last (reads_on Enough [] h.on h.goes_on) l.0),
      ap bytes_given h.reads_are ∙ flat_map-append bytes_given_by h.on h.last
          ∙ ap (λ (x : List ℕ). bytes_given h.on ++ x) l.1 ∙ append-nil (bytes_given h.on) ∙ sym h.bytes_are,
    )
