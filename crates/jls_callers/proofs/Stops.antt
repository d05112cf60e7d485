-- What the events of a reading show of how it stopped.
use Rattle.std.proofs.Common.{◌≡◌, ◌≤◌, ◌<◌, ◌⊎◌, inl, inr, ℕ, true, false, List, [], ◌∷◌, ◌++◌, Option, length, refl, sym, ap, ◌∙◌, subst}
use Rattle.std.proofs.Common.{arith}
use Rattle.std.proofs.lemmas.Bool.{false≢true}
use Rattle.std.proofs.lemmas.List.{append-nil, length-append}
use Rattle.std.specs.List.{list_any}
use Rattle.jls_io.specs.Event.{Event, gave, read_failed, is_failed_read}
use Rattle.jls_io.specs.Event.{bytes_given}
use Rattle.jls_partial.specs.Partial.{PartialPicture}
use Rattle.jls_station.specs.Given.{Given, Gives, by_text, by_copy, CopyReport, FoundCopy}
use Rattle.jls_station.specs.Inputs.{IsEnough, IsCopyDone, IsRefused, no_text, text_not_read, no_picture, copy_not_read, ReadsRefuse}
use Rattle.jls_station.specs.Inputs.{for_fault, for_memory}
use Rattle.jls_station.specs.KnownInputs.{CountsWithin}
use Rattle.jls_station.specs.Reading.{GoesOn, StopsWith, IsRead}
use Rattle.jls_station.specs.TakingCopies as taking
use Rattle.jls_station.specs.TakingCopies.{CopyGives, CopyStops, RefusesCopy, gives_none, other_shape, no_memory}
use Rattle.jls_station.specs.declared.input.ReadStop.{ReadStop}
use Rattle.jls_station.specs.declared.input.ReadStop.TheVariants.{Whole, Failed, Turns}
use Rattle.jls_station.specs.declared.input.InputFault.{InputFault}
use Rattle.jls_station.specs.declared.input.InputFault.TheVariants as input
use Rattle.jls_station.specs.declared.take_copy.TakeFault.{TakeFault}
use Rattle.jls_station.specs.declared.take_copy.TakeFault.TheVariants as take

-- ---- one reading

-- a reading that stopped so shows this: a read failed; or all reads were made, and gave at least as many bytes
abbrev pub Shows : ReadStop → ℕ → List Event → Type 0
Shows Whole count reads = Unit {0}
Shows Failed count reads = list_any is_failed_read reads ≡ true
Shows Turns count reads = (length reads ≡ 4294967295) × (4294967295 ≤ count)

failed_after : (on : List Event) → list_any is_failed_read (on ++ read_failed ∷ []) ≡ true
failed_after [] = refl
failed_after (read_failed ∷ on) = refl
failed_after (e ∷ on) = failed_after on

module _ (E : List ℕ → Type 0) where
  -- each read that went on gave a byte at least
  some_each : (fed : List ℕ) (reads : List Event) → GoesOn E fed reads → length reads ≤ length (bytes_given reads)
  some_each fed [] h = omega arith
  some_each fed (gave room bytes ∷ more) h =
      let n = some_each (fed ++ bytes) more h.3 in
      let some = h.1 in
      omega (arith, n, some, length-append bytes (bytes_given more))
  some_each fed (e ∷ more) h = absurd h

  -- how it stopped tells the last read: a failed one, or none
  abbrev LastOf : ReadStop → List Event → Type 0
  LastOf Whole last = Unit {0}
  LastOf Failed last = last ≡ read_failed ∷ []
  LastOf Turns last = last ≡ []

  pub last_of : (bytes : List ℕ) (last : List Event) (stop : ReadStop) → StopsWith E bytes last stop → LastOf stop last
  last_of bytes last Whole h = tt
  last_of bytes [] Turns h = refl
  last_of bytes (read_failed ∷ []) Failed h = refl
  last_of bytes (read_failed ∷ []) stop h = absurd h
  last_of bytes (gave room [] ∷ []) stop h = absurd h
  last_of bytes last stop h = absurd h

  pub shown : (reads : List Event) (bytes : List ℕ) (stop : ReadStop) → IsRead E reads bytes stop → Shows stop (length bytes) reads
  shown reads bytes Whole h = tt
  shown reads bytes Failed h =
      let last = last_of bytes h.last Failed h.stops in
      ap (list_any is_failed_read) (h.reads_are ∙ ap (λ (x : List Event). h.on ++ x) last) ∙ failed_after h.on
  shown reads bytes Turns h =
      let last = last_of bytes h.last Turns h.stops in
      let on : reads ≡ h.on = h.reads_are ∙ ap (λ (x : List Event). h.on ++ x) last ∙ append-nil h.on in
      let all = h.used_up refl in
      let made : length reads ≡ length h.on = ap length on in
      let given : length bytes ≡ length (bytes_given h.on) = ap length h.bytes_are in
      let some = some_each [] h.on h.goes_on in
      (all, omega (arith, all, made, given, some))

-- if no read failed
abbrev pub NotFailed : ReadStop → ℕ → List Event → Type 0
NotFailed stop count reads = (stop ≡ Whole) ⊎ ((stop ≡ Turns) × (length reads ≡ 4294967295) × (4294967295 ≤ count))

pub not_failed : (stop : ReadStop) (count : ℕ) (reads : List Event) → Shows stop count reads → list_any is_failed_read reads ≡ false
    → NotFailed stop count reads
not_failed Whole count reads h none = inl refl
not_failed Failed count reads h none = absurd (false≢true (sym none ∙ h))
not_failed Turns count reads h none = inr (refl, h.0, h.1)

pub all_made : (stop : ReadStop) (count : ℕ) (reads : List Event) → NotFailed stop count reads
    → (stop ≡ Whole) ⊎ ((stop ≡ Turns) × (length reads ≡ 4294967295))
all_made stop count reads (inl whole) = inl whole
all_made stop count reads (inr turns) = inr (turns.0, turns.1)

pub whole_if_few : (stop : ReadStop) (count : ℕ) (reads : List Event) → NotFailed stop count reads → (4294967295 ≤ count → ⊥) → stop ≡ Whole
whole_if_few stop count reads (inl whole) few = whole
whole_if_few stop count reads (inr turns) few = absurd (few turns.2)

-- what is read of fewer known bytes is read whole
pub input_whole_if_few : (source : Option ℕ) (bytes known : List ℕ) (g : Given) (reads : List Event) → Gives source bytes g
    → CountsWithin g known
    → NotFailed g.stop (length bytes) reads → length known < 4294967295 → g.stop ≡ Whole
input_whole_if_few _ _ known _ reads (by_text source bytes p is) k h below = refl
input_whole_if_few _ _ known _ reads (by_copy source bytes read stop copied is) k h below =
    let within : length bytes ≤ length known = k in
    whole_if_few stop (length bytes) reads h (λ many. absurd (omega (arith, many, within, below)))

-- where the count is that of a prefix of known bytes, and the stop is not whole
pub only_turns : (stop : ReadStop) (count : ℕ) (reads : List Event) (bytes prefix following : List ℕ) → Shows stop count reads
    → list_any is_failed_read reads ≡ false → (stop ≡ Whole → ⊥)
    → count ≡ length prefix → bytes ≡ prefix ++ following → (stop ≡ Turns) × (4294967295 ≤ length bytes)
only_turns Whole count reads bytes prefix following h none not n is = absurd (not refl)
only_turns Failed count reads bytes prefix following h none not n is = absurd (false≢true (sym none ∙ h))
only_turns Turns count reads bytes prefix following h none not n is =
    let l : length bytes ≡ length (prefix ++ following) = ap length is in
    let most = h.1 in
    (refl, omega (arith, most, n, l, length-append prefix following))

-- ---- a copy that a station takes

pub taken_shows : (source : Option ℕ) (p : PartialPicture) (report : CopyReport) (reads : List Event)
    → CopyGives source p report reads
    → Shows report.stop report.found.count reads
taken_shows source p report reads h =
    subst (λ (n : ℕ). Shows report.stop n reads) (sym (ap (λ (f : FoundCopy). f.count) h.found_is))
    (shown IsCopyDone reads h.bytes report.stop h.is_read)

abbrev pub RefusalShows : TakeFault → List Event → Type 0
RefusalShows (take.Read stop count) reads = Shows stop count reads
RefusalShows _ reads = Unit {0}

stop_shows : (f : TakeFault) (reads : List Event) → CopyStops f reads → RefusalShows f reads
stop_shows _ _ (taking.no_picture bytes f offset reads is none) = tt
stop_shows _ _ (taking.not_read bytes stop f offset reads not is none) = shown IsCopyDone reads bytes stop is
stop_shows _ _ (taking.between_reads reads is) = tt
stop_shows _ _ (taking.after_the_last bytes stop reads is) = tt

pub refusal_shows : (source : Option ℕ) (old new : PartialPicture) (f : TakeFault) (reads : List Event) → RefusesCopy source old new f reads
    → RefusalShows f reads
refusal_shows _ _ _ _ _ (gives_none source old f reads h) = stop_shows f reads h
refusal_shows _ _ _ _ _ (other_shape source old p report reads g shape) = tt
refusal_shows _ _ _ _ _ (no_memory source old new p report reads g shape between) = tt

-- ---- an input

abbrev pub InputShows : InputFault → List Event → Type 0
InputShows (input.Read stop count) reads = Shows stop count reads
InputShows _ reads = Unit {0}

refused_shows : (bytes : List ℕ) (stop : ReadStop) (f : InputFault) (reads : List Event) → IsRead IsEnough reads bytes stop
    → IsRefused bytes stop f → InputShows f reads
refused_shows _ _ _ reads is (no_text bytes f text bad) = tt
refused_shows _ _ _ reads is (text_not_read bytes stop text not) = shown IsEnough reads bytes stop is
refused_shows _ _ _ reads is (no_picture bytes f offset copied none) = tt
refused_shows _ _ _ reads is (copy_not_read bytes stop f offset copied not none) = shown IsEnough reads bytes stop is

pub input_shows : (f : InputFault) (reads : List Event) → ReadsRefuse f reads → InputShows f reads
input_shows _ _ (for_fault f bytes stop reads is refused) = refused_shows bytes stop f reads is refused
input_shows _ _ (for_memory reads h) = tt
