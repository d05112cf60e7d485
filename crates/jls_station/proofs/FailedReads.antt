-- Failures among events, and reads of an input that stopped before its end.
use Rattle.std.proofs.Common.{◌≡◌, ◌+◌, ◌⊎◌, inl, inr, ℕ, List, [], ◌∷◌, ◌++◌, length, filter, sym, subst, ap, ◌∙◌, refl, arith}
use Rattle.std.specs.List.{list_any}
use Rattle.std.proofs.lemmas.Bool.{or_left, or_right}
use Rattle.std.proofs.lemmas.List.{length-append}
use Rattle.std.proofs.lemmas.List.Elements.{filter-append}
use Rattle.std.proofs.lemmas.List.Folds.{list_any-append}
use Rattle.jls_io.specs.Event.{Event, gave, read_failed, write_failed, is_failure, is_read}
use Rattle.jls_io.specs.Writing.{WrotePrefix}
use Rattle.jls_station.specs.Reading.{GoesOn, StopsWith, IsRead, HadFailure}
use Rattle.jls_station.specs.declared.input.ReadStop.{ReadStop}
use Rattle.jls_station.specs.declared.input.ReadStop.TheVariants.{Whole, Failed, Turns}

-- ---- failures among events

reads_both : (a b : List Event) → length (filter is_read (a ++ b)) ≡ length (filter is_read a) + length (filter is_read b)
reads_both a b = ap length (filter-append is_read a b) ∙ length-append (filter is_read a) (filter is_read b)

pub failed_left : (a b : List Event) → HadFailure a → HadFailure (a ++ b)
failed_left a b (inl e) = inl (list_any-append is_failure a b ∙ or_left (list_any is_failure a) (list_any is_failure b) e)
failed_left a b (inr le) = inr (omega (arith, reads_both a b, le))

pub failed_right : (a b : List Event) → HadFailure b → HadFailure (a ++ b)
failed_right a b (inl e) = inl (list_any-append is_failure a b ∙ or_right (list_any is_failure a) (list_any is_failure b) e)
failed_right a b (inr le) = inr (omega (arith, reads_both a b, le))

pub failed_as : (a b : List Event) → a ≡ b → HadFailure b → HadFailure a
failed_as a b e h = subst HadFailure (sym e) h

-- a write that failed
pub prefix_failed : (bytes : List ℕ) (count : ℕ) (events : List Event) → WrotePrefix bytes count events → HadFailure events
prefix_failed bytes count events h =
    failed_as events (h.writes ++ write_failed ∷ []) h.events_are (failed_right h.writes (write_failed ∷ []) (inl refl))

-- ---- an input that was not read to its end

all_reads : (E : List ℕ → Type 0) (fed : List ℕ) (reads : List Event) → GoesOn E fed reads → length (filter is_read reads) ≡ length reads
all_reads E fed [] h = refl
all_reads E fed (gave room bytes ∷ more) h = let r = all_reads E (fed ++ bytes) more h.3 in omega (arith, r)
all_reads E fed (e ∷ more) h = absurd h

module _ (E : List ℕ → Type 0) where
  last_failed : (bytes : List ℕ) (on last : List Event) (stop : ReadStop) → StopsWith E bytes last stop → (stop ≡ Whole → ⊥)
      → GoesOn E [] on
      → (stop ≡ Turns → length (on ++ last) ≡ 4294967295) → HadFailure (on ++ last)
  last_failed bytes on last Whole h not g all = absurd (not refl)
  last_failed bytes on [] Turns h not g all =
      failed_left on [] (inr (let n = all refl in omega (arith, all_reads E [] on g, length-append on [], n)))
  last_failed bytes on (read_failed ∷ []) Failed h not g all = failed_right on (read_failed ∷ []) (inl refl)
  last_failed bytes on (read_failed ∷ []) stop h not g all = absurd h
  last_failed bytes on (gave room [] ∷ []) stop h not g all = absurd h
  last_failed bytes on last stop h not g all = absurd h

  pub read_in_part : (reads : List Event) (bytes : List ℕ) (stop : ReadStop) → IsRead E reads bytes stop → (stop ≡ Whole → ⊥)
      → HadFailure reads
  read_in_part reads bytes stop h not =
      failed_as reads (h.on ++ h.last) h.reads_are
      (last_failed bytes h.on h.last stop h.stops not h.goes_on (λ e. ap length (sym h.reads_are) ∙ h.used_up e))

pub whole_or_not : (stop : ReadStop) → (stop ≡ Whole) ⊎ (stop ≡ Whole → ⊥)
whole_or_not Whole = inl refl
whole_or_not Failed = inr (λ e. absurd cc)
whole_or_not Turns = inr (λ e. absurd cc)
