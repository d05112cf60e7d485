-- Runs that end with 2 or 3 create no output and report nothing.
use Rattle.std.proofs.Common.{◌≡◌, ◌≤◌, ◌+◌, ℕ, Bool, true, false, List, [], ◌∷◌, ◌++◌, Option, None}
use Rattle.std.proofs.Common.{ap, ◌∙◌, refl, arith}
use Rattle.std.specs.Prelude.{◌||◌}
use Rattle.std.specs.List.{list_any}
use Rattle.std.proofs.lemmas.List.{append-nil}
use Rattle.std.proofs.lemmas.List.Folds.{list_any-append}
use Rattle.jls_io.specs.Event.{Event, opened, gave, read_failed, is_creation}
use Rattle.jls_station.specs.Given.{Given}
use Rattle.jls_station.specs.Reading.{GoesOn, StopsWith, IsRead}
use Rattle.jls_station.specs.Inputs.{IsEnough, between_reads, after_the_last}
use Rattle.jls_station.specs.Inputs.{ReadsRefuse, for_fault, for_memory}
use Rattle.jls_salvage_run.specs.AllInputs.{IsTaken, TakesInTurn, StopsAt, not_there, refused, other_shape, no_memory}
use Rattle.jls_salvage_run.specs.Joining as joining
use Rattle.jls_salvage_run.specs.Joining.{Joins}
use Rattle.jls_cli.specs.Outputs.{StopsAtOutput}
use Rattle.jls_cli.specs.Outcomes.{Outcome, exit_status, finished, status_of_cause}
use Rattle.jls_station.specs.declared.input.ReadStop.{ReadStop}
use Rattle.jls_station.specs.declared.input.InputFault.{InputFault}
use Rattle.jls_cli.specs.declared.outcome.Refusal.{Refusal}
use Rattle.jls_salvage_run.specs.Reporting as reporting
use Rattle.jls_salvage_run.specs.Reporting.{PrintsReport, lines}
use Rattle.jls_salvage_run.specs.WritingFiles as writing
use Rattle.jls_salvage_run.specs.WritingFiles.{WritesFile, StopsAtFile}
use Rattle.jls_salvage_run.specs.declared.writing.Format.{Format}
use Rattle.jls_salvage_run.specs.declared.writing.Format.TheVariants.{Pnm, Jls}
use Rattle.jls_cli.specs.SalvageAsking.{Asked, check, join, show, write_pnm, write_jls}
use Rattle.jls_salvage_run.specs.Runs.{CameOf, Run, came_of, misused, helped, help_cut, nothing_begun, nothing_asked}
use Rattle.jls_salvage_run.specs.Statuses.{RefusedRunsCreateNothing}
use Rattle.jls_salvage_run.proofs.Finished.{output_is_4}

-- ---- no creation

none_both : (a b : List Event) → list_any is_creation a ≡ false → list_any is_creation b ≡ false → list_any is_creation (a ++ b) ≡ false
none_both a b h k = list_any-append is_creation a b ∙ (ap (λ (x : Bool). x || list_any is_creation b) h ∙ k)

none_as : (a b : List Event) → a ≡ b → list_any is_creation b ≡ false → list_any is_creation a ≡ false
none_as a b e h = ap (list_any is_creation) e ∙ h

module _ (E : List ℕ → Type 0) where
  none_on : (fed : List ℕ) (reads : List Event) → GoesOn E fed reads → list_any is_creation reads ≡ false
  none_on fed [] h = refl
  none_on fed (gave room bytes ∷ more) h = none_on (fed ++ bytes) more h.3
  none_on fed (e ∷ more) h = absurd h

  none_last : (bytes : List ℕ) (last : List Event) (stop : ReadStop) → StopsWith E bytes last stop → list_any is_creation last ≡ false
  none_last bytes [] stop h = refl
  none_last bytes (gave room [] ∷ []) stop h = refl
  none_last bytes (read_failed ∷ []) stop h = refl
  none_last bytes last stop h = absurd h

  none_read : (reads : List Event) (bytes : List ℕ) (stop : ReadStop) → IsRead E reads bytes stop → list_any is_creation reads ≡ false
  none_read reads bytes stop h =
      none_as reads (h.on ++ h.last) h.reads_are (none_both h.on h.last (none_on [] h.on h.goes_on) (none_last bytes h.last stop h.stops))

none_refused : (f : InputFault) (reads : List Event) → ReadsRefuse f reads → list_any is_creation reads ≡ false
none_refused f reads (for_fault _ bytes stop _ is h) = none_read IsEnough reads bytes stop is
none_refused _ reads (for_memory _ (between_reads _ is)) = none_on IsEnough [] reads is.0
none_refused _ reads (for_memory _ (after_the_last bytes stop _ is t)) = none_read IsEnough reads bytes stop is

none_taken : (source : Option ℕ) (name : List ℕ) (g : Given) (events : List Event) → IsTaken source name g events
    → list_any is_creation events ≡ false
none_taken source name g events h =
    none_as events (opened name ∷ h.reads) h.events_are (none_read IsEnough h.reads h.give.bytes g.stop h.give.is_read)

none_at_input : (source : Option ℕ) (before : List Given) (r : Refusal) (events : List Event)
    → StopsAt source before r events → list_any is_creation events ≡ false
none_at_input source before _ _ (not_there _ _ _) = refl
none_at_input source before _ _ (refused _ _ _ f reads h) = none_refused f reads h
none_at_input source before _ events (other_shape _ _ n g _ h other) = none_taken source n.now g events h
none_at_input source before _ events (no_memory _ _ n g _ h other) = none_taken source n.now g events h

none_in_turn : (source : Option ℕ) (names : List (List ℕ)) (givens : List Given) (events : List Event)
    → TakesInTurn source names givens events → list_any is_creation events ≡ false
none_in_turn source [] [] events h = none_as events [] h refl
none_in_turn source [] (g ∷ givens) events h = absurd h
none_in_turn source (name ∷ names) [] events h = absurd h
none_in_turn source (name ∷ names) (g ∷ givens) events h =
    none_as events (h.0 ++ h.1) h.2 (none_both h.0 h.1 (none_taken source name g h.0 h.3) (none_in_turn source names givens h.1 h.4))

-- ---- commands that end with 2 or 3

done_else : (settled whole : Bool) → 2 ≤ exit_status (finished settled whole) → exit_status (finished settled whole) ≤ 3 → ⊥
done_else settled false ge le = absurd (omega (arith, le))
done_else true true ge le = absurd (omega (arith, ge))
done_else false true ge le = absurd (omega (arith, ge))

output_else : (name bytes : List ℕ) (r : Refusal) (events : List Event) → StopsAtOutput name bytes r events → status_of_cause r.cause ≤ 3
    → ⊥
output_else name bytes r events h le = let k = output_is_4 name bytes r events h in absurd (omega (arith, k, le))

join_creates_none : (source : Option ℕ) (out : List ℕ) (names : List (List ℕ)) (outcome : Outcome) (events : List Event)
    → Joins source out names outcome events
    → 2 ≤ exit_status outcome → exit_status outcome ≤ 3 → list_any is_creation events ≡ false
join_creates_none source out names _ events (joining.done _ _ _ p settled whole _ h) ge le = absurd (done_else settled whole ge le)
join_creates_none source out names _ events (joining.at_input _ _ _ r _ h) ge le =
    none_as events (h.reading ++ h.last) h.events_are
    (none_both h.reading h.last (none_in_turn source h.before h.givens h.reading h.taken.in_turn)
    (none_at_input source h.givens r h.last h.stops))
join_creates_none source out names _ events (joining.no_memory _ _ _ n p whole _ named h) ge le =
    none_in_turn source names h.givens events h.taken.in_turn
join_creates_none source out names _ _ (joining.at_output _ _ _ r p whole reading written h stops) ge le =
    absurd (output_else _ _ r written stops le)

tell_creates_none : (traced : Bool) (name : List ℕ) (outcome : Outcome) (events reported : List Event)
    → PrintsReport (lines traced) name outcome events reported
    → 2 ≤ exit_status outcome → exit_status outcome ≤ 3 → (list_any is_creation events ≡ false) × (reported ≡ [])
tell_creates_none traced name _ events reported (reporting.done _ g settled whole _ _ taken says wrote) ge le =
    absurd (done_else settled whole ge le)
tell_creates_none traced name _ events _ (reporting.at_input _ r _ named h) ge le = (none_at_input None [] r events h, refl)
tell_creates_none traced name _ events _ (reporting.no_memory _ n g _ named taken) ge le = (none_taken None name g events taken, refl)
tell_creates_none traced name _ events reported (reporting.not_printed _ n g count _ _ named taken wrote) ge le =
    absurd (omega (arith, le))

file_creates_none : (F L : Type 0) (takes : Bool) (bytes : List ℕ) (r : Refusal) (events : List Event)
    → StopsAtFile F L takes bytes r events
    → status_of_cause r.cause ≤ 3 → list_any is_creation events ≡ false
file_creates_none F L takes bytes _ _ (writing.too_large _ _ large) le = refl
file_creates_none F L takes bytes r _ (writing.at_output _ _ events fit h) le = absurd (output_else _ bytes r events h le)
file_creates_none F L takes bytes _ _ (writing.no_memory _ _ count writes fit is lt h) le = absurd (omega (arith, le))

write_creates_none : (format : Format) (out name : List ℕ) (outcome : Outcome) (events : List Event)
    → WritesFile format out name outcome events
    → 2 ≤ exit_status outcome → exit_status outcome ≤ 3 → list_any is_creation events ≡ false
write_creates_none format out name _ _ (writing.done _ _ _ g whole reading written taken settled says fit handed) ge le =
    absurd (done_else true whole ge le)
write_creates_none format out name _ events (writing.at_input _ _ _ r _ named h) ge le = none_at_input None [] r events h
write_creates_none format out name _ events (writing.unsettled _ _ _ r n g f _ named taken first because) ge le =
    none_taken None name g events taken
write_creates_none format out name _ _ (writing.at_file _ _ _ r g reading written named taken settled stops) ge le =
    none_both reading written (none_taken None name g reading taken) (file_creates_none _ _ _ _ r written stops le)

came_creates_none : (asked : Asked) (outcome : Outcome) (desk report : List Event) → CameOf asked outcome desk report
    → 2 ≤ exit_status outcome → exit_status outcome ≤ 3
    → (list_any is_creation desk ≡ false) × (report ≡ [])
came_creates_none (check name) outcome desk report h ge le = tell_creates_none true name outcome desk report h ge le
came_creates_none (join source out names) outcome desk report h ge le = (join_creates_none source out names outcome desk h.0 ge le, h.1)
came_creates_none (show name) outcome desk report h ge le = tell_creates_none false name outcome desk report h ge le
came_creates_none (write_pnm out name) outcome desk report h ge le = (write_creates_none Pnm out name outcome desk h.0 ge le, h.1)
came_creates_none (write_jls line ri out name) outcome desk report h ge le =
    (write_creates_none (Jls line ri) out name outcome desk h.0 ge le, h.1)

run_creates_none : (words : List (List ℕ)) (status : ℕ) (desk report faults : List Event) → Run words status desk report faults → 2 ≤ status
    → status ≤ 3
    → (list_any is_creation desk ≡ false) × (report ≡ [])
run_creates_none words _ desk report faults (came_of _ asked outcome _ _ _ reads came line) ge le =
    came_creates_none asked outcome desk report came ge le
run_creates_none words _ _ _ faults (misused _ kind usage _ r n line) ge le = (refl, refl)
run_creates_none words _ _ report _ (helped _ kind help _ r n wrote) ge le = absurd (omega (arith, ge))
run_creates_none words _ _ report faults (help_cut _ kind help count _ _ r n wrote line) ge le = absurd (omega (arith, le))
run_creates_none words _ _ _ faults (nothing_begun _ _ line) ge le = absurd (omega (arith, le))
run_creates_none words _ _ _ faults (nothing_asked _ _ asks line) ge le = (refl, refl)

pub nothing_created : RefusedRunsCreateNothing
nothing_created words status desk desk' report report' faults faults' ran ge le =
    let h = run_creates_none words status ran.desk_events ran.report_events ran.fault_events ran.run ge le in
    (h.0, ran.report_is ∙ (ap (λ (es : List Event). report ++ es) h.1 ∙ append-nil report))
