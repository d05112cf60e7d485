-- What causes the exit status 4 of a run: a failure among its events.
use Rattle.std.proofs.Common.{◌≡◌, ◌⊎◌, inl, inr, ℕ, Bool, true, false, List, [], ◌∷◌, ◌++◌, Option, None, refl, arith}
use Rattle.std.specs.Prelude.{All}
use Rattle.std.proofs.lemmas.List.Elements.{All-cons, All-nil}
use Rattle.jls_io.specs.Event.{Event, opened}
use Rattle.jls_station.specs.Given.{Given}
use Rattle.jls_station.specs.Reading.{HadFailure, IsRead}
use Rattle.jls_station.specs.Inputs.{IsEnough, IsRefused, no_text, no_picture, text_not_read, copy_not_read}
use Rattle.jls_station.specs.Inputs.{ReadsRefuse, for_fault, for_memory}
use Rattle.jls_salvage_run.specs.AllInputs.{IsTaken, TakesInTurn, StopsAt, not_there, refused, other_shape, no_memory}
use Rattle.jls_salvage_run.specs.Joining as joining
use Rattle.jls_salvage_run.specs.Joining.{Joins}
use Rattle.jls_cli.specs.Outcomes.{Outcome, exit_status, finished, status_of_cause, status_of_input}
use Rattle.jls_station.specs.declared.input.ReadStop.{ReadStop}
use Rattle.jls_station.specs.declared.input.ReadStop.TheVariants.{Whole}
use Rattle.jls_station.specs.declared.input.InputFault.{InputFault}
use Rattle.jls_cli.specs.declared.outcome.Refusal.{Refusal}
use Rattle.jls_salvage_run.specs.Reporting as reporting
use Rattle.jls_salvage_run.specs.Reporting.{PrintsReport, lines}
use Rattle.jls_salvage_run.specs.WritingFiles as writing
use Rattle.jls_salvage_run.specs.WritingFiles.{WritesFile, StopsAtFile}
use Rattle.jls_salvage_run.specs.declared.writing.Format.{Format}
use Rattle.jls_salvage_run.specs.declared.writing.Format.TheVariants.{Pnm, Jls}
use Rattle.jls_cli.specs.SalvageAsking.{Asked, check, join, show, write_pnm, write_jls}
use Rattle.jls_salvage_run.specs.Runs.{CameOf, Run, came_of, misused, helped, help_cut, nothing_begun, nothing_asked}
use Rattle.jls_salvage_run.specs.Statuses.{FailuresCauseStatus4}
use Rattle.jls_cli.proofs.OutputSteps.{output_failed}
use Rattle.jls_station.proofs.FailedReads.{failed_as, failed_left, failed_right, prefix_failed, read_in_part, whole_or_not}
use Rattle.jls_salvage_run.proofs.Finished.{status_of_unsettled}

-- ---- one input

refused_failed : (bytes : List ℕ) (stop : ReadStop) (f : InputFault) (reads : List Event) → IsRead IsEnough reads bytes stop
    → IsRefused bytes stop f
    → status_of_input f ≡ 4 → HadFailure reads
refused_failed bytes _ _ reads is (no_text _ f t wrong) e = absurd (omega (arith, e))
refused_failed bytes stop _ reads is (text_not_read _ _ t not) e = read_in_part IsEnough reads bytes stop is not
refused_failed bytes _ _ reads is (no_picture _ f offset t none) e = absurd (omega (arith, e))
refused_failed bytes stop _ reads is (copy_not_read _ _ f offset t not none) e = read_in_part IsEnough reads bytes stop is not

reads_failed : (f : InputFault) (reads : List Event) → ReadsRefuse f reads → status_of_input f ≡ 4 → HadFailure reads
reads_failed f reads (for_fault _ bytes stop _ is h) e = refused_failed bytes stop f reads is h e
reads_failed _ reads (for_memory _ h) e = absurd (omega (arith, e))

failed_at_input : (source : Option ℕ) (before : List Given) (r : Refusal) (events : List Event)
    → StopsAt source before r events
    → status_of_cause r.cause ≡ 4 → HadFailure events
failed_at_input source before _ _ (not_there _ _ _) e = inl refl
failed_at_input source before _ _ (refused _ _ n f reads h) e = failed_right (opened n.now ∷ []) reads (reads_failed f reads h e)
failed_at_input source before _ _ (other_shape _ _ _ g events h other) e = absurd (omega (arith, e))
failed_at_input source before _ _ (no_memory _ _ _ g events h other) e = absurd (omega (arith, e))

taken_in_part : (source : Option ℕ) (name : List ℕ) (g : Given) (events : List Event) → IsTaken source name g events → (g.stop ≡ Whole → ⊥)
    → HadFailure events
taken_in_part source name g events h not =
    failed_as events (opened name ∷ h.reads) h.events_are
    (failed_right (opened name ∷ []) h.reads (read_in_part IsEnough h.reads h.give.bytes g.stop h.give.is_read not))

-- one of some inputs was not read whole
failed_in_turn : (source : Option ℕ) (names : List (List ℕ)) (givens : List Given) (events : List Event)
    → TakesInTurn source names givens events
    → (All (λ g. g.stop ≡ Whole) givens → ⊥) → HadFailure events
failed_in_turn source [] [] events h not = absurd (not (All-nil (λ (g : Given). g.stop ≡ Whole)))
failed_in_turn source [] (g ∷ givens) events h not = absurd h
failed_in_turn source (name ∷ names) [] events h not = absurd h
failed_in_turn source (name ∷ names) (g ∷ givens) events h not =
    let others = failed_in_turn source names givens h.1 h.4 in
    failed_as events (h.0 ++ h.1) h.2 (by_stop others (whole_or_not g.stop))
  where
    by_stop : ((All (λ x. x.stop ≡ Whole) givens → ⊥) → HadFailure h.1) → (g.stop ≡ Whole) ⊎ (g.stop ≡ Whole → ⊥) → HadFailure (h.0 ++ h.1)
    by_stop others (inl is) = failed_right h.0 h.1 (others (λ all. not (All-cons (λ (x : Given). x.stop ≡ Whole) g givens is all)))
    by_stop others (inr part) = failed_left h.0 h.1 (taken_in_part source name g h.0 h.3 part)

-- ---- commands that end with 4

not_whole : (settled whole : Bool) → exit_status (finished settled whole) ≡ 4 → whole ≡ true → ⊥
not_whole settled false e is = cc
not_whole true true e is = absurd (omega (arith, e))
not_whole false true e is = absurd (omega (arith, e))

join_failed : (source : Option ℕ) (out : List ℕ) (names : List (List ℕ)) (outcome : Outcome) (events : List Event)
    → Joins source out names outcome events
    → exit_status outcome ≡ 4 → HadFailure events
join_failed source out names _ events (joining.done _ _ _ p settled whole _ h) e =
    failed_as events (h.reading ++ h.writing) h.events_are
    (failed_left h.reading h.writing
    (failed_in_turn source names h.taken.givens h.reading h.taken.taken.in_turn
    (λ all. not_whole settled whole e (h.taken.whole_is.1 all))))
join_failed source out names _ events (joining.at_input _ _ _ r _ h) e =
    failed_as events (h.reading ++ h.last) h.events_are (failed_right h.reading h.last (failed_at_input source h.givens r h.last h.stops e))
join_failed source out names _ events (joining.no_memory _ _ _ n p whole _ named h) e =
    absurd (omega (arith, e))
join_failed source out names _ _ (joining.at_output _ _ _ r p whole reading written h stops) e =
    failed_right reading written (output_failed _ _ r written stops)

tell_failed : (traced : Bool) (name : List ℕ) (outcome : Outcome) (events reported : List Event)
    → PrintsReport (lines traced) name outcome events reported
    → exit_status outcome ≡ 4 → HadFailure events ⊎ HadFailure reported
tell_failed traced name _ events reported (reporting.done _ g settled whole _ _ taken says wrote) e =
    inl (taken_in_part None name g events taken (λ is. not_whole settled whole e (says.whole_is.1 is)))
tell_failed traced name _ events _ (reporting.at_input _ r _ named h) e = inl (failed_at_input None [] r events h e)
tell_failed traced name _ events _ (reporting.no_memory _ n g _ named taken) e =
    absurd (omega (arith, e))
tell_failed traced name _ events reported (reporting.not_printed _ n g count _ _ named taken wrote) e =
    inr (prefix_failed (lines traced g) count reported wrote)

file_failed : (F L : Type 0) (takes : Bool) (bytes : List ℕ) (r : Refusal) (events : List Event) → StopsAtFile F L takes bytes r events
    → status_of_cause r.cause ≡ 4 → HadFailure events
file_failed F L takes bytes _ _ (writing.too_large _ _ large) e = absurd (omega (arith, e))
file_failed F L takes bytes r _ (writing.at_output _ _ events fit h) e = output_failed _ bytes r events h
file_failed F L takes bytes _ _ (writing.no_memory _ _ count writes fit is lt h) e = absurd (omega (arith, e))

write_failed_so : (format : Format) (out name : List ℕ) (outcome : Outcome) (events : List Event)
    → WritesFile format out name outcome events
    → exit_status outcome ≡ 4 → HadFailure events
write_failed_so format out name _ _ (writing.done _ _ _ g whole reading written taken settled says fit handed) e =
    failed_left reading written (taken_in_part None name g reading taken (λ is. not_whole true whole e (says.whole_is.1 is)))
write_failed_so format out name _ events (writing.at_input _ _ _ r _ named h) e = failed_at_input None [] r events h e
write_failed_so format out name _ events (writing.unsettled _ _ _ r n g f _ named taken first because) e =
    let k = status_of_unsettled n g.partial f r because in absurd (omega (arith, k, e))
write_failed_so format out name _ _ (writing.at_file _ _ _ r g reading written named taken settled stops) e =
    failed_right reading written (file_failed _ _ _ _ r written stops e)

came_failed : (asked : Asked) (outcome : Outcome) (desk report : List Event) → CameOf asked outcome desk report → exit_status outcome ≡ 4
    → HadFailure desk ⊎ HadFailure report
came_failed (check name) outcome desk report h e = tell_failed true name outcome desk report h e
came_failed (join source out names) outcome desk report h e = inl (join_failed source out names outcome desk h.0 e)
came_failed (show name) outcome desk report h e = tell_failed false name outcome desk report h e
came_failed (write_pnm out name) outcome desk report h e = inl (write_failed_so Pnm out name outcome desk h.0 e)
came_failed (write_jls line ri out name) outcome desk report h e = inl (write_failed_so (Jls line ri) out name outcome desk h.0 e)

run_failed : (words : List (List ℕ)) (status : ℕ) (desk report faults : List Event) → Run words status desk report faults → status ≡ 4
    → HadFailure desk ⊎ HadFailure report
run_failed words _ desk report faults (came_of _ asked outcome _ _ _ reads came line) e = came_failed asked outcome desk report came e
run_failed words _ _ _ faults (misused _ kind usage _ r n line) e = absurd (omega (arith, e))
run_failed words _ _ report _ (helped _ kind help _ r n wrote) e = absurd (omega (arith, e))
run_failed words _ _ report faults (help_cut _ kind help count _ _ r n wrote line) e = inr (prefix_failed help count report wrote)
run_failed words _ _ _ faults (nothing_begun _ _ line) e = absurd (omega (arith, e))
run_failed words _ _ _ faults (nothing_asked _ _ asks line) e = absurd (omega (arith, e))

pub failures_after : FailuresCauseStatus4
failures_after words status desk desk' report report' faults faults' ran e =
    run_failed words status ran.desk_events ran.report_events ran.fault_events ran.run e
