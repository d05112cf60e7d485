-- What causes status 4 where nothing failed but reads; and the greatest status.
use Rattle.std.proofs.Common.{Ok, Err, ◌≡◌, ◌≤◌, ◌⊎◌, inl, inr, ℕ, Bool, true, false, List, [], ◌∷◌, ◌++◌, length, Option, None, sym, subst}
use Rattle.std.proofs.Common.{◌∙◌, refl, lit≤, arith}
use Rattle.std.specs.List.{list_any}
use Rattle.std.proofs.lemmas.List.Folds.{list_any-append}
use Rattle.jls_write.specs.Picture.{picture_of}
use Rattle.jls_io.specs.Event.{Event, opened, write_failed}
use Rattle.jls_io.specs.Writing.{WrotePrefix}
use Rattle.jls_station.specs.Given.{Given}
use Rattle.jls_station.specs.Inputs.{IsRefused, no_text, no_picture, text_not_read, copy_not_read, IsEnough, ReadsRefuse, for_fault}
use Rattle.jls_station.specs.Inputs.{for_memory}
use Rattle.jls_salvage_run.specs.AllInputs.{StopsAt, not_there, refused, other_shape, no_memory}
use Rattle.jls_salvage_run.specs.Joining as joining
use Rattle.jls_salvage_run.specs.Joining.{JoinIsDone, Joins}
use Rattle.jls_cli.specs.Outputs as outputs
use Rattle.jls_cli.specs.Outputs.{StopsAtOutput}
use Rattle.jls_cli.specs.Outcomes.{Outcome, exit_status, finished, status_of_cause, status_of_done, status_of_input}
use Rattle.jls_station.specs.Reading.{IsRead}
use Rattle.jls_station.specs.declared.input.ReadStop.{ReadStop}
use Rattle.jls_station.specs.declared.input.ReadStop.TheVariants.{Whole}
use Rattle.jls_station.specs.declared.input.InputFault.{InputFault}
use Rattle.jls_station.specs.declared.input.InputFault.TheVariants as fault
use Rattle.jls_write.proofs.Lending.{or_false}
use Rattle.jls_cli.specs.declared.outcome.Cause.{Cause}
use Rattle.jls_cli.specs.declared.outcome.Refusal.{Refusal}
use Rattle.jls_cli.specs.declared.outcome.Cause.TheVariants as cause
use Rattle.jls_salvage_run.specs.Reporting as reporting
use Rattle.jls_salvage_run.specs.Reporting.{PrintsReport, lines}
use Rattle.jls_salvage_run.specs.WritingFiles as writing
use Rattle.jls_salvage_run.specs.WritingFiles.{WritesFile, StopsAtFile, FitsFormat}
use Rattle.jls_salvage_run.specs.declared.writing.Format.{Format}
use Rattle.jls_salvage_run.specs.declared.writing.Format.TheVariants.{Pnm, Jls}
use Rattle.jls_cli.specs.SalvageAsking.{Asked, check, join, show, write_pnm, write_jls, AskFor}
use Rattle.jls_salvage_run.specs.BrokenReads.{StatusesAreAtMost5, is_other_failure, NothingElseFailed, TellsInPart, JoinsInPart}
use Rattle.jls_salvage_run.specs.BrokenReads.{WritesInPart, DoneInPart, IsUnread, EndsAtUnread, BrokenReadsCauseStatus4}
use Rattle.jls_salvage_run.specs.Runs.{CameOf, Run, came_of, misused, helped, help_cut, nothing_begun, nothing_asked}
use Rattle.jls_salvage_run.specs.Statuses.{source_of, inputs_of}
use Rattle.jls_salvage_run.proofs.Finished.{status_of_unsettled}
use Rattle.jls_salvage_run.proofs.InTurn.{ends_at_first, ends_at_stop}

-- ---- the greatest status

input_at_most : (f : InputFault) → status_of_input f ≤ 5
input_at_most (fault.Text f) = lit≤ tt
input_at_most (fault.NoPicture f offset) = lit≤ tt
input_at_most (fault.Read stop offset) = lit≤ tt
input_at_most fault.OutOfMemory = lit≤ tt

cause_at_most : (c : Cause) → status_of_cause c ≤ 5
cause_at_most cause.NotOpened = lit≤ tt
cause_at_most (cause.Input f) = input_at_most f
cause_at_most cause.PartialPicture = lit≤ tt
cause_at_most (cause.NoPicture f offset) = lit≤ tt
cause_at_most cause.NotRead = lit≤ tt
cause_at_most (cause.NoList line) = lit≤ tt
cause_at_most cause.ShapeDiffers = lit≤ tt
cause_at_most (cause.Unsettled id line disputed) = lit≤ tt
cause_at_most cause.TooLarge = lit≤ tt
cause_at_most cause.NotCreated = lit≤ tt
cause_at_most (cause.NotWritten count) = lit≤ tt
cause_at_most (cause.FileNotCreated number) = lit≤ tt
cause_at_most (cause.FileNotWritten number count) = lit≤ tt
cause_at_most cause.OutOfMemory = lit≤ tt

done_at_most : (settled whole : Bool) → status_of_done settled whole ≤ 5
done_at_most settled false = lit≤ tt
done_at_most true true = lit≤ tt
done_at_most false true = lit≤ tt

outcome_at_most : (o : Outcome) → exit_status o ≤ 5
outcome_at_most (Ok d) = done_at_most d.settled d.whole
outcome_at_most (Err r) = cause_at_most r.cause

run_at_most : (words : List (List ℕ)) (status : ℕ) (desk report faults : List Event) → Run words status desk report faults → status ≤ 5
run_at_most words _ _ _ _ (came_of _ asked outcome desk report faults reads came line) = outcome_at_most outcome
run_at_most words _ _ _ faults (misused _ kind usage _ r n line) = lit≤ tt
run_at_most words _ _ report _ (helped _ kind help _ r n wrote) = lit≤ tt
run_at_most words _ _ report faults (help_cut _ kind help count _ _ r n wrote line) = lit≤ tt
run_at_most words _ _ _ faults (nothing_begun _ _ line) = lit≤ tt
run_at_most words _ _ _ faults (nothing_asked _ _ asks line) = lit≤ tt

pub statuses_at_most : StatusesAreAtMost5
statuses_at_most words status desk desk' report report' faults faults' ran =
    run_at_most words status ran.desk_events ran.report_events ran.fault_events ran.run

-- ---- events among which nothing else failed

parts_fine : (a b : List Event) → NothingElseFailed (a ++ b) → NothingElseFailed a × NothingElseFailed b
parts_fine a b h =
    or_false (list_any is_other_failure a) (list_any is_other_failure b) (sym (list_any-append is_other_failure a b) ∙ h)

not_cut : (bytes : List ℕ) (count : ℕ) (events : List Event) → WrotePrefix bytes count events → NothingElseFailed events → ⊥
not_cut bytes count events h fine =
    let last : true ≡ false = (parts_fine h.writes (write_failed ∷ []) (subst NothingElseFailed h.events_are fine)).1 in cc

not_at_output : (name bytes : List ℕ) (r : Refusal) (events : List Event) → StopsAtOutput name bytes r events → NothingElseFailed events → ⊥
not_at_output name bytes r _ (outputs.not_there _ _) fine = cc
not_at_output name bytes r _ (outputs.cut count writes _ _ h) fine = not_cut bytes count writes h fine

-- ---- one input

unread : (name bytes : List ℕ) (stop : ReadStop) (reads : List Event) → IsRead IsEnough reads bytes stop → (stop ≡ Whole → ⊥)
    → IsRefused bytes stop (fault.Read stop (length bytes)) → IsUnread name (opened name ∷ reads)
unread name bytes stop reads is not h = record {
  bytes = bytes;
  stop = stop;
  f = fault.Read stop (length bytes);
  reads = reads;
  events_are = refl;
  is_read = is;
  in_part = not;
  refused = h;
}

refused_unread : (name bytes : List ℕ) (stop : ReadStop) (f : InputFault) (reads : List Event) → IsRead IsEnough reads bytes stop
    → IsRefused bytes stop f → status_of_input f ≡ 4 → IsUnread name (opened name ∷ reads)
refused_unread name bytes _ _ reads is (no_text _ f t wrong) e = absurd (omega (arith, e))
refused_unread name bytes stop _ reads is (text_not_read _ _ t not) e = unread name bytes stop reads is not (text_not_read bytes stop t not)
refused_unread name bytes _ _ reads is (no_picture _ f offset t none) e = absurd (omega (arith, e))
refused_unread name bytes stop _ reads is (copy_not_read _ _ f offset t not none) e =
    unread name bytes stop reads is not (copy_not_read bytes stop f offset t not none)

reads_unread : (name : List ℕ) (f : InputFault) (reads : List Event) → ReadsRefuse f reads → status_of_input f ≡ 4
    → IsUnread name (opened name ∷ reads)
reads_unread name f reads (for_fault _ bytes stop _ is h) e = refused_unread name bytes stop f reads is h e
reads_unread name _ reads (for_memory _ h) e = absurd (omega (arith, e))

unread_at_input : (source : Option ℕ) (before : List Given) (r : Refusal) (events : List Event)
    → StopsAt source before r events → status_of_cause r.cause ≡ 4 → NothingElseFailed events → IsUnread (r.name.now) events
unread_at_input source before _ _ (not_there _ _ _) e fine = absurd cc
unread_at_input source before _ _ (refused _ _ n f reads h) e fine = reads_unread n.now f reads h e
unread_at_input source before _ _ (other_shape _ _ _ g events h other) e fine = absurd (omega (arith, e))
unread_at_input source before _ _ (no_memory _ _ _ g events h other) e fine = absurd (omega (arith, e))

-- ---- commands that end with 4

all_not_read : (settled whole : Bool) → exit_status (finished settled whole) ≡ 4 → whole ≡ false
all_not_read settled false e = refl
all_not_read true true e = absurd (omega (arith, e))
all_not_read false true e = absurd (omega (arith, e))

not_whole : (whole : Bool) → whole ≡ false → whole ≡ true → ⊥
not_whole whole e f = cc

join_in_part : (source : Option ℕ) (out : List ℕ) (names : List (List ℕ)) (outcome : Outcome) (events : List Event)
    → Joins source out names outcome events → exit_status outcome ≡ 4 → NothingElseFailed events
    → JoinsInPart source out names events ⊎ EndsAtUnread source names events
join_in_part source out names _ events (joining.done _ _ _ p settled whole _ h) e fine =
    inl (record {
      joined = p;
      settled = settled;
      is_done =
          subst (λ (w : Bool). JoinIsDone source out names p settled w events) (all_not_read settled whole e) h;
    })
join_in_part source out names _ events (joining.at_input _ _ _ r _ h) e fine =
    let last = (parts_fine h.reading h.last (subst NothingElseFailed h.events_are fine)).1 in
    inr (ends_at_stop (λ _. IsUnread) source names r events h (unread_at_input source h.givens r h.last h.stops e last))
join_in_part source out names _ events (joining.no_memory _ _ _ n p whole _ named h) e fine = absurd (omega (arith, e))
join_in_part source out names _ _ (joining.at_output _ _ _ r p whole reading written h stops) e fine =
    absurd (not_at_output _ _ r written stops (parts_fine reading written fine).1)

tell_in_part : (traced : Bool) (name : List ℕ) (outcome : Outcome) (events reported : List Event)
    → PrintsReport (lines traced) name outcome events reported → exit_status outcome ≡ 4 → NothingElseFailed events
    → NothingElseFailed reported
    → TellsInPart traced name events reported ⊎ (EndsAtUnread None (name ∷ []) events × (reported ≡ []))
tell_in_part traced name _ events reported (reporting.done _ g settled whole _ _ taken says wrote) e fine quiet =
    inl (record {
      g = g;
      taken = taken;
      in_part = λ is. not_whole whole (all_not_read settled whole e) (says.whole_is.1 is);
      printed =
          wrote;
    })
tell_in_part traced name _ events _ (reporting.at_input _ r _ named h) e fine quiet =
    inr (
      ends_at_first (λ _. IsUnread) name events
          (subst (λ (n : List ℕ). IsUnread n events) named (unread_at_input None [] r events h e fine)),
      refl,
    )
tell_in_part traced name _ events _ (reporting.no_memory _ n g _ named taken) e fine quiet = absurd (omega (arith, e))
tell_in_part traced name _ events reported (reporting.not_printed _ n g count _ _ named taken wrote) e fine quiet =
    absurd (not_cut (lines traced g) count reported wrote quiet)

file_in_part : {P : Type 0} (F L : Type 0) (takes : Bool) (bytes : List ℕ) (r : Refusal) (events : List Event)
    → StopsAtFile F L takes bytes r events → status_of_cause r.cause ≡ 4 → NothingElseFailed events → P
file_in_part F L takes bytes _ _ (writing.too_large _ _ large) e fine = absurd (omega (arith, e))
file_in_part F L takes bytes r _ (writing.at_output _ _ events fit h) e fine = absurd (not_at_output _ bytes r events h fine)
file_in_part F L takes bytes _ _ (writing.no_memory _ _ count writes fit is lt h) e fine = absurd (omega (arith, e))

write_in_part : (format : Format) (out name : List ℕ) (outcome : Outcome) (events : List Event)
    → WritesFile format out name outcome events → exit_status outcome ≡ 4 → NothingElseFailed events
    → WritesInPart format out name events ⊎ EndsAtUnread None (name ∷ []) events
write_in_part format out name _ _ (writing.done _ _ _ g whole reading written taken settled says fit handed) e fine =
    inl (record {
      g = g;
      reading = reading;
      writing = written;
      events_are = refl;
      taken = taken;
      in_part = λ is. not_whole whole (all_not_read true whole e) (says.whole_is.1 is);
      settled = settled;
      fits = fit;
      handed = handed;
    })
write_in_part format out name _ events (writing.at_input _ _ _ r _ named h) e fine =
    inr (ends_at_first (λ _. IsUnread) name events
    (subst (λ (n : List ℕ). IsUnread n events) named (unread_at_input None [] r events h e fine)))
write_in_part format out name _ events (writing.unsettled _ _ _ r n g f _ named taken first because) e fine =
    let k = status_of_unsettled n g.partial f r because in absurd (omega (arith, k, e))
write_in_part format out name _ _ (writing.at_file _ _ _ r g reading written named taken settled stops) e fine =
    file_in_part (FitsFormat format (picture_of g.partial)) (writing.IsTooLarge format (picture_of g.partial)) (writing.takes_memory format)
    (writing.file format (picture_of g.partial)) r written stops e (parts_fine reading written fine).1

-- ---- the law

beside : {A B C : Type 0} → A ⊎ B → C → (A × C) ⊎ (B × C)
beside (inl a) c = inl (a, c)
beside (inr b) c = inr (b, c)

came_in_part : (asked : Asked) (outcome : Outcome) (desk report : List Event) → CameOf asked outcome desk report → exit_status outcome ≡ 4
    → NothingElseFailed desk → NothingElseFailed report
    → DoneInPart asked desk report ⊎ (EndsAtUnread (source_of asked) (inputs_of asked) desk × (report ≡ []))
came_in_part (check name) outcome desk report h e fine quiet = tell_in_part true name outcome desk report h e fine quiet
came_in_part (join source out names) outcome desk report h e fine quiet = beside (join_in_part source out names outcome desk h.0 e fine) h.1
came_in_part (show name) outcome desk report h e fine quiet = tell_in_part false name outcome desk report h e fine quiet
came_in_part (write_pnm out name) outcome desk report h e fine quiet = beside (write_in_part Pnm out name outcome desk h.0 e fine) h.1
came_in_part (write_jls line ri out name) outcome desk report h e fine quiet =
    beside (write_in_part (Jls line ri) out name outcome desk h.0 e fine) h.1

run_in_part : (words : List (List ℕ)) (status : ℕ) (desk report faults : List Event) → Run words status desk report faults → status ≡ 4
    → NothingElseFailed desk → NothingElseFailed report
    → (asked : Asked) × AskFor words asked
    × (DoneInPart asked desk report ⊎ (EndsAtUnread (source_of asked) (inputs_of asked) desk × (report ≡ [])))
run_in_part words _ desk report faults (came_of _ asked outcome _ _ _ reads came line) e fine quiet =
    (asked, reads, came_in_part asked outcome desk report came e fine quiet)
run_in_part words _ _ _ faults (misused _ kind usage _ r n line) e fine quiet = absurd (omega (arith, e))
run_in_part words _ _ report _ (helped _ kind help _ r n wrote) e fine quiet = absurd (omega (arith, e))
run_in_part words _ _ report faults (help_cut _ kind help count _ _ r n wrote line) e fine quiet =
    absurd (not_cut help count report wrote quiet)
run_in_part words _ _ _ faults (nothing_begun _ _ line) e fine quiet = absurd (omega (arith, e))
run_in_part words _ _ _ faults (nothing_asked _ _ asks line) e fine quiet = absurd (omega (arith, e))

pub broken_reads_after : BrokenReadsCauseStatus4
broken_reads_after words status desk desk' report report' faults faults' ran e fine quiet =
    run_in_part words status ran.desk_events ran.report_events ran.fault_events ran.run e fine quiet
