-- What causes the exit statuses 2 and 3 of a run.
use Rattle.std.proofs.Common.{subst, ◌≡◌, ◌⊎◌, inl, inr, ℕ, Bool, true, false, List, [], ◌∷◌, ◌++◌, Option, None, ap, ◌∙◌, refl, arith}
use Rattle.std.proofs.lemmas.List.{append-nil}
use Rattle.jls_io.specs.Event.{Event, History, opened}
use Rattle.jls_station.specs.Given.{Given}
use Rattle.jls_station.specs.Inputs.{no_text, no_picture, text_not_read, copy_not_read, ReadsRefuse, for_fault, for_memory}
use Rattle.jls_salvage_run.specs.AllInputs.{StopsAt, not_there, refused, other_shape, no_memory}
use Rattle.jls_salvage_run.specs.Joining as joining
use Rattle.jls_salvage_run.specs.Joining.{Joins}
use Rattle.jls_cli.specs.Outcomes.{Outcome, exit_status, finished, status_of_cause, status_of_input}
use Rattle.jls_cli.specs.declared.outcome.Refusal.{Refusal}
use Rattle.jls_station.specs.declared.input.InputFault.{InputFault}
use Rattle.jls_station.specs.declared.input.InputFault.TheVariants as fault
use Rattle.jls_salvage_run.specs.Reporting as reporting
use Rattle.jls_salvage_run.specs.Reporting.{PrintsReport, lines}
use Rattle.jls_salvage_run.specs.WritingFiles as writing
use Rattle.jls_salvage_run.specs.WritingFiles.{WritesFile, StopsAtFile}
use Rattle.jls_salvage_run.specs.declared.writing.Format.{Format}
use Rattle.jls_salvage_run.specs.declared.writing.Format.TheVariants.{Pnm, Jls}
use Rattle.jls_cli.specs.SalvageAsking.{Asked, AskFor, AskForNothing, check, join, show, write_pnm, write_jls}
use Rattle.jls_salvage_run.specs.RunLaws.{written_as}
use Rattle.jls_salvage_run.specs.Runs.{CameOf, Run, came_of, misused, helped, help_cut, nothing_begun, nothing_asked}
use Rattle.jls_salvage_run.specs.Statuses as statuses
use Rattle.jls_salvage_run.specs.Statuses.{AreMisused, AskForTooMuch, EndsAtUnfit, InputsCauseStatus3, IsUnfit, WordsCauseStatus2}
use Rattle.jls_salvage_run.specs.Statuses.{inputs_of, source_of}
use Rattle.jls_salvage_run.proofs.Finished.{output_is_4, status_of_unsettled}
use Rattle.jls_salvage_run.proofs.InTurn.{ends_at_first, ends_at_stop}

-- ---- neither is done

done_not_2 : (settled whole : Bool) → exit_status (finished settled whole) ≡ 2 → ⊥
done_not_2 settled false e = absurd (omega (arith, e))
done_not_2 true true e = absurd (omega (arith, e))
done_not_2 false true e = absurd (omega (arith, e))

done_not_3 : (settled whole : Bool) → exit_status (finished settled whole) ≡ 3 → ⊥
done_not_3 settled false e = absurd (omega (arith, e))
done_not_3 true true e = absurd (omega (arith, e))
done_not_3 false true e = absurd (omega (arith, e))

-- ---- status 3

unfit_bytes : (source : Option ℕ) (before : List Given) (name : List ℕ) (f : InputFault) (reads : List Event) → ReadsRefuse f reads
    → status_of_input f ≡ 3 → IsUnfit source before name (opened name ∷ reads)
unfit_bytes source before name _ reads (for_fault _ bytes _ _ is (no_text _ f t wrong)) e =
    statuses.no_picture source before name bytes (fault.Text f) reads is (no_text bytes f t wrong)
unfit_bytes source before name _ reads (for_fault _ bytes stop _ is (text_not_read _ _ t not)) e = absurd (omega (arith, e))
unfit_bytes source before name _ reads (for_fault _ bytes _ _ is (no_picture _ f offset t none)) e =
    statuses.no_picture source before name bytes (fault.NoPicture f offset) reads is (no_picture bytes f offset t none)
unfit_bytes source before name _ reads (for_fault _ bytes stop _ is (copy_not_read _ _ f offset t not none)) e = absurd (omega (arith, e))
unfit_bytes source before name _ reads (for_memory _ h) e = absurd (omega (arith, e))

unfit_input : (source : Option ℕ) (before : List Given) (r : Refusal) (events : List Event)
    → StopsAt source before r events → status_of_cause r.cause ≡ 3 → IsUnfit source before (r.name.now) events
unfit_input source before _ _ (not_there _ _ _) e = absurd (omega (arith, e))
unfit_input source before _ _ (refused _ _ n f reads h) e = unfit_bytes source before n.now f reads h e
unfit_input source before _ events (other_shape _ _ n g _ h other) e = statuses.other_shape source before n.now g events h other
unfit_input source before _ events (no_memory _ _ _ g _ h other) e = absurd (omega (arith, e))

-- the only input is unfit
ends_at_one : (name : List ℕ) (r : Refusal) (events : List Event) → r.name.now ≡ name → StopsAt None [] r events → status_of_cause r.cause
    ≡ 3
    → EndsAtUnfit None (name ∷ []) events
ends_at_one name r events named h e =
    ends_at_first (IsUnfit None) name events (subst (λ (n : List ℕ). IsUnfit None [] n events) named (unfit_input None [] r events h e))

join_unfit : (source : Option ℕ) (out : List ℕ) (names : List (List ℕ)) (outcome : Outcome) (events : List Event)
    → Joins source out names outcome events → exit_status outcome ≡ 3 → EndsAtUnfit source names events
join_unfit source out names _ events (joining.done _ _ _ p settled whole _ h) e = absurd (done_not_3 settled whole e)
join_unfit source out names _ events (joining.at_input _ _ _ r _ h) e =
    ends_at_stop (IsUnfit source) source names r events h (unfit_input source h.givens r h.last h.stops e)
join_unfit source out names _ events (joining.no_memory _ _ _ n p whole _ named h) e =
    absurd (omega (arith, e))
join_unfit source out names _ _ (joining.at_output _ _ _ r p whole reading written h stops) e =
    let k = output_is_4 _ _ r written stops in absurd (omega (arith, k, e))

tell_unfit : (traced : Bool) (name : List ℕ) (outcome : Outcome) (events reported : List Event)
    → PrintsReport (lines traced) name outcome events reported → exit_status outcome ≡ 3 → EndsAtUnfit None (name ∷ []) events
tell_unfit traced name _ events reported (reporting.done _ g settled whole _ _ taken says wrote) e = absurd (done_not_3 settled whole e)
tell_unfit traced name _ events _ (reporting.at_input _ r _ named h) e = ends_at_one name r events named h e
tell_unfit traced name _ events _ (reporting.no_memory _ n g _ named taken) e =
    absurd (omega (arith, e))
tell_unfit traced name _ events reported (reporting.not_printed _ n g count _ _ named taken wrote) e =
    absurd (omega (arith, e))

file_not_3 : (F L : Type 0) (takes : Bool) (bytes : List ℕ) (r : Refusal) (events : List Event) → StopsAtFile F L takes bytes r events
    → status_of_cause r.cause ≡ 3 → ⊥
file_not_3 F L takes bytes _ _ (writing.too_large _ _ large) e = absurd (omega (arith, e))
file_not_3 F L takes bytes r _ (writing.at_output _ _ events fit h) e =
    let k = output_is_4 _ bytes r events h in absurd (omega (arith, k, e))
file_not_3 F L takes bytes _ _ (writing.no_memory _ _ count writes fit is lt h) e = absurd (omega (arith, e))

write_unfit : (format : Format) (out name : List ℕ) (outcome : Outcome) (events : List Event)
    → WritesFile format out name outcome events → exit_status outcome ≡ 3 → EndsAtUnfit None (name ∷ []) events
write_unfit format out name _ _ (writing.done _ _ _ g whole reading written taken settled says fit handed) e =
    absurd (done_not_3 true whole e)
write_unfit format out name _ events (writing.at_input _ _ _ r _ named h) e = ends_at_one name r events named h e
write_unfit format out name _ events (writing.unsettled _ _ _ r n g f _ named taken first because) e =
    let k = status_of_unsettled n g.partial f r because in absurd (omega (arith, k, e))
write_unfit format out name _ _ (writing.at_file _ _ _ r g reading written named taken settled stops) e =
    absurd (file_not_3 _ _ _ _ r written stops e)

came_unfit : (asked : Asked) (outcome : Outcome) (desk report : List Event) → CameOf asked outcome desk report → exit_status outcome ≡ 3
    → EndsAtUnfit (source_of asked) (inputs_of asked) desk
came_unfit (check name) outcome desk report h e = tell_unfit true name outcome desk report h e
came_unfit (join source out names) outcome desk report h e = join_unfit source out names outcome desk h.0 e
came_unfit (show name) outcome desk report h e = tell_unfit false name outcome desk report h e
came_unfit (write_pnm out name) outcome desk report h e = write_unfit Pnm out name outcome desk h.0 e
came_unfit (write_jls line ri out name) outcome desk report h e = write_unfit (Jls line ri) out name outcome desk h.0 e

run_unfit : (words : List (List ℕ)) (status : ℕ) (desk report faults : List Event) → Run words status desk report faults → status ≡ 3
    → (asked : Asked) × AskFor words asked × EndsAtUnfit (source_of asked) (inputs_of asked) desk
run_unfit words _ desk report faults (came_of _ asked outcome _ _ _ reads came line) e =
    (asked, reads, came_unfit asked outcome desk report came e)
run_unfit words _ _ _ faults (misused _ kind usage _ r n line) e = absurd (omega (arith, e))
run_unfit words _ _ report _ (helped _ kind help _ r n wrote) e = absurd (omega (arith, e))
run_unfit words _ _ report faults (help_cut _ kind help count _ _ r n wrote line) e = absurd (omega (arith, e))
run_unfit words _ _ _ faults (nothing_begun _ _ line) e = absurd (omega (arith, e))
run_unfit words _ _ _ faults (nothing_asked _ _ asks line) e = absurd (omega (arith, e))

pub inputs_after : InputsCauseStatus3
inputs_after words status desk desk' report report' faults faults' ran e =
    let h = run_unfit words status ran.desk_events ran.report_events ran.fault_events ran.run e in
    (h.0, h.1, record { events = ran.desk_events; grew = ran.desk_is; they_are = h.2 })

-- ---- status 2

input_not_2 : (source : Option ℕ) (before : List Given) (r : Refusal) (events : List Event)
    → StopsAt source before r events → status_of_cause r.cause ≡ 2 → ⊥
input_not_2 source before _ _ (not_there _ _ _) e = absurd (omega (arith, e))
input_not_2 source before _ _ (refused _ _ _ (fault.Text f) reads h) e = absurd (omega (arith, e))
input_not_2 source before _ _ (refused _ _ _ (fault.NoPicture f offset) reads h) e = absurd (omega (arith, e))
input_not_2 source before _ _ (refused _ _ _ (fault.Read stop offset) reads h) e = absurd (omega (arith, e))
input_not_2 source before _ _ (refused _ _ _ fault.OutOfMemory reads h) e = absurd (omega (arith, e))
input_not_2 source before _ events (other_shape _ _ _ g _ h other) e = absurd (omega (arith, e))
input_not_2 source before _ events (no_memory _ _ _ g _ h other) e = absurd (omega (arith, e))

join_not_2 : (source : Option ℕ) (out : List ℕ) (names : List (List ℕ)) (outcome : Outcome) (events : List Event)
    → Joins source out names outcome events → exit_status outcome ≡ 2 → ⊥
join_not_2 source out names _ events (joining.done _ _ _ p settled whole _ h) e = done_not_2 settled whole e
join_not_2 source out names _ events (joining.at_input _ _ _ r _ h) e = input_not_2 source h.givens r h.last h.stops e
join_not_2 source out names _ events (joining.no_memory _ _ _ n p whole _ named h) e =
    absurd (omega (arith, e))
join_not_2 source out names _ _ (joining.at_output _ _ _ r p whole reading written h stops) e =
    let k = output_is_4 _ _ r written stops in absurd (omega (arith, k, e))

tell_not_2 : (traced : Bool) (name : List ℕ) (outcome : Outcome) (events reported : List Event)
    → PrintsReport (lines traced) name outcome events reported → exit_status outcome ≡ 2 → ⊥
tell_not_2 traced name _ events reported (reporting.done _ g settled whole _ _ taken says wrote) e = done_not_2 settled whole e
tell_not_2 traced name _ events _ (reporting.at_input _ r _ named h) e = input_not_2 None [] r events h e
tell_not_2 traced name _ events _ (reporting.no_memory _ n g _ named taken) e =
    absurd (omega (arith, e))
tell_not_2 traced name _ events reported (reporting.not_printed _ n g count _ _ named taken wrote) e =
    absurd (omega (arith, e))

-- the file is not begun, and is too large
file_with_2 : (F L : Type 0) (takes : Bool) (bytes : List ℕ) (r : Refusal) (events : List Event) → StopsAtFile F L takes bytes r events
    → status_of_cause r.cause ≡ 2 → L × (events ≡ [])
file_with_2 F L takes bytes _ _ (writing.too_large _ _ large) e = (large, refl)
file_with_2 F L takes bytes r _ (writing.at_output _ _ events fit h) e =
    let k = output_is_4 _ bytes r events h in absurd (omega (arith, k, e))
file_with_2 F L takes bytes _ _ (writing.no_memory _ _ count writes fit is lt h) e = absurd (omega (arith, e))

module _ (words : List (List ℕ)) (desk desk' : History) where
  write_with_2 : (format : Format) (out name : List ℕ) (outcome : Outcome) (events : List Event)
      → WritesFile format out name outcome events → exit_status outcome ≡ 2
      → AskFor words (written_as format out name) → desk' ≡ desk ++ events → AskForTooMuch words desk desk'
  write_with_2 format out name _ _ (writing.done _ _ _ g whole reading written taken settled says fit handed) e asks grew =
      absurd (done_not_2 true whole e)
  write_with_2 format out name _ events (writing.at_input _ _ _ r _ named h) e asks grew = absurd (input_not_2 None [] r events h e)
  write_with_2 format out name _ events (writing.unsettled _ _ _ r n g f _ named taken first because) e asks grew =
      let k = status_of_unsettled n g.partial f r because in absurd (omega (arith, k, e))
  write_with_2 Pnm out name _ _ (writing.at_file _ _ _ r g reading written named taken settled stops) e asks grew =
      let h = file_with_2 _ _ _ _ r written stops e in absurd h.0
  write_with_2 (Jls line rows) out name _ _ (writing.at_file _ _ _ r g reading written named taken settled stops) e asks grew =
      let h = file_with_2 _ _ _ _ r written stops e in
      record {
        line = line;
        rows = rows;
        out = out;
        name = name;
        asked = asks;
        g = g;
        taken = record {
          events = reading;
          grew = grew
              ∙ ap (λ (es : List Event). desk ++ es) (ap (λ (es : List Event). reading ++ es) h.1 ∙ append-nil reading);
          they_are = taken;
        };
        settled = settled;
        too_large = h.0;
      }

  came_with_2 : (asked : Asked) (outcome : Outcome) (events report : List Event) → CameOf asked outcome events report
      → exit_status outcome ≡ 2 → AskFor words asked → desk' ≡ desk ++ events → AskForTooMuch words desk desk'
  came_with_2 (check name) outcome events report h e asks grew = absurd (tell_not_2 true name outcome events report h e)
  came_with_2 (join source out names) outcome events report h e asks grew = absurd (join_not_2 source out names outcome events h.0 e)
  came_with_2 (show name) outcome events report h e asks grew = absurd (tell_not_2 false name outcome events report h e)
  came_with_2 (write_pnm out name) outcome events report h e asks grew = write_with_2 Pnm out name outcome events h.0 e asks grew
  came_with_2 (write_jls line rows out name) outcome events report h e asks grew =
      write_with_2 (Jls line rows) out name outcome events h.0 e asks grew

  run_with_2 : (status : ℕ) (events report faults : List Event) → Run words status events report faults → status ≡ 2
      → desk' ≡ desk ++ events → AreMisused words ⊎ (AskForNothing words ⊎ AskForTooMuch words desk desk')
  run_with_2 _ events report faults (came_of _ asked outcome _ _ _ reads came line) e grew =
      inr (inr (came_with_2 asked outcome events report came e reads grew))
  run_with_2 _ _ _ faults (misused _ kind usage _ r n line) e grew = inl (kind, r, n)
  run_with_2 _ _ report _ (helped _ kind help _ r n wrote) e grew = absurd (omega (arith, e))
  run_with_2 _ _ report faults (help_cut _ kind help count _ _ r n wrote line) e grew = absurd (omega (arith, e))
  run_with_2 _ _ _ faults (nothing_begun _ _ line) e grew = absurd (omega (arith, e))
  run_with_2 _ _ _ faults (nothing_asked _ _ asks line) e grew = inr (inl asks)

pub words_after : WordsCauseStatus2
words_after words status desk desk' report report' faults faults' ran e =
    run_with_2 words desk desk' status ran.desk_events ran.report_events ran.fault_events ran.run e ran.desk_is
