-- Runs that end with 0 or 1, by what the words ask for.
use Rattle.std.proofs.Common.{◌≡◌, ◌≤◌, ℕ, Bool, true, false, List, [], ◌++◌, Option, Some, None, sym, subst, ap, ◌∙◌, refl}
use Rattle.std.proofs.Common.{arith}
use Rattle.std.specs.Borrow.{Bor}
use Rattle.std.specs.Prelude.{◌↔◌, IsTrue}
use Rattle.std.proofs.lemmas.Bool.{false≢true}
use Rattle.std.proofs.lemmas.List.{append-nil}
use Rattle.clap.specs.Words.{Text}
use Rattle.jls_partial.specs.Partial.{PartialPicture}
use Rattle.jls_partial.specs.Status.{IsSettled}
use Rattle.jls_io.specs.Event.{Event, History, GrewBy}
use Rattle.jls_io.specs.Writing.{Printed}
use Rattle.jls_io.proofs.Writes.{none_printed}
use Rattle.jls_station.specs.Given.{Given}
use Rattle.jls_salvage_run.specs.AllInputs.{IsTaken, StopsAt, not_there, refused, other_shape, no_memory}
use Rattle.jls_salvage_run.specs.Joining as joining
use Rattle.jls_salvage_run.specs.Joining.{JoinIsDone, Joins}
use Rattle.jls_cli.specs.Outputs as outputs
use Rattle.jls_cli.specs.Outputs.{StopsAtOutput}
use Rattle.jls_cli.specs.Outcomes.{Outcome, exit_status, finished, status_of_cause, status_of_input}
use Rattle.jls_cli.specs.declared.outcome.Refusal.{Refusal}
use Rattle.jls_station.specs.declared.input.InputFault.{InputFault}
use Rattle.jls_station.specs.declared.input.InputFault.TheVariants as fault
use Rattle.jls_salvage_run.specs.Reporting as reporting
use Rattle.jls_salvage_run.specs.Reporting.{PrintsReport, lines}
use Rattle.jls_salvage_run.specs.WritingFiles as writing
use Rattle.jls_salvage_run.specs.WritingFiles.{WritesFile, StopsAtFile, unsettled_refusal}
use Rattle.jls_write.specs.Unsettled.{NamesFirstUnsettled}
use Rattle.jls_write.specs.declared.picture.PictureFault.{PictureFault}
use Rattle.jls_write.specs.declared.picture.PictureFault.TheVariants.{Unsettled}
use Rattle.jls_salvage_run.specs.declared.writing.Format.{Format}
use Rattle.jls_salvage_run.specs.declared.writing.Format.TheVariants.{Pnm, Jls}
use Rattle.jls_cli.specs.SalvageAsking.{Asked, AskFor, check, show}
use Rattle.jls_cli.specs.FaultLines.{fault_line}
use Rattle.jls_salvage_run.specs.FaultLines.{program}
use Rattle.jls_salvage_run.specs.Runs.{CameOf, Run, came_of, misused, helped, help_cut, nothing_begun, nothing_asked}
use Rattle.jls_salvage_run.specs.RunLaws.{JoinRan, DoneJoinsRan, TellRan, DoneTellsRan, DoneChecksRan, DoneShowsRan, WriteRan}
use Rattle.jls_salvage_run.specs.RunLaws.{DoneWritesRan, UnsettledWritesStop, written_as}

-- ---- what stops a command

status_of_input_fault : (f : InputFault) → 3 ≤ status_of_input f
status_of_input_fault (fault.Text f) = omega arith
status_of_input_fault (fault.NoPicture f offset) = omega arith
status_of_input_fault (fault.Read stop offset) = omega arith
status_of_input_fault fault.OutOfMemory = omega arith

-- an input has at least status 3
status_at_input : (source : Option ℕ) (before : List Given) (r : Refusal) (events : List Event)
    → StopsAt source before r events → 3 ≤ status_of_cause r.cause
status_at_input source before _ _ (not_there _ _ _) = omega arith
status_at_input source before _ _ (refused _ _ _ f reads h) = status_of_input_fault f
status_at_input source before _ _ (other_shape _ _ _ g events h other) = omega arith
status_at_input source before _ _ (no_memory _ _ _ g events h other) = omega arith

-- an output has status 4
pub output_is_4 : (name bytes : List ℕ) (r : Refusal) (events : List Event) → StopsAtOutput name bytes r events → status_of_cause r.cause
    ≡ 4
output_is_4 name bytes r _ (outputs.not_there named is) = ap status_of_cause is
output_is_4 name bytes r _ (outputs.cut count writes named is h) = ap status_of_cause is

-- a file that does not go out has at least status 2
status_at_file : (F L : Type 0) (takes : Bool) (bytes : List ℕ) (r : Refusal) (events : List Event)
    → StopsAtFile F L takes bytes r events → 2 ≤ status_of_cause r.cause
status_at_file F L takes bytes _ _ (writing.too_large _ _ large) = omega arith
status_at_file F L takes bytes r _ (writing.at_output _ _ events fit h) = let k = output_is_4 _ bytes r events h in omega (arith, k)
status_at_file F L takes bytes _ _ (writing.no_memory _ _ count writes fit is lt h) = omega arith

pub status_of_unsettled : (n : Bor (List ℕ)) (p : PartialPicture) (f : PictureFault) (r : Refusal) → r ≡ unsettled_refusal n p f
    → status_of_cause r.cause ≡ 1
status_of_unsettled n p (Unsettled component line) r is = ap (λ (x : Refusal). status_of_cause x.cause) is

-- ---- no fault line

unchanged : (old new : History) (events : List Event) → new ≡ old ++ events → events ≡ [] → new ≡ old
unchanged old new events e is = e ∙ (ap (λ (es : List Event). old ++ es) is ∙ append-nil old)

-- ---- what came of the words

one_asked : (words : List Text) (a b : Asked) → AskFor words a → AskFor words b → a ≡ b
one_asked words a b h k = let e : Some a ≡ Some b = sym h.asks ∙ k.asks in cc

record Came (asked : Asked) (status : ℕ) (desk report faults : List Event) : Type 0 where
  outcome : Outcome
  came : CameOf asked outcome desk report
  status_is : status ≡ exit_status outcome
  printed : Printed (fault_line program outcome) faults

came_of_run : (words : List Text) (status : ℕ) (desk report faults : List Event) → Run words status desk report faults → (asked : Asked)
    → AskFor words asked → status ≤ 1
    → Came asked status desk report faults
came_of_run words _ desk report faults (came_of _ a outcome _ _ _ reads came line) asked k le =
    record {
      outcome = outcome;
      came = subst (λ (x : Asked). CameOf x outcome desk report) (one_asked words a asked reads k) came;
      status_is = refl;
      printed = line;
    }
came_of_run words _ _ _ faults (misused _ kind usage _ r n line) asked k le = absurd (r.not_taken k.taken)
came_of_run words _ _ report _ (helped _ kind help _ r n wrote) asked k le = absurd (r.not_taken k.taken)
came_of_run words _ _ report faults (help_cut _ kind help count _ _ r n wrote line) asked k le = absurd (r.not_taken k.taken)
came_of_run words _ _ _ faults (nothing_begun _ _ line) asked k le = absurd (omega (arith, le))
came_of_run words _ _ _ faults (nothing_asked _ _ asks line) asked k le = let e : None ≡ Some asked = sym asks.asks ∙ k.asks in absurd cc

done_status : (settled whole : Bool) (p : PartialPicture) → (IsTrue settled ↔ IsSettled p) → exit_status (finished settled whole) ≤ 1
    → ((exit_status (finished settled whole) ≡ 0) ↔ IsSettled p) × (whole ≡ true)
done_status true true p s le = ((λ _. s.0 refl, λ _. refl), refl)
done_status false true p s le = ((λ e. absurd (omega (arith, e)), λ is. absurd (false≢true (s.1 is))), refl)
done_status settled false p s le = absurd (omega (arith, le))

join_finished : (source : Option ℕ) (out : Text) (names : List Text) (outcome : Outcome) (events : List Event) (desk desk' : History)
    → Joins source out names outcome events → desk' ≡ desk ++ events → exit_status outcome ≤ 1
    → (joined : PartialPicture) × JoinRan source out names joined (exit_status outcome) desk desk' × (fault_line program outcome ≡ [])
join_finished source out names _ events desk desk' (joining.done _ _ _ p settled whole _ h) e le =
    let s = done_status settled whole p h.settled_is le in (
      p,
      record {
        settled = settled;
        events = events;
        grew = e;
        is_done = subst (λ (w : Bool). JoinIsDone source out names p settled w events) s.1 h;
        status_is = s.0;
      },
      refl,
    )
join_finished source out names _ events desk desk' (joining.at_input _ _ _ r _ h) e le = let k =
    status_at_input source h.givens r h.last h.stops in absurd (omega (arith, k, le))
join_finished source out names _ events desk desk' (joining.no_memory _ _ _ n p whole _ named h) e le = absurd (omega (arith, le))
join_finished source out names _ _ desk desk' (joining.at_output _ _ _ r p whole reading writing h stops) e le = let k =
    output_is_4 _ _ r writing stops in absurd (omega (arith, k, le))

tell_finished : (traced : Bool) (name : Text) (outcome : Outcome) (events reported : List Event) (desk desk' report report' : History)
    → PrintsReport (lines traced) name outcome events reported
    → desk' ≡ desk ++ events → report' ≡ report ++ reported → exit_status outcome ≤ 1
    → (g : Given) × TellRan traced name g (exit_status outcome) desk desk' report report' × (fault_line program outcome ≡ [])
tell_finished traced name _ events reported desk desk' report report' (reporting.done _ g settled whole _ _ taken says wrote) e d le =
    let s = done_status settled whole g.partial says.settled_is le in (
      g,
      record {
        taken = record { events = events; grew = e; they_are = taken };
        whole = says.whole_is.0 s.1;
        printed = record { events = reported; grew = d; they_are = wrote };
        status_is = s.0;
      },
      refl,
    )
tell_finished traced name _ events _ desk desk' report report' (reporting.at_input _ r _ named h) e d le =
    let k = status_at_input None [] r events h in absurd (omega (arith, k, le))
tell_finished traced name _ events _ desk desk' report report' (reporting.no_memory _ n g _ named taken) e d le = absurd (omega (arith, le))
tell_finished traced name _ events reported desk desk' report report' (reporting.not_printed _ n g count _ _ named taken wrote) e d le =
    absurd (omega (arith, le))

write_finished : (format : Format) (out name : Text) (outcome : Outcome) (events : List Event) (desk desk' : History)
    → WritesFile format out name outcome events → desk' ≡ desk ++ events → exit_status outcome ≡ 0
    → (g : Given) × WriteRan format out name g desk desk' × (fault_line program outcome ≡ [])
write_finished format out name _ _ desk desk' (writing.done _ _ _ g whole reading written taken settled says fit handed) e is =
    let s = done_status true whole g.partial says.settled_is (omega (arith, is)) in (
      g,
      record {
        reading = reading;
        writing = written;
        grew = e;
        taken = taken;
        whole = says.whole_is.0 s.1;
        settled = settled;
        fits = fit;
        handed = handed;
      },
      refl,
    )
write_finished format out name _ events desk desk' (writing.at_input _ _ _ r _ named h) e is =
    let k = status_at_input None [] r events h in absurd (omega (arith, k, is))
write_finished format out name _ events desk desk' (writing.unsettled _ _ _ r n g f _ named taken first because) e is =
    let k = status_of_unsettled n g.partial f r because in absurd (omega (arith, k, is))
write_finished format out name _ _ desk desk' (writing.at_file _ _ _ r g reading written named taken settled stops) e is =
    let k = status_at_file _ _ _ _ r written stops in absurd (omega (arith, k, is))

not_settled : (p : PartialPicture) (f : PictureFault) → NamesFirstUnsettled p f → IsSettled p → ⊥
not_settled p (Unsettled component line) first settled =
    first.first_line.unsettled (settled component first.first_line.component_in line first.first_line.line_in)

write_stopped : (format : Format) (out name : Text) (outcome : Outcome) (events : List Event) (desk desk' : History)
    → WritesFile format out name outcome events → desk' ≡ desk ++ events → exit_status outcome ≡ 1
    → (g : Given) × GrewBy (IsTaken None name g) desk desk' × (IsSettled g.partial → ⊥)
write_stopped format out name _ _ desk desk' (writing.done _ _ _ g whole reading written taken settled says fit handed) e is =
    let s = done_status true whole g.partial says.settled_is (omega (arith, is)) in
    let zero = s.0.1 settled in
    absurd (omega (arith, is, zero))
write_stopped format out name _ events desk desk' (writing.at_input _ _ _ r _ named h) e is =
    let k = status_at_input None [] r events h in absurd (omega (arith, k, is))
write_stopped format out name _ events desk desk' (writing.unsettled _ _ _ r n g f _ named taken first because) e is =
    (g, record { events = events; grew = e; they_are = taken }, not_settled g.partial f first)
write_stopped format out name _ _ desk desk' (writing.at_file _ _ _ r g reading written named taken settled stops) e is =
    let k = status_at_file _ _ _ _ r written stops in absurd (omega (arith, k, is))

came_as : (format : Format) (out name : Text) (outcome : Outcome) (desk report : List Event)
    → CameOf (written_as format out name) outcome desk report
    → WritesFile format out name outcome desk × (report ≡ [])
came_as Pnm out name outcome desk report h = h
came_as (Jls line ri) out name outcome desk report h = h

-- ---- the laws

pub joins_finished : DoneJoinsRan
joins_finished words status desk desk' report report' faults faults' ran source out names k le =
    let c = came_of_run words status ran.desk_events ran.report_events ran.fault_events ran.run _ k le in
    let f = join_finished source out names c.outcome ran.desk_events desk desk' c.came.0 ran.desk_is (omega (arith, le, c.status_is)) in (
      f.0,
      subst (λ (s : ℕ). JoinRan source out names f.0 s desk desk') (sym c.status_is) f.1,
      unchanged report report' ran.report_events ran.report_is c.came.1,
      unchanged faults faults' ran.fault_events ran.faults_are
          (none_printed ran.fault_events (subst (λ (line : List ℕ). Printed line ran.fault_events) f.2 c.printed)),
    )

tells_finished : (traced : Bool) (asked : Text → Asked)
    → ((name : Text) (outcome : Outcome) (desk report : List Event) → CameOf (asked name) outcome desk report
    → PrintsReport (lines traced) name outcome desk report) → DoneTellsRan traced asked
tells_finished traced asked prints words status desk desk' report report' faults faults' ran name k le =
    let c = came_of_run words status ran.desk_events ran.report_events ran.fault_events ran.run _ k le in
    let f = tell_finished traced name c.outcome ran.desk_events ran.report_events desk desk' report report'
    (prints name c.outcome ran.desk_events ran.report_events c.came) ran.desk_is ran.report_is (omega (arith, le, c.status_is)) in (
      f.0,
      subst (λ (s : ℕ). TellRan traced name f.0 s desk desk' report report') (sym c.status_is) f.1,
      unchanged faults faults' ran.fault_events ran.faults_are
          (none_printed ran.fault_events (subst (λ (line : List ℕ). Printed line ran.fault_events) f.2 c.printed)),
    )

pub checks_finished : DoneChecksRan
checks_finished = tells_finished true check (λ name outcome desk report h. h)

pub shows_finished : DoneShowsRan
shows_finished = tells_finished false show (λ name outcome desk report h. h)

pub writes_finished : DoneWritesRan
writes_finished words status desk desk' report report' faults faults' ran format out name k is =
    let c = came_of_run words status ran.desk_events ran.report_events ran.fault_events ran.run _ k (omega (arith, is)) in
    let came = came_as format out name c.outcome ran.desk_events ran.report_events c.came in
    let f = write_finished format out name c.outcome ran.desk_events desk desk' came.0 ran.desk_is (omega (arith, is, c.status_is)) in (
      f.0,
      f.1,
      unchanged report report' ran.report_events ran.report_is came.1,
      unchanged faults faults' ran.fault_events ran.faults_are
          (none_printed ran.fault_events (subst (λ (line : List ℕ). Printed line ran.fault_events) f.2 c.printed)),
    )

pub writes_stopped : UnsettledWritesStop
writes_stopped words status desk desk' report report' faults faults' ran format out name k is =
    let c = came_of_run words status ran.desk_events ran.report_events ran.fault_events ran.run _ k (omega (arith, is)) in
    let came = came_as format out name c.outcome ran.desk_events ran.report_events c.came in
    write_stopped format out name c.outcome ran.desk_events desk desk' came.0 ran.desk_is (omega (arith, is, c.status_is))
