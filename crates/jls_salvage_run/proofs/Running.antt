-- Runs, by what was done.
use Rattle.std.proofs.Common.{◌≡◌, ℕ, List, [], sym, subst, refl}
use Rattle.std.specs.Prelude.{◌⊎◌}
use Rattle.std.proofs.lemmas.List.{append-nil}
use Rattle.clap.specs.Words.{Text}
use Rattle.clap.specs.declared.error.kind.ErrorKind.{ErrorKind}
use Rattle.clap.specs.declared.error.kind.ErrorKind.TheVariants as kind
use Rattle.jls_io.specs.Event.{Event, History, GrewBy, GrewBoth}
use Rattle.jls_io.specs.Writing.{Printed}
use Rattle.jls_cli.specs.Outcomes.{Outcome, exit_status}
use Rattle.jls_cli.specs.SalvageWords.{AreRefused}
use Rattle.jls_cli.specs.SalvageAsking.{Asked, AskFor, AskForNothing, format_is_known}
use Rattle.jls_cli.specs.Answers.{Answered}
use Rattle.jls_cli.specs.FaultLines.{fault_line}
use Rattle.jls_salvage_run.specs.FaultLines.{program, unknown_value_line}
use Rattle.jls_salvage_run.specs.Runs.{CameOf, Run, came_of, nothing_asked, Ran}
use Rattle.jls_salvage_run.proofs.RefusedWords.{run_of_answer}

-- what was done with the desk alone
pub desk_alone : (A : List Event → Type 0) (desk desk' report : History) → GrewBy A desk desk'
    → GrewBoth (λ events reported. A events × (reported ≡ [])) desk desk' report report
desk_alone A desk desk' report h = record {
  desk_events = h.events;
  report_events = [];
  desk_is = h.grew;
  report_is = sym (append-nil report);
  they_are = (h.they_are, refl);
}

module _ (words : List Text) (desk desk' report report' faults faults' : History) where
  pub ran_refused : (k : ErrorKind) (status : ℕ) → (k ≡ kind.OutOfMemory) ⊎ AreRefused words k
      → Answered program k status report report' faults faults'
      → Ran words status desk desk report report' faults faults'
  ran_refused k status r a = record {
    desk_events = [];
    report_events = a.report_events;
    fault_events = a.fault_events;
    desk_is = sym (append-nil desk);
    report_is = a.report_is;
    faults_are = a.faults_are;
    run = run_of_answer words k status a.report_events a.fault_events r a.answer;
  }

  pub ran : (status : ℕ) (asked : Asked) (outcome : Outcome) → status ≡ exit_status outcome → AskFor words asked
      → GrewBoth (CameOf asked outcome) desk desk' report report' → GrewBy (Printed (fault_line program outcome)) faults faults'
      → Ran words status desk desk' report report' faults faults'
  ran status asked outcome is reads h line = record {
    desk_events = h.desk_events;
    report_events = h.report_events;
    fault_events = line.events;
    desk_is = h.desk_is;
    report_is = h.report_is;
    faults_are = line.grew;
    run =
        subst (λ (s : ℕ). Run words s h.desk_events h.report_events line.events) (sym is)
        (came_of words asked outcome h.desk_events h.report_events line.events reads h.they_are line.they_are);
  }

  pub ran_nothing : AskForNothing words → GrewBy (Printed (unknown_value_line (format_is_known words))) faults faults'
      → Ran words 2 desk desk report report faults faults'
  ran_nothing asks line = record {
    desk_events = [];
    report_events = [];
    fault_events = line.events;
    desk_is = sym (append-nil desk);
    report_is = sym (append-nil report);
    faults_are = line.grew;
    run = nothing_asked words line.events asks line.they_are;
  }
