-- Runs, by what was done.
use Rattle.std.proofs.Common.{◌≡◌, ℕ, true, false, inl, inr, None, List, [], ◌++◌, sym, ap, ◌∙◌, subst}
use Rattle.std.specs.Prelude.{◌⊎◌}
use Rattle.std.proofs.lemmas.List.{append-nil}
use Rattle.clap.specs.Words.{Text}
use Rattle.clap.specs.declared.error.kind.ErrorKind.{ErrorKind}
use Rattle.clap.specs.declared.error.kind.ErrorKind.TheVariants as kind
use Rattle.jls_io.specs.Event.{Event, History, GrewBy}
use Rattle.jls_io.specs.Writing.{Printed}
use Rattle.jls_io.proofs.Growing.{grew_twice}
use Rattle.jls_cli.specs.SpliceAsking.{Asked, AskFor}
use Rattle.jls_cli.specs.SpliceWords.{AreRefused}
use Rattle.jls_cli.specs.Answers.{is_help, is_want_of_memory, Answer, Answered, ran_out, usage, help, cut}
use Rattle.jls_cli.specs.FaultLines.{fault_line}
use Rattle.jls_cli.specs.Outcomes.{Outcome, exit_status}
use Rattle.jls_splice_run.specs.FaultLines.{program}
use Rattle.jls_splice_run.specs.Runs.{GrewAll, IsFileOut, IsNumberedOut, Performs, Ran, Run, Splices, bad_value, came_of, performed}
use Rattle.jls_splice_run.specs.Runs.{misused, helped, help_cut, nothing_begun}

-- an answer is a run, where the kind is one of those that clap has for the words
run_of_answer : (words : List Text) (k : ErrorKind) (status : ℕ) (report faults : List Event)
    → (k ≡ kind.OutOfMemory) ⊎ AreRefused words k → Answer program k status report faults → Run words status [] report faults
run_of_answer words k _ _ faults r (ran_out _ _ line) = nothing_begun faults line
run_of_answer words k _ _ faults (inr r) (usage _ text _ m n line) = misused k text faults r n line
run_of_answer words k _ _ faults (inl is) (usage _ text _ m n line) = let e : true ≡ false = sym (ap is_want_of_memory is) ∙ m in absurd cc
run_of_answer words k _ report _ (inr r) (help _ text _ n wrote) = helped k text report r n wrote
run_of_answer words k _ report _ (inl is) (help _ text _ n wrote) = let e : false ≡ true = sym (ap is_help is) ∙ n in absurd cc
run_of_answer words k _ report faults (inr r) (cut _ text count _ _ n wrote line) = help_cut k text count report faults r n wrote line
run_of_answer words k _ report faults (inl is) (cut _ text count _ _ n wrote line) = let e : false ≡ true = sym (ap is_help is) ∙ n in
    absurd cc

module _ {desk desk' report report' faults faults' : History} where
  pub performs : {mid : History} (a : Asked) (status : ℕ) (outcome : Outcome) → status ≡ exit_status outcome
      → GrewAll (Splices a outcome) desk desk' report report' faults mid
      → GrewBy (Printed (fault_line program outcome)) mid faults' → GrewAll (Performs a status) desk desk' report report' faults faults'
  performs {mid} a status outcome is h line = record {
    desk_events = h.desk_events;
    report_events = h.report_events;
    fault_events = h.fault_events ++ line.events;
    desk_is = h.desk_is;
    report_is = h.report_is;
    faults_are = grew_twice faults mid faults' h.fault_events line.events h.faults_are line.grew;
    they_are =
        subst (λ (s : ℕ). Performs a s h.desk_events h.report_events (h.fault_events ++ line.events)) (sym is)
        (came_of outcome h.desk_events h.report_events h.fault_events line.events h.they_are line.they_are);
  }

  pub ran : (words : List Text) (a : Asked) (status : ℕ) → AskFor words a → (IsFileOut a → ⊥) → (IsNumberedOut a → ⊥) → bad_value a ≡ None
      → GrewAll (Performs a status) desk desk' report report' faults faults'
      → Ran words status desk desk' report report' faults faults'
  ran words a status asks other no_number listed h = record {
    desk_events = h.desk_events;
    report_events = h.report_events;
    fault_events = h.fault_events;
    desk_is = h.desk_is;
    report_is = h.report_is;
    faults_are = h.faults_are;
    they_are = performed a status h.desk_events h.report_events h.fault_events asks other no_number listed h.they_are;
  }

pub ran_refused : {desk report report' faults faults' : History} (words : List Text) (k : ErrorKind) (status : ℕ)
    → (k ≡ kind.OutOfMemory) ⊎ AreRefused words k → Answered program k status report report' faults faults'
    → Ran words status desk desk report report' faults faults'
ran_refused {desk} words k status r a = record {
  desk_events = [];
  report_events = a.report_events;
  fault_events = a.fault_events;
  desk_is = sym (append-nil desk);
  report_is = a.report_is;
  faults_are = a.faults_are;
  they_are = run_of_answer words k status a.report_events a.fault_events r a.answer;
}

-- only the fault output was handed something
pub faults_alone : {desk report faults faults' : History} (Are : List Event → List Event → List Event → Type 0) (Told : List Event → Type 0)
    → ((events : List Event) → Told events → Are [] [] events) → GrewBy Told faults faults'
    → GrewAll Are desk desk report report faults faults'
faults_alone {desk} {report} Are Told come told = record {
  desk_events = [];
  report_events = [];
  fault_events = told.events;
  desk_is = sym (append-nil desk);
  report_is = sym (append-nil report);
  faults_are = told.grew;
  they_are = come told.events told.they_are;
}
