-- Answers to words that clap refused, put together.
use Rattle.std.proofs.Common.{◌≡◌, ℕ, true, false, List, [], sym}
use Rattle.std.specs.Prelude.{codes}
use Rattle.std.proofs.lemmas.List.{append-nil}
use Rattle.clap.specs.declared.error.kind.ErrorKind.{ErrorKind}
use Rattle.jls_io.specs.Event.{History, GrewBy}
use Rattle.jls_io.specs.Writing.{Wrote, WrotePrefix, Printed}
use Rattle.jls_io.specs.FaultLines.{not_written_line, out_of_memory_line}
use Rattle.jls_cli.specs.Answers.{is_help, is_want_of_memory, ran_out, usage, help, cut, Answered}

module _ (program : List ℕ) (k : ErrorKind) (report report' faults faults' : History) where
  pub answer_memory : GrewBy (Printed (out_of_memory_line program)) faults faults' → Answered program k 5 report report faults faults'
  answer_memory h = record {
    report_events = [];
    fault_events = h.events;
    report_is = sym (append-nil report);
    faults_are = h.grew;
    answer =
        ran_out k h.events h.they_are;
  }

  pub answer_usage : (text : List ℕ) → is_want_of_memory k ≡ false → is_help k ≡ false → GrewBy (Printed text) faults faults'
      → Answered program k 2 report report faults faults'
  answer_usage text m n h = record {
    report_events = [];
    fault_events = h.events;
    report_is = sym (append-nil report);
    faults_are = h.grew;
    answer = usage k text h.events m n h.they_are;
  }

  pub answer_help : (text : List ℕ) → is_help k ≡ true → GrewBy (Wrote text) report report'
      → Answered program k 0 report report' faults faults
  answer_help text n h = record {
    report_events = h.events;
    fault_events = [];
    report_is = h.grew;
    faults_are = sym (append-nil faults);
    answer = help k text h.events n h.they_are;
  }

  pub answer_cut : (text : List ℕ) (count : ℕ) → is_help k ≡ true → GrewBy (WrotePrefix text count) report report'
      → GrewBy (Printed (not_written_line program (codes "-") count)) faults faults'
      → Answered program k 4 report report' faults faults'
  answer_cut text count n h f = record {
    report_events = h.events;
    fault_events = f.events;
    report_is = h.grew;
    faults_are = f.grew;
    answer = cut k text count h.events f.events n h.they_are f.they_are;
  }
