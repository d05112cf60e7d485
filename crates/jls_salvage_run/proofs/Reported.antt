-- The steps of a command that tells what one input gave, put together.
use Rattle.std.proofs.Common.{◌≡◌, ℕ, Bool, List, [], None, Err, sym, subst}
use Rattle.std.proofs.lemmas.List.{append-nil}
use Rattle.std.specs.Borrow.{Bor}
use Rattle.std.specs.Prelude.{codes}
use Rattle.jls_io.specs.Event.{History, GrewBy, GrewBoth}
use Rattle.jls_io.specs.Writing.{Wrote, WrotePrefix}
use Rattle.jls_station.specs.Given.{Given}
use Rattle.jls_salvage_run.specs.AllInputs.{IsTaken, StopsAt}
use Rattle.jls_cli.specs.Outcomes.{finished, refusal_at}
use Rattle.jls_cli.specs.declared.outcome.Refusal.{Refusal}
use Rattle.jls_cli.specs.declared.outcome.Cause.TheVariants as cause
use Rattle.jls_salvage_run.specs.Reporting.{Says, PrintsReport, done, at_input, no_memory, not_printed}

module _ (lines : Given → List ℕ) (name : List ℕ) (desk desk' report report' : History) where
  pub reported_at_input : (r : Refusal) → r.name.now ≡ name → GrewBy (StopsAt None [] r) desk desk'
      → GrewBoth (PrintsReport lines name (Err r)) desk desk' report report
  reported_at_input r named h = record {
    desk_events = h.events;
    report_events = [];
    desk_is = h.grew;
    report_is = sym (append-nil report);
    they_are = at_input name r h.events named h.they_are;
  }

  module _ (g : Given) (taken : GrewBy (IsTaken None name g) desk desk') where
    pub reported_for_memory : (file : Bor (List ℕ)) → file.now ≡ name
        → GrewBoth (PrintsReport lines name (Err (refusal_at file cause.OutOfMemory))) desk desk' report report
    reported_for_memory file named = record {
      desk_events = taken.events;
      report_events = [];
      desk_is = taken.grew;
      report_is = sym (append-nil report);
      they_are = no_memory name file g taken.events named taken.they_are;
    }

    pub reported : (settled whole : Bool) (printed : List ℕ) → printed ≡ lines g → Says g settled whole
        → GrewBy (Wrote printed) report report'
        → GrewBoth (PrintsReport lines name (finished settled whole)) desk desk' report report'
    reported settled whole printed is says h = record {
      desk_events = taken.events;
      report_events = h.events;
      desk_is = taken.grew;
      report_is = h.grew;
      they_are = done name g settled whole taken.events h.events taken.they_are says
          (subst (λ (bytes : List ℕ). Wrote bytes h.events) is h.they_are);
    }

    pub reported_in_part : (out : Bor (List ℕ)) (count : ℕ) (printed : List ℕ) → printed ≡ lines g → out.now ≡ codes "-"
        → GrewBy (WrotePrefix printed count) report report'
        → GrewBoth (PrintsReport lines name (Err (refusal_at out (cause.NotWritten count)))) desk desk' report report'
    reported_in_part out count printed is named h = record {
      desk_events = taken.events;
      report_events = h.events;
      desk_is = taken.grew;
      report_is = h.grew;
      they_are = not_printed name out g count taken.events h.events named taken.they_are
          (subst (λ (bytes : List ℕ). WrotePrefix bytes count h.events) is h.they_are);
    }
