-- What is handed out, put together.
use Rattle.std.proofs.Common.{◌≡◌, ℕ, List, [], ◌++◌, Option, refl, sym, subst}
use Rattle.std.proofs.lemmas.List.{append-nil}
use Rattle.jls_io.specs.Event.{Event, History, GrewBy, GrewBoth}
use Rattle.jls_io.specs.Writing.{Wrote}
use Rattle.jls_io.proofs.Growing.{grew_twice}
use Rattle.jls_io.specs.Outputs.{HandsOut}
use Rattle.jls_cli.specs.Outputs.{StopsAtOutput}
use Rattle.jls_cli.specs.declared.outcome.Refusal.{Refusal}
use Rattle.jls_splice_run.specs.Handing.{HandsAll, HandsFile, HandsFiles, StopsAtSingleFile, StopsAtFiles, StopsAtReport}
use Rattle.jls_splice_run.specs.Handing.{StopsInHanding, Texts, at_file, at_files, at_output, at_report}

module _ (t : Texts) (desk report report' : History) {lines : List ℕ} (lines_are : lines ≡ t.lines) where
  pub stops_at_report : (r : Refusal) → GrewBy (StopsAtReport lines r) report report'
      → GrewBoth (StopsInHanding t r) desk desk report report'
  stops_at_report r h = record {
    desk_events = [];
    report_events = h.events;
    desk_is = sym (append-nil desk);
    report_is = h.grew;
    they_are = at_report h.events (subst (λ z. StopsAtReport z r h.events) lines_are h.they_are);
  }

  module _ (printed : GrewBy (Wrote lines) report report') {text : List ℕ} (text_is : text ≡ t.text) where
    wrote : Wrote t.lines printed.events
    wrote = subst (λ z. Wrote z printed.events) lines_are printed.they_are

    pub stops_at_output : {mid : History} (r : Refusal) → GrewBy (StopsAtOutput t.out text r) desk mid
        → GrewBoth (StopsInHanding t r) desk mid report report'
    stops_at_output r h = record {
      desk_events = h.events;
      report_events = printed.events;
      desk_is = h.grew;
      report_is = printed.grew;
      they_are = at_output h.events printed.events wrote (subst (λ z. StopsAtOutput t.out z r h.events) text_is h.they_are);
    }

    module _ (mid new : History) (handed : GrewBy (HandsOut t.out text) desk mid) {file : Option (List ℕ)} (file_is : file ≡ t.file) where
      texted : HandsOut t.out t.text handed.events
      texted = subst (λ z. HandsOut t.out z handed.events) text_is handed.they_are

      pub stops_at_file : (r : Refusal) → GrewBy (StopsAtSingleFile t.file_name file r) mid new
          → GrewBoth (StopsInHanding t r) desk new report report'
      stops_at_file r h = record {
        desk_events = handed.events ++ h.events;
        report_events = printed.events;
        desk_is = grew_twice desk mid new handed.events h.events handed.grew h.grew;
        report_is = printed.grew;
        they_are =
            at_file handed.events h.events printed.events wrote texted (subst (λ z. StopsAtSingleFile t.file_name z r h.events) file_is
            h.they_are);
      }

      module _ (last : History) (one : GrewBy (HandsFile t.file_name file) mid new) where
        filed : HandsFile t.file_name t.file one.events
        filed = subst (λ z. HandsFile t.file_name z one.events) file_is one.they_are

        -- what is done with the files that have numbers, after all that
        numbered : (Are : List Event → Type 0) (Are' : List Event → List Event → Type 0)
            → ((events : List Event) → Are events → Are' ((handed.events ++ one.events) ++ events) printed.events) → GrewBy Are new last
            → GrewBoth Are' desk last report report'
        numbered Are Are' come h = record {
          desk_events = (handed.events ++ one.events) ++ h.events;
          report_events = printed.events;
          desk_is = grew_twice desk new last (handed.events ++ one.events) h.events
              (grew_twice desk mid new handed.events one.events handed.grew one.grew) h.grew;
          report_is = printed.grew;
          they_are = come h.events h.they_are;
        }

        pub stops_at_files : (r : Refusal) → GrewBy (StopsAtFiles t.prefix t.files r) new last
            → GrewBoth (StopsInHanding t r) desk last report report'
        stops_at_files r =
            numbered (StopsAtFiles t.prefix t.files r) (StopsInHanding t r)
            (λ events stops. at_files handed.events one.events events printed.events wrote texted filed stops)

        pub hands_all : GrewBy (HandsFiles t.files) new last → GrewBoth (HandsAll t) desk last report report'
        hands_all =
            numbered (HandsFiles t.files) (HandsAll t)
            (λ events files. record {
              printed = wrote;
              writing = handed.events;
              more = one.events;
              rest = events;
              desk_is = refl;
              handed = texted;
              file_handed = filed;
              files_handed = files;
            })
