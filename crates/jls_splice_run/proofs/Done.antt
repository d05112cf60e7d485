-- What comes of what was asked, put together.
use Rattle.std.proofs.Common.{◌≡◌, ℕ, Bool, suc, List, [], ◌∷◌, ◌++◌, Err, length, refl, sym, ap, ◌∙◌, subst, arith}
use Rattle.std.specs.Prelude.{◌↔◌, IsTrue}
use Rattle.std.proofs.lemmas.List.{append-nil, length-map}
use Rattle.clap.specs.Words.{Text}
use Rattle.jls_io.specs.Event.{Event, History, GrewBy, GrewBoth}
use Rattle.jls_io.specs.Writing.{Printed}
use Rattle.jls_io.proofs.Growing.{grew_twice}
use Rattle.jls_station.specs.CopyFiles.{AreCopiesRead, CopyBytes}
use Rattle.jls_cli.specs.SpliceAsking.{Asked}
use Rattle.jls_cli.specs.Outcomes.{Outcome, finished}
use Rattle.jls_cli.specs.declared.outcome.Refusal.{Refusal}
use Rattle.jls_splice_run.specs.BadLists.{AreSearched, StopsAtLists}
use Rattle.jls_splice_run.specs.Copies.{AreWhole, bytes_read, StopsAtCopies}
use Rattle.jls_splice_run.specs.Handing.{HandsAll, StopsInHanding, Texts}
use Rattle.jls_splice_run.specs.Inputs.{AreInputs, StopsAtInputs, at_copies, at_lists, at_witnesses}
use Rattle.jls_splice_run.specs.Listing.{prefix_in}
use Rattle.jls_splice_run.specs.Making.{AreTextsOf, CantMake, HoldsMade, Made, is_of_picture, notes}
use Rattle.jls_splice_run.specs.Telling.{IsTold}
use Rattle.jls_splice_run.specs.Runs.{GrewAll, Splices, at_inputs, done, not_handed, not_made, texts, texts_held}
use Rattle.jls_splice_run.specs.declared.found.Promise.{Promise}
use Rattle.jls_splice_run.specs.declared.made.Made.{Made as MadeValue}

-- as many copies are read as there are names
pub read_count : (names : List (List ℕ)) (copies : List CopyBytes) (events : List Event) → AreCopiesRead names copies events
    → length names ≡ length copies
read_count [] [] events h = refl
read_count [] (c ∷ cs) events h = absurd h
read_count (n ∷ ns) [] events h = absurd h
read_count (n ∷ ns) (c ∷ cs) events h = ap suc (read_count ns cs h.1 h.4)

-- what was read, one kind after another
module _ (a : Asked) (desk mid : History) where
  pub inputs_of : {after last : History} (read copies witnesses : List CopyBytes) → GrewBy (AreCopiesRead a.copies read) desk mid
      → GrewBy (AreSearched a.bad read copies) mid after → GrewBy (AreCopiesRead a.witnesses witnesses) after last
      → GrewBy (AreInputs a read copies) desk last
  inputs_of {after} {last} read copies witnesses h k l = record {
    events = (h.events ++ k.events) ++ l.events;
    grew = grew_twice desk after last (h.events ++ k.events) l.events (grew_twice desk mid after h.events k.events h.grew k.grew) l.grew;
    they_are = record {
      reading = h.events;
      listing = k.events;
      witnesses = witnesses;
      witnessing = l.events;
      events_are = refl;
      copies_read = h.they_are;
      are_searched = k.they_are;
      witnesses_read = l.they_are;
    };
  }

  pub copies_stop : (r : Refusal) → GrewBy (StopsAtCopies a.copies r) desk mid → GrewBy (StopsAtInputs a r) desk mid
  copies_stop r h = record { events = h.events; grew = h.grew; they_are = at_copies h.events h.they_are }

  pub lists_stop : {after : History} (r : Refusal) (read : List CopyBytes) → GrewBy (AreCopiesRead a.copies read) desk mid
      → GrewBy (StopsAtLists a r) mid after → GrewBy (StopsAtInputs a r) desk after
  lists_stop {after} r read h k = record {
    events = h.events ++ k.events;
    grew = grew_twice desk mid after h.events k.events h.grew k.grew;
    they_are = at_lists read h.events k.events h.they_are k.they_are;
  }

  pub witnesses_stop : {after last : History} (r : Refusal) (read copies : List CopyBytes) → GrewBy (AreCopiesRead a.copies read) desk mid
      → GrewBy (AreSearched a.bad read copies) mid after → GrewBy (StopsAtCopies a.witnesses r) after last
      → GrewBy (StopsAtInputs a r) desk last
  witnesses_stop {after} {last} r read copies h k l = record {
    events = (h.events ++ k.events) ++ l.events;
    grew = grew_twice desk after last (h.events ++ k.events) l.events (grew_twice desk mid after h.events k.events h.grew k.grew) l.grew;
    they_are = at_witnesses read copies h.events k.events l.events h.they_are k.they_are l.they_are;
  }

-- what is searched are as many copies
pub searched_count : (values : List Text) (read copies : List CopyBytes) (events : List Event) → AreSearched values read copies events
    → length read ≡ length copies
searched_count [] read copies events h = ap length (sym h.0)
searched_count (value ∷ values) read copies events h =
    let same = ap length h.stops_are in
    let n = length-map read (λ (c : CopyBytes). c.stop) in
    let m = length-map copies (λ (c : CopyBytes). c.stop) in
    omega (arith, same, n, m)

-- the texts that the code holds
texts_are : (a : Asked) (copies : List CopyBytes) (m : Made) (v : MadeValue) → AreTextsOf a (bytes_read copies) m v
    → texts_held a v ≡ texts a copies m
texts_are a copies m v h = λ i. record {
  lines = h.lines_are i;
  out = a.out;
  text = h.text_is i;
  file_name = a.options.file;
  file = h.file_is i;
  prefix = prefix_in a.options.files;
  files = h.files_are i;
}

module _ (a : Asked) (desk mid report faults : History) where
  pub stops_at_inputs : (r : Refusal) → GrewBy (StopsAtInputs a r) desk mid
      → GrewAll (Splices a (Err r)) desk mid report report faults faults
  stops_at_inputs r h = record {
    desk_events = h.events;
    report_events = [];
    fault_events = [];
    desk_is = h.grew;
    report_is = sym (append-nil report);
    faults_are = sym (append-nil faults);
    they_are = at_inputs r h.events h.they_are;
  }

  module _ (faults' : History) (read_copies copies : List CopyBytes) (read : GrewBy (AreInputs a read_copies copies) desk mid) where
    pub stops_unmade : {held : List CopyBytes} (r : Refusal) → held ≡ copies → CantMake a held r
        → GrewBy (IsTold a.options.progress) faults faults' → GrewAll (Splices a (Err r)) desk mid report report faults faults'
    stops_unmade r held_are cant told = record {
      desk_events = read.events;
      report_events = [];
      fault_events = told.events;
      desk_is = read.grew;
      report_is = sym (append-nil report);
      faults_are = told.grew;
      they_are = not_made r read_copies copies read.events told.events read.they_are (subst (λ z. CantMake a z r) held_are cant) told.they_are;
    }

    module _ (new report' last : History) (v : MadeValue) {held : List CopyBytes} (held_are : held ≡ copies)
        (holds : HoldsMade a held v) (told : GrewBy (IsTold a.options.progress) faults faults') {text : List ℕ}
        (text_is : text ≡ v.notes.items) (noted : GrewBy (Printed text) faults' last) where
      abbrev made : HoldsMade a copies v
      made = subst (λ z. HoldsMade a z v) held_are holds

      its_notes : Printed (notes a (bytes_read copies) made.0) noted.events
      its_notes = subst (λ (t : List ℕ). Printed t noted.events) (text_is ∙ made.2.notes_are) noted.they_are

      -- what comes of it, by what is done with the desk and the report output then
      handed : (Are : List Event → List Event → Type 0) (outcome : Outcome)
          → ((events reported : List Event) → Are events reported
          → Splices a outcome (read.events ++ events) reported (told.events ++ noted.events))
          → GrewBoth Are mid new report report' → GrewAll (Splices a outcome) desk new report report' faults last
      handed Are outcome come h = record {
        desk_events = read.events ++ h.desk_events;
        report_events = h.report_events;
        fault_events = told.events ++ noted.events;
        desk_is = grew_twice desk mid new read.events h.desk_events read.grew h.desk_is;
        report_is = h.report_is;
        faults_are = grew_twice faults faults' last told.events noted.events told.grew noted.grew;
        they_are = come h.desk_events h.report_events h.they_are;
      }

      pub stops_in_handing : (r : Refusal) → GrewBoth (StopsInHanding (texts_held a v) r) mid new report report'
          → GrewAll (Splices a (Err r)) desk new report report' faults last
      stops_in_handing r =
          handed (StopsInHanding (texts_held a v) r) (Err r)
          (λ events reported stops. not_handed r read_copies copies made.0 read.events events reported told.events noted.events read.they_are made.1
          told.they_are its_notes
          (subst (λ (t : Texts). StopsInHanding t r events reported) (texts_are a copies made.0 v made.2) stops))

      pub is_done : (whole : Bool) → (IsTrue whole ↔ AreWhole read_copies) → GrewBoth (HandsAll (texts_held a v)) mid new report report'
          → GrewAll (Splices a (finished (is_of_picture v.promise) whole)) desk new report report' faults last
      is_done whole whole_is =
          handed (HandsAll (texts_held a v)) (finished (is_of_picture v.promise) whole)
          (λ events reported all. subst (λ (p : Promise). Splices a (finished (is_of_picture p) whole) (read.events ++ events) reported
          (told.events ++ noted.events)) (sym made.2.promise_is)
          (done read_copies copies made.0 whole read.events events reported told.events noted.events read.they_are made.1 told.they_are its_notes
          (subst (λ (t : Texts). HandsAll t events reported) (texts_are a copies made.0 v made.2) all) whole_is))
