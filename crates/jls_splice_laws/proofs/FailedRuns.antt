-- Runs that end with status 4.
use Rattle.std.proofs.Common.{◌≡◌, ℕ, zero, suc, Bool, true, false, List, [], ◌∷◌, ◌++◌, Option, Some, None}
use Rattle.std.proofs.Common.{get_or, refl, sym, ap, ◌∙◌, subst, arith, inl, inr}
use Rattle.std.specs.Prelude.{◌⊎◌, ◌||◌}
use Rattle.std.specs.List.{AllByRecursion, list_any, slice_get}
use Rattle.std.proofs.lemmas.List.Folds.{list_any-append}
use Rattle.clap.specs.Words.{Text}
use Rattle.jls_io.specs.Event.{Event, opened, not_opened, write_failed, created, is_failed_opening}
use Rattle.jls_io.specs.Event.{is_failed_write}
use Rattle.jls_io.specs.Writing.{WrotePrefix}
use Rattle.jls_write.proofs.Lending.{or_false}
use Rattle.jls_marker.specs.declared.fault.MarkerFault.{MarkerFault}
use Rattle.jls_station.specs.CopyFiles.{CopyBytes, AreCopiesRead, IsTextPrefix, StopsAtCopy}
use Rattle.jls_station.specs.CopyFiles.{not_there, partial_picture, between_reads, after_the_last}
use Rattle.jls_station.specs.Reading.{HadFailure}
use Rattle.jls_station.specs.declared.copy.CopyCause.{CopyCause}
use Rattle.jls_station.specs.declared.copy.CopyCause.TheVariants as copy
use Rattle.jls_station.specs.declared.input.ReadStop.{ReadStop}
use Rattle.jls_station.specs.declared.input.ReadStop.TheVariants.{Whole, Failed, Turns}
use Rattle.jls_search.specs.Shapes.{HasNoFrame, IsShapeFound}
use Rattle.jls_search.specs.declared.shape_found.ShapeFound.{ShapeFound}
use Rattle.jls_search.specs.declared.shape_found.ShapeFound.TheVariants.{Taken, Differ, NoFrame}
use Rattle.jls_cli.specs.Outcomes.{status_of_cause}
use Rattle.jls_cli.specs.Outputs as outputs
use Rattle.jls_cli.specs.Outputs.{StopsAtOutput}
use Rattle.jls_cli.specs.SpliceAsking.{Asked, AskFor}
use Rattle.jls_cli.specs.declared.outcome.Cause.{Cause}
use Rattle.jls_cli.specs.declared.outcome.Cause.TheVariants as cause
use Rattle.jls_cli.specs.declared.outcome.Refusal.{Refusal}
use Rattle.jls_splice_run.specs.BadLists.{IsListRefused, IsStoppedBy, StopsAtLists, list_names, none_read, not_read, not_taken, no_memory}
use Rattle.jls_splice_run.specs.BadLists.{not_whole as not_whole_list, not_understood}
use Rattle.jls_splice_run.specs.Copies.{AreWhole, StopsAtCopies, bytes_read, cause_of, stops_read}
use Rattle.jls_splice_run.specs.Handing.{StopsInHanding, StopsAtNumber, StopsAtSingleFile, Texts, at_file, at_files, at_output, at_report}
use Rattle.jls_splice_run.specs.Handing.{number_cut, number_not_there}
use Rattle.jls_splice_run.specs.Inputs.{AreInputs, StopsAtInputs, at_copies, at_lists, at_witnesses}
use Rattle.jls_splice_run.specs.Listing.{NamedFile}
use Rattle.jls_splice_run.specs.Making.{CantMake, IsRefusedFor, is_of_picture, no_picture_cause, promise_on}
use Rattle.jls_splice_run.specs.Runs.{Performs, came_of, no_names, at_inputs, not_made, not_handed, done}
use Rattle.jls_splice_run.specs.Runs.{performed, named_twice, numbered_out, no_list, misused, helped, help_cut, nothing_begun, nothing_asked}
use Rattle.jls_splice_laws.specs.Failures.{StopsAtUnopenedList, StopsAtUnreadList, StopsOverOpening, StopsOverReads, StopsUnopened, StopsUnread}
use Rattle.jls_splice_laws.specs.Failures.{StopsWith4}
use Rattle.jls_splice_laws.specs.Failures.{IsToldLast, DidInPart, RunsEndWith4}
use Rattle.jls_splice_laws.specs.Failures.{NothingElseFailed}
use Rattle.jls_splice_laws.specs.Failures.{SplicedFailuresCauseStatus4, SplicedBrokenReadsCauseStatus4}
use Rattle.jls_cli.proofs.OutputSteps.{output_failed}
use Rattle.jls_station.proofs.FailedReads.{failed_as, failed_left, failed_right, prefix_failed, read_in_part, whole_or_not}
use Rattle.jls_splice_laws.proofs.DoneRuns.{was_done, not_whole, one_asked, same_stops}

-- Why it stops ---------------------------------------------------------------------------------------------------

not_4 : {P : Type 0} (r : Refusal) (c : Cause) (n : ℕ) → r.cause ≡ c → status_of_cause c ≡ n → status_of_cause r.cause ≡ 4 → (n ≡ 4 → ⊥) → P
not_4 r c n is status e other = absurd (other (sym status ∙ sym (ap status_of_cause is) ∙ e))

unopened : (name : List ℕ) (c : CopyCause) (last : List Event) → StopsAtCopy name c last → status_of_cause (cause_of c) ≡ 4
    → (c ≡ copy.NotOpened) × (last ≡ not_opened name ∷ [])
unopened _ _ _ (not_there name) e = (refl, refl)
unopened _ _ _ (partial_picture name bytes stop reads is text) e = absurd (omega (arith, e))
unopened _ _ _ (between_reads name reads is) e = absurd (omega (arith, e))
unopened _ _ _ (after_the_last name c events is) e = absurd (omega (arith, e))

stops_unopened : (names : List (List ℕ)) (r : Refusal) (events : List Event) → StopsAtCopies names r events → status_of_cause r.cause ≡ 4
    → StopsUnopened names r events
stops_unopened names r events h e =
    let s = h.stops in
    let last = unopened h.refusal.name.now h.refusal.cause s.last s.stops (sym (ap status_of_cause h.cause_is) ∙ e) in
    record {
      before = s.before;
      after = s.after;
      among = subst (λ (n : List ℕ). names ≡ s.before ++ n ∷ s.after) (sym h.name_is) s.among;
      cause_is = h.cause_is ∙ ap cause_of last.0;
      copies = s.copies;
      reading = s.reading;
      read = s.read;
      desk_is = s.events_are ∙ ap (λ (es : List Event). s.reading ++ es) (last.1 ∙ ap (λ (n : List ℕ). not_opened n ∷ []) (sym h.name_is));
    }

not_read_cause : (stop : ReadStop) (f : MarkerFault) (offset : ℕ) → (stop ≡ Whole → ⊥) → no_picture_cause stop f offset ≡ cause.NotRead
not_read_cause Whole f offset not = absurd (not refl)
not_read_cause Failed f offset not = refl
not_read_cause Turns f offset not = refl

record Unread (names : List (List ℕ)) (stops : List ReadStop) (copies : List (List ℕ)) (r : Refusal) : Type 0 where
  name_is : r.name.now ≡ get_or names 0 []
  cause_is : r.cause ≡ cause.NotRead
  in_part : get_or stops 0 Whole ≡ Whole → ⊥
  no_frame : AllByRecursion HasNoFrame copies

unread : (names : List (List ℕ)) (stops : List ReadStop) (copies splices : List (List ℕ)) (found : ShapeFound) (r : Refusal)
    → IsShapeFound copies splices found → IsRefusedFor names stops found r → status_of_cause r.cause ≡ 4 → Unread names stops copies r
unread names stops copies splices (Taken shape) r is h e = absurd h
unread names stops copies splices (Differ number) r is h e = not_4 r cause.ShapeDiffers 3 h.1 refl e (λ x. omega (arith, x))
unread names stops copies splices (NoFrame f offset) r is h e = record {
  name_is = h.0;
  cause_is = h.1 ∙ not_read_cause (get_or stops 0 Whole) f offset not;
  in_part = not;
  no_frame = is.1;
}
  where
    not : get_or stops 0 Whole ≡ Whole → ⊥
    not whole =
        not_4 r (cause.NoPicture f offset) 3 (h.1 ∙ ap (λ (s : ReadStop). no_picture_cause s f offset) whole) refl e
        (λ x. omega (arith, x))

stops_unread : (a : Asked) (read copies : List CopyBytes) (r : Refusal) (desk : List Event) → AreInputs a read copies desk
    → CantMake a copies r → status_of_cause r.cause ≡ 4 → StopsUnread a r desk
stops_unread a read copies r desk inputs (inl want) e = not_4 r cause.OutOfMemory 5 want.1 refl e (λ x. omega (arith, x))
stops_unread a read copies r desk inputs (inr (ceiling, f, found, inl want)) e =
    not_4 r cause.OutOfMemory 5 want.1 refl e (λ x. omega (arith, x))
stops_unread a read copies r desk inputs (inr (ceiling, f, found, inr (shape, is, refused))) e =
    let u = unread a.copies (stops_read copies) (bytes_read copies) _ shape r is refused e in
    record {
      name_is = u.name_is;
      cause_is = u.cause_is;
      copies_read = read;
      copies = copies;
      read = inputs;
      first_in_part = subst (λ (stops : List ReadStop). get_or stops 0 Whole ≡ Whole → ⊥)
          (same_stops a.bad read copies inputs.listing inputs.are_searched) u.in_part;
      no_frame = u.no_frame;
    }

-- where all were read to their end, each was
each_whole : (lists : List CopyBytes) (number : ℕ) (file : CopyBytes) → AreWhole lists → slice_get lists number ≡ Some file
    → file.stop ≡ Whole
each_whole [] number file are is = absurd cc
each_whole (list ∷ lists) zero file are is =
    let same : list ≡ file = cc in subst (λ (c : CopyBytes). c.stop ≡ Whole) same are.0
each_whole (list ∷ lists) (suc number) file are is = each_whole lists number file are.1 is

stops_at_list : (a : Asked) (r : Refusal) (read lists : List CopyBytes) (reading listing : List Event)
    → AreCopiesRead a.copies read reading → AreCopiesRead (list_names a.bad) lists listing
    → (s : IsStoppedBy (list_names a.bad) lists r)
    → (c : Cause) → r.cause ≡ c → IsListRefused s.file c → status_of_cause r.cause ≡ 4 → StopsAtUnreadList a r (reading ++ listing)
stops_at_list a r read lists reading listing are lists_are s _ same (not_whole_list part) e = record {
  cause_is = same;
  copies = read;
  lists = lists;
  reading = reading;
  listing = listing;
  desk_is = refl;
  read = are;
  lists_read = lists_are;
  stopped = s;
  in_part = λ all. part (each_whole lists s.number s.file all s.file_is);
}
stops_at_list a r read lists reading listing are lists_are s _ same (not_understood line whole fault) e =
    not_4 r (cause.NoList line) 3 same refl e (λ x. omega (arith, x))

stops_in_lists : (a : Asked) (r : Refusal) (read : List CopyBytes) (reading listing : List Event) → AreCopiesRead a.copies read reading
    → StopsAtLists a r listing → status_of_cause r.cause ≡ 4
    → StopsAtUnopenedList a r (reading ++ listing) ⊎ StopsAtUnreadList a r (reading ++ listing)
stops_in_lists a r read reading _ are (none_read want) e = not_4 r cause.OutOfMemory 5 want.1 refl e (λ x. omega (arith, x))
stops_in_lists a r read reading _ are (not_read listing stops) e =
    inl (record {
      copies = read;
      reading = reading;
      listing = listing;
      desk_is = refl;
      read = are;
      unopened = stops_unopened (list_names a.bad) r listing stops e;
    })
stops_in_lists a r read reading _ are (not_taken lists listing lists_are stopped) e =
    inr (stops_at_list a r read lists reading listing are lists_are stopped r.cause refl stopped.refused e)
stops_in_lists a r read reading _ are (no_memory lists listing lists_are want) e =
    not_4 r cause.OutOfMemory 5 want.1 refl e (λ x. omega (arith, x))

stops_at_inputs : (a : Asked) (r : Refusal) (desk : List Event) → StopsAtInputs a r desk → status_of_cause r.cause ≡ 4
    → StopsOverOpening a r desk ⊎ StopsAtUnreadList a r desk
stops_at_inputs a r _ (at_copies reading stops) e = inl (inl (inl (stops_unopened a.copies r reading stops e)))
stops_at_inputs a r _ (at_lists read reading listing are stops) e =
    elim (stops_in_lists a r read reading listing are stops e) [
      | inl s ↦ inl (inl (inr s))
      | inr s ↦ inr s
    ]
stops_at_inputs a r _ (at_witnesses read searched reading listing witnessing are are_searched stops) e =
    inl (inr (record {
      copies = read;
      searched = searched;
      reading = reading;
      listing = listing;
      witnessing = witnessing;
      desk_is = refl;
      read = are;
      are_searched = are_searched;
      unopened = stops_unopened a.witnesses r witnessing stops e;
    }))

module _ (words : List Text) (a : Asked) (asks : AskFor words a) where
  abbrev EndsWith4 : List Event → List Event → List Event → Type 0
  EndsWith4 desk report faults =
      DidInPart words a desk report faults ⊎ ((r : Refusal) × IsToldLast r faults × StopsWith4 a r desk report)

  ends_with_4 : (status : ℕ) (desk report faults : List Event) → Performs a status desk report faults → status ≡ 4
      → EndsWith4 desk report faults
  unfolding was_done
  ends_with_4 _ _ _ _ (came_of _ _ _ _ line (at_inputs r desk stops) told) e =
      elim (stops_at_inputs a r desk stops e) [
        | inl s ↦ inr (r, ([], line, refl, told), inl (inl s, refl))
        | inr s ↦ inr (r, ([], line, refl, told), inl (inr (inl s), refl))
      ]
  ends_with_4 _ _ _ _ (came_of _ _ _ _ line (not_made r read copies desk faults inputs cant tells) told) e =
      inr (r, (faults, line, refl, told), inl (inr (inr (stops_unread a read copies r desk inputs cant e)), refl))
  ends_with_4 _ _ _ _
      (came_of _ _ _ _ line (not_handed r read copies m reading desk report faults noting inputs made tells noted stops) told) e =
      inr (
        r,
        (faults ++ noting, line, refl, told),
        inr (record {
          copies_read = read;
          copies = copies;
          made = m;
          reading = reading;
          handing = desk;
          desk_is = refl;
          read = inputs;
          is_made = made;
          stops = stops;
        }),
      )
  ends_with_4 _ _ _ _
      (came_of _ _ _ _ line (done read copies m whole reading desk report faults noting inputs made tells noted handed is_read) none) e =
      inl (
        was_done words a asks read copies m reading desk report faults noting line inputs made tells noted handed none,
        λ are. not_whole (is_of_picture (promise_on m)) whole e (is_read.1 are),
      )
  ends_with_4 _ _ _ _ (no_names faults told) e = absurd (omega (arith, e))

pub runs_end_with_4 : RunsEndWith4
runs_end_with_4 words a _ _ _ _ asks (performed b status desk report faults other not_file not_numbered listed h) e =
    ends_with_4 words a asks status desk report faults
    (subst (λ (x : Asked). Performs x status desk report faults) (one_asked words a asks b other) h) e
runs_end_with_4 words a _ _ _ _ asks (named_twice b faults other is line) e = absurd (omega (arith, e))
runs_end_with_4 words a _ _ _ _ asks (numbered_out b faults other not_file is line) e = absurd (omega (arith, e))
runs_end_with_4 words a _ _ _ _ asks (no_list b value faults other not_file not_numbered is line) e = absurd (omega (arith, e))
runs_end_with_4 words a _ _ _ _ asks (misused k usage faults refused is line) e = absurd (omega (arith, e))
runs_end_with_4 words a _ _ _ _ asks (helped k help report refused is wrote) e = absurd (omega (arith, e))
runs_end_with_4 words a _ _ _ _ asks (help_cut k help count report faults refused is wrote line) e = absurd (refused.not_taken asks.taken)
runs_end_with_4 words a _ _ _ _ asks (nothing_begun faults line) e = absurd (omega (arith, e))
runs_end_with_4 words a _ _ _ _ asks (nothing_asked faults nothing line) e = absurd (omega (arith, e))

-- What failed ----------------------------------------------------------------------------------------------------

-- a copy that was not read to its end
failed_in_part : (names : List (List ℕ)) (copies : List CopyBytes) (events : List Event) → AreCopiesRead names copies events
    → (AreWhole copies → ⊥) → HadFailure events
failed_in_part [] [] events read not = absurd (not tt)
failed_in_part [] (c ∷ copies) events read not = absurd read
failed_in_part (name ∷ names) [] events read not = absurd read
failed_in_part (name ∷ names) (c ∷ copies) events (mine, more, e, is, rest) not =
    failed_as events (mine ++ more) e (elim (whole_or_not c.stop) [
      | inl whole ↦ failed_right mine more (failed_in_part names copies more rest (λ are. not (whole, are)))
      | inr part ↦ failed_left mine more (failed_as mine (opened name ∷ is.reads) is.events_are
          (failed_right (opened name ∷ []) is.reads (read_in_part IsTextPrefix is.reads c.bytes c.stop is.is_read part)))
    ])

inputs_in_part : (a : Asked) (read searched : List CopyBytes) (events : List Event) → AreInputs a read searched events
    → (AreWhole read → ⊥) → HadFailure events
inputs_in_part a read searched events h not =
    failed_as events ((h.reading ++ h.listing) ++ h.witnessing) h.events_are
    (failed_left (h.reading ++ h.listing) h.witnessing
    (failed_left h.reading h.listing (failed_in_part a.copies read h.reading h.copies_read not)))

first_not_whole : (copies : List CopyBytes) → (get_or (stops_read copies) 0 Whole ≡ Whole → ⊥) → AreWhole copies → ⊥
first_not_whole [] not are = not refl
first_not_whole (c ∷ copies) not are = not are.0

-- ---- an output

single_failed : (name file : Option (List ℕ)) (r : Refusal) (events : List Event) → StopsAtSingleFile name file r events
    → HadFailure events
single_failed (Some name) (Some bytes) r events h = output_failed name bytes r events h
single_failed (Some name) None r events h = absurd h
single_failed None file r events h = absurd h

number_failed : (prefix : List ℕ) (number : ℕ) (file : NamedFile) (r : Refusal) (events : List Event)
    → StopsAtNumber prefix number file r events → HadFailure events
number_failed prefix number file r _ (number_not_there named is) = inl refl
number_failed prefix number file r _ (number_cut count writes named is h) =
    failed_right (created file.name ∷ []) writes (prefix_failed file.bytes count writes h)

handing_failed : (t : Texts) (r : Refusal) (desk report : List Event) → StopsInHanding t r desk report → HadFailure desk ⊎ HadFailure report
handing_failed t r _ _ (at_report report h) = inr (prefix_failed t.lines h.count report h.wrote)
handing_failed t r _ _ (at_output desk report wrote h) = inl (output_failed t.out t.text r desk h)
handing_failed t r _ _ (at_file writing more report wrote handed h) =
    inl (failed_right writing more (single_failed t.file_name t.file r more h))
handing_failed t r _ _ (at_files writing more rest report wrote handed one h) =
    inl (failed_right (writing ++ more) rest (failed_as rest (h.handing ++ h.stop) h.events_are
    (failed_right h.handing h.stop (number_failed t.prefix _ h.file r h.stop h.stops))))

unopened_failed : (names : List Text) (r : Refusal) (desk : List Event) → StopsUnopened names r desk → HadFailure desk
unopened_failed names r desk h =
    failed_as desk (h.reading ++ not_opened r.name.now ∷ []) h.desk_is
    (failed_right h.reading (not_opened r.name.now ∷ []) (inl refl))

over_reads_failed : (a : Asked) (r : Refusal) (desk : List Event) → StopsOverReads a r desk → HadFailure desk
over_reads_failed a r desk (inl h) =
    failed_as desk (h.reading ++ h.listing) h.desk_is
    (failed_right h.reading h.listing (failed_in_part (list_names a.bad) h.lists h.listing h.lists_read h.in_part))
over_reads_failed a r desk (inr h) =
    inputs_in_part a h.copies_read h.copies desk h.read (first_not_whole h.copies_read h.first_in_part)

stops_failed : (a : Asked) (r : Refusal) (desk report : List Event) → StopsWith4 a r desk report → HadFailure desk ⊎ HadFailure report
stops_failed a r desk report (inl (inl (inl (inl h)), none)) = inl (unopened_failed a.copies r desk h)
stops_failed a r desk report (inl (inl (inl (inr h)), none)) =
    inl (failed_as desk (h.reading ++ h.listing) h.desk_is
    (failed_right h.reading h.listing (unopened_failed (list_names a.bad) r h.listing h.unopened)))
stops_failed a r desk report (inl (inl (inr h), none)) =
    inl (failed_as desk ((h.reading ++ h.listing) ++ h.witnessing) h.desk_is
    (failed_right (h.reading ++ h.listing) h.witnessing (unopened_failed a.witnesses r h.witnessing h.unopened)))
stops_failed a r desk report (inl (inr h, none)) = inl (over_reads_failed a r desk h)
stops_failed a r desk report (inr h) =
    elim (handing_failed _ r h.handing report h.stops) [
      | inl f ↦ inl (failed_as desk (h.reading ++ h.handing) h.desk_is (failed_right h.reading h.handing f))
      | inr f ↦ inr f
    ]

pub failures_cause_status_4 : SplicedFailuresCauseStatus4
failures_cause_status_4 words a status desk report faults asks run e =
    elim (runs_end_with_4 words a status desk report faults asks run e) [
      | inl (did, part) ↦ inl (failed_as desk (did.reading ++ did.writing) did.desk_is
          (failed_left did.reading did.writing (inputs_in_part a did.copies_read did.copies did.reading did.read part)))
      | inr (r, told, stops) ↦ stops_failed a r desk report stops
    ]

-- Nothing failed but reads ---------------------------------------------------------------------------------------

abbrev Other : Event → Bool
Other e = is_failed_opening e || is_failed_write e

parts_fine : (a b : List Event) → NothingElseFailed (a ++ b) → NothingElseFailed a × NothingElseFailed b
parts_fine a b h = or_false (list_any Other a) (list_any Other b) (sym (list_any-append Other a b) ∙ h)

not_cut : (bytes : List ℕ) (count : ℕ) (events : List Event) → WrotePrefix bytes count events → NothingElseFailed events → ⊥
not_cut bytes count events h fine =
    let last : true ≡ false = (parts_fine h.writes (write_failed ∷ []) (subst NothingElseFailed h.events_are fine)).1 in cc

not_at_output : (name bytes : List ℕ) (r : Refusal) (events : List Event) → StopsAtOutput name bytes r events → NothingElseFailed events
    → ⊥
not_at_output name bytes r _ (outputs.not_there _ _) fine = cc
not_at_output name bytes r _ (outputs.cut count writes _ _ h) fine = not_cut bytes count writes h fine

not_at_single : (name file : Option (List ℕ)) (r : Refusal) (events : List Event) → StopsAtSingleFile name file r events
    → NothingElseFailed events → ⊥
not_at_single (Some name) (Some bytes) r events h fine = not_at_output name bytes r events h fine
not_at_single (Some name) None r events h fine = h
not_at_single None file r events h fine = h

not_at_number : (prefix : List ℕ) (number : ℕ) (file : NamedFile) (r : Refusal) (events : List Event)
    → StopsAtNumber prefix number file r events → NothingElseFailed events → ⊥
not_at_number prefix number file r _ (number_not_there named is) fine = cc
not_at_number prefix number file r _ (number_cut count writes named is h) fine = not_cut file.bytes count writes h fine

not_in_handing : (t : Texts) (r : Refusal) (desk report : List Event) → StopsInHanding t r desk report → NothingElseFailed desk
    → NothingElseFailed report → ⊥
not_in_handing t r _ _ (at_report report h) fine quiet = not_cut t.lines h.count report h.wrote quiet
not_in_handing t r _ _ (at_output desk report wrote h) fine quiet = not_at_output t.out t.text r desk h fine
not_in_handing t r _ _ (at_file writing more report wrote handed h) fine quiet =
    not_at_single t.file_name t.file r more h (parts_fine writing more fine).1
not_in_handing t r _ _ (at_files writing more rest report wrote handed one h) fine quiet =
    not_at_number t.prefix _ h.file r h.stop h.stops
    (parts_fine h.handing h.stop (subst NothingElseFailed h.events_are (parts_fine (writing ++ more) rest fine).1)).1

not_unopened : (names : List Text) (r : Refusal) (desk : List Event) → StopsUnopened names r desk → NothingElseFailed desk → ⊥
not_unopened names r desk h fine =
    let last : true ≡ false =
    (parts_fine h.reading (not_opened r.name.now ∷ []) (subst NothingElseFailed h.desk_is fine)).1 in cc

only_unread : (a : Asked) (r : Refusal) (desk report : List Event) → StopsWith4 a r desk report → NothingElseFailed desk
    → NothingElseFailed report → StopsOverReads a r desk × (report ≡ [])
only_unread a r desk report (inl (inl (inl (inl h)), none)) fine quiet = absurd (not_unopened a.copies r desk h fine)
only_unread a r desk report (inl (inl (inl (inr h)), none)) fine quiet =
    absurd (not_unopened (list_names a.bad) r h.listing h.unopened
    (parts_fine h.reading h.listing (subst NothingElseFailed h.desk_is fine)).1)
only_unread a r desk report (inl (inl (inr h), none)) fine quiet =
    absurd (not_unopened a.witnesses r h.witnessing h.unopened
    (parts_fine (h.reading ++ h.listing) h.witnessing (subst NothingElseFailed h.desk_is fine)).1)
only_unread a r desk report (inl (inr h, none)) fine quiet = (h, none)
only_unread a r desk report (inr h) fine quiet =
    absurd (not_in_handing _ r h.handing report h.stops
    (parts_fine h.reading h.handing (subst NothingElseFailed h.desk_is fine)).1 quiet)

pub broken_reads_cause_status_4 : SplicedBrokenReadsCauseStatus4
broken_reads_cause_status_4 words a status desk report faults asks run e fine quiet =
    elim (runs_end_with_4 words a status desk report faults asks run e) [
      | inl did ↦ inl did
      | inr (r, told, stops) ↦ (let s = only_unread a r desk report stops fine quiet in inr (r, told, s.0, s.1))
    ]
