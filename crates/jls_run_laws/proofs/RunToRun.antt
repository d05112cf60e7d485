-- What runs of the program did, as the laws of their commands say it.
use Rattle.std.proofs.Common.{◌≡◌, ◌≤◌, ℕ, Bool, true, List, ◌++◌, Option, refl, sym, ◌∙◌, subst, lit≤}
use Rattle.std.proofs.lemmas.List.{append_cancel_left}
use Rattle.clap.specs.Words.{Text}
use Rattle.jls_partial.specs.Partial.{PartialPicture}
use Rattle.jls_io.specs.Event.{Event, History}
use Rattle.jls_write.specs.Picture.{WholePicture}
use Rattle.jls_salvage_run.specs.Joining.{JoinIsDone}
use Rattle.jls_cli.specs.Outcomes.{finished}
use Rattle.jls_salvage_run.specs.WritingFiles as writing
use Rattle.jls_salvage_run.specs.declared.writing.Format.{Format}
use Rattle.jls_salvage_run.specs.declared.writing.Format.TheVariants.{Jls}
use Rattle.jls_cli.specs.SalvageAsking.{AskFor, join}
use Rattle.jls_salvage_run.specs.RunLaws.{DoneJoinsRan, DoneWritesRan}
use Rattle.jls_run_laws.specs.JoinThenWrite.{JoinsDamagedCopies, WritesThePictureAfter, ReadsAsThePictureAfter}
use Rattle.jls_run_laws.specs.NoOtherLaws.{SettledJoinsAreThePicture, WrittenInputsAreThePicture}
use Rattle.jls_run_laws.specs.RunLaws.{DoneJoin, RunsGiveThePicture}
use Rattle.jls_run_laws.specs.RunToRun.{RanOver, JoinRun, WriteRun, JoinsAndWritesGiveThePicture, JoinsAndWritesReadAsThePicture}
use Rattle.jls_run_laws.specs.RunToRun.{SettledRunsAreThePicture, WrittenRunsAreThePicture}

-- the events by which a history grew are one list
one_list : (old new : History) (a b : List Event) → new ≡ old ++ a → new ≡ old ++ b → a ≡ b
one_list old new a b e f = append_cancel_left old a b (sym e ∙ f)

-- a run of `join` that ended with status 0 or 1
record JoinDid (source : Option ℕ) (out : Text) (names : List Text) (status : ℕ) (events : List Event) : Type 0 where
  joined : PartialPicture
  settled : Bool
  is_done : JoinIsDone source out names joined settled true events
  when_0 : status ≡ 0 → settled ≡ true
  when_settled : settled ≡ true → status ≡ 0

join_did : DoneJoinsRan → (words : List Text) (status : ℕ) (events : List Event) → RanOver words status events
    → (source : Option ℕ) (out : Text) (names : List Text) → AskFor words (join source out names) → status ≤ 1
    → JoinDid source out names status events
join_did law words status events r source out names asks le =
    let did = law words status r.desk r.desk' r.report r.report' r.faults r.faults' r.ran source out names asks le in
    let same = one_list r.desk r.desk' did.1.events r.ran.desk_events did.1.grew r.ran.desk_is ∙ r.they_are in
    record {
      joined = did.0;
      settled = did.1.settled;
      is_done = subst (λ (es : List Event). JoinIsDone source out names did.0 did.1.settled true es) same did.1.is_done;
      when_0 = λ e. did.1.is_done.settled_is.1 (did.1.status_is.0 e);
      when_settled = λ e. did.1.status_is.1 (did.1.is_done.settled_is.0 e);
    }

-- a run of `write` that ended with status 0
record WriteDid (f : Format) (events : List Event) : Type 0 where
  out : Text
  name : Text
  writes : writing.WritesFile f out name (finished true true) events

write_did : DoneWritesRan → (f : Format) (events : List Event) → WriteRun f events → WriteDid f events
write_did law f events w =
    let r = w.ran in
    let did = law w.words 0 r.desk r.desk' r.report r.report' r.faults r.faults' r.ran f w.out w.name w.asks refl in
    let k = did.1 in
    let same = one_list r.desk r.desk' (k.reading ++ k.writing) r.ran.desk_events k.grew r.ran.desk_is ∙ r.they_are in
    record {
      out = w.out;
      name = w.name;
      writes = subst (λ (es : List Event). writing.WritesFile f w.out w.name (finished true true) es) same
          (writing.done f w.out w.name did.0 true k.reading k.writing k.taken k.settled
          (record { settled_is = (λ _. k.settled, λ _. refl); whole_is = (λ _. k.whole, λ _. refl) }) k.fits k.handed);
    }

-- that run, as the laws on `join` have it
abbrev run_of : DoneJoinsRan → (pic : WholePicture) (status : ℕ) (joining : List Event) → JoinRun pic status joining → DoneJoin
run_of law pic status joining j =
    let did = join_did law j.words status joining j.ran j.source j.out j.names j.asks j.ended in
    record {
      source = j.source;
      out = j.out;
      names = j.names;
      joined = did.joined;
      settled = did.settled;
      whole = true;
      events = joining;
      is_done = did.is_done;
    }

joined_so : (law : DoneJoinsRan) (pic : WholePicture) (status : ℕ) (joining : List Event) (j : JoinRun pic status joining)
    → JoinsDamagedCopies pic (run_of law pic status joining j)
joined_so law pic status joining j =
    record { is_picture = j.is_picture; small = j.small; damaged = j.damaged; each_line = j.each_line }

-- the law on damaged copies says that each line is settled
ended_with_0 : DoneJoinsRan → RunsGiveThePicture → (pic : WholePicture) (status : ℕ) (joining : List Event)
    → JoinRun pic status joining → status ≡ 0
ended_with_0 law gives pic status joining j =
    let did = join_did law j.words status joining j.ran j.source j.out j.names j.asks j.ended in
    let g = gives (run_of law pic status joining j) pic j.is_picture j.damaged j.each_line in
    did.when_settled (did.is_done.settled_is.1 g.0.0)

pub give_the_picture : DoneJoinsRan → DoneWritesRan → RunsGiveThePicture → WritesThePictureAfter JoinsDamagedCopies
    → JoinsAndWritesGiveThePicture
give_the_picture joins writes gives written pic status joining j f events w same =
    let did = write_did writes f events w in (
      ended_with_0 joins gives pic status joining j,
      written pic (run_of joins pic status joining j) (joined_so joins pic status joining j) f true true events
          (record { out = did.out; name = did.name; writes = did.writes; same_bytes = same }),
    )

pub read_as_the_picture : DoneJoinsRan → DoneWritesRan → ReadsAsThePictureAfter JoinsDamagedCopies → JoinsAndWritesReadAsThePicture
read_as_the_picture joins writes reads pic status joining j line ri low events w same =
    let did = write_did writes (Jls line ri) events w in
    reads pic (run_of joins pic status joining j) (joined_so joins pic status joining j) line ri low true true events
    (record { out = did.out; name = did.name; writes = did.writes; same_bytes = same })

pub settled_runs : DoneJoinsRan → SettledJoinsAreThePicture → SettledRunsAreThePicture
settled_runs joins law words events r source out names asks pic is each =
    let did = join_did joins words 0 events r source out names asks (lit≤ tt) in
    let run : DoneJoin = record {
      source = source;
      out = out;
      names = names;
      joined = did.joined;
      settled = did.settled;
      whole = true;
      events = events;
      is_done = did.is_done;
    } in
    let all = law run (did.when_0 refl) pic is each in
    (did.joined, all.0, all.2)

pub written_runs : DoneWritesRan → WrittenInputsAreThePicture → WrittenRunsAreThePicture
written_runs writes law f events w pic is each =
    let did = write_did writes f events w in law f did.out did.name true true events did.writes pic is each
