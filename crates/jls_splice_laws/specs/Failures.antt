-- What a run of jls-splice did that ended with status 4.
use Rattle.std.specs.Prelude.{◌≡◌, ◌||◌, ◌⊎◌, ℕ, false, List, [], ◌∷◌, ◌++◌, get_or, Err}
use Rattle.std.specs.List.{AllByRecursion, list_any}
use Rattle.clap.specs.Words.{Text}
use Rattle.jls_io.specs.Event.{Event, not_opened, is_failed_opening, is_failed_write}
use Rattle.jls_io.specs.Writing.{Printed}
use Rattle.jls_station.specs.CopyFiles.{CopyBytes, AreCopiesRead}
use Rattle.jls_station.specs.Reading.{HadFailure}
use Rattle.jls_station.specs.declared.input.ReadStop.TheVariants.{Whole}
use Rattle.jls_search.specs.Shapes.{HasNoFrame}
use Rattle.jls_cli.specs.FaultLines.{fault_line}
use Rattle.jls_cli.specs.SpliceAsking.{Asked, AskFor}
use Rattle.jls_cli.specs.declared.outcome.Cause.TheVariants as cause
use Rattle.jls_cli.specs.declared.outcome.Refusal.{Refusal}
use Rattle.jls_splice_run.specs.BadLists.{AreSearched, IsStoppedBy, list_names}
use Rattle.jls_splice_run.specs.Copies.{AreWhole, bytes_read, stops_read}
use Rattle.jls_splice_run.specs.FaultLines.{program}
use Rattle.jls_splice_run.specs.Handing.{StopsInHanding}
use Rattle.jls_splice_run.specs.Inputs.{AreInputs}
use Rattle.jls_splice_run.specs.Making.{Made, IsMade}
use Rattle.jls_splice_run.specs.Runs.{Run, texts}
use Rattle.jls_splice_laws.specs.RunLaws.{DidMake}

-- Why a run stops with status 4 ----------------------------------------------------------------------------------

-- the copies before one were read, that one was not opened, and nothing else was done
pub record StopsUnopened (names : List Text) (r : Refusal) (desk : List Event) : Type 0 where
  pub before : List Text
  pub after : List Text
  pub among : names ≡ before ++ r.name.now ∷ after
  pub cause_is : r.cause ≡ cause.NotOpened
  pub copies : List CopyBytes
  pub reading : List Event
  pub read : AreCopiesRead before copies reading
  pub desk_is : desk ≡ reading ++ not_opened r.name.now ∷ []

-- the copies were read, and then a list of bad places was not opened
pub record StopsAtUnopenedList (a : Asked) (r : Refusal) (desk : List Event) : Type 0 where
  pub copies : List CopyBytes
  pub reading : List Event
  pub listing : List Event
  pub desk_is : desk ≡ reading ++ listing
  pub read : AreCopiesRead a.copies copies reading
  pub unopened : StopsUnopened (list_names a.bad) r listing

-- the copies were read, and the lists of bad places, and then a witness was not opened
pub record StopsAtUnopenedWitness (a : Asked) (r : Refusal) (desk : List Event) : Type 0 where
  pub copies : List CopyBytes
  pub searched : List CopyBytes
  pub reading : List Event
  pub listing : List Event
  pub witnessing : List Event
  pub desk_is : desk ≡ (reading ++ listing) ++ witnessing
  pub read : AreCopiesRead a.copies copies reading
  pub are_searched : AreSearched a.bad copies searched listing
  pub unopened : StopsUnopened a.witnesses r witnessing

-- the copies were read, and the lists of bad places. The first that isn't taken was not read to its end, and has the name
pub record StopsAtUnreadList (a : Asked) (r : Refusal) (desk : List Event) : Type 0 where
  pub cause_is : r.cause ≡ cause.NotRead
  pub copies : List CopyBytes
  pub lists : List CopyBytes
  pub reading : List Event
  pub listing : List Event
  pub desk_is : desk ≡ reading ++ listing
  pub read : AreCopiesRead a.copies copies reading
  pub lists_read : AreCopiesRead (list_names a.bad) lists listing
  pub stopped : IsStoppedBy (list_names a.bad) lists r
  pub in_part : AreWhole lists → ⊥

-- all was read, and the first of the copies not to its end. In what is searched no copy has a frame. Nothing else was done
pub record StopsUnread (a : Asked) (r : Refusal) (desk : List Event) : Type 0 where
  pub name_is : r.name.now ≡ get_or a.copies 0 []
  pub cause_is : r.cause ≡ cause.NotRead
  pub copies_read : List CopyBytes
  pub copies : List CopyBytes
  pub read : AreInputs a copies_read copies desk
  pub first_in_part : get_or (stops_read copies_read) 0 Whole ≡ Whole → ⊥
  pub no_frame : AllByRecursion HasNoFrame (bytes_read copies)

-- all was read, and something was made of what is searched. The report output, OUT, the output of `--file` or one of `--files` can't be
-- created or written, and those before it, in this order, were handed all that is theirs
pub record StopsAtAnOutput (a : Asked) (r : Refusal) (desk report : List Event) : Type 0 where
  pub copies_read : List CopyBytes
  pub copies : List CopyBytes
  pub made : Made
  pub reading : List Event
  pub handing : List Event
  pub desk_is : desk ≡ reading ++ handing
  pub read : AreInputs a copies_read copies reading
  pub is_made : IsMade a (bytes_read copies) made
  pub stops : StopsInHanding (texts a copies made) r handing report

-- reads alone stop a run: of a list, or of the first copy where no copy has a frame
abbrev pub StopsOverReads : Asked → Refusal → List Event → Type 0
StopsOverReads a r desk = StopsAtUnreadList a r desk ⊎ StopsUnread a r desk

-- a copy, a list of bad places or a witness was not opened
abbrev pub StopsOverOpening : Asked → Refusal → List Event → Type 0
StopsOverOpening a r desk = (StopsUnopened a.copies r desk ⊎ StopsAtUnopenedList a r desk) ⊎ StopsAtUnopenedWitness a r desk

-- a run stops for one of these reasons. Only at an output is anything printed or handed out
abbrev pub StopsWith4 : Asked → Refusal → List Event → List Event → Type 0
StopsWith4 a r desk report =
    ((StopsOverOpening a r desk ⊎ StopsOverReads a r desk) × (report ≡ [])) ⊎ StopsAtAnOutput a r desk report

-- the line of a refusal is the last on the fault output
abbrev pub IsToldLast : Refusal → List Event → Type 0
IsToldLast r faults =
    (before : List Event) × (line : List Event) × (faults ≡ before ++ line) × Printed (fault_line program (Err r)) line

-- it was done with all that was read, though some copy was not read to its end
abbrev pub DidInPart : List Text → Asked → List Event → List Event → List Event → Type 0
DidInPart words a desk report faults = (did : DidMake words a desk report faults) × (AreWhole did.copies_read → ⊥)

-- The words ask for something, and the run ends with status 4. Then it was done with all that was read; or it stopped for one of the
-- reasons, which is told
abbrev pub RunsEndWith4 : Type 0
RunsEndWith4 =
    (words : List Text) (a : Asked) (status : ℕ) (desk report faults : List Event) → AskFor words a
    → Run words status desk report faults → status ≡ 4
    → DidInPart words a desk report faults ⊎ ((r : Refusal) × IsToldLast r faults × StopsWith4 a r desk report)

-- What failed ----------------------------------------------------------------------------------------------------

-- no opening, creation or write among these events failed
abbrev pub NothingElseFailed : List Event → Type 0
NothingElseFailed events = list_any (λ e. is_failed_opening e || is_failed_write e) events ≡ false

-- So something failed there on the desk or the report output, or so many reads were made
abbrev pub SplicedFailuresCauseStatus4 : Type 0
SplicedFailuresCauseStatus4 =
    (words : List Text) (a : Asked) (status : ℕ) (desk report faults : List Event) → AskFor words a
    → Run words status desk report faults → status ≡ 4 → HadFailure desk ⊎ HadFailure report

-- Where nothing failed but reads, it was done with all that was read. Or reads stopped it: a list of bad places was not read to its end; or
-- the first copy was not, and no copy has a frame in what is searched. Then nothing was handed out
abbrev pub SplicedBrokenReadsCauseStatus4 : Type 0
SplicedBrokenReadsCauseStatus4 =
    (words : List Text) (a : Asked) (status : ℕ) (desk report faults : List Event) → AskFor words a
    → Run words status desk report faults → status ≡ 4 → NothingElseFailed desk → NothingElseFailed report
    → DidInPart words a desk report faults
    ⊎ ((r : Refusal) × IsToldLast r faults × StopsOverReads a r desk × (report ≡ []))
