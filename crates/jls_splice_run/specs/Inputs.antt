-- What a run reads: its copies, the lists of their bad places, and its witnesses.
use Rattle.std.specs.Prelude.{◌≡◌, List, ◌++◌}
use Rattle.jls_io.specs.Event.{Event}
use Rattle.jls_station.specs.CopyFiles.{AreCopiesRead, CopyBytes}
use Rattle.jls_cli.specs.SpliceAsking.{Asked}
use Rattle.jls_cli.specs.declared.outcome.Refusal.{Refusal}
use Rattle.jls_splice_run.specs.BadLists.{AreSearched, StopsAtLists}
use Rattle.jls_splice_run.specs.Copies.{StopsAtCopies}

-- The copies were read, then the lists, and then the witnesses, each as far as it could be. This is what is searched. Nothing that is
-- handed out, printed or promised is said of the witnesses
pub record AreInputs (a : Asked) (read searched : List CopyBytes) (events : List Event) : Type 0 where
  pub reading : List Event
  pub listing : List Event
  pub witnesses : List CopyBytes
  pub witnessing : List Event
  pub events_are : events ≡ (reading ++ listing) ++ witnessing
  pub copies_read : AreCopiesRead a.copies read reading
  pub are_searched : AreSearched a.bad read searched listing
  pub witnesses_read : AreCopiesRead a.witnesses witnesses witnessing

-- Why a run stops at one of them. A copy can't be read. Or a list stops it when the copies were read. Or a witness can't be read when lists
-- were too
pub data StopsAtInputs (a : Asked) (r : Refusal) : List Event → Type 0 where
  at_copies : (reading : List Event) → StopsAtCopies a.copies r reading → StopsAtInputs a r reading
  at_lists : (read : List CopyBytes) (reading listing : List Event) → AreCopiesRead a.copies read reading → StopsAtLists a r listing
      → StopsAtInputs a r (reading ++ listing)
  at_witnesses : (read searched : List CopyBytes) (reading listing witnessing : List Event) → AreCopiesRead a.copies read reading
      → AreSearched a.bad read searched listing → StopsAtCopies a.witnesses r witnessing
      → StopsAtInputs a r ((reading ++ listing) ++ witnessing)
