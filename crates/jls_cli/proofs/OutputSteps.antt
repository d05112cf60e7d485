-- The steps of an output, put together.
use Rattle.std.proofs.Common.{◌≡◌, ℕ, List, [], ◌∷◌, ◌++◌, refl, sym, subst, inl}
use Rattle.std.specs.Borrow.{Bor}
use Rattle.jls_io.specs.Event.{Event, History, GrewBy, created, not_created}
use Rattle.jls_io.specs.Writing.{WrotePrefix}
use Rattle.jls_io.proofs.Growing.{grew_twice}
use Rattle.jls_station.specs.Reading.{HadFailure}
use Rattle.jls_station.proofs.FailedReads.{failed_right, prefix_failed}
use Rattle.jls_cli.specs.Outcomes.{refusal_at}
use Rattle.jls_cli.specs.Outputs.{StopsAtOutput, not_there, cut}
use Rattle.jls_cli.specs.declared.outcome.Cause.TheVariants as cause
use Rattle.jls_cli.specs.declared.outcome.Refusal.{Refusal}

-- an event, and then others
pub grew_after : (A B : List Event → Type 0) (old mid new : History) (e : Event) → ((events : List Event) → A events → B (e ∷ events))
    → mid ≡ old ++ e ∷ [] → GrewBy A mid new → GrewBy B old new
grew_after A B old mid new e see d h = record {
  events = e ∷ h.events;
  grew = grew_twice old mid new (e ∷ []) h.events d h.grew;
  they_are = see h.events h.they_are;
}

pub not_created_at_all : (old new : History) (name : Bor (List ℕ)) (bytes : List ℕ) (r : Refusal) → r ≡ refusal_at name cause.NotCreated
    → new ≡ old ++ not_created name.now ∷ [] → GrewBy (StopsAtOutput name.now bytes r) old new
not_created_at_all old new name bytes r is grew =
    subst (λ (x : Refusal). GrewBy (StopsAtOutput name.now bytes x) old new) (sym is)
    (record { events = not_created name.now ∷ []; grew = grew; they_are = not_there refl refl })

pub created_and_cut : (old mid new : History) (name : Bor (List ℕ)) (bytes : List ℕ) (count : ℕ) → mid ≡ old ++ created name.now ∷ []
    → GrewBy (WrotePrefix bytes count) mid new → GrewBy (StopsAtOutput name.now bytes (refusal_at name (cause.NotWritten count))) old new
created_and_cut old mid new name bytes count =
    grew_after (WrotePrefix bytes count) (StopsAtOutput name.now bytes (refusal_at name (cause.NotWritten count))) old mid new
    (created name.now)
    (λ writes h. cut count writes refl refl h)

-- where it stops, the device failed
pub output_failed : (name bytes : List ℕ) (r : Refusal) (events : List Event) → StopsAtOutput name bytes r events → HadFailure events
output_failed name bytes r _ (not_there _ _) = inl refl
output_failed name bytes r _ (cut count writes _ _ h) = failed_right (created name ∷ []) writes (prefix_failed bytes count writes h)
