-- Histories that grew, put together.
use Rattle.std.proofs.Common.{◌≡◌, List, [], ◌++◌, sym, ap, ◌∙◌, append_assoc}
use Rattle.std.proofs.lemmas.List.{append-nil}
use Rattle.jls_io.specs.Event.{Event, History, GrewBy}

pub grew_twice : (old mid new : History) (a b : List Event) → mid ≡ old ++ a → new ≡ mid ++ b → new ≡ old ++ (a ++ b)
grew_twice old mid new a b d e = e ∙ (ap (λ (s : History). s ++ b) d ∙ append_assoc old a b)

-- nothing was done
pub grew_not : (Are : List Event → Type 0) (h : History) → Are [] → GrewBy Are h h
grew_not Are h they = record { events = []; grew = sym (append-nil h); they_are = they }

-- one growth after another
pub grew_on : (A B C : List Event → Type 0) (old mid new : History) → ((a b : List Event) → A a → B b → C (a ++ b)) → GrewBy A old mid
    → GrewBy B mid new → GrewBy C old new
grew_on A B C old mid new join h k = record {
  events = h.events ++ k.events;
  grew = grew_twice old mid new h.events k.events h.grew k.grew;
  they_are = join h.events k.events h.they_are k.they_are;
}

-- a growth by some events is one by other events, if they are these
pub grew_as : (A B : List Event → Type 0) (old new : History) → ((events : List Event) → A events → B events) → GrewBy A old new
    → GrewBy B old new
grew_as A B old new see h = record { events = h.events; grew = h.grew; they_are = see h.events h.they_are }
