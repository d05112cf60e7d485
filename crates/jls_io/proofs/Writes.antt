-- Writes, one after the other.
use Rattle.std.proofs.Common.{◌≡◌, ◌<◌, ℕ, ◌+◌, List, [], ◌∷◌, ◌++◌, length, take, refl, sym, subst, ap, ◌∙◌, append_assoc, arith}
use Rattle.std.proofs.Common.{inl, inr}
use Rattle.std.proofs.Math.Seq.{take-append-add}
use Rattle.std.proofs.lemmas.List.{append-nil, length-append, take-append-le}
use Rattle.jls_io.specs.Event.{Event, History, GrewBy, opened, not_opened, gave, read_failed, created, not_created, took, write_failed}
use Rattle.jls_io.specs.Event.{bytes_taken}
use Rattle.jls_io.specs.Writing.{AreWrites, Printed, Wrote, WrotePrefix}
use Rattle.jls_io.proofs.Growing.{grew_not, grew_on}

pub wrote_nothing : Wrote [] []
wrote_nothing = record { are_writes = tt; they_took = refl }

pub one_write : (bytes : List ℕ) → 0 < length bytes → Wrote bytes (took bytes ∷ [])
one_write bytes lt = record { are_writes = (lt, tt); they_took = append-nil bytes }

-- writes, and then more of them
pub wrote_on : (a b : List ℕ) (writes more : List Event) → Wrote a writes → Wrote b more → Wrote (a ++ b) (writes ++ more)
wrote_on a b [] more h k = record { are_writes = k.are_writes; they_took = k.they_took ∙ ap (λ (x : List ℕ). x ++ b) h.they_took }
wrote_on a b (took x ∷ writes) more h k =
    let rest = wrote_on (bytes_taken writes) b writes more (record { are_writes = h.are_writes.1; they_took = refl }) k in
    record {
      are_writes = (h.are_writes.0, rest.are_writes);
      they_took = ap (λ (y : List ℕ). x ++ y) rest.they_took
          ∙ (sym (append_assoc x (bytes_taken writes) b) ∙ ap (λ (y : List ℕ). y ++ b) h.they_took);
    }
wrote_on a b (opened name ∷ writes) more h k = absurd h.are_writes
wrote_on a b (not_opened name ∷ writes) more h k = absurd h.are_writes
wrote_on a b (gave room x ∷ writes) more h k = absurd h.are_writes
wrote_on a b (read_failed ∷ writes) more h k = absurd h.are_writes
wrote_on a b (created name ∷ writes) more h k = absurd h.are_writes
wrote_on a b (not_created name ∷ writes) more h k = absurd h.are_writes
wrote_on a b (write_failed ∷ writes) more h k = absurd h.are_writes

-- writes took a whole, and then the prefix of more
pub prefix_after : (a b : List ℕ) (count : ℕ) (writes more : List Event) → Wrote a writes → WrotePrefix b count more
    → WrotePrefix (a ++ b) (length a + count) (writes ++ more)
prefix_after a b count writes more h k = record {
  writes = writes ++ k.writes;
  events_are = ap (λ (x : List Event). writes ++ x) k.events_are ∙ sym (append_assoc writes k.writes (write_failed ∷ []));
  wrote = subst (λ (x : List ℕ). Wrote x (writes ++ k.writes)) (sym (take-append-add a b count))
      (wrote_on a (take count b) writes k.writes h k.wrote);
  not_all = let n = length-append a b in omega (arith, n, k.not_all);
}

-- the prefix of a whole is a prefix of what is longer
pub prefix_before : (a b : List ℕ) (count : ℕ) (events : List Event) → WrotePrefix a count events → WrotePrefix (a ++ b) count events
prefix_before a b count events h = record {
  writes = h.writes;
  events_are = h.events_are;
  wrote = subst (λ (x : List ℕ). Wrote x h.writes) (sym (take-append-le count a b (omega (arith, h.not_all)))) h.wrote;
  not_all = let n = length-append a b in omega (arith, n, h.not_all);
}

module _ (old mid new : History) where
  pub written_on : (a b : List ℕ) → GrewBy (Wrote a) old mid → GrewBy (Wrote b) mid new → GrewBy (Wrote (a ++ b)) old new
  written_on a b = grew_on (Wrote a) (Wrote b) (Wrote (a ++ b)) old mid new (wrote_on a b)

  -- some bytes that were written, and then a prefix of others, are a prefix of all of them
  pub cut_after : (a b : List ℕ) (count : ℕ) → GrewBy (Wrote a) old mid → GrewBy (WrotePrefix b count) mid new
      → GrewBy (WrotePrefix (a ++ b) (length a + count)) old new
  cut_after a b count = grew_on (Wrote a) (WrotePrefix b count) (WrotePrefix (a ++ b) (length a + count)) old mid new
      (prefix_after a b count)

  pub one_write_more : (a b : List ℕ) → GrewBy (Wrote a) old mid → 0 < length b → new ≡ mid ++ took b ∷ [] → GrewBy (Wrote (a ++ b)) old new
  one_write_more a b h lt e = written_on a b h (record { events = took b ∷ []; grew = e; they_are = one_write b lt })

pub nothing_written : (h : History) → GrewBy (Wrote []) h h
nothing_written h = grew_not (Wrote []) h wrote_nothing

-- where there are no bytes, nothing is written
none_written : (writes : List Event) → AreWrites writes → bytes_taken writes ≡ [] → writes ≡ []
none_written [] h e = refl
none_written (took [] ∷ more) h e = absurd (omega (arith, h.0))
none_written (took (b ∷ bs) ∷ more) h e = absurd cc
none_written (x ∷ more) h e = absurd h

-- nor printed
pub none_printed : (events : List Event) → Printed [] events → events ≡ []
none_printed events (inl h) = none_written events h.are_writes h.they_took
none_printed events (inr (count, h)) = let lt = h.not_all in absurd (omega (arith, lt))
