-- Outputs that were handed bytes.
use Rattle.std.proofs.Common.{◌≡◌, ℕ, List, [], ◌∷◌, ◌++◌, refl, sym, ap, ◌∙◌, append_assoc}
use Rattle.std.proofs.lemmas.List.{append-nil}
use Rattle.jls_io.specs.Event.{Event, opened, not_opened, gave, read_failed, created, not_created, took, write_failed, bytes_taken}
use Rattle.jls_io.specs.Outputs.{HandsOut}
use Rattle.jls_io.specs.Writing.{AreWrites}
use Rattle.jls_memory.specs.Files.{File}
use Rattle.jls_memory.specs.Laws.{BeginsAfresh, OutputsHoldWhatIsHandedOut}
use Rattle.jls_memory.specs.Outputs.{outputs_of, taken_first}

none_taken : (more : List Event) → BeginsAfresh more → taken_first more ≡ []
none_taken [] h = refl
none_taken (created name ∷ more) h = refl
none_taken (opened name ∷ more) h = absurd h
none_taken (not_opened name ∷ more) h = absurd h
none_taken (gave room bytes ∷ more) h = absurd h
none_taken (read_failed ∷ more) h = absurd h
none_taken (not_created name ∷ more) h = absurd h
none_taken (took bytes ∷ more) h = absurd h
none_taken (write_failed ∷ more) h = absurd h

-- writes are taken first, and create nothing
pub writes_taken : (writes more : List Event) → AreWrites writes → taken_first (writes ++ more) ≡ bytes_taken writes ++ taken_first more
writes_taken [] more h = refl
writes_taken (took bytes ∷ writes) more h =
    ap (λ (t : List ℕ). bytes ++ t) (writes_taken writes more h.1) ∙ sym (append_assoc bytes (bytes_taken writes) (taken_first more))
writes_taken (opened name ∷ writes) more h = absurd h
writes_taken (not_opened name ∷ writes) more h = absurd h
writes_taken (gave room bytes ∷ writes) more h = absurd h
writes_taken (read_failed ∷ writes) more h = absurd h
writes_taken (created name ∷ writes) more h = absurd h
writes_taken (not_created name ∷ writes) more h = absurd h
writes_taken (write_failed ∷ writes) more h = absurd h

pub writes_create_none : (writes more : List Event) → AreWrites writes → outputs_of (writes ++ more) ≡ outputs_of more
writes_create_none [] more h = refl
writes_create_none (took bytes ∷ writes) more h = writes_create_none writes more h.1
writes_create_none (opened name ∷ writes) more h = absurd h
writes_create_none (not_opened name ∷ writes) more h = absurd h
writes_create_none (gave room bytes ∷ writes) more h = absurd h
writes_create_none (read_failed ∷ writes) more h = absurd h
writes_create_none (created name ∷ writes) more h = absurd h
writes_create_none (not_created name ∷ writes) more h = absurd h
writes_create_none (write_failed ∷ writes) more h = absurd h

pub handed : (name bytes : List ℕ) (handing : List Event) → HandsOut name bytes handing
    → outputs_of handing ≡ record { name = name; bytes = bytes } ∷ []
handed name bytes handing h =
    let events : h.writes ++ [] ≡ h.writes = append-nil h.writes in
    let taken : taken_first h.writes ≡ bytes =
    ap taken_first (sym events)
    ∙ (writes_taken h.writes [] h.wrote.are_writes ∙ (append-nil (bytes_taken h.writes) ∙ h.wrote.they_took)) in
    let none : outputs_of h.writes ≡ [] = ap outputs_of (sym events) ∙ writes_create_none h.writes [] h.wrote.are_writes in
    ap outputs_of h.events_are
    ∙ (ap (λ (t : List ℕ). record { name = name; bytes = t } ∷ outputs_of h.writes) taken
    ∙ ap (λ (os : List File). record { name = name; bytes = bytes } ∷ os) none)

module _ (after : List Event) (fresh : BeginsAfresh after) where
  pub taken_before : (before : List Event) → taken_first (before ++ after) ≡ taken_first before
  taken_before [] = none_taken after fresh
  taken_before (created name ∷ more) = refl
  taken_before (took bytes ∷ more) = ap (λ (t : List ℕ). bytes ++ t) (taken_before more)
  taken_before (opened name ∷ more) = taken_before more
  taken_before (not_opened name ∷ more) = taken_before more
  taken_before (gave room bytes ∷ more) = taken_before more
  taken_before (read_failed ∷ more) = taken_before more
  taken_before (not_created name ∷ more) = taken_before more
  taken_before (write_failed ∷ more) = taken_before more

  pub outputs_apart : (before : List Event) → outputs_of (before ++ after) ≡ outputs_of before ++ outputs_of after
  outputs_apart [] = refl
  outputs_apart (created name ∷ more) =
      ap (λ (t : List ℕ). record { name = name; bytes = t } ∷ outputs_of (more ++ after)) (taken_before more)
      ∙ ap (λ (os : List File). record { name = name; bytes = taken_first more } ∷ os) (outputs_apart more)
  outputs_apart (took bytes ∷ more) = outputs_apart more
  outputs_apart (opened name ∷ more) = outputs_apart more
  outputs_apart (not_opened name ∷ more) = outputs_apart more
  outputs_apart (gave room bytes ∷ more) = outputs_apart more
  outputs_apart (read_failed ∷ more) = outputs_apart more
  outputs_apart (not_created name ∷ more) = outputs_apart more
  outputs_apart (write_failed ∷ more) = outputs_apart more

pub outputs_hold : OutputsHoldWhatIsHandedOut
outputs_hold = (handed, λ before after fresh. outputs_apart after fresh before)
