-- What outputs hold, one event after the other.
use Rattle.std.proofs.Common.{◌≡◌, ℕ, false, List, [], ◌∷◌, ◌++◌, drop, get_or, refl, sym, ap, ◌∙◌, append_assoc}
use Rattle.std.specs.List.{list_any}
use Rattle.std.proofs.lemmas.List.{append-nil}
use Rattle.jls_io.specs.Event.{Event, opened, not_opened, gave, read_failed, created, not_created, took, write_failed, is_creation}
use Rattle.jls_memory.specs.Files.{File}
use Rattle.jls_memory.specs.Outputs.{outputs_of, taken_first}

-- ---- an event that takes nothing

module _ (e : Event) (takes_none : taken_first (e ∷ []) ≡ []) where
  pub same_taken : (events : List Event) → taken_first (events ++ e ∷ []) ≡ taken_first events
  same_taken [] = takes_none
  same_taken (created name ∷ more) = refl
  same_taken (took bytes ∷ more) = ap (λ (t : List ℕ). bytes ++ t) (same_taken more)
  same_taken (opened name ∷ more) = same_taken more
  same_taken (not_opened name ∷ more) = same_taken more
  same_taken (gave room bytes ∷ more) = same_taken more
  same_taken (read_failed ∷ more) = same_taken more
  same_taken (not_created name ∷ more) = same_taken more
  same_taken (write_failed ∷ more) = same_taken more

  -- an output that it creates comes after all others
  pub outputs_then : (events : List Event) → outputs_of (events ++ e ∷ []) ≡ outputs_of events ++ outputs_of (e ∷ [])
  outputs_then [] = refl
  outputs_then (created name ∷ more) =
      ap (λ (t : List ℕ). record { name = name; bytes = t } ∷ outputs_of (more ++ e ∷ [])) (same_taken more)
      ∙ ap (λ (os : List File). record { name = name; bytes = taken_first more } ∷ os) (outputs_then more)
  outputs_then (took bytes ∷ more) = outputs_then more
  outputs_then (opened name ∷ more) = outputs_then more
  outputs_then (not_opened name ∷ more) = outputs_then more
  outputs_then (gave room bytes ∷ more) = outputs_then more
  outputs_then (read_failed ∷ more) = outputs_then more
  outputs_then (not_created name ∷ more) = outputs_then more
  outputs_then (write_failed ∷ more) = outputs_then more

  -- and else there are no others
  pub outputs_stay : outputs_of (e ∷ []) ≡ [] → (events : List Event) → outputs_of (events ++ e ∷ []) ≡ outputs_of events
  outputs_stay none events =
      outputs_then events ∙ (ap (λ (os : List File). outputs_of events ++ os) none ∙ append-nil (outputs_of events))

-- ---- a write that took these bytes

pub not_empty : (before : List File) (last : File) → before ++ last ∷ [] ≡ [] → ⊥
not_empty [] last e = cc
not_empty (f ∷ before) last e = cc

module _ (bytes : List ℕ) where
  -- where no output was created, they are taken first
  taken_more : (events : List Event) → outputs_of events ≡ [] → taken_first (events ++ took bytes ∷ []) ≡ taken_first events ++ bytes
  taken_more [] e = append-nil bytes
  taken_more (created name ∷ more) e = absurd cc
  taken_more (took x ∷ more) e =
      ap (λ (t : List ℕ). x ++ t) (taken_more more e) ∙ sym (append_assoc x (taken_first more) bytes)
  taken_more (opened name ∷ more) e = taken_more more e
  taken_more (not_opened name ∷ more) e = taken_more more e
  taken_more (gave room x ∷ more) e = taken_more more e
  taken_more (read_failed ∷ more) e = taken_more more e
  taken_more (not_created name ∷ more) e = taken_more more e
  taken_more (write_failed ∷ more) e = taken_more more e

  still_none : (events : List Event) → outputs_of events ≡ [] → outputs_of (events ++ took bytes ∷ []) ≡ []
  still_none [] e = refl
  still_none (created name ∷ more) e = absurd cc
  still_none (took x ∷ more) e = still_none more e
  still_none (opened name ∷ more) e = still_none more e
  still_none (not_opened name ∷ more) e = still_none more e
  still_none (gave room x ∷ more) e = still_none more e
  still_none (read_failed ∷ more) e = still_none more e
  still_none (not_created name ∷ more) e = still_none more e
  still_none (write_failed ∷ more) e = still_none more e

  -- and where one was, they are not
  taken_as_before : (events : List Event) → (outputs_of events ≡ [] → ⊥)
      → taken_first (events ++ took bytes ∷ []) ≡ taken_first events
  taken_as_before [] some = absurd (some refl)
  taken_as_before (created name ∷ more) some = refl
  taken_as_before (took x ∷ more) some = ap (λ (t : List ℕ). x ++ t) (taken_as_before more some)
  taken_as_before (opened name ∷ more) some = taken_as_before more some
  taken_as_before (not_opened name ∷ more) some = taken_as_before more some
  taken_as_before (gave room x ∷ more) some = taken_as_before more some
  taken_as_before (read_failed ∷ more) some = taken_as_before more some
  taken_as_before (not_created name ∷ more) some = taken_as_before more some
  taken_as_before (write_failed ∷ more) some = taken_as_before more some

  -- the last output holds them too
  abbrev longer : File → File
  longer f = record { name = f.name; bytes = f.bytes ++ bytes }

  pub last_is_longer : (events : List Event) (before : List File) (last : File) → outputs_of events ≡ before ++ last ∷ []
      → outputs_of (events ++ took bytes ∷ []) ≡ before ++ longer last ∷ []
  last_is_longer [] before last e = absurd (not_empty before last (sym e))
  last_is_longer (created name ∷ more) [] last e =
      let none : outputs_of more ≡ [] = ap (drop 1) e in
      let first : record { name = name; bytes = taken_first more } ≡ last = ap (λ (fs : List File). get_or fs 0 last) e in
      ap (λ (os : List File). record { name = name; bytes = taken_first (more ++ took bytes ∷ []) } ∷ os) (still_none more none)
      ∙ (ap (λ (t : List ℕ). record { name = name; bytes = t } ∷ []) (taken_more more none)
      ∙ ap (λ (f : File). longer f ∷ []) first)
  last_is_longer (created name ∷ more) (f ∷ before) last e =
      let others : outputs_of more ≡ before ++ last ∷ [] = ap (drop 1) e in
      let first : record { name = name; bytes = taken_first more } ≡ f = ap (λ (fs : List File). get_or fs 0 last) e in
      let some : outputs_of more ≡ [] → ⊥ = λ none. not_empty before last (sym others ∙ none) in
      ap (λ (os : List File). record { name = name; bytes = taken_first (more ++ took bytes ∷ []) } ∷ os)
      (last_is_longer more before last others)
      ∙ (ap (λ (t : List ℕ). record { name = name; bytes = t } ∷ (before ++ longer last ∷ [])) (taken_as_before more some)
      ∙ ap (λ (g : File). g ∷ (before ++ longer last ∷ [])) first)
  last_is_longer (took x ∷ more) before last e = last_is_longer more before last e
  last_is_longer (opened name ∷ more) before last e = last_is_longer more before last e
  last_is_longer (not_opened name ∷ more) before last e = last_is_longer more before last e
  last_is_longer (gave room x ∷ more) before last e = last_is_longer more before last e
  last_is_longer (read_failed ∷ more) before last e = last_is_longer more before last e
  last_is_longer (not_created name ∷ more) before last e = last_is_longer more before last e
  last_is_longer (write_failed ∷ more) before last e = last_is_longer more before last e

-- where no output was created, there is none
pub no_outputs : (events : List Event) → list_any is_creation events ≡ false → outputs_of events ≡ []
no_outputs [] e = refl
no_outputs (created name ∷ more) e = absurd cc
no_outputs (took x ∷ more) e = no_outputs more e
no_outputs (opened name ∷ more) e = no_outputs more e
no_outputs (not_opened name ∷ more) e = no_outputs more e
no_outputs (gave room x ∷ more) e = no_outputs more e
no_outputs (read_failed ∷ more) e = no_outputs more e
no_outputs (not_created name ∷ more) e = no_outputs more e
no_outputs (write_failed ∷ more) e = no_outputs more e
