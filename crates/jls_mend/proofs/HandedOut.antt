-- What the outputs of a desk hold, to which a run handed all that it made.
use Rattle.std.proofs.Common.{◌≡◌, ℕ, List, [], ◌∷◌, ◌++◌, Option, Some, None, map, refl, sym, ap, ◌∙◌, subst, append_assoc}
use Rattle.std.proofs.lemmas.List.{map-append}
use Rattle.jls_io.specs.Event.{Event, opened, not_opened, gave, read_failed, created, not_created, took, write_failed}
use Rattle.jls_io.specs.Outputs.{HandsOut}
use Rattle.jls_station.specs.CopyFiles.{AreCopiesRead, CopyBytes, IsCopyRead, IsTextPrefix}
use Rattle.jls_station.specs.Reading.{GoesOn, StopsWith}
use Rattle.jls_station.specs.declared.input.ReadStop.{ReadStop}
use Rattle.jls_memory.specs.Files.{File}
use Rattle.jls_memory.specs.Laws.{BeginsAfresh, OutputsHoldWhatIsHandedOut}
use Rattle.jls_memory.specs.Outputs.{outputs_of}
use Rattle.jls_splice_run.specs.Handing.{HandsAll, HandsFile, HandsFiles, none_handed, one_handed, Texts}
use Rattle.jls_splice_run.specs.Listing.{NamedFile}
use Rattle.jls_mend.specs.Mending.{numbered_made}

-- ---- reads create no output

goes_on_without : (E : List ℕ → Type 0) (fed : List ℕ) (on more : List Event) → GoesOn E fed on
    → outputs_of (on ++ more) ≡ outputs_of more
goes_on_without E fed [] more g = refl
goes_on_without E fed (gave room bytes ∷ on) more g = goes_on_without E (fed ++ bytes) on more g.3
goes_on_without E fed (opened name ∷ on) more g = absurd g
goes_on_without E fed (not_opened name ∷ on) more g = absurd g
goes_on_without E fed (read_failed ∷ on) more g = absurd g
goes_on_without E fed (created name ∷ on) more g = absurd g
goes_on_without E fed (not_created name ∷ on) more g = absurd g
goes_on_without E fed (took bytes ∷ on) more g = absurd g
goes_on_without E fed (write_failed ∷ on) more g = absurd g

ends_without : (E : List ℕ → Type 0) (bytes : List ℕ) (last more : List Event) (stop : ReadStop) → StopsWith E bytes last stop
    → outputs_of (last ++ more) ≡ outputs_of more
ends_without E bytes [] more stop s = refl
ends_without E bytes (gave room x ∷ []) more stop s = refl
ends_without E bytes (gave room [] ∷ e ∷ last) more stop s = absurd s
ends_without E bytes (gave room (b ∷ bs) ∷ e ∷ last) more stop s = absurd s
ends_without E bytes (read_failed ∷ []) more stop s = refl
ends_without E bytes (read_failed ∷ e ∷ last) more stop s = absurd s
ends_without E bytes (opened name ∷ last) more stop s = absurd s
ends_without E bytes (not_opened name ∷ last) more stop s = absurd s
ends_without E bytes (created name ∷ last) more stop s = absurd s
ends_without E bytes (not_created name ∷ last) more stop s = absurd s
ends_without E bytes (took x ∷ last) more stop s = absurd s
ends_without E bytes (write_failed ∷ last) more stop s = absurd s

copy_without : (name : List ℕ) (c : CopyBytes) (events more : List Event) → IsCopyRead name c events
    → outputs_of (events ++ more) ≡ outputs_of more
copy_without name c events more h =
    let r = h.is_read in
    ap (λ (es : List Event). outputs_of (es ++ more)) h.events_are
    ∙ (ap (λ (es : List Event). outputs_of (es ++ more)) r.reads_are
    ∙ (ap outputs_of (append_assoc r.on r.last more)
    ∙ (goes_on_without IsTextPrefix [] r.on (r.last ++ more) r.goes_on ∙ ends_without IsTextPrefix c.bytes r.last more c.stop r.stops)))

pub reading_without : (names : List (List ℕ)) (read : List CopyBytes) (reading more : List Event) → AreCopiesRead names read reading
    → outputs_of (reading ++ more) ≡ outputs_of more
reading_without [] [] reading more h = ap (λ (es : List Event). outputs_of (es ++ more)) h
reading_without [] (c ∷ read) reading more h = absurd h
reading_without (name ∷ names) [] reading more h = absurd h
reading_without (name ∷ names) (c ∷ read) reading more h =
    ap (λ (es : List Event). outputs_of (es ++ more)) h.2
    ∙ (ap outputs_of (append_assoc h.0 h.1 more)
    ∙ (copy_without name c h.0 (h.1 ++ more) h.3 ∙ reading_without names read h.1 more h.4))

-- ---- outputs that are handed their bytes

-- the single file, if there are a name and bytes
abbrev pub file_handed : Option (List ℕ) → Option (List ℕ) → List File
file_handed (Some name) (Some bytes) = record { name = name; bytes = bytes } ∷ []
file_handed _ _ = []

module _ (hold : OutputsHoldWhatIsHandedOut) where
  begins : (name bytes : List ℕ) (events : List Event) → HandsOut name bytes events → BeginsAfresh events
  begins name bytes events h = subst BeginsAfresh (sym h.events_are) tt

  begins_on : (a b : List Event) → BeginsAfresh a → BeginsAfresh b → BeginsAfresh (a ++ b)
  begins_on [] b h k = k
  begins_on (created name ∷ a) b h k = tt
  begins_on (opened name ∷ a) b h k = absurd h
  begins_on (not_opened name ∷ a) b h k = absurd h
  begins_on (gave room bytes ∷ a) b h k = absurd h
  begins_on (read_failed ∷ a) b h k = absurd h
  begins_on (not_created name ∷ a) b h k = absurd h
  begins_on (took bytes ∷ a) b h k = absurd h
  begins_on (write_failed ∷ a) b h k = absurd h

  pub record Holds (files : List File) (events : List Event) : Type 0 where
    pub fresh : BeginsAfresh events
    pub are : outputs_of events ≡ files

  holds_one : (name bytes : List ℕ) (events : List Event) → HandsOut name bytes events
      → Holds (record { name = name; bytes = bytes } ∷ []) events
  holds_one name bytes events h = record { fresh = begins name bytes events h; are = hold.0 name bytes events h }

  holds_none : (events : List Event) → events ≡ [] → Holds [] events
  holds_none events e = record { fresh = subst BeginsAfresh (sym e) tt; are = ap outputs_of e }

  holds_both : (fs gs : List File) (a b : List Event) → Holds fs a → Holds gs b → Holds (fs ++ gs) (a ++ b)
  holds_both fs gs a b h k = record {
    fresh = begins_on a b h.fresh k.fresh;
    are = hold.1 a b k.fresh ∙ (ap (λ (xs : List File). xs ++ outputs_of b) h.are ∙ ap (λ (xs : List File). fs ++ xs) k.are);
  }

  holds_file : (name bytes : Option (List ℕ)) (events : List Event) → HandsFile name bytes events → Holds (file_handed name bytes) events
  holds_file (Some name) (Some bytes) events h = holds_one name bytes events h
  holds_file (Some name) None events h = holds_none events h
  holds_file None (Some bytes) events h = holds_none events h
  holds_file None None events h = holds_none events h

  holds_files : (files : List NamedFile) (events : List Event) → HandsFiles files events → Holds (map numbered_made files) events
  holds_files _ _ none_handed = record { fresh = tt; are = refl }
  holds_files _ _ (one_handed files file events more before h) =
      subst (λ (fs : List File). Holds fs (events ++ more)) (sym (map-append numbered_made files (file ∷ [])))
      (holds_both (map numbered_made files) (numbered_made file ∷ []) events more (holds_files files events before)
      (holds_one file.name file.bytes more h))

  pub holds_all : (t : Texts) (desk report : List Event) → HandsAll t desk report
      → outputs_of desk ≡ record { name = t.out; bytes = t.text } ∷ (file_handed t.file_name t.file ++ map numbered_made t.files)
  holds_all t desk report h =
      let one : List File = record { name = t.out; bytes = t.text } ∷ [] in
      let held = holds_both (one ++ file_handed t.file_name t.file) (map numbered_made t.files) (h.writing ++ h.more) h.rest
      (holds_both one (file_handed t.file_name t.file) h.writing h.more (holds_one t.out t.text h.writing h.handed)
      (holds_file t.file_name t.file h.more h.file_handed))
      (holds_files t.files h.rest h.files_handed) in
      ap outputs_of h.desk_is ∙ held.are
