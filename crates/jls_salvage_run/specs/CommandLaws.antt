-- The laws of whole runs of `join`.
use Rattle.std.specs.Prelude.{◌≡◌, ℕ, ◌↔◌, Bool, List, [], ◌∷◌, if◌then◌else◌, All, Contains, Option}
use Rattle.jls_partial.specs.Parts.{IsPartOf, EachLineIsHeld, sourced}
use Rattle.jls_partial.specs.Partial.{PartialPicture}
use Rattle.jls_partial.specs.Status.{IsSettled}
use Rattle.jls_partial.specs.Text.{text, IsPartial}
use Rattle.jls_io.specs.Event.{Event, opened, created, is_opening, is_creation, bytes_given, bytes_taken}
use Rattle.jls_station.specs.Given.{GivesPartial}
use Rattle.jls_salvage_run.specs.Joining.{JoinIsDone}

-- what comes before the next event of a kind
abbrev pub before_next : (Event → Bool) → List Event → List Event
before_next test [] = []
before_next test (e ∷ more) = if test e then [] else e ∷ before_next test more

-- what each input gave that was opened, in their order: the bytes of the reads from its opening to the next
abbrev pub input_bytes : List Event → List (List ℕ)
input_bytes [] = []
input_bytes (opened name ∷ more) = bytes_given (before_next is_opening more) ∷ input_bytes more
input_bytes (_ ∷ more) = input_bytes more

-- what each output was handed that was created, in their order: the bytes of the writes from its creation to the next
abbrev pub output_bytes : List Event → List (List ℕ)
output_bytes [] = []
output_bytes (created name ∷ more) = bytes_taken (before_next is_creation more) ∷ output_bytes more
output_bytes (_ ∷ more) = output_bytes more

-- both lists have the same inputs, in any order and with any repeats
abbrev pub HaveSameMembers : List (List ℕ) → List (List ℕ) → Type 0
HaveSameMembers inputs others = (bytes : List ℕ) → Contains inputs bytes ↔ Contains others bytes

-- at each place of the list are the bytes of an input that gives the partial picture at this place
abbrev pub AreInputsOf : Option ℕ → List (List ℕ) → List PartialPicture → Type 0
AreInputsOf source [] [] = Unit {0}
AreInputsOf source (bytes ∷ inputs) (p ∷ ps) = GivesPartial source bytes p × AreInputsOf source inputs ps
AreInputsOf source _ _ = ⊥

-- let two runs of `join` under one source be done, whose inputs, texts and copies, gave the same bytes. Order, repeats, names, and how
-- reading stopped may differ. Then what they join is one picture, and their outputs are handed the same bytes
abbrev pub SameInputsSameOutput : Type 0
SameInputsSameOutput =
    (source : Option ℕ) (out : List ℕ) (names : List (List ℕ)) (joined : PartialPicture) (settled whole : Bool) (events : List Event)
    → JoinIsDone source out names joined settled whole events
    → (out' : List ℕ) (names' : List (List ℕ)) (joined' : PartialPicture) (settled' whole' : Bool) (events' : List Event)
    → JoinIsDone source out' names' joined' settled' whole' events'
    → HaveSameMembers (input_bytes events) (input_bytes events')
    → (joined ≡ joined') × (output_bytes events ≡ output_bytes events')

-- let a run of `join` be done, whose inputs give parts of one picture, with each of its lines in some part. What it joins is that picture,
-- with the sources of all parts, and its output is handed the text of that
abbrev pub SurvivingLinesGiveThePicture : Type 0
SurvivingLinesGiveThePicture =
    (source : Option ℕ) (out : List ℕ) (names : List (List ℕ)) (joined : PartialPicture) (settled whole : Bool) (events : List Event)
    → JoinIsDone source out names joined settled whole events
    → (picture : PartialPicture) → IsPartial picture → IsSettled picture
    → (parts : List PartialPicture) → All (IsPartOf picture) parts → EachLineIsHeld picture.shape parts
    → AreInputsOf source (input_bytes events) parts
    → (joined ≡ sourced parts picture) × (output_bytes events ≡ text (sourced parts picture) ∷ [])
