-- The bytes that the inputs of a run gave, each with the partial picture that it gave, and those that its output was handed.
use Rattle.std.proofs.Common.{◌≡◌, ℕ, Bool, true, false, List, [], ◌∷◌, ◌++◌, Option, refl, sym, ap, ◌∙◌, subst, append_assoc}
use Rattle.std.proofs.lemmas.Grind.{flat_map-append}
use Rattle.std.proofs.lemmas.List.{append-nil}
use Rattle.jls_partial.specs.Partial.{PartialPicture}
use Rattle.jls_partial.specs.Text.{text}
use Rattle.jls_io.specs.Event.{Event, gave, read_failed, took, is_read, is_opening}
use Rattle.jls_io.specs.Event.{is_creation, bytes_given, bytes_given_by, bytes_taken}
use Rattle.jls_io.specs.Writing.{AreWrites}
use Rattle.jls_station.specs.Given.{Given, GivesPartial}
use Rattle.jls_marker.specs.SegmentLaws.{AreBytes}
use Rattle.jls_station.specs.Inputs.{IsEnough}
use Rattle.jls_station.proofs.ReadBytes.{AreReads, all_reads}
use Rattle.jls_salvage_run.specs.AllInputs.{partials, IsTaken, TakesInTurn}
use Rattle.jls_io.specs.Outputs.{HandsOut}
use Rattle.jls_salvage_run.specs.Joining.{JoinIsDone}
use Rattle.jls_salvage_run.specs.CommandLaws.{before_next, input_bytes, output_bytes}

-- Events that open no input and create no output -----------------------------------------------------------------

past_one : (e : Event) (more : List Event) → is_read e ≡ true
    → (is_opening e ≡ false) × (input_bytes (e ∷ more) ≡ input_bytes more) × (output_bytes (e ∷ more) ≡ output_bytes more)
past_one (gave room bytes) more h = (refl, refl, refl)
past_one read_failed more h = (refl, refl, refl)
past_one e more h = absurd cc

-- what comes after them is as it was
past_all : (events rest : List Event) → AreReads events
    → (before_next is_opening (events ++ rest) ≡ events ++ before_next is_opening rest) × (input_bytes (events ++ rest) ≡ input_bytes rest)
    × (output_bytes (events ++ rest) ≡ output_bytes rest)
past_all [] rest h = (refl, refl, refl)
past_all (e ∷ events) rest h =
    let r = past_all events rest h.1 in
    let p = past_one e (events ++ rest) h.0 in
    (rw p.0 (ap (λ (x : List Event). e ∷ x) r.0), p.1 ∙ r.1, p.2 ∙ r.2)

-- All inputs -----------------------------------------------------------------------------------------------------

-- these open no input at once, and what is read before the next opening is nothing
abbrev pub ReadsNone : List Event → Type 0
ReadsNone rest = bytes_given (before_next is_opening rest) ≡ []

pub one_input : (source : Option ℕ) (name : List ℕ) (g : Given) (mine rest : List Event) (h : IsTaken source name g mine) → ReadsNone rest
    → (input_bytes (mine ++ rest) ≡ h.give.bytes ∷ input_bytes rest) × ReadsNone (mine ++ rest)
    × (output_bytes (mine ++ rest) ≡ output_bytes rest)
one_input source name g mine rest h none =
    let reads = all_reads IsEnough h.give.bytes h.reads g.stop h.give.is_read in
    let past = past_all h.reads rest reads.0 in
    let given : bytes_given (before_next is_opening (h.reads ++ rest)) ≡ h.give.bytes =
    ap bytes_given past.0 ∙ flat_map-append bytes_given_by h.reads (before_next is_opening rest)
    ∙ ap (λ (x : List ℕ). bytes_given h.reads ++ x) none ∙ append-nil (bytes_given h.reads) ∙ reads.1 in (
      ap (λ (x : List Event). input_bytes (x ++ rest)) h.events_are ∙ (λ i. given i ∷ past.1 i),
      ap (λ (x : List Event). bytes_given (before_next is_opening (x ++ rest))) h.events_are,
      ap (λ (x : List Event). output_bytes (x ++ rest)) h.events_are ∙ past.2,
    )

-- at each place stand the bytes of an input that gave the partial picture there
abbrev pub AreGiven : Option ℕ → List (List ℕ) → List PartialPicture → Type 0
AreGiven source [] [] = Unit {0}
AreGiven source (bytes ∷ inputs) (p ∷ ps) = AreBytes bytes × GivesPartial source bytes p × AreGiven source inputs ps
AreGiven source _ _ = ⊥

inputs_in_turn : (source : Option ℕ) (names : List (List ℕ)) (givens : List Given) (reading writing : List Event)
    → TakesInTurn source names givens reading → ReadsNone writing → input_bytes writing ≡ []
    → AreGiven source (input_bytes (reading ++ writing)) (partials givens) × ReadsNone (reading ++ writing)
    × (output_bytes (reading ++ writing) ≡ output_bytes writing)
inputs_in_turn source [] [] reading writing h quiet none =
    let is : reading ++ writing ≡ writing = ap (λ (x : List Event). x ++ writing) h in (
      subst (λ (inputs : List (List ℕ)). AreGiven source inputs []) (sym (ap input_bytes is ∙ none)) tt,
      ap (λ (x : List Event). bytes_given (before_next is_opening x)) is ∙ quiet,
      ap output_bytes is,
    )
inputs_in_turn source [] (g ∷ givens) reading writing h quiet none = absurd h
inputs_in_turn source (name ∷ names) [] reading writing h quiet none = absurd h
inputs_in_turn source (name ∷ names) (g ∷ givens) reading writing h quiet none =
    let r = inputs_in_turn source names givens h.1 writing h.4 quiet none in
    let is : reading ++ writing ≡ h.0 ++ (h.1 ++ writing) = ap (λ (x : List Event). x ++ writing) h.2 ∙ append_assoc h.0 h.1 writing in
    let one = one_input source name g h.0 (h.1 ++ writing) h.3 r.1 in (
      subst (λ (inputs : List (List ℕ)). AreGiven source inputs (g.partial ∷ partials givens)) (sym (ap input_bytes is ∙ one.0))
          (h.3.give.is_read.are_bytes, (g, h.3.give.gives, refl), r.0),
      ap (λ (x : List Event). bytes_given (before_next is_opening x)) is ∙ one.1,
      ap output_bytes is ∙ one.2 ∙ r.2,
    )

-- Writes ---------------------------------------------------------------------------------------------------------

-- they read nothing, open nothing and create nothing
past_writes : (writes : List Event) → AreWrites writes
    → ReadsNone writes × (input_bytes writes ≡ []) × (before_next is_creation writes ≡ writes) × (output_bytes writes ≡ [])
past_writes [] h = (refl, refl, refl, refl)
past_writes (took bytes ∷ writes) h = let r = past_writes writes h.1 in (r.0, r.1, ap (λ (x : List Event). took bytes ∷ x) r.2, r.3)
past_writes (e ∷ writes) h = absurd h

-- what an output was handed is all that was
pub handed_out : (out bytes : List ℕ) (writing : List Event) → HandsOut out bytes writing
    → ReadsNone writing × (input_bytes writing ≡ []) × (output_bytes writing ≡ bytes ∷ [])
handed_out out bytes writing h =
    let w = past_writes h.writes h.wrote.are_writes in
    let is = h.events_are in (
      ap (λ (x : List Event). bytes_given (before_next is_opening x)) is ∙ w.0,
      ap input_bytes is ∙ w.1,
      ap output_bytes is ∙ (λ i. (ap bytes_taken w.2 ∙ h.wrote.they_took) i ∷ w.3 i),
    )

-- Runs of `join` -------------------------------------------------------------------------------------------------

-- the inputs of a join that is done gave what was read of them, and its one output was handed the text of their union
pub bytes_of_join : (source : Option ℕ) (out : List ℕ) (names : List (List ℕ)) (joined : PartialPicture) (settled whole : Bool)
    (events : List Event) (h : JoinIsDone source out names joined settled whole events)
    → AreGiven source (input_bytes events) (partials h.taken.givens) × (output_bytes events ≡ text joined ∷ [])
bytes_of_join source out names joined settled whole events h =
    let w = handed_out out (text joined) h.writing h.handed in
    let t = inputs_in_turn source names h.taken.givens h.reading h.writing h.taken.taken.in_turn w.0 w.1 in (
      subst (λ (x : List Event). AreGiven source (input_bytes x) (partials h.taken.givens)) (sym h.events_are) t.0,
      ap output_bytes h.events_are ∙ t.2 ∙ w.2,
    )

pub inputs_of_join : (source : Option ℕ) (out : List ℕ) (names : List (List ℕ)) (joined : PartialPicture) (settled whole : Bool)
    (events : List Event) (h : JoinIsDone source out names joined settled whole events)
    → AreGiven source (input_bytes events) (partials h.taken.givens)
inputs_of_join source out names joined settled whole events h = (bytes_of_join source out names joined settled whole events h).0

pub output_of_join : (source : Option ℕ) (out : List ℕ) (names : List (List ℕ)) (joined : PartialPicture) (settled whole : Bool)
    (events : List Event) → JoinIsDone source out names joined settled whole events → output_bytes events ≡ text joined ∷ []
output_of_join source out names joined settled whole events h = (bytes_of_join source out names joined settled whole events h).1
