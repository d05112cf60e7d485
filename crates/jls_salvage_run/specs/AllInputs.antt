-- What the inputs of a command give, and how one of them stops it.
use Rattle.std.specs.Borrow.{Bor}
use Rattle.std.specs.Prelude.{◌≡◌, ◌↔◌, ℕ, Bool, false, true, IsTrue, All, List, [], ◌∷◌, ◌++◌, map, Option, None, Some, IfSome}
use Rattle.jls_values.specs.Join.{join_all, AllOfShape}
use Rattle.jls_partial.specs.Partial.{PartialPicture, has_same_shape, union}
use Rattle.jls_partial.specs.Text.{IsTextOf}
use Rattle.jls_partial.specs.TextReading.{Fails, read_text}
use Rattle.jls_partial.specs.declared.text_fault.TextFault.{TextFault}
use Rattle.jls_io.specs.Event.{Event, opened, not_opened}
use Rattle.jls_station.specs.Given.{Given}
use Rattle.jls_station.specs.InputFaults.{input_fault_of}
use Rattle.jls_station.specs.Inputs.{ReadsGive, ReadsRefuse}
use Rattle.jls_station.specs.declared.input.ReadStop.TheVariants.{Whole}
use Rattle.jls_station.specs.declared.input.InputFault.{InputFault}
use Rattle.jls_cli.specs.declared.outcome.Refusal.{Refusal}
use Rattle.jls_cli.specs.declared.outcome.Cause.TheVariants as cause
use Rattle.jls_salvage_run.specs.declared.inputs.JoinInputs.{JoinInputs}
use Rattle.jls_cli.specs.Outcomes.{refusal_at}

-- `source` is the number under which the readings of copies are taken, where there is one

-- an input of this name was opened and read, and gave this
pub record IsTaken (source : Option ℕ) (name : List ℕ) (g : Given) (events : List Event) : Type 0 where
  pub reads : List Event
  pub events_are : events ≡ opened name ∷ reads
  pub give : ReadsGive source g reads

-- ---- all inputs

-- the names of the inputs of a join, in their order
abbrev pub names_of : JoinInputs → List (List ℕ)
names_of inputs = inputs.first.now ∷ map (λ f. f.now) inputs.others.now

-- the partial pictures of several inputs
abbrev pub partials : List Given → List PartialPicture
partials givens = map (λ g. g.partial) givens

-- each has the shape of the first
abbrev pub AreOfOneShape : List PartialPicture → Type 0
AreOfOneShape [] = Unit {0}
AreOfOneShape (first ∷ others) = AllOfShape has_same_shape first others

-- it has another shape than the first of these, of which there is one
abbrev pub IsOfOtherShape : List PartialPicture → PartialPicture → Type 0
IsOfOtherShape [] p = ⊥
IsOfOtherShape (first ∷ others) p = has_same_shape first p ≡ false

-- it is the union of these, of which there is one at least
abbrev pub IsUnionOf : List PartialPicture → PartialPicture → Type 0
IsUnionOf [] p = ⊥
IsUnionOf (first ∷ others) p = p ≡ join_all union first others

-- the inputs of these names were taken one after the other, and each gave the partial picture at its place in the list
abbrev pub TakesInTurn : Option ℕ → List (List ℕ) → List Given → List Event → Type 0
TakesInTurn source [] [] events = events ≡ []
TakesInTurn source (name ∷ names) (g ∷ givens) events =
    (mine : List Event) × (more : List Event) × (events ≡ mine ++ more) × IsTaken source name g mine × TakesInTurn source names givens more
TakesInTurn source _ _ events = ⊥

-- inputs were taken in turn, and all that they gave is of one shape
pub record TakesAll (source : Option ℕ) (names : List (List ℕ)) (givens : List Given) (events : List Event) : Type 0 where
  pub in_turn : TakesInTurn source names givens events
  pub one_shape : AreOfOneShape (partials givens)

-- so all inputs of a command were taken, and this is the union of what they gave; it says whether each was read whole
pub record TakesUnion (source : Option ℕ) (names : List (List ℕ)) (joined : PartialPicture) (whole : Bool) (events : List Event)
    : Type 0 where
  pub givens : List Given
  pub taken : TakesAll source names givens events
  pub union_is : IsUnionOf (partials givens) joined
  pub whole_is : IsTrue whole ↔ All (λ g. g.stop ≡ Whole) givens

-- an input stops the command for this refusal, which has its name, if those before it gave this. It is not opened, is refused, has another
-- shape, or memory ran out as it was joined
pub data StopsAt : Option ℕ → List Given → Refusal → List Event → Type 0 where
  not_there : (source : Option ℕ) (before : List Given) (name : Bor (List ℕ))
      → StopsAt source before (refusal_at name cause.NotOpened) (not_opened name.now ∷ [])
  refused : (source : Option ℕ) (before : List Given) (name : Bor (List ℕ)) (f : InputFault) (reads : List Event)
      → ReadsRefuse f reads → StopsAt source before (refusal_at name (cause.Input f)) (opened name.now ∷ reads)
  other_shape : (source : Option ℕ) (before : List Given) (name : Bor (List ℕ)) (g : Given) (events : List Event)
      → IsTaken source name.now g events → IsOfOtherShape (partials before) g.partial
      → StopsAt source before (refusal_at name cause.ShapeDiffers) events
  no_memory : (source : Option ℕ) (before : List Given) (name : Bor (List ℕ)) (g : Given) (events : List Event)
      → IsTaken source name.now g events → (IsOfOtherShape (partials before) g.partial → ⊥)
      → StopsAt source before (refusal_at name cause.OutOfMemory) events

-- the inputs before one were taken; that one, whose name the refusal has, stops the command for it; and nothing else was done
pub record StopsAtInput (source : Option ℕ) (names : List (List ℕ)) (r : Refusal) (events : List Event) : Type 0 where
  pub before : List (List ℕ)
  pub after : List (List ℕ)
  pub among : names ≡ before ++ r.name.now ∷ after
  pub givens : List Given
  pub reading : List Event
  pub taken : TakesAll source before givens reading
  pub last : List Event
  pub stops : StopsAt source givens r last
  pub events_are : events ≡ reading ++ last

-- the inputs before one of these names were taken, what they gave and the events of that one are so, and nothing else was done
pub record EndsAt (IsLast : List Given → List ℕ → List Event → Type 0) (source : Option ℕ) (names : List (List ℕ)) (events : List Event)
    : Type 0 where
  pub before : List (List ℕ)
  pub name : List ℕ
  pub after : List (List ℕ)
  pub among : names ≡ before ++ name ∷ after
  pub givens : List Given
  pub reading : List Event
  pub taken : TakesAll source before givens reading
  pub last : List Event
  pub is_last : IsLast givens name last
  pub events_are : events ≡ reading ++ last

-- what is held where this was joined to what was: to nothing at first
abbrev pub joined_with : Option PartialPicture → PartialPicture → PartialPicture
joined_with None p = p
joined_with (Some old) p = union old p

-- what is held is the union of these, and nothing where there is none
abbrev pub IsHeld : List PartialPicture → Option PartialPicture → Type 0
IsHeld ps None = ps ≡ []
IsHeld ps (Some p) = IsUnionOf ps p

-- this has the shape of what was held, and was joined to it
pub record JoinsWith (held : Option PartialPicture) (p new : PartialPicture) : Type 0 where
  pub one_shape : IfSome held (λ old. has_same_shape old p ≡ true)
  pub union_is : new ≡ joined_with held p

-- an input of this name was opened and read, and what it gave was joined to what was held; it says whether the input was read whole
pub record JoinsInput (source : Option ℕ) (name : List ℕ) (held : Option PartialPicture) (new : PartialPicture) (whole : Bool)
    (events : List Event) : Type 0 where
  pub given : Given
  pub taken : IsTaken source name given events
  pub joined : JoinsWith held given.partial new
  pub whole_is : IsTrue whole ↔ (given.stop ≡ Whole)

-- the bytes are the text of a partial picture, and that was joined to what was held
pub record JoinsText (held : Option PartialPicture) (bytes : List ℕ) (new : PartialPicture) : Type 0 where
  pub said : PartialPicture
  pub is_text : IsTextOf bytes said
  pub joined : JoinsWith held said new

-- why this was not joined to what was held: it is of another shape; or it is not, and memory ran out
pub data CantJoin : Option PartialPicture → PartialPicture → Refusal → Type 0 where
  differs : (old p : PartialPicture) (name : Bor (List ℕ)) → has_same_shape old p ≡ false
      → CantJoin (Some old) p (refusal_at name cause.ShapeDiffers)
  runs_out : (old p : PartialPicture) (name : Bor (List ℕ)) → (has_same_shape old p ≡ false → ⊥)
      → CantJoin (Some old) p (refusal_at name cause.OutOfMemory)

-- why the bytes were not joined to it as a text: this is their first fault, unless memory ran out; or what they say is of another shape
pub data CantJoinText : Option PartialPicture → List ℕ → Refusal → Type 0 where
  refused_text : (held : Option PartialPicture) (bytes : List ℕ) (name : Bor (List ℕ)) (f : TextFault) → Fails f (read_text bytes)
      → CantJoinText held bytes (refusal_at name (cause.Input (input_fault_of f)))
  other_text : (old said : PartialPicture) (bytes : List ℕ) (name : Bor (List ℕ)) → IsTextOf bytes said
      → has_same_shape old said ≡ false → CantJoinText (Some old) bytes (refusal_at name cause.ShapeDiffers)
