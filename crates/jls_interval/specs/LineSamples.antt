-- Samples of regular mode that are taken from the start of a chunk, one after another, in a line that goes on after them.
use Rattle.std.specs.Prelude.{◌≡◌, ℕ, ◌%◌, ◌≤◌, Bool, false, List, [], ◌∷◌, ◌++◌, length}
use Rattle.jls_values.specs.Params.{CodingParameters, limit, qbpp}
use Rattle.jls_context.specs.declared.mode.Neighbours.{Neighbours}
use Rattle.jls_context.specs.Mode.{is_run_mode, context}
use Rattle.jls_context.specs.Regular.{regular_k}
use Rattle.jls_context.specs.Variables.{Variables, cell_at}
use Rattle.jls_bits.specs.CodeState.{IsOpen, bits_fed}
use Rattle.jls_bits.specs.declared.code_state.CodeState.{CodeState}
use Rattle.jls_interval.specs.Events.{Event, regular, Above, above}
use Rattle.jls_interval.specs.Code.{event_bits}
use Rattle.jls_interval.specs.After.{IsAfter}
use Rattle.jls_interval.specs.Decoding.{IsWorking}
use Rattle.jls_interval.specs.declared.coder.Coder.{Coder}
use Rattle.jls_interval.specs.declared.line_reader.OpenEvent.{OpenEvent}
use Rattle.jls_interval.specs.declared.line_reader.LineReader.{LineReader}
use Rattle.jls_interval.specs.declared.line_samples.Prefix.{Prefix}
use Rattle.jls_interval.specs.declared.line_samples.Prefix.TheVariants.{Taken, Begun, Other}

-- the bits of a sample of regular mode were taken, and the coder carries what the sample leaves
pub record SampleTaken (p : CodingParameters) (near : Neighbours) (value : ℕ) (old new : Coder) (chunk unread : List Bool) : Type 0 where
  pub not_run : is_run_mode near ≡ false
  pub at_most : value ≤ p.maxval
  pub is_after : (earlier : List Event) → IsAfter p old.cells old.run_indices earlier → IsAfter p new.cells new.run_indices (earlier
      ++ regular near value ∷ [])
  pub bits_are : (earlier : List Event) → IsAfter p old.cells old.run_indices earlier → chunk ≡ event_bits p earlier (regular near value)
      ++ unread

-- all bits are the first ones of a sample of regular mode, and were taken
pub record SampleBegun (p : CodingParameters) (near : Neighbours) (cells : Variables) (code : CodeState)
    (chunk unread : List Bool) : Type 0 where
  pub not_run : is_run_mode near ≡ false
  pub opened : IsOpen (regular_k (cell_at cells (context p near))) (limit p) (qbpp p) code
  pub fed : chunk ≡ bits_fed (limit p) (qbpp p) code
  pub all : unread ≡ []

-- what stood at the start of the bits, and was taken
abbrev pub PrefixIs : CodingParameters → Neighbours → Coder → Coder → List Bool → List Bool → Prefix → Type 0
PrefixIs p near old new chunk unread (Taken value) = SampleTaken p near value old new chunk unread
PrefixIs p near old new chunk unread (Begun code) =
    SampleBegun p near old.cells code chunk unread × (new ≡ old)
PrefixIs p near old new chunk unread Other = (new ≡ old) × (unread ≡ chunk)

-- lines are still to come, and a reader has the one in work
abbrev pub Works : CodingParameters → ℕ → ℕ → List Bool → List (List ℕ) → LineReader → Type 0
Works p c n given lines reader =
    IsWorking p reader.width c n given lines reader.line.items reader.coder.cells reader.coder.run_indices reader.open_event

-- the first bits of a chunk were taken, and the line goes on
pub record TakenInLine (p : CodingParameters) (w c n : ℕ) (given : List Bool) (lines : List (List ℕ)) (line : List ℕ) (cells : Variables)
    (run_indices : List ℕ) (open_event : OpenEvent) (chunk unread : List Bool) : Type 0 where
  pub taken : List Bool
  pub chunk_is : chunk ≡ taken ++ unread
  pub works : IsWorking p w c n (given ++ taken) lines line cells run_indices open_event

-- the same of the line that a reader has
abbrev pub TakenBy : CodingParameters → ℕ → ℕ → List Bool → List (List ℕ) → LineReader → List Bool → List Bool → Type 0
TakenBy p c n given lines new chunk unread =
    TakenInLine p new.width c n given lines new.line.items new.coder.cells new.coder.run_indices new.open_event chunk unread

-- the same of a line of a component, whatever came before
abbrev pub TakesInLine : ℕ → Above → LineReader → LineReader → List Bool → List Bool → Type 0
TakesInLine component up old new chunk unread =
    (c n : ℕ) (given : List Bool) (lines : List (List ℕ)) → component ≡ length lines % c → up ≡ above c lines
    → Works old.coder.cells.parameters c n given lines old → TakenBy old.coder.cells.parameters c n given lines new chunk unread
