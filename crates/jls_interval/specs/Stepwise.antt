-- Codes that are read step by step: at a state some events can come next, each with its bits, and each leads to a state.
use Rattle.std.specs.Prelude.{◌≡◌, Bool, List, [], ◌∷◌, ◌++◌}

-- a code that is read step by step: its states, the events that can come next in each, and their bits
pub record StepwiseCode : Type 1 where
  pub State : Type 0
  pub Event : Type 0
  -- what holds at each state that is reached
  pub Sound : State → Type 0
  -- the event can come next
  pub Next : State → Event → Type 0
  pub after : State → Event → State
  pub step_bits : State → Event → List Bool

-- these events, one after another, lead from one state to another
abbrev pub Leads : (m : StepwiseCode) → m.State → List m.Event → m.State → Type 0
Leads m s [] z = s ≡ z
Leads m s (e ∷ es) z = m.Next s e × Leads m (m.after s e) es z

-- the bits of events, one after another
abbrev pub bits_of_steps : (m : StepwiseCode) → m.State → List m.Event → List Bool
bits_of_steps m s [] = []
bits_of_steps m s (e ∷ es) = m.step_bits s e ++ bits_of_steps m (m.after s e) es

-- no event can come next
abbrev pub IsEnd : (m : StepwiseCode) → m.State → Type 0
IsEnd m s = (e : m.Event) → m.Next s e → ⊥

-- of two different events that can come next at one sound state, neither's bits begin the other's
abbrev pub IsPrefixFree : StepwiseCode → Type 0
IsPrefixFree m =
    (s : m.State) (e f : m.Event) (t u : List Bool) → m.Sound s → m.Next s e → m.Next s f → m.step_bits s e ++ t ≡ m.step_bits s f ++ u
    → e ≡ f

-- each event that can come next leads to a sound state
abbrev pub IsKept : StepwiseCode → Type 0
IsKept m = (s : m.State) (e : m.Event) → m.Sound s → m.Next s e → m.Sound (m.after s e)
