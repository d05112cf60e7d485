-- A Golomb code that is given several bits at once.
use Rattle.std.specs.Prelude.{◌≡◌, ℕ, ◌<◌, Bool, true, false, List, [], ◌∷◌, ◌++◌, length, replicate}
use Rattle.jls_bits.specs.CodeState.{StepIs}
use Rattle.jls_bits.specs.declared.code_state.CodeStep.{CodeStep}
use Rattle.jls_bits.specs.declared.code_state.CodeStep.TheVariants.{More, Done, Refused}

-- all bits were taken, and the code is still incomplete
abbrev pub AreAllBitsTaken : CodeStep → List Bool → Type 0
AreAllBitsTaken (More state) unread = unread ≡ []
AreAllBitsTaken (Done number) unread = Unit {0}
AreAllBitsTaken Refused unread = Unit {0}

-- the answer to several bits at once: which of them were taken, and what the bits so far are
pub record ChunkStep (k g qbpp : ℕ) (fed chunk unread : List Bool) (step : CodeStep) : Type 0 where
  pub taken : List Bool
  pub chunk_is : chunk ≡ taken ++ unread
  pub step_is : StepIs k g qbpp (fed ++ taken) step
  pub all : AreAllBitsTaken step unread

-- fewer than `limit` zeros, a one, and k bits after it don't stand at the start
abbrev pub NoShortPrefix : ℕ → ℕ → List Bool → Type 0
NoShortPrefix limit k given =
    (zeros : ℕ) (low rest : List Bool) → zeros < limit → length low ≡ k → given ≡ replicate zeros false ++ true ∷ (low ++ rest) → ⊥
