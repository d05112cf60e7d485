-- The single file without a fault, completed by EOI.
use Rattle.std.specs.Prelude.{◌≡◌, ℕ, List, Option, Some, None}
use Rattle.std.specs.List.{Contains}
use Rattle.jls_search.specs.Faultless.{IsFaultless}
use Rattle.jls_splice_run.specs.Completing.{IsCompleted}

-- one file has no fault, and with EOI it has these bytes; and so has each other one without a fault
pub record IsOnly (files : List (List ℕ)) (whole : List ℕ) : Type 0 where
  pub file : List ℕ
  pub among : Contains files file
  pub faultless : IsFaultless file
  pub completed : IsCompleted file whole
  pub alone : (other bytes : List ℕ) → Contains files other → IsFaultless other → IsCompleted other bytes → bytes ≡ whole

-- the single file without a fault, completed by EOI, if there is one
abbrev pub IsSingle : List (List ℕ) → Option (List ℕ) → Type 0
IsSingle files (Some whole) = IsOnly files whole
IsSingle files None = (whole : List ℕ) → IsOnly files whole → ⊥

-- the single file, if it is asked for
abbrev pub IsSingleAsked : {A : Type 0} → Option A → List (List ℕ) → Option (List ℕ) → Type 0
IsSingleAsked None files single = single ≡ None
IsSingleAsked (Some name) files single = IsSingle files single
