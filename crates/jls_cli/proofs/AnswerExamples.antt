-- The statuses with which words are answered that clap refused: 2, or 0 where they ask for help or the version.
-- It is 4 if that can't be printed, and 5 for want of memory.
use Rattle.std.proofs.Common.{◌≡◌, ◌⊎◌, ℕ, true, List, inl, inr, refl}
use Rattle.clap.specs.declared.error.kind.ErrorKind.{ErrorKind}
use Rattle.clap.specs.declared.error.kind.ErrorKind.TheVariants as kind
use Rattle.jls_io.specs.Event.{Event}
use Rattle.jls_cli.specs.Answers.{Answer, is_help, ran_out, usage, help, cut}

no_words : (program : List ℕ) (status : ℕ) (report faults : List Event) → Answer program kind.MissingRequiredArgument status report faults
    → (status ≡ 2) ⊎ (status ≡ 5)
no_words program status report faults (ran_out _ _ _) = inr refl
no_words program status report faults (usage _ _ _ _ _ _) = inl refl
no_words program status report faults (help _ _ _ is _) = absurd cc
no_words program status report faults (cut _ _ _ _ _ is _ _) = absurd cc

asks_for_help : (program : List ℕ) (k : ErrorKind) (status : ℕ) (report faults : List Event) → is_help k ≡ true
    → Answer program k status report faults → (status ≡ 0) ⊎ ((status ≡ 4) ⊎ (status ≡ 5))
asks_for_help program k status report faults asks (ran_out _ _ _) = inr (inr refl)
asks_for_help program k status report faults asks (usage _ _ _ _ is_not _) = absurd cc
asks_for_help program k status report faults asks (help _ _ _ _ _) = inl refl
asks_for_help program k status report faults asks (cut _ _ _ _ _ _ _ _) = inr (inl refl)

-- both kinds ask for help
both_ask : (is_help kind.DisplayHelp ≡ true) × (is_help kind.DisplayVersion ≡ true)
both_ask = (refl, refl)
