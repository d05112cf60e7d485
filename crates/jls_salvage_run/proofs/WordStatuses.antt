-- The statuses of runs whose words are refused, ask for help, or ask for nothing that there is; 5 is for want of memory.
use Rattle.std.proofs.Common.{◌≡◌, ◌⊎◌, ℕ, true, false, List, inl, inr, refl}
use Rattle.clap.specs.Words.{IsAmong, Text, fault_of}
use Rattle.clap.specs.declared.error.kind.ErrorKind.{ErrorKind}
use Rattle.jls_io.specs.Event.{Event}
use Rattle.jls_cli.specs.Answers.{is_help}
use Rattle.jls_cli.specs.SalvageWords.{AreRefused, salvage_app}
use Rattle.jls_cli.specs.SalvageAsking.{AskForNothing}
use Rattle.jls_salvage_run.specs.Runs.{Run, came_of, misused, helped, help_cut, nothing_begun, nothing_asked}

-- no fault in the words is a wish for help: 2
are_misused : (words : List Text) (status : ℕ) (desk report faults : List Event) (k : ErrorKind) → AreRefused words k
    → ((k' : ErrorKind) → IsAmong k' (fault_of salvage_app words) → is_help k' ≡ false)
    → Run words status desk report faults → (status ≡ 2) ⊎ (status ≡ 5)
are_misused w s d r f k refused none (came_of _ _ _ _ _ _ asks _ _) = absurd (refused.not_taken asks.taken)
are_misused w s d r f k refused none (misused _ _ _ _ _ _ _) = inl refl
are_misused w s d r f k refused none (helped _ k' _ _ are is _) = let is_not = none k' are.found in absurd cc
are_misused w s d r f k refused none (help_cut _ k' _ _ _ _ are is _ _) = let is_not = none k' are.found in absurd cc
are_misused w s d r f k refused none (nothing_begun _ _ _) = inr refl
are_misused w s d r f k refused none (nothing_asked _ _ asks _) = absurd (refused.not_taken asks.taken)

-- each is one: 0, or 4 where a write failed
ask_for_help : (words : List Text) (status : ℕ) (desk report faults : List Event) (k : ErrorKind) → AreRefused words k
    → ((k' : ErrorKind) → IsAmong k' (fault_of salvage_app words) → is_help k' ≡ true)
    → Run words status desk report faults → (status ≡ 0) ⊎ ((status ≡ 4) ⊎ (status ≡ 5))
ask_for_help w s d r f k refused each (came_of _ _ _ _ _ _ asks _ _) = absurd (refused.not_taken asks.taken)
ask_for_help w s d r f k refused each (misused _ k' _ _ are is_not _) = let is = each k' are.found in absurd cc
ask_for_help w s d r f k refused each (helped _ _ _ _ _ _ _) = inl refl
ask_for_help w s d r f k refused each (help_cut _ _ _ _ _ _ _ _ _ _) = inr (inl refl)
ask_for_help w s d r f k refused each (nothing_begun _ _ _) = inr (inr refl)
ask_for_help w s d r f k refused each (nothing_asked _ _ asks _) = absurd (refused.not_taken asks.taken)

-- an option has a value that it doesn't take: 2
ask_for_nothing : (words : List Text) (status : ℕ) (desk report faults : List Event) → AskForNothing words
    → Run words status desk report faults → (status ≡ 2) ⊎ (status ≡ 5)
ask_for_nothing w s d r f nothing (came_of _ _ _ _ _ _ asks _ _) = let a = nothing.asks in let b = asks.asks in absurd cc
ask_for_nothing w s d r f nothing (misused _ _ _ _ are _ _) = absurd (are.not_taken nothing.taken)
ask_for_nothing w s d r f nothing (helped _ _ _ _ are _ _) = absurd (are.not_taken nothing.taken)
ask_for_nothing w s d r f nothing (help_cut _ _ _ _ _ _ are _ _ _) = absurd (are.not_taken nothing.taken)
ask_for_nothing w s d r f nothing (nothing_begun _ _ _) = inr refl
ask_for_nothing w s d r f nothing (nothing_asked _ _ _ _) = inl refl
