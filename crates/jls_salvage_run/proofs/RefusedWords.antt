-- Answers to words that clap refused, as runs.
use Rattle.std.proofs.Common.{◌≡◌, ℕ, true, false, inl, inr, List, [], sym, ap, ◌∙◌}
use Rattle.std.specs.Prelude.{◌⊎◌}
use Rattle.clap.specs.Words.{Text}
use Rattle.clap.specs.declared.error.kind.ErrorKind.{ErrorKind}
use Rattle.clap.specs.declared.error.kind.ErrorKind.TheVariants as kind
use Rattle.jls_io.specs.Event.{Event}
use Rattle.jls_cli.specs.Answers.{is_help, is_want_of_memory, Answer, ran_out, usage, help, cut}
use Rattle.jls_cli.specs.SalvageWords.{AreRefused}
use Rattle.jls_salvage_run.specs.FaultLines.{program}
use Rattle.jls_salvage_run.specs.Runs.{Run, misused, helped, help_cut, nothing_begun}

-- an answer is a run, where the kind is one of those that clap has for the words
pub run_of_answer : (words : List Text) (k : ErrorKind) (status : ℕ) (report faults : List Event)
    → (k ≡ kind.OutOfMemory) ⊎ AreRefused words k → Answer program k status report faults → Run words status [] report faults
run_of_answer words k _ _ faults r (ran_out _ _ line) = nothing_begun words faults line
run_of_answer words k _ _ faults (inr r) (usage _ text _ m n line) = misused words k text faults r n line
run_of_answer words k _ _ faults (inl is) (usage _ text _ m n line) = let e : true ≡ false = sym (ap is_want_of_memory is) ∙ m in absurd cc
run_of_answer words k _ report _ (inr r) (help _ text _ n wrote) = helped words k text report r n wrote
run_of_answer words k _ report _ (inl is) (help _ text _ n wrote) = let e : false ≡ true = sym (ap is_help is) ∙ n in absurd cc
run_of_answer words k _ report faults (inr r) (cut _ text count _ _ n wrote line) = help_cut words k text count report faults r n wrote line
run_of_answer words k _ report faults (inl is) (cut _ text count _ _ n wrote line) = let e : false ≡ true = sym (ap is_help is) ∙ n in
    absurd cc
