-- Reads, one event after the other.
use Rattle.std.proofs.Common.{◌≡◌, ℕ, false, List, [], ◌∷◌, ◌++◌, drop, sym, subst, arith}
use Rattle.std.specs.List.{list_any}
use Rattle.std.proofs.lemmas.List.{drop_all}
use Rattle.jls_io.specs.Event.{Event, opened, not_opened, gave, read_failed, created, not_created, took, write_failed, is_opening}
use Rattle.jls_memory.specs.Files.{File}
use Rattle.jls_memory.specs.Inputs.{Reads}

-- reads, and then more of them
pub reads_on : (inputs : List File) (left mid rest : List ℕ) (a b : List Event) → Reads inputs left mid a → Reads inputs mid rest b
    → Reads inputs left rest (a ++ b)
reads_on inputs left mid rest [] b h k = subst (λ (l : List ℕ). Reads inputs l rest b) (sym h) k
reads_on inputs left mid rest (opened name ∷ a) b h k = (h.0, h.1, reads_on inputs h.0 mid rest a b h.2 k)
reads_on inputs left mid rest (not_opened name ∷ a) b h k = (h.0, reads_on inputs left mid rest a b h.1 k)
reads_on inputs left mid rest (gave room bytes ∷ a) b h k = (h.0, reads_on inputs (drop room left) mid rest a b h.1 k)
reads_on inputs left mid rest (read_failed ∷ a) b h k = absurd h
reads_on inputs left mid rest (created name ∷ a) b h k = reads_on inputs left mid rest a b h k
reads_on inputs left mid rest (not_created name ∷ a) b h k = reads_on inputs left mid rest a b h k
reads_on inputs left mid rest (took bytes ∷ a) b h k = reads_on inputs left mid rest a b h k
reads_on inputs left mid rest (write_failed ∷ a) b h k = reads_on inputs left mid rest a b h k

-- where no input was opened, nothing is left
pub nothing_left : (inputs : List File) (rest : List ℕ) (events : List Event) → list_any is_opening events ≡ false
    → Reads inputs [] rest events → rest ≡ []
nothing_left inputs rest [] e h = sym h
nothing_left inputs rest (opened name ∷ more) e h = absurd cc
nothing_left inputs rest (not_opened name ∷ more) e h = nothing_left inputs rest more e h.1
nothing_left inputs rest (gave room bytes ∷ more) e h =
    let none : drop room [] ≡ [] = drop_all room [] (omega arith) in
    nothing_left inputs rest more e (subst (λ (l : List ℕ). Reads inputs l rest more) none h.1)
nothing_left inputs rest (read_failed ∷ more) e h = absurd h
nothing_left inputs rest (created name ∷ more) e h = nothing_left inputs rest more e h
nothing_left inputs rest (not_created name ∷ more) e h = nothing_left inputs rest more e h
nothing_left inputs rest (took bytes ∷ more) e h = nothing_left inputs rest more e h
nothing_left inputs rest (write_failed ∷ more) e h = nothing_left inputs rest more e h
