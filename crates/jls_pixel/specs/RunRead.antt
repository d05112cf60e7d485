-- A run that is read: what it says of the bits.
use Rattle.std.specs.Prelude.{◌≡◌, ℕ, ◌<◌, ◌≤◌, Bool, false, List, ◌∷◌, ◌++◌}
use Rattle.jls_interval.specs.Runs.{blocks}
use Rattle.jls_interval.specs.Code.{run_to_end_bits, interrupted_run_bits}
use Rattle.jls_interval.specs.Reading.{Taken}
use Rattle.jls_pixel.specs.declared.run.Run.{Run}
use Rattle.jls_pixel.specs.declared.run.Run.TheVariants.{ToEnd, Interrupted}

-- the run, from RUNindex r0 on where w0 columns are left, stands at the start of the bits, and these are after it
abbrev pub RunIs : ℕ → ℕ → List Bool → List Bool → Run → Type 0
RunIs r0 w0 given unread (ToEnd run_index) =
    (given ≡ run_to_end_bits (blocks r0 w0) ++ unread) × ((blocks r0 w0).run_index ≡ run_index)
RunIs r0 w0 given unread (Interrupted count run_index) =
    (given ≡ interrupted_run_bits (blocks r0 count) unread) × ((blocks r0 count).run_index ≡ run_index)

-- the numbers of a run, where w0 columns were left
abbrev pub IsRun : ℕ → Run → Type 0
IsRun w0 (ToEnd run_index) = run_index ≤ 31
IsRun w0 (Interrupted count run_index) = (count < w0) × (run_index ≤ 31)

-- some full blocks of the run were read, and a zero after them
abbrev pub RunStarts : ℕ → ℕ → List Bool → ℕ → ℕ → List Bool → Type 0
RunStarts r0 w0 given run_index columns left = Taken r0 w0 given run_index columns (false ∷ left)
