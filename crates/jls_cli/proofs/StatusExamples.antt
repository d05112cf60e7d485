-- The exit status of each cause, and of each command that is done.
use Rattle.std.proofs.Common.{◌≡◌, ℕ, Bool, true, false, [], ◌∷◌, Err, map, refl}
use Rattle.jls_marker.specs.declared.fault.MarkerFault.{MarkerFault}
use Rattle.jls_partial.specs.declared.text_fault.TextFault.{TextFault}
use Rattle.jls_station.specs.declared.input.ReadStop.{ReadStop}
use Rattle.jls_station.specs.declared.input.InputFault.TheVariants as fault
use Rattle.jls_cli.specs.Outcomes.{exit_status, finished, status_of_cause}
use Rattle.jls_cli.specs.declared.outcome.Cause.TheVariants as cause
use Rattle.jls_cli.specs.declared.outcome.Refusal.{Refusal}

-- 0 and 1 where every input was read whole
done : map (λ o. exit_status o) (finished true true ∷ finished false true ∷ finished true false ∷ finished false false ∷ []) ≡ 0 ∷ 1 ∷ 4 ∷ 4
    ∷ []
done = refl

-- 2 is for words; 3 for what an input is; 4 for a device that fails; 5 for want of memory
module _ (text_fault : TextFault) (marker_fault : MarkerFault) (stop : ReadStop) (offset id line count : ℕ) (disputed : Bool) where
  too_large : status_of_cause cause.TooLarge ≡ 2
  too_large = refl

  unsettled : status_of_cause (cause.Unsettled id line disputed) ≡ 1
  unsettled = refl

  unfit_inputs : map status_of_cause
      (cause.Input (fault.Text text_fault) ∷ cause.Input (fault.NoPicture marker_fault offset) ∷ cause.ShapeDiffers ∷ [])
      ≡ 3 ∷ 3 ∷ 3 ∷ []
  unfit_inputs = refl

  unfit_copies : map status_of_cause (cause.PartialPicture ∷ cause.NoPicture marker_fault offset ∷ cause.NoList line ∷ []) ≡ 3 ∷ 3 ∷ 3 ∷ []
  unfit_copies = refl

  failed_inputs : map status_of_cause (cause.NotOpened ∷ cause.Input (fault.Read stop offset) ∷ cause.NotRead ∷ []) ≡ 4 ∷ 4 ∷ 4 ∷ []
  failed_inputs = refl

  failed_outputs : map status_of_cause (cause.NotCreated ∷ cause.NotWritten count ∷ []) ≡ 4 ∷ 4 ∷ []
  failed_outputs = refl

  numbered_failures : map status_of_cause (cause.FileNotCreated offset ∷ cause.FileNotWritten offset count ∷ []) ≡ 4 ∷ 4 ∷ []
  numbered_failures = refl

  wants_of_memory : map status_of_cause (cause.Input fault.OutOfMemory ∷ cause.OutOfMemory ∷ []) ≡ 5 ∷ 5 ∷ []
  wants_of_memory = refl

-- a command that is refused has the status of its cause
refused : (r : Refusal) → exit_status (Err r) ≡ status_of_cause r.cause
refused r = refl
