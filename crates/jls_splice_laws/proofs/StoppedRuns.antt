-- Runs that stop: each has a status above 1.
use Rattle.std.proofs.Common.{◌≡◌, ◌<◌, ℕ, List, Option, Some, None, inl, inr, get_or, ap, arith}
use Rattle.jls_io.specs.Event.{Event}
use Rattle.jls_marker.specs.declared.fault.MarkerFault.{MarkerFault}
use Rattle.jls_station.specs.CopyFiles.{CopyBytes}
use Rattle.jls_station.specs.declared.copy.CopyCause.{CopyCause}
use Rattle.jls_station.specs.declared.copy.CopyCause.TheVariants as copy
use Rattle.jls_station.specs.declared.input.ReadStop.{ReadStop}
use Rattle.jls_station.specs.declared.input.ReadStop.TheVariants.{Whole, Failed, Turns}
use Rattle.jls_search.specs.declared.shape_found.ShapeFound.{ShapeFound}
use Rattle.jls_search.specs.declared.shape_found.ShapeFound.TheVariants.{Taken, Differ, NoFrame}
use Rattle.jls_cli.specs.Outcomes.{status_of_cause}
use Rattle.jls_cli.specs.Outputs as outputs
use Rattle.jls_cli.specs.Outputs.{StopsAtOutput}
use Rattle.jls_cli.specs.SpliceAsking.{Asked}
use Rattle.jls_cli.specs.declared.outcome.Cause.{Cause}
use Rattle.jls_cli.specs.declared.outcome.Cause.TheVariants as cause
use Rattle.jls_cli.specs.declared.outcome.Refusal.{Refusal}
use Rattle.jls_splice_run.specs.BadLists.{IsListRefused, StopsAtLists, list_names, none_read, not_read, not_taken, no_memory}
use Rattle.jls_splice_run.specs.BadLists.{not_whole, not_understood}
use Rattle.jls_splice_run.specs.Copies.{StopsAtCopies, cause_of, stops_read}
use Rattle.jls_splice_run.specs.Handing.{StopsAtSingleFile, StopsAtNumber, StopsInHanding, Texts, at_file, at_files, at_output, at_report}
use Rattle.jls_splice_run.specs.Handing.{number_cut, number_not_there}
use Rattle.jls_splice_run.specs.Inputs.{StopsAtInputs, at_copies, at_lists, at_witnesses}
use Rattle.jls_splice_run.specs.Listing.{NamedFile}
use Rattle.jls_splice_run.specs.Making.{CantMake, IsRefusedFor, IsWantOfMemory, no_picture_cause}

-- a cause with such a status
above_1 : (r : Refusal) (c : Cause) → r.cause ≡ c → 1 < status_of_cause c → 1 < status_of_cause r.cause
above_1 r c is lt = let same = ap status_of_cause is in omega (arith, same, lt)

copy_above : (c : CopyCause) → 1 < status_of_cause (cause_of c)
copy_above copy.NotOpened = omega arith
copy_above copy.PartialPicture = omega arith
copy_above copy.OutOfMemory = omega arith

copies_above : (names : List (List ℕ)) (r : Refusal) (events : List Event) → StopsAtCopies names r events → 1 < status_of_cause r.cause
copies_above names r events h = above_1 r (cause_of h.refusal.cause) h.cause_is (copy_above h.refusal.cause)

no_picture_above : (stop : ReadStop) (f : MarkerFault) (offset : ℕ) → 1 < status_of_cause (no_picture_cause stop f offset)
no_picture_above Whole f offset = omega arith
no_picture_above Failed f offset = omega arith
no_picture_above Turns f offset = omega arith

refused_above : (names : List (List ℕ)) (stops : List ReadStop) (found : ShapeFound) (r : Refusal) → IsRefusedFor names stops found r
    → 1 < status_of_cause r.cause
refused_above names stops (Taken shape) r h = absurd h
refused_above names stops (Differ copy) r h = above_1 r cause.ShapeDiffers h.1 (omega arith)
refused_above names stops (NoFrame f offset) r h =
    above_1 r (no_picture_cause (get_or stops 0 Whole) f offset) h.1 (no_picture_above (get_or stops 0 Whole) f offset)

memory_above : (a : Asked) (r : Refusal) → IsWantOfMemory a r → 1 < status_of_cause r.cause
memory_above a r h = above_1 r cause.OutOfMemory h.1 (omega arith)

list_above : (file : CopyBytes) (c : Cause) → IsListRefused file c → 1 < status_of_cause c
list_above file _ (not_whole part) = omega arith
list_above file _ (not_understood line whole fault) = omega arith

lists_above : (a : Asked) (r : Refusal) (events : List Event) → StopsAtLists a r events → 1 < status_of_cause r.cause
lists_above a r _ (none_read want) = memory_above a r want
lists_above a r _ (not_read events stops) = copies_above (list_names a.bad) r events stops
lists_above a r _ (not_taken lists events are stopped) = list_above stopped.file r.cause stopped.refused
lists_above a r _ (no_memory lists events are want) = memory_above a r want

pub inputs_above : (a : Asked) (r : Refusal) (events : List Event) → StopsAtInputs a r events → 1 < status_of_cause r.cause
inputs_above a r _ (at_copies reading stops) = copies_above a.copies r reading stops
inputs_above a r _ (at_lists read reading listing are stops) = lists_above a r listing stops
inputs_above a r _ (at_witnesses read searched reading listing witnessing are are_searched stops) =
    copies_above a.witnesses r witnessing stops

pub unmade_above : (a : Asked) (copies : List CopyBytes) (r : Refusal) → CantMake a copies r → 1 < status_of_cause r.cause
unmade_above a copies r (inl want) = memory_above a r want
unmade_above a copies r (inr (ceiling, f, found, inl want)) = memory_above a r want
unmade_above a copies r (inr (ceiling, f, found, inr (shape, is, refused))) = refused_above a.copies (stops_read copies) shape r refused

output_above : (name bytes : List ℕ) (r : Refusal) (events : List Event) → StopsAtOutput name bytes r events → 1 < status_of_cause r.cause
output_above name bytes r _ (outputs.not_there named is) = above_1 r cause.NotCreated is (omega arith)
output_above name bytes r _ (outputs.cut count writes named is h) = above_1 r (cause.NotWritten count) is (omega arith)

file_above : (name file : Option (List ℕ)) (r : Refusal) (events : List Event) → StopsAtSingleFile name file r events → 1
    < status_of_cause r.cause
file_above (Some name) (Some bytes) r events h = output_above name bytes r events h
file_above (Some name) None r events h = absurd h
file_above None file r events h = absurd h

number_above : (prefix : List ℕ) (number : ℕ) (file : NamedFile) (r : Refusal) (events : List Event)
    → StopsAtNumber prefix number file r events
    → 1 < status_of_cause r.cause
number_above prefix number file r _ (number_not_there named is) = above_1 r (cause.FileNotCreated number) is (omega arith)
number_above prefix number file r _ (number_cut count writes named is h) = above_1 r (cause.FileNotWritten number count) is (omega arith)

pub handing_above : (t : Texts) (r : Refusal) (desk report : List Event) → StopsInHanding t r desk report → 1 < status_of_cause r.cause
handing_above t r _ _ (at_report report h) = above_1 r (cause.NotWritten h.count) h.cause_is (omega arith)
handing_above t r _ _ (at_output desk report wrote h) = output_above t.out t.text r desk h
handing_above t r _ _ (at_file writing more report wrote handed h) = file_above t.file_name t.file r more h
handing_above t r _ _ (at_files writing more rest report wrote handed one h) = number_above t.prefix _ h.file r h.stop h.stops
