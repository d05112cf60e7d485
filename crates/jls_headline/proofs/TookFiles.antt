-- By induction over a history of files: under the strict profile, what took them is collected from copies.
use Rattle.std.proofs.Common.{List, [], ◌∷◌, ◌++◌, subst}
use Rattle.std.proofs.lemmas.List.{append-nil}
use Rattle.jls_partial.specs.Partial.{PartialPicture}
use Rattle.jls_marker.specs.declared.profile.Profile.TheVariants.{Strict}
use Rattle.jls_headline.specs.Sources.{SourcedCopy}
use Rattle.jls_headline.specs.Collected.{Knowledge, Collected, new_station, reader_finished, same_again, partial_taken, partial_ran_out}
use Rattle.jls_headline.specs.TookFiles.{IsReadUnder, no_file_taken, file_taken, file_refused, file_ran_out, StrictFilesAreCollected}

one_copy : (known : Knowledge) (file : SourcedCopy) (p : PartialPicture) → IsReadUnder Strict file p → Collected known p (file ∷ []) []
one_copy known file p r = reader_finished file.source file.bytes r.read p r.are_bytes r.reads r.partial_is

pub strict_files_are_collected : StrictFilesAreCollected
strict_files_are_collected _ _ _ (no_file_taken shape station is) known = new_station shape station is
strict_files_are_collected _ _ _ (file_taken old new p files over file took read same is) known =
    subst (Collected known new (files ++ file ∷ [])) (append-nil over)
    (partial_taken old new p files over (file ∷ []) [] (strict_files_are_collected old files over took known) (one_copy known file p read)
    same is)
strict_files_are_collected _ _ _ (file_refused old new files over took is) known =
    same_again old new files over (strict_files_are_collected old files over took known) is
strict_files_are_collected _ _ _ (file_ran_out old new p files over file took read between) known =
    partial_ran_out old new p files over (file ∷ []) [] (strict_files_are_collected old files over took known) (one_copy known file p read)
    between
