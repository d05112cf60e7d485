-- A station takes a file by sample, of one pixel of three components. Memory runs out first, then a call leaves the station as it was, and
-- then the file is taken. Under the wide profile that is a history of files; under the strict one the same file gives nothing.
use Rattle.std.proofs.Common.{◌≡◌, true, List, [], ◌∷◌, None, refl, sym, ap, ◌∙◌}
use Rattle.jls_values.specs.Join.{IsBetween}
use Rattle.jls_partial.specs.Partial.{PartialPicture, nothing_known, has_same_shape, union}
use Rattle.jls_partial.specs.PartialLaws.{partial_laws}
use Rattle.jls_marker.specs.declared.profile.Profile.TheVariants.{Strict, Wide}
use Rattle.jls_copy_laws.proofs.Members.{bytes_of_test}
use Rattle.jls_copy_laws.proofs.SampleExamples.{shape, copy, wide_read, wide_reads, read, reads}
use Rattle.jls_headline.specs.Sources.{SourcedCopy, sourced_copy}
use Rattle.jls_headline.specs.TookFiles.{IsReadUnder, TookFiles, TookFilesFrom, no_file_taken, file_taken, file_refused, file_ran_out}

abbrev file : SourcedCopy
file = sourced_copy None copy

abbrev new : PartialPicture
new = nothing_known shape

-- what has as much as at first, and no more than with this
still_new : (p : PartialPicture) → has_same_shape new p ≡ true → IsBetween union new new (union new p)
still_new p same = (
  partial_laws.idempotent new,
  sym (partial_laws.associative new new p refl same) ∙ ap (λ (q : PartialPicture). union q p) (partial_laws.idempotent new),
)

is_read_widely : IsReadUnder Wide file wide_read.partial
is_read_widely = record { are_bytes = bytes_of_test copy refl; read = wide_read; reads = wide_reads; partial_is = refl }

took_widely : TookFiles Wide (union new wide_read.partial) (file ∷ []) (file ∷ [])
took_widely =
    file_taken new (union new wide_read.partial) wide_read.partial [] (file ∷ []) file
    (file_refused new new [] (file ∷ [])
    (file_ran_out new new wide_read.partial [] [] file (no_file_taken shape new refl) is_read_widely
    (still_new wide_read.partial refl)) refl)
    is_read_widely refl refl

took_from : TookFilesFrom Wide (union new wide_read.partial) (file ∷ [])
took_from = (file ∷ [], took_widely, λ other c. (other, c, refl))

is_read_strictly : IsReadUnder Strict file read.partial
is_read_strictly = record { are_bytes = bytes_of_test copy refl; read = read; reads = reads; partial_is = refl }

took_strictly : TookFiles Strict (union new read.partial) (file ∷ []) []
took_strictly =
    file_taken new (union new read.partial) read.partial [] [] file (no_file_taken shape new refl) is_read_strictly refl refl
