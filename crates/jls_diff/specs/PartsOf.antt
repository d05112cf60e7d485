-- The parts that the code holds, as parts of lists of bytes.
use Rattle.std.specs.Prelude.{ℕ, List, map}
use Rattle.std.proofs.Common.{Bor}
use Rattle.jls_diff.specs.Parts as spec
use Rattle.jls_diff.specs.declared.part.Part.{Part}
use Rattle.jls_diff.specs.declared.part.Part.TheVariants.{Same, Differ}

-- the bytes that slices show
abbrev pub bytes_of : List (Bor (List ℕ)) → List (List ℕ)
bytes_of slices = map (λ slice. slice.now) slices

-- a part of the code, as the bytes that its slices show
abbrev pub part_of : Part → spec.Part
part_of (Same bytes) = spec.Same bytes.now
part_of (Differ ways) = spec.Differ (bytes_of ways.items)

-- several parts, as bytes
abbrev pub parts_of : List Part → List spec.Part
parts_of parts = map part_of parts
