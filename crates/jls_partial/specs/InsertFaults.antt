-- Which readings fit a picture's shape: those that have no fault. The others are not taken.
use Rattle.std.specs.Prelude.{◌≡◌, ℕ, ◌^◌, not, ◌==◌, nat_le, List, length, Option, Some, None, Result, Err, IfErr, if◌then◌else◌}
use Rattle.std.specs.List.{list_any}
use Rattle.jls_values.specs.Shape.{PictureShape}
use Rattle.jls_partial.specs.declared.insert_fault.InsertFault.{InsertFault}
use Rattle.jls_partial.specs.declared.insert_fault.InsertFault.TheVariants.{Component, Line, Width, Sample, OutOfMemory}

-- the first fault of a line's samples, in a picture of this precision and width
abbrev pub samples_fault : ℕ → ℕ → List ℕ → Option InsertFault
samples_fault precision width samples =
    if not (length samples == width) then Some Width
    else if list_any (λ x. nat_le (2 ^ precision) x) samples then Some Sample
    else None

-- the first fault of a reading, in a picture of this shape
abbrev pub reading_fault : PictureShape → ℕ → ℕ → List ℕ → Option InsertFault
reading_fault shape component line samples =
    if nat_le (length shape.ids) component then Some Component
    else if nat_le shape.height line then Some Line
    else samples_fault shape.precision shape.width samples

-- if there is a fault, the result is that fault; if there is none, it is a value or "out of memory"
abbrev pub Refuses : {X : Type 0} → Option InsertFault → Result X InsertFault → Type 0
Refuses (Some fault) result = result ≡ Err fault
Refuses None result = IfErr result (λ e. e ≡ OutOfMemory)
