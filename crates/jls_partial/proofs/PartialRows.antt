-- Small pictures worked out by hand: faults, readings in order, and the status of a line.
use Rattle.std.proofs.Common.{◌≡◌, List, [], ◌∷◌, map, Some, None, refl, ap}
use Rattle.std.specs.Prelude.{filter, ◌&&◌, ◌==◌}
use Rattle.std.specs.List.Sorted.{IsStrictlySortedBy}
use Rattle.jls_values.specs.OrderedSetLaws.{items-from_list}
use Rattle.jls_values.specs.Shape.{PictureShape}
use Rattle.jls_partial.specs.declared.insert_fault.InsertFault.TheVariants.{Component, Line, Width, Sample}
use Rattle.jls_partial.specs.declared.status.Status.TheVariants.{Missing, Settled, Disputed}
use Rattle.jls_partial.specs.InsertFaults.{samples_fault, reading_fault}
use Rattle.jls_partial.specs.Partial.{PartialPicture, nothing_known, with_reading, readings_at}
use Rattle.jls_partial.specs.Reading.{Reading, reading_of, reading_cmp}
use Rattle.jls_partial.specs.ReadingOrder.{reading_total}
use Rattle.jls_partial.specs.Status.{status_of}

-- ---- faults, the first of several

-- two lines of one sample of 8 bits
abbrev one_sample : PictureShape
one_sample = record { precision = 8; width = 1; height = 2; ids = 1 ∷ [] }

component_first : reading_fault one_sample 1 2 (256 ∷ 0 ∷ []) ≡ Some Component
component_first = refl

then_line : reading_fault one_sample 0 2 (256 ∷ 0 ∷ []) ≡ Some Line
then_line = refl

then_width : reading_fault one_sample 0 1 (256 ∷ 0 ∷ []) ≡ Some Width
then_width = refl

then_sample : reading_fault one_sample 0 1 (256 ∷ []) ≡ Some Sample
then_sample = refl

no_fault : reading_fault one_sample 0 1 (255 ∷ []) ≡ None
no_fault = refl

line_too_long : samples_fault 8 1 (3 ∷ 3 ∷ []) ≡ Some Width
line_too_long = refl

sample_too_large : samples_fault 8 1 (256 ∷ []) ≡ Some Sample
sample_too_large = refl

-- ---- the readings 5 and then 3 of one line

-- nothing is known of it
abbrev nothing : PartialPicture
nothing = nothing_known one_sample

-- line 0 was read as 5
abbrev five : PartialPicture
five = with_reading nothing 0 0 (5 ∷ [])

-- line 0 was read as 5 and as 3
abbrev both : PartialPicture
both = with_reading five 0 0 (3 ∷ [])

-- the readings in their order
abbrev in_order : List Reading
in_order = reading_of 0 0 (3 ∷ []) ∷ reading_of 0 0 (5 ∷ []) ∷ []

rises : IsStrictlySortedBy reading_cmp in_order
unfolding IsStrictlySortedBy
rises = ((refl, tt), (tt, tt))

three_before_five : readings_at both 0 0 ≡ (3 ∷ []) ∷ (5 ∷ []) ∷ []
three_before_five = ap (λ (rs : List Reading). map (λ r. r.samples) (filter (λ r. r.component == 0 && r.line == 0) rs))
    (items-from_list reading_total in_order rises)

none_of_the_next : readings_at both 0 1 ≡ []
none_of_the_next = ap (λ (rs : List Reading). map (λ r. r.samples) (filter (λ r. r.component == 0 && r.line == 1) rs))
    (items-from_list reading_total in_order rises)

disputed : status_of (readings_at both 0 0) ≡ Disputed
disputed = ap status_of three_before_five

missing : status_of (readings_at both 0 1) ≡ Missing
missing = ap status_of none_of_the_next

settled : status_of ((5 ∷ []) ∷ []) ≡ Settled
settled = refl
