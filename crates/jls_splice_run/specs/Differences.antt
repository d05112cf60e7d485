-- Where copies differ.
use Rattle.std.specs.Prelude.{ℕ, Bool, true, false, List, [], ◌∷◌, length, take, get_or, if◌then◌else◌}
use Rattle.std.specs.List.{flat_map, range_with_len}
use Rattle.jls_diff.specs.Parts.{Part, Same, Differ, made, way}
use Rattle.jls_splice_run.specs.declared.differences.Difference.{Difference}

-- whether the copies differ at a part
abbrev pub is_differ : Part → Bool
is_differ (Same bytes) = false
is_differ (Differ ways) = true

-- the part at this place
abbrev pub part_at : List Part → ℕ → Part
part_at parts place = get_or parts place (Same [])

-- the offset of a part in the first copy: as many bytes as the parts before it make there
abbrev pub offset_at : List Part → ℕ → ℕ
offset_at parts place = length (made 0 (take place parts))

-- the difference at a place, where there is one: its offset in the first copy, and how many bytes that has there
abbrev pub difference_at : List Part → ℕ → List Difference
difference_at parts place =
    if is_differ (part_at parts place)
    then record { offset = offset_at parts place; length = length (way 0 (part_at parts place)) } ∷ []
    else []

-- all differences of copies, in their order
abbrev pub differences : List Part → List Difference
differences parts = flat_map (difference_at parts) (range_with_len 0 (length parts))
