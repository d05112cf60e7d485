-- Where borders stand in the files that choices make.
use Rattle.std.specs.Prelude.{ℕ, ◌+◌, List, length, take, Option, Some, None}
use Rattle.jls_diff.specs.Parts.{Part}
use Rattle.jls_search.specs.Choices.{prefix_of}
use Rattle.jls_diff.specs.declared.border.Border.{Border}

-- the offset of a border in the file that choices make
abbrev pub offset_of : List Part → List ℕ → Border → ℕ
offset_of parts choices border = length (prefix_of parts (take border.part choices)) + border.at

-- and of the border that ends a group, if one does
abbrev pub end_offset_of : List Part → List ℕ → Option Border → Option ℕ
end_offset_of parts choices None = None
end_offset_of parts choices (Some border) = Some (offset_of parts choices border)
