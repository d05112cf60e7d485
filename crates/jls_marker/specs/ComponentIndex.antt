-- The components of a frame by their identifiers: which of them a scan has, and which identifiers are unknown.
use Rattle.std.specs.Prelude.{ℕ, ◌==◌, List}
use Rattle.std.specs.List.{position_or_len}

-- the index of an identifier in a frame, or the number of its components if it is not there
unfoldable pub index_of : List ℕ → ℕ → ℕ
index_of frame_ids id = position_or_len (λ other. other == id) frame_ids
