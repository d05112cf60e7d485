-- What is shown of the lines of a partial picture: by component in the order of the frame, then by line from top to bottom.
use Rattle.std.specs.Prelude.{ℕ, List, [], ◌∷◌, map, length, replicate}
use Rattle.std.specs.List.{flat_map, range_with_len}
use Rattle.jls_partial.specs.Partial.{PartialPicture, readings_at}
use Rattle.jls_partial.specs.Status.{status_of}
use Rattle.jls_partial.specs.declared.status.Status.{Status}
use Rattle.jls_partial.specs.declared.status.Status.TheVariants.{Missing, Settled, Disputed}
use Rattle.jls_c.specs.declared.lines.JlsLine.{JlsLine}

-- the number of a status
abbrev pub status_number : Status → ℕ
status_number Missing = 0
status_number Settled = 1
status_number Disputed = 2

-- the number of the status of a line, by its readings
abbrev pub line_status : PartialPicture → ℕ → ℕ → ℕ
line_status p component line = status_number (status_of (readings_at p component line))

-- those of the lines of a component
abbrev pub component_statuses : PartialPicture → ℕ → List ℕ
component_statuses p component = map (line_status p component) (range_with_len 0 p.shape.height)

-- those of all lines
abbrev pub line_statuses : PartialPicture → List ℕ
line_statuses p = flat_map (component_statuses p) (range_with_len 0 (length p.shape.ids))

-- what is reported of a line: how many readings it has, and the number of its status
abbrev pub line_of : PartialPicture → ℕ → ℕ → JlsLine
line_of p component line = record { readings = length (readings_at p component line); status = line_status p component line }

-- what is reported of the lines of a component
abbrev pub lines_of_component : PartialPicture → ℕ → List JlsLine
lines_of_component p component = map (line_of p component) (range_with_len 0 p.shape.height)

-- what is reported of all lines
abbrev pub lines_of : PartialPicture → List JlsLine
lines_of p = flat_map (lines_of_component p) (range_with_len 0 (length p.shape.ids))

-- what is shown of a line of this width with these readings: the samples of its only reading, and otherwise zeros
abbrev pub shown : ℕ → List (List ℕ) → List ℕ
shown width (samples ∷ []) = samples
shown width [] = replicate width 0
shown width (first ∷ second ∷ others) = replicate width 0

-- what is shown of a line of a component
abbrev pub shown_line : PartialPicture → ℕ → ℕ → List ℕ
shown_line p component line = shown p.shape.width (readings_at p component line)

-- what is shown of the lines of a component
abbrev pub shown_component : PartialPicture → ℕ → List ℕ
shown_component p component = flat_map (shown_line p component) (range_with_len 0 p.shape.height)

-- what is shown of all lines
abbrev pub shown_picture : PartialPicture → List ℕ
shown_picture p = flat_map (shown_component p) (range_with_len 0 (length p.shape.ids))
