-- A scan of a file in work. No public contract cites these words.
use Rattle.std.specs.Prelude.{◌≡◌, ℕ, ◌+◌, ◌≤◌, if◌then◌else◌, length}
use Rattle.std.specs.List.{range_with_len}
use Rattle.jls_values.specs.Shape.{IsShape}
use Rattle.jls_values.specs.Params.{AreCodingParameters}
use Rattle.jls_marker.specs.Scan.{Scan}
use Rattle.jls_write.specs.Picture.{WholePicture}
use Rattle.jls_write.specs.Options.{WriteOptions, OptionsFit, components_of_scan}
use Rattle.jls_write.specs.WrittenFile.{scan_of}

-- the scan of so many components, from the one with this index on
abbrev pub scan_from : WholePicture → WriteOptions → ℕ → ℕ → Scan
scan_from pic o first count = scan_of pic o (range_with_len first count)

-- how many scans there are
abbrev pub scan_count : WholePicture → WriteOptions → ℕ
scan_count pic o = if o.line then 1 else length pic.shape.ids

-- it is one that can be written
pub record IsScanFrom (pic : WholePicture) (o : WriteOptions) (first count : ℕ) : Type 0 where
  pub fit : OptionsFit pic o
  pub shape : IsShape pic.shape
  pub params : AreCodingParameters o.params
  pub some : 1 ≤ count
  pub within : first + count ≤ length pic.shape.ids
  pub of_scan : count ≡ components_of_scan pic.shape o
