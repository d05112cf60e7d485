-- The JPEG-LS file of a picture under given options (T.81 B.2.1 and B.2.2, T.87 C.1 and C.2): SOI, the header segments, the scans, EOI.
-- That LSE and DRI stand only where they say something, that components without interleaving have a scan each, and that nothing else is
-- written, no fill either, is this project's choice.
use Rattle.std.specs.Prelude.{ℕ, ◌+◌, ◌-◌, ◌%◌, Bool, ◌&&◌, ◌==◌, nat_lt, if◌then◌else◌, List, [], ◌∷◌}
use Rattle.std.specs.Prelude.{◌++◌, map, length, get_or}
use Rattle.std.specs.List.{flat_map, range_with_len}
use Rattle.jls_values.specs.Params.{CodingParameters}
use Rattle.jls_values.specs.ParamsOf.{in_force}
use Rattle.jls_values.specs.PresetParameters.{no_presets}
use Rattle.jls_interval.specs.Reads.{packed}
use Rattle.jls_marker.specs.Scan.{Scan, scan_with, intervals, first_row, row_count}
use Rattle.jls_marker.specs.ScanSelection.{selection}
use Rattle.jls_marker.specs.Written.{segment_bytes, payload_of, code_of}
use Rattle.jls_marker.specs.declared.segment.Segment.{Segment}
use Rattle.jls_marker.specs.declared.segment.Segment.TheVariants as segment
use Rattle.jls_write.specs.Picture.{WholePicture, line_of}
use Rattle.jls_write.specs.Options.{WriteOptions}

-- ---- the header segments

-- marker, length and payload
abbrev pub bytes_of : Segment → List ℕ
bytes_of s = segment_bytes (code_of s) (payload_of s)

-- whether MAXVAL, the thresholds and RESET are those of other parameters
abbrev pub are_values_of : CodingParameters → CodingParameters → Bool
are_values_of d p = (p.maxval == d.maxval) && ((p.t1 == d.t1) && ((p.t2 == d.t2) && ((p.t3 == d.t3) && (p.reset == d.reset))))

-- whether they are the defaults of the precision (T.87 C.2.4.1.1)
abbrev pub are_defaults : CodingParameters → Bool
are_defaults p = are_values_of (in_force p.precision no_presets) p

-- LSE of ID 1 with the values in force, if they aren't all defaults (T.87 C.2.4.1.1)
abbrev pub preset_segments : CodingParameters → List Segment
preset_segments p = if are_defaults p then [] else segment.Preset p.maxval p.t1 p.t2 p.t3 p.reset ∷ []

-- DRI, if there is a restart interval (T.81 B.2.4.4)
abbrev pub restart_segments : ℕ → List Segment
restart_segments rows = if rows == 0 then [] else segment.Restart rows ∷ []

-- SOF55, LSE, DRI (T.87 C.2.4.1.1; T.81 B.2.4.4)
abbrev pub header_segments : WholePicture → WriteOptions → List Segment
header_segments pic o = segment.Frame pic.shape ∷ (preset_segments o.params ++ restart_segments o.restart_interval)

-- ---- the scans

-- the components of each scan, by their indices in the frame: all in one, or each in a scan of its own (T.87 C.2.3)
abbrev pub components_of_scans : WholePicture → WriteOptions → List (List ℕ)
components_of_scans pic o =
    if o.line then range_with_len 0 (length pic.shape.ids) ∷ [] else map (λ c. c ∷ []) (range_with_len 0 (length pic.shape.ids))

-- a scan of these components (T.87 C.2.3)
abbrev pub scan_of : WholePicture → WriteOptions → List ℕ → Scan
scan_of pic o components = scan_with pic.shape components o.params o.restart_interval

-- SOS of a scan of these components: ILV is 1 for more than one, interleaved by line, and 0 for one (T.87 C.2.3)
abbrev pub scan_segment : WholePicture → List ℕ → Segment
scan_segment pic components =
    segment.Scan (selection (map (λ c. get_or pic.shape.ids c 0) components) (nat_lt 1 (length components)))

-- a row: a line of each component
abbrev pub row_lines : WholePicture → List ℕ → ℕ → List (List ℕ)
row_lines pic components row = map (λ c. line_of pic c row) components

-- the lines of interval k, row by row (T.81 B.2.1)
abbrev pub interval_lines : WholePicture → Scan → ℕ → List (List ℕ)
interval_lines pic s k = flat_map (row_lines pic s.components) (range_with_len (first_row s k) (row_count s k))

-- the code of interval k (T.81 B.2.1)
abbrev pub interval_code : WholePicture → Scan → ℕ → List ℕ
interval_code pic s k = packed s.params s.width (length s.components) (interval_lines pic s k)

-- the restart marker after interval k: RSTm, m counting from 0 to 7 and anew (T.81 B.2.1)
abbrev pub restart_marker : ℕ → List ℕ
restart_marker k = 0xFF ∷ (0xD0 + k % 8) ∷ []

-- the bytes before interval k: SOS before the first, and a restart marker before each other (T.81 B.2.1)
abbrev pub before_interval : WholePicture → Scan → ℕ → List ℕ
before_interval pic s k = if k == 0 then bytes_of (scan_segment pic s.components) else restart_marker (k - 1)

-- the bytes of an interval, with the mark before it
abbrev pub marked_interval : WholePicture → Scan → ℕ → List ℕ
marked_interval pic s k = before_interval pic s k ++ interval_code pic s k

-- all intervals of a scan, each with the bytes before it (T.81 B.2.1)
abbrev pub scan_bytes : WholePicture → Scan → List ℕ
scan_bytes pic s = flat_map (marked_interval pic s) (range_with_len 0 (intervals s))

-- ---- the file

-- SOI and the segments before the first scan
abbrev pub header_bytes : WholePicture → WriteOptions → List ℕ
header_bytes pic o = 0xFF ∷ 0xD8 ∷ flat_map bytes_of (header_segments pic o)

-- all scans of a file
abbrev pub scans_bytes : WholePicture → WriteOptions → List ℕ
scans_bytes pic o = flat_map (λ components. scan_bytes pic (scan_of pic o components)) (components_of_scans pic o)

-- the JPEG-LS file of a picture under given options: SOI and the header segments, the scans, EOI, and nothing else (T.81 B.2.1, B.2.2; T.87
-- C.1, C.2)
abbrev pub written_file : WholePicture → WriteOptions → List ℕ
written_file pic o = header_bytes pic o ++ (scans_bytes pic o ++ 0xFF ∷ 0xD9 ∷ [])
