-- The definitions on payloads that were written out by hand.
use Rattle.std.proofs.Common.{◌≡◌, ℕ, true, false, [], ◌∷◌, Some, Ok, Err, refl}
use Rattle.jls_values.specs.Shape.{PictureShape}
use Rattle.jls_values.specs.Params.{CodingParameters}
use Rattle.jls_marker.specs.ScanSelection.{selection, selection_of}
use Rattle.jls_marker.specs.Scan.{Scan, intervals, first_row, row_count}
use Rattle.jls_marker.specs.Segments.{segment_of}
use Rattle.jls_marker.specs.Written.{payload_of, segment_bytes, code_of}
use Rattle.jls_marker.specs.HeaderState.{HeaderState, no_headers}
use Rattle.jls_marker.specs.ComponentIndex.{index_of}
use Rattle.jls_marker.specs.Headers.{accepted}
use Rattle.jls_marker.specs.declared.fault.MarkerFault.TheVariants as fault
use Rattle.jls_marker.specs.declared.segment.Segment.TheVariants as segment

-- a frame of one column and ten lines, and one of two components
abbrev column : PictureShape
column = record { precision = 8; width = 1; height = 10; ids = 1 ∷ [] }

frame : segment_of 0xF7 (8 ∷ 0 ∷ 10 ∷ 0 ∷ 1 ∷ 1 ∷ 1 ∷ 0x11 ∷ 0 ∷ []) ≡ Ok (segment.Frame column)
frame = refl

two : segment_of 0xF7 (8 ∷ 0 ∷ 1 ∷ 0 ∷ 1 ∷ 2 ∷ 1 ∷ 0x11 ∷ 0 ∷ 2 ∷ 0x11 ∷ 0 ∷ [])
    ≡ Ok (segment.Frame (record { precision = 8; width = 1; height = 1; ids = 1 ∷ 2 ∷ [] }))
two = refl

written_frame : segment_bytes (code_of (segment.Frame column)) (payload_of (segment.Frame column)) ≡ 0xFF ∷ 0xF7 ∷ 0 ∷ 0x0B ∷ 8 ∷ 0 ∷ 10 ∷ 0
    ∷ 1 ∷ 1 ∷ 1 ∷ 0x11 ∷ 0 ∷ []
written_frame = refl

-- a precision of 1 and a sampling of 2 by 1: the shape is judged first; a component too few is judged before both
shape_first : segment_of 0xF7 (1 ∷ 0 ∷ 1 ∷ 0 ∷ 1 ∷ 1 ∷ 1 ∷ 0x21 ∷ 0 ∷ []) ≡ Err fault.BadShape
shape_first = refl

sampling : segment_of 0xF7 (8 ∷ 0 ∷ 1 ∷ 0 ∷ 1 ∷ 1 ∷ 1 ∷ 0x21 ∷ 0 ∷ []) ≡ Err fault.Sampling
sampling = refl

length_first : segment_of 0xF7 (1 ∷ 0 ∷ 1 ∷ 0 ∷ 1 ∷ 2 ∷ 1 ∷ 0x21 ∷ 0 ∷ []) ≡ Err fault.Length
length_first = refl

-- scans of one and of two components
one : segment_of 0xDA (1 ∷ 1 ∷ 0 ∷ 0 ∷ 0 ∷ 0 ∷ []) ≡ Ok (segment.Scan (selection (1 ∷ []) false))
one = refl

by_line : segment_of 0xDA (2 ∷ 1 ∷ 0 ∷ 2 ∷ 0 ∷ 0 ∷ 1 ∷ 0 ∷ []) ≡ Ok (segment.Scan (selection (1 ∷ 2 ∷ []) true))
by_line = refl

written_scan : segment_bytes 0xDA (payload_of (segment.Scan (selection (1 ∷ 2 ∷ []) true))) ≡ 0xFF ∷ 0xDA ∷ 0 ∷ 0x0A ∷ 2 ∷ 1
    ∷ 0 ∷ 2 ∷ 0 ∷ 0 ∷ 1 ∷ 0 ∷ []
written_scan = refl

-- all faults in one header, taken away one by one; Ah is free
repeated : segment_of 0xDA (2 ∷ 1 ∷ 1 ∷ 1 ∷ 0 ∷ 1 ∷ 2 ∷ 1 ∷ []) ≡ Err fault.RepeatedComponent
repeated = refl

table : segment_of 0xDA (2 ∷ 1 ∷ 1 ∷ 2 ∷ 0 ∷ 1 ∷ 2 ∷ 1 ∷ []) ≡ Err fault.MappingTable
table = refl

near : segment_of 0xDA (2 ∷ 1 ∷ 0 ∷ 2 ∷ 0 ∷ 1 ∷ 2 ∷ 1 ∷ []) ≡ Err fault.Lossy
near = refl

interleave : segment_of 0xDA (2 ∷ 1 ∷ 0 ∷ 2 ∷ 0 ∷ 0 ∷ 2 ∷ 1 ∷ []) ≡ Err fault.Interleave
interleave = refl

not_interleaved : segment_of 0xDA (2 ∷ 1 ∷ 0 ∷ 2 ∷ 0 ∷ 0 ∷ 0 ∷ 0x21 ∷ []) ≡ Err fault.Interleave
not_interleaved = refl

point_transform : segment_of 0xDA (2 ∷ 1 ∷ 0 ∷ 2 ∷ 0 ∷ 0 ∷ 1 ∷ 0x21 ∷ []) ≡ Err fault.PointTransform
point_transform = refl

free : segment_of 0xDA (2 ∷ 1 ∷ 0 ∷ 2 ∷ 0 ∷ 0 ∷ 1 ∷ 0x20 ∷ []) ≡ Ok (segment.Scan (selection (1 ∷ 2 ∷ []) true))
free = refl

-- LSE
preset : segment_of 0xF8 (1 ∷ 0 ∷ 15 ∷ 0 ∷ 0 ∷ 0 ∷ 0 ∷ 0 ∷ 0 ∷ 0 ∷ 0 ∷ []) ≡ Ok (segment.Preset 15 0 0 0 0)
preset = refl

written_preset : segment_bytes 0xF8 (payload_of (segment.Preset 15 2 3 4 64)) ≡ 0xFF ∷ 0xF8 ∷ 0 ∷ 0x0D ∷ 1 ∷ 0 ∷ 0x0F ∷ 0 ∷ 2 ∷ 0 ∷ 3 ∷ 0
    ∷ 4 ∷ 0 ∷ 0x40 ∷ []
written_preset = refl

no_id : segment_of 0xF8 [] ≡ Err fault.Length
no_id = refl

short_preset : segment_of 0xF8 (1 ∷ 0 ∷ []) ≡ Err fault.Length
short_preset = refl

unknown_id : segment_of 0xF8 (4 ∷ []) ≡ Err fault.LseId
unknown_id = refl

mapping : segment_of 0xF8 (3 ∷ []) ≡ Ok (segment.Skipped 0xF8)
mapping = refl

-- DRI of two, three and four bytes
restart_2 : segment_of 0xDD (0 ∷ 1 ∷ []) ≡ Ok (segment.Restart 1)
restart_2 = refl

restart_3 : segment_of 0xDD (1 ∷ 0 ∷ 0 ∷ []) ≡ Ok (segment.Restart 65536)
restart_3 = refl

restart_4 : segment_of 0xDD (0 ∷ 0 ∷ 0 ∷ 5 ∷ []) ≡ Ok (segment.Restart 5)
restart_4 = refl

restart_1 : segment_of 0xDD (5 ∷ []) ≡ Err fault.Length
restart_1 = refl

written_restart : segment_bytes 0xDD (payload_of (segment.Restart 65536)) ≡ 0xFF ∷ 0xDD ∷ 0 ∷ 5 ∷ 1 ∷ 0 ∷ 0 ∷ []
written_restart = refl

-- other codes
application : segment_of 0xE8 (0xAA ∷ 0xBB ∷ []) ≡ Ok (segment.Skipped 0xE8)
application = refl

arithmetic : segment_of 0xC9 [] ≡ Err fault.UnknownMarker
arithmetic = refl

-- a selection is judged by its number, its repeats and its interleaving
none : selection_of [] false ≡ Err fault.Length
none = refl

twice : selection_of (7 ∷ 7 ∷ []) false ≡ Err fault.RepeatedComponent
twice = refl

apart : selection_of (7 ∷ 8 ∷ []) false ≡ Err fault.Interleave
apart = refl

-- a frame of 65,535 by 65,535: too large without restart intervals, and with 4,096 rows not
abbrev large : ℕ → HeaderState
large rows = record no_headers
    { frame = Some (record { precision = 8; width = 65535; height = 65535; ids = 1 ∷ [] }); restart_interval = rows }

too_large : accepted (large 0) (segment.Scan (selection (1 ∷ []) false)) ≡ Err fault.IntervalTooLarge
unfolding index_of
too_large = refl

abbrev defaults : CodingParameters
defaults = record { precision = 8; maxval = 255; t1 = 3; t2 = 7; t3 = 21; reset = 64 }

abbrev large_scan : Scan
large_scan =
    record { components = 0 ∷ []; params = defaults; width = 65535; height = 65535; restart_interval = 4096; by_sample = false }

not_too_large : accepted (large 4096) (segment.Scan (selection (1 ∷ []) false))
    ≡ Ok (record (large 4096) { scans = 1 }, Some large_scan)
unfolding index_of
not_too_large = refl

its_intervals : intervals large_scan ≡ 16
its_intervals = refl

the_last : (first_row large_scan 15 ≡ 61440) × (row_count large_scan 15 ≡ 4095)
the_last = (refl, refl)

-- before the frame; a second frame; a component that is not in the frame; the preset of 12 bits at 8; a seventeenth scan
no_frame : accepted no_headers (segment.Scan (selection (1 ∷ []) false)) ≡ Err fault.NoFrame
no_frame = refl

second_frame : accepted (large 0) (segment.Frame column) ≡ Err fault.SecondFrame
second_frame = refl

unknown : accepted (large 0) (segment.Scan (selection (2 ∷ []) false)) ≡ Err fault.UnknownComponent
unfolding index_of
unknown = refl

bad_params : accepted (record (large 0) { preset = record { maxval = 4095; t1 = 0; t2 = 0; t3 = 0; reset = 0 } })
    (segment.Scan (selection (1 ∷ []) false)) ≡ Err fault.BadParams
unfolding index_of
bad_params = refl

seventeenth : accepted (record (large 4096) { scans = 16 }) (segment.Scan (selection (1 ∷ []) false)) ≡ Err fault.TooManyScans
unfolding index_of
seventeenth = refl
