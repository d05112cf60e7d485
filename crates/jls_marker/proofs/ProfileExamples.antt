-- Scan headers by each value of ILV, under both profiles.
use Rattle.std.proofs.Common.{◌≡◌, ℕ, true, false, Bool, List, [], ◌∷◌, length, Some, Ok, Err, refl}
use Rattle.std.specs.Prelude.{◌%◌, ◌&&◌, ◌||◌, ◌==◌, not, nat_le}
use Rattle.std.specs.List.{list_all}
use Rattle.jls_values.specs.Shape.{has_repeat}
use Rattle.jls_marker.specs.ComponentIndex.{index_of}
use Rattle.jls_marker.specs.HeaderState.{HeaderState, no_headers, no_headers_under}
use Rattle.jls_marker.specs.Headers.{taking}
use Rattle.jls_marker.specs.Layouts.{ScanHeader}
use Rattle.jls_marker.specs.Profiles.{takes_interleave}
use Rattle.jls_marker.specs.Scan.{Scan}
use Rattle.jls_marker.specs.ScanSelection.{selection, sample_selection, sample_selection_of}
use Rattle.jls_marker.specs.Segments.{scan_ids, scan_tests, segment_of, segment_under}
use Rattle.jls_marker.specs.Written.{payload_of, segment_bytes}
use Rattle.jls_marker.specs.declared.fault.MarkerFault.TheVariants as fault
use Rattle.jls_marker.specs.declared.profile.Profile.TheVariants.{Strict, Wide}
use Rattle.jls_marker.specs.declared.segment.Segment.TheVariants as segment

-- the payload of a scan header of the components 1, 2 and 3 with this value of ILV, of 1 and 2, and of 1 alone
abbrev three : ℕ → List ℕ
three interleave = 3 ∷ 1 ∷ 0 ∷ 2 ∷ 0 ∷ 3 ∷ 0 ∷ 0 ∷ interleave ∷ 0 ∷ []

abbrev two : ℕ → List ℕ
two interleave = 2 ∷ 1 ∷ 0 ∷ 2 ∷ 0 ∷ 0 ∷ interleave ∷ 0 ∷ []

abbrev one : ℕ → List ℕ
one interleave = 1 ∷ 1 ∷ 0 ∷ 0 ∷ interleave ∷ 0 ∷ []

-- ---- three components by sample

strict_three : segment_of 0xDA (three 2) ≡ Err fault.Interleave
strict_three = refl

wide_three : segment_under Wide 0xDA (three 2) ≡ Ok (segment.Scan (sample_selection (1 ∷ 2 ∷ 3 ∷ [])))
wide_three = refl

wide_two : segment_under Wide 0xDA (two 2) ≡ Ok (segment.Scan (sample_selection (1 ∷ 2 ∷ [])))
wide_two = refl

-- it is written as it was read
written_three : segment_bytes 0xDA (payload_of (segment.Scan (sample_selection (1 ∷ 2 ∷ 3 ∷ [])))) ≡ 0xFF ∷ 0xDA ∷ 0 ∷ 0x0C ∷ three 2
written_three = refl

-- ---- one component by sample, and ILV 3 and 255

wide_one : segment_under Wide 0xDA (one 2) ≡ Err fault.Interleave
wide_one = refl

wide_above : segment_under Wide 0xDA (three 3) ≡ Err fault.Interleave
wide_above = refl

wide_far_above : segment_under Wide 0xDA (three 255) ≡ Err fault.Interleave
wide_far_above = refl

-- ---- by line and alone, nothing differs

wide_by_line : segment_under Wide 0xDA (three 1) ≡ Ok (segment.Scan (selection (1 ∷ 2 ∷ 3 ∷ []) true))
wide_by_line = refl

wide_alone : segment_under Wide 0xDA (one 0) ≡ Ok (segment.Scan (selection (1 ∷ []) false))
wide_alone = refl

wide_line_alone : segment_under Wide 0xDA (one 1) ≡ Ok (segment.Scan (selection (1 ∷ []) true))
wide_line_alone = refl

wide_not_interleaved : segment_under Wide 0xDA (two 0) ≡ Err fault.Interleave
wide_not_interleaved = refl

-- ILV is judged after NEAR and before Al, as ever
wide_near : segment_under Wide 0xDA (2 ∷ 1 ∷ 0 ∷ 2 ∷ 0 ∷ 1 ∷ 3 ∷ 1 ∷ []) ≡ Err fault.Lossy
wide_near = refl

wide_interleave : segment_under Wide 0xDA (2 ∷ 1 ∷ 0 ∷ 2 ∷ 0 ∷ 0 ∷ 3 ∷ 1 ∷ []) ≡ Err fault.Interleave
wide_interleave = refl

wide_point_transform : segment_under Wide 0xDA (2 ∷ 1 ∷ 0 ∷ 2 ∷ 0 ∷ 0 ∷ 2 ∷ 1 ∷ []) ≡ Err fault.PointTransform
wide_point_transform = refl

-- ---- the strict tests are those of ILV 0 and 1, for each header

strict_tests : (h : ScanHeader) → scan_tests Strict h
    ≡ (not (has_repeat (scan_ids h)), fault.RepeatedComponent)
    ∷ (list_all (λ c. c.table == 0) h.components, fault.MappingTable)
    ∷ (h.near == 0, fault.Lossy)
    ∷ (nat_le h.interleave 1 && (nat_le (length h.components) 1 || (h.interleave == 1)), fault.Interleave)
    ∷ (h.approximation % 16 == 0, fault.PointTransform)
    ∷ []
strict_tests h = refl

-- which of ILV 0 to 3 are taken, of one component and of two
strict_values : (takes_interleave Strict 1 0 ≡ true) × (takes_interleave Strict 1 1 ≡ true) × (takes_interleave Strict 1 2 ≡ false)
    × (takes_interleave Strict 1 3 ≡ false) × (takes_interleave Strict 2 0 ≡ false) × (takes_interleave Strict 2 1 ≡ true)
    × (takes_interleave Strict 2 2 ≡ false) × (takes_interleave Strict 2 3 ≡ false)
strict_values = (refl, refl, refl, refl, refl, refl, refl, refl)

wide_values : (takes_interleave Wide 1 0 ≡ true) × (takes_interleave Wide 1 1 ≡ true) × (takes_interleave Wide 1 2 ≡ false)
    × (takes_interleave Wide 1 3 ≡ false) × (takes_interleave Wide 2 0 ≡ false) × (takes_interleave Wide 2 1 ≡ true)
    × (takes_interleave Wide 2 2 ≡ true) × (takes_interleave Wide 2 3 ≡ false)
wide_values = (refl, refl, refl, refl, refl, refl, refl, refl)

-- ---- a selection by sample is judged by its number, its repeats, and whether there are several

by_sample : sample_selection_of (7 ∷ 8 ∷ []) ≡ Ok (sample_selection (7 ∷ 8 ∷ []))
by_sample = refl

by_sample_none : sample_selection_of [] ≡ Err fault.Length
by_sample_none = refl

by_sample_five : sample_selection_of (1 ∷ 2 ∷ 3 ∷ 4 ∷ 5 ∷ []) ≡ Err fault.Length
by_sample_five = refl

by_sample_twice : sample_selection_of (7 ∷ 7 ∷ []) ≡ Err fault.RepeatedComponent
by_sample_twice = refl

by_sample_one : sample_selection_of (7 ∷ []) ≡ Err fault.Interleave
by_sample_one = refl

-- ---- headers of a frame of three components, of five columns and ten lines

abbrev framed : HeaderState → HeaderState
framed h = record h { frame = Some (record { precision = 8; width = 5; height = 10; ids = 3 ∷ 2 ∷ 1 ∷ [] }) }

strict_headers : taking (framed no_headers) (segment_of 0xDA (three 2)) ≡ Err fault.Interleave
strict_headers = refl

-- the components are in the order of the scan
abbrev scan : Bool → Scan
scan by_sample = record {
  components = 2 ∷ 1 ∷ 0 ∷ [];
  params = record { precision = 8; maxval = 255; t1 = 3; t2 = 7; t3 = 21; reset = 64 };
  width = 5;
  height = 10;
  restart_interval = 0;
  by_sample = by_sample;
}

wide_headers : taking (framed (no_headers_under Wide)) (segment_under Wide 0xDA (three 2))
    ≡ Ok (record (framed (no_headers_under Wide)) { scans = 1 }, Some (scan true))
unfolding index_of
wide_headers = refl

wide_headers_by_line : taking (framed (no_headers_under Wide)) (segment_under Wide 0xDA (three 1))
    ≡ Ok (record (framed (no_headers_under Wide)) { scans = 1 }, Some (scan false))
unfolding index_of
wide_headers_by_line = refl
