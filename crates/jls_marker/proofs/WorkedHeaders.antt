-- The headers after several segments, and which codes have a segment, worked out by hand.
use Rattle.std.proofs.Common.{◌≡◌, ℕ, false, List, [], ◌∷◌, Option, Some, None, Result, Ok, Err, refl}
use Rattle.std.specs.List.{filter, range_with_len}
use Rattle.jls_marker.specs.ComponentIndex.{index_of}
use Rattle.jls_marker.specs.HeaderState.{HeaderState, no_headers}
use Rattle.jls_marker.specs.Headers.{taking}
use Rattle.jls_marker.specs.MarkerCodes.{has_segment}
use Rattle.jls_values.specs.PresetParameters.{PresetParameters, no_presets}
use Rattle.jls_marker.specs.Scan.{Scan}
use Rattle.jls_marker.specs.Segments.{segment_of}
use Rattle.jls_marker.specs.Written.{payload_of}
use Rattle.jls_marker.specs.declared.fault.MarkerFault.{MarkerFault}
use Rattle.jls_marker.specs.declared.profile.Profile.TheVariants.{Strict}
use Rattle.jls_marker.specs.declared.segment.Segment.TheVariants as segment

-- these segments one after another, each a code and a payload; what the last one gives
abbrev following : List (ℕ × List ℕ) → Result (HeaderState × Option Scan) MarkerFault → Result (HeaderState × Option Scan) MarkerFault
following [] so_far = so_far
following (s ∷ more) (Ok now) = following more (taking now.0 (segment_of s.0 s.1))
following (s ∷ more) (Err f) = Err f

abbrev all_of : List (ℕ × List ℕ) → Result (HeaderState × Option Scan) MarkerFault
all_of segments = following segments (Ok (no_headers, None))

-- a frame of one column and ten lines; a restart interval of two rows; a scan; a comment and APP5; LSE of ID 1 and of ID 2
abbrev sof : ℕ × List ℕ
sof = (0xF7, 8 ∷ 0 ∷ 10 ∷ 0 ∷ 1 ∷ 1 ∷ 1 ∷ 0x11 ∷ 0 ∷ [])

abbrev dri : ℕ × List ℕ
dri = (0xDD, 0 ∷ 2 ∷ [])

abbrev sos : ℕ × List ℕ
sos = (0xDA, 1 ∷ 1 ∷ 0 ∷ 0 ∷ 0 ∷ 0 ∷ [])

abbrev comment : ℕ × List ℕ
comment = (0xFE, 0x68 ∷ 0x69 ∷ [])

abbrev app5 : ℕ × List ℕ
app5 = (0xE5, [])

abbrev lse_1 : ℕ × List ℕ
lse_1 = (0xF8, 1 ∷ 0 ∷ 200 ∷ 0 ∷ 4 ∷ 0 ∷ 8 ∷ 0 ∷ 22 ∷ 0 ∷ 32 ∷ [])

abbrev lse_2 : ℕ × List ℕ
lse_2 = (0xF8, 2 ∷ 1 ∷ 1 ∷ 0 ∷ [])

abbrev presets : PresetParameters
presets = record { maxval = 200; t1 = 4; t2 = 8; t3 = 22; reset = 32 }

-- the headers with these presets, and the scan with its parameters
abbrev given : PresetParameters → ℕ → ℕ → ℕ → ℕ → ℕ → ℕ → Result (HeaderState × Option Scan) MarkerFault
given p maxval t1 t2 t3 reset rows = Ok (
  record {
    profile = Strict;
    frame = Some (record { precision = 8; width = 1; height = 10; ids = 1 ∷ [] });
    preset = p;
    restart_interval = rows;
    scans = 1;
  },
  Some (record {
    components = 0 ∷ [];
    params = record { precision = 8; maxval = maxval; t1 = t1; t2 = t2; t3 = t3; reset = reset };
    width = 1;
    height = 10;
    restart_interval = rows;
    by_sample = false;
  }),
)

abbrev with_defaults : ℕ → Result (HeaderState × Option Scan) MarkerFault
with_defaults rows = given no_presets 255 3 7 21 64 rows

abbrev with_presets : ℕ → Result (HeaderState × Option Scan) MarkerFault
with_presets rows = given presets 200 4 8 22 32 rows

no_interval : all_of (sof ∷ sos ∷ []) ≡ with_defaults 0
unfolding index_of
no_interval = refl

interval_first : all_of (dri ∷ sof ∷ sos ∷ []) ≡ with_defaults 2
unfolding index_of
interval_first = refl

before_a_comment : all_of (sof ∷ dri ∷ comment ∷ sos ∷ []) ≡ with_defaults 2
unfolding index_of
before_a_comment = refl

before_app5 : all_of (sof ∷ dri ∷ app5 ∷ sos ∷ []) ≡ with_defaults 2
unfolding index_of
before_app5 = refl

before_presets : all_of (sof ∷ dri ∷ lse_1 ∷ sos ∷ []) ≡ with_presets 2
unfolding index_of
before_presets = refl

presets_first : all_of (lse_1 ∷ dri ∷ sof ∷ sos ∷ []) ≡ with_presets 2
unfolding index_of
presets_first = refl

mapping_between : all_of (sof ∷ lse_1 ∷ dri ∷ lse_2 ∷ sos ∷ []) ≡ with_presets 2
unfolding index_of
mapping_between = refl

-- DRI of no rows takes it away
taken_away : all_of (dri ∷ sof ∷ (0xDD, 0 ∷ 0 ∷ []) ∷ sos ∷ []) ≡ with_defaults 0
unfolding index_of
taken_away = refl

-- the sixteenth scan begins
sixteenth : following (sos ∷ [])
    (Ok (
      record {
        profile = Strict;
        frame = Some (record { precision = 8; width = 1; height = 10; ids = 1 ∷ [] });
        preset = no_presets;
        restart_interval = 0;
        scans = 15;
      },
      None,
    ))
    ≡ Ok (
      record {
        profile = Strict;
        frame = Some (record { precision = 8; width = 1; height = 10; ids = 1 ∷ [] });
        preset = no_presets;
        restart_interval = 0;
        scans = 16;
      },
      Some (record {
        components = 0 ∷ [];
        params = record { precision = 8; maxval = 255; t1 = 3; t2 = 7; t3 = 21; reset = 64 };
        width = 1;
        height = 10;
        restart_interval = 0;
        by_sample = false;
      }),
    )
unfolding index_of
sixteenth = refl

-- two, three and four bytes of DRI, at the ends of their ranges
two_bytes : payload_of (segment.Restart 65535) ≡ 0xFF ∷ 0xFF ∷ []
two_bytes = refl

three_bytes : payload_of (segment.Restart 16777215) ≡ 0xFF ∷ 0xFF ∷ 0xFF ∷ []
three_bytes = refl

half_of_three_bytes : payload_of (segment.Restart 8388608) ≡ 0x80 ∷ 0 ∷ 0 ∷ []
half_of_three_bytes = refl

four_bytes : payload_of (segment.Restart 16777216) ≡ 1 ∷ 0 ∷ 0 ∷ 0 ∷ []
four_bytes = refl

-- all codes that have a segment here: SOS, DRI, APP0 to APP15, SOF55, LSE and COM (T.81, table B.1; T.87, C.1.1)
codes : filter has_segment (range_with_len 0 256)
    ≡ 0xDA ∷ 0xDD ∷ 0xE0 ∷ 0xE1 ∷ 0xE2 ∷ 0xE3 ∷ 0xE4 ∷ 0xE5 ∷ 0xE6 ∷ 0xE7 ∷ 0xE8 ∷ 0xE9 ∷ 0xEA ∷ 0xEB ∷ 0xEC ∷ 0xED ∷ 0xEE ∷ 0xEF ∷ 0xF7
    ∷ 0xF8 ∷ 0xFE ∷ []
unfolding has_segment
codes = refl
