-- What marker segments set is what the headers take of them.
use Rattle.std.specs.Prelude.{◌≡◌, ℕ, List, Option, Ok, ◌↔◌}
use Rattle.jls_marker.specs.HeaderState.{HeaderState, IsHeaderState}
use Rattle.jls_marker.specs.Headers.{headers_after}
use Rattle.jls_marker.specs.Scan.{Scan}
use Rattle.jls_marker.specs.SegmentLaws.{AreBytes}
use Rattle.jls_marker.specs.declared.profile.Profile.TheVariants.{Strict}
use Rattle.jls_copy_laws.specs.SegmentSets.{Sets}

-- strict headers in their ranges take a segment whose payload consists of bytes exactly where it sets something, and that is what it sets
abbrev pub SegmentsSetTheHeaders : Type 0
SegmentsSetTheHeaders = (h after : HeaderState) (code : ℕ) (payload : List ℕ) (scan : Option Scan) → h.profile ≡ Strict → IsHeaderState h
    → AreBytes payload → (headers_after h code payload ≡ Ok (after, scan)) ↔ Sets h code payload after scan
