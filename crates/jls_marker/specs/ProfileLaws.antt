-- The laws of profiles: which scans the headers take under each.
use Rattle.std.specs.Prelude.{◌≡◌, ℕ, ◌<◌, true, false, List, length, Option, Some, Ok, ◌⊎◌}
use Rattle.jls_marker.specs.HeaderState.{HeaderState, IsHeaderState, no_headers_under}
use Rattle.jls_marker.specs.Headers.{headers_after}
use Rattle.jls_marker.specs.Scan.{Scan}
use Rattle.jls_marker.specs.SegmentLaws.{AreBytes}
use Rattle.jls_marker.specs.declared.profile.Profile.{Profile}
use Rattle.jls_marker.specs.declared.profile.Profile.TheVariants.{Strict, Wide}

-- the same headers under a profile
abbrev pub under : Profile → HeaderState → HeaderState
under profile h = record h { profile = profile }

-- a scan that is interleaved by sample
abbrev pub IsBySample : Option Scan → Type 0
IsBySample scan = (s : Scan) × (scan ≡ Some s) × (s.by_sample ≡ true)

-- no segment changes the profile
abbrev pub ProfilesStay : Type 0
ProfilesStay = (h after : HeaderState) (code : ℕ) (payload : List ℕ) (scan : Option Scan)
    → headers_after h code payload ≡ Ok (after, scan) → after.profile ≡ h.profile

-- under each profile, the headers before the first segment are in their ranges
abbrev pub NewHeadersAreInRange : Type 0
NewHeadersAreInRange = (profile : Profile) → IsHeaderState (no_headers_under profile)

-- strict headers begin no scan by sample
abbrev pub StrictHeadersHaveNoneBySample : Type 0
StrictHeadersHaveNoneBySample = (h after : HeaderState) (code : ℕ) (payload : List ℕ) (scan : Scan) → h.profile ≡ Strict
    → headers_after h code payload ≡ Ok (after, Some scan) → scan.by_sample ≡ false

-- a scan by sample has two components or more
abbrev pub ScansBySampleHaveSeveral : Type 0
ScansBySampleHaveSeveral = (h after : HeaderState) (code : ℕ) (payload : List ℕ) (scan : Scan) → AreBytes payload
    → headers_after h code payload ≡ Ok (after, Some scan) → scan.by_sample ≡ true → 1 < length scan.components

-- what strict headers take, wide ones take alike
abbrev pub WideHeadersTakeAlike : Type 0
WideHeadersTakeAlike = (h after : HeaderState) (code : ℕ) (payload : List ℕ) (scan : Option Scan)
    → headers_after (under Strict h) code payload ≡ Ok (after, scan)
    → headers_after (under Wide h) code payload ≡ Ok (under Wide after, scan)

-- what wide headers take is a scan by sample, or strict ones take it alike
abbrev pub WideHeadersTakeMoreBySample : Type 0
WideHeadersTakeMoreBySample = (h after : HeaderState) (code : ℕ) (payload : List ℕ) (scan : Option Scan)
    → headers_after (under Wide h) code payload ≡ Ok (after, scan)
    → IsBySample scan ⊎ (headers_after (under Strict h) code payload ≡ Ok (under Strict after, scan))
