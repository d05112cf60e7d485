-- Which scans a profile reads, by the value of ILV in the scan header. That there are two profiles is this reader's choice.
use Rattle.std.specs.Prelude.{◌≡◌, ℕ, Bool, false, ◌&&◌, ◌||◌, ◌==◌, nat_le, nat_lt}
use Rattle.jls_marker.specs.ScanSelection.{ScanSelection}
use Rattle.jls_marker.specs.declared.profile.Profile.{Profile}
use Rattle.jls_marker.specs.declared.profile.Profile.TheVariants.{Strict, Wide}

-- Whether a scan of so many components may have this value of ILV under the strict profile: 1, and 0 for one component (T.87 C.2.3)
abbrev pub takes_by_line : ℕ → ℕ → Bool
takes_by_line count interleave = nat_le interleave 1 && (nat_le count 1 || (interleave == 1))

-- the same under a profile: the wide one also takes 2 for two components or more (T.87 C.2.3)
abbrev pub takes_interleave : Profile → ℕ → ℕ → Bool
takes_interleave Strict count interleave = takes_by_line count interleave
takes_interleave Wide count interleave = takes_by_line count interleave || (nat_lt 1 count && (interleave == 2))

-- a selection of a profile: under the strict one it is not interleaved by sample (T.87 C.2.3)
abbrev pub IsOfProfile : Profile → ScanSelection → Type 0
IsOfProfile Strict s = s.by_sample ≡ false
IsOfProfile Wide s = Unit {0}
