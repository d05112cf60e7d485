-- What a reader of a copy keeps true. It concerns no caller.
use Rattle.std.specs.Prelude.{◌≡◌, ℕ, ◌^◌, ◌<◌, ◌≤◌, Bool, false, List, ◌++◌, length}
use Rattle.std.specs.List.{AllByRecursion}
use Rattle.jls_marker.specs.declared.profile.Profile.{Profile}
use Rattle.jls_copy.specs.Pieces.{FoundPiece}
use Rattle.jls_copy.specs.ReaderState.{reading, StateWithPieces, closed_at_end}
use Rattle.jls_copy.specs.Sound.{IsPlace}
use Rattle.jls_copy.specs.Machine.{state_of, IsAfterStart}
use Rattle.jls_copy.specs.Gathers.{Gathers}
use Rattle.jls_copy.specs.declared.machine.Machine.{Machine}

-- under a profile, the machine stands where these bytes lead, and holds what they give; and what it holds is bounded, beside its partial
-- picture and the decoder of one piece
pub record IsReadingCopy (profile : Profile) (m : Machine) (bytes : List ℕ) : Type 0 where
  pub state_is : state_of m ≡ (reading profile bytes).state
  pub gathers : Gathers m.headers.frame (reading profile bytes).pieces m.findings
  pub count_is : m.count ≡ length bytes
  pub few : length bytes < 2 ^ 63
  pub are_bytes : AllByRecursion (λ b. b < 256) bytes
  pub place_is : IsPlace m.headers.frame m.place m.payload.items
  pub following : IsAfterStart m.place m.count
  pub records_counted : m.findings.record_count ≤ m.count
  pub records_kept : length m.findings.records.items ≤ 4096
  pub header_bytes : length m.payload.items ≤ 65535

-- a reader to which no `feed` was refused stands where these bytes lead
abbrev pub IsReader : Profile → Bool → Machine → List ℕ → Type 0
IsReader profile failed m bytes = failed ≡ false → IsReadingCopy profile m bytes

-- all pieces, if the input ends here
abbrev pub all_pieces : StateWithPieces → List FoundPiece
all_pieces r = r.pieces ++ closed_at_end r.state.place
