-- The reader's place tells the course of the bytes so far, byte after byte.
use Rattle.std.proofs.Common.{◌≡◌, ℕ, suc, ◌+◌, ◌<◌, true, false, List, [], ◌∷◌, ◌++◌, length, add-zero, refl, sym, ◌∙◌, ap, append_assoc}
use Rattle.std.proofs.Common.{arith, inr, length-append}
use Rattle.std.specs.Prelude.{is_some}
use Rattle.std.proofs.lemmas.List.{append-nil}
use Rattle.std.proofs.lemmas.Bool.{cases_eq, cases_Bool}
use Rattle.std.specs.List.{AllByRecursion}
use Rattle.jls_marker.specs.HeaderState.{HeaderState}
use Rattle.jls_marker.specs.MarkerCodes.{has_segment}
use Rattle.jls_copy.specs.Pieces.{FoundPiece}
use Rattle.jls_copy.specs.ScanData.{fill_bytes}
use Rattle.jls_copy.specs.ReaderState.{StateWithPieces, reading, reading_from, reading_with, first_state, Step, step_from, closed_at}
use Rattle.jls_copy.specs.Tells.{Tells}
use Rattle.jls_copy.specs.ReaderLaws.{ReadingTells}
use Rattle.jls_copy.specs.declared.place.CopyPosition.{CopyPosition}
use Rattle.jls_copy.specs.declared.place.CopyPosition.TheVariants.{Start, AtMarker, AtLength, InLength, InPayload, InScan, Done}
use Rattle.jls_copy.proofs.TellsMore.{start_more, start_fill_more, marker_more, fill_marker_more, fill_length}
use Rattle.jls_copy.proofs.TellsSegment.{at_segment, length_more, payload_more, ended_more}
use Rattle.jls_copy.proofs.TellsScan.{scan_more}
use Rattle.jls_marker.specs.declared.profile.Profile.{Profile}

abbrev TellsStep : (profile : Profile) → Step → List FoundPiece → List ℕ → Type 0
TellsStep profile s ps x = Tells profile s.place s.headers s.payload ps x

-- one byte more
tells_more : (profile : Profile) (p : CopyPosition) (h : HeaderState) (payload : List ℕ) (ps : List FoundPiece) (x : List ℕ) (b count : ℕ)
    → b < 256 → count ≡ length x
    → Tells profile p h payload ps x
    → TellsStep profile (step_from p count h payload b) (ps ++ closed_at p b) (x ++ b ∷ [])
tells_more profile (Start false) h payload ps x b count low c (e, f, g) =
    let z : count ≡ 0 = c ∙ ap length e in
    rw (e, f, g, z) (start_more profile payload b (cases_eq b 255))
tells_more profile (Start true) h payload ps x b count low c (n, e, f, g) =
    rw (e, f, g) (start_fill_more profile payload n b count (c ∙ ap length e ∙ fill_length (suc n)) (cases_eq b 255) (cases_eq b 216))
tells_more profile (AtMarker false) h payload ps x b count low c (us, p) =
    rw append-nil (marker_more profile x h us ps payload b count p c (cases_eq b 255))
tells_more profile (AtMarker true) h payload ps x b count low c (n, before, us, p, e) =
    let size : count ≡ length before + suc n = c ∙ ap length e ∙ length-append before (fill_bytes (suc n))
    ∙ ap (λ k. length before + k) (fill_length (suc n)) in
    rw (append-nil, e, append_assoc)
    (fill_marker_more profile before h us ps false payload n b count p size (λ k. absurd cc) (cases_eq b 255) (cases_eq b 217)
    (cases_Bool (is_some h.frame)) (cases_Bool (has_segment b)) (inr refl))
tells_more profile (AtLength marker code) h payload ps x b count low c d =
    rw append-nil (
      low,
      at_segment profile d.before h d.units ps d.following d.passed d.fill code d.known d.follows (x ++ b ∷ []) (b ∷ []) marker
          (ap (λ y. y ++ b ∷ []) d.whole ∙ simp append_assoc refl) d.marker_at,
    )
tells_more profile (InLength marker code high) h payload ps x b count low c (lh, d) =
    rw append-nil
    (length_more profile d.before h d.units ps d.following d.passed d.fill code d.known d.follows x count marker high b lh low d.whole
    c d.marker_at)
tells_more profile (InPayload marker code size) h payload ps x b count low c (within, small, d) =
    rw append-nil
    (payload_more profile d.before h d.units ps d.following d.passed d.fill code d.known d.follows x payload count marker size b
    d.whole within small c d.marker_at)
tells_more profile (InScan o) h payload ps x b count low c d = scan_more profile o h ps x d b payload count c
tells_more profile (Done e) h payload ps x b count low c d = rw append-nil (ended_more profile e h ps x b d)

-- a reader whose place tells the course of the bytes before tells, after more bytes, that of all
from_tells : (profile : Profile) (before bytes : List ℕ) (r : StateWithPieces) → AllByRecursion (λ b. b < 256) bytes
    → r.state.count ≡ length before
    → Tells profile r.state.place r.state.headers r.state.payload r.pieces before
    → Tells profile (reading_from r bytes).state.place (reading_from r bytes).state.headers (reading_from r bytes).state.payload
    (reading_from r bytes).pieces (before ++ bytes)
from_tells profile before [] r low c t = rw append-nil t
from_tells profile before (b ∷ bytes) r low c t =
    rw append_assoc at (from_tells profile (before ++ b ∷ []) bytes (reading_with r b) low.1 (omega (
      arith,
      c,
      length-append before
          (b ∷ []),
    ))
    (tells_more profile r.state.place r.state.headers r.state.payload r.pieces before b r.state.count low.0 c t))

pub readings_tell : (profile : Profile) → ReadingTells profile
readings_tell profile bytes low = from_tells profile [] bytes _ low refl (refl, refl, refl)

from_counts : (bytes : List ℕ) (r : StateWithPieces) → (reading_from r bytes).state.count ≡ r.state.count + length bytes
from_counts [] r = sym (add-zero r.state.count)
from_counts (b ∷ bytes) r = from_counts bytes (reading_with r b) ∙ omega arith

pub reading_counts : (profile : Profile) (bytes : List ℕ) → (reading profile bytes).state.count ≡ length bytes
reading_counts profile bytes = from_counts bytes (record { state = first_state profile; pieces = [] }) ∙ omega arith
