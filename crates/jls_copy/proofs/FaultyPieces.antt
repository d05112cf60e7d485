-- A faulty piece that a marker closed is one in each longer list of bytes.
use Rattle.std.proofs.Common.{◌≡◌, ℕ, List, [], ◌∷◌, ◌++◌, length, refl, sym, subst, inl}
use Rattle.std.specs.List.{Contains}
use Rattle.std.proofs.lemmas.List.Elements.{Contains-append_left}
use Rattle.jls_values.proofs.Lists.{is_first, in_rest}
use Rattle.jls_copy.specs.Prefixes.{StaysFaultyUnder}
use Rattle.jls_copy.specs.Pieces.{AreOutcomes, Fault, FoundPiece, IsOutcome, Lines, PieceOutcome, pieces, records}
use Rattle.jls_copy.specs.Reader.{all_pieces}
use Rattle.jls_copy.specs.ReaderState.{StateWithPieces, closed_at, reading, reading_from, reading_with}
use Rattle.jls_copy.specs.declared.piece.PieceKind.{PieceKind}
use Rattle.jls_copy.proofs.CopyFed.{outcome_alike}
use Rattle.jls_copy.proofs.CourseFed.{course_fed}
use Rattle.jls_copy.proofs.Prefixes.{alike_of, among_all}
use Rattle.jls_copy.proofs.OneCourse.{one_course}
use Rattle.jls_copy.proofs.Gathering.{from_append}
use Rattle.jls_marker.specs.declared.profile.Profile.{Profile}

-- of these pieces one is faulty
abbrev pub SomeFault : List FoundPiece → Type 0
SomeFault ps = (p : FoundPiece) × Contains ps p × (kind : PieceKind) × IsOutcome p (Fault kind)

-- where there are records, one of the pieces is faulty
pub some_fault : (ps : List FoundPiece) (os : List PieceOutcome) → AreOutcomes ps os → (length (records ps os) ≡ 0 → ⊥) → SomeFault ps
some_fault [] [] are some = absurd (some refl)
some_fault [] (o ∷ os) are some = absurd are
some_fault (p ∷ ps) [] are some = absurd are
some_fault (p ∷ ps) (Fault kind ∷ os) are some = (p, is_first p ps, kind, are.0)
some_fault (p ∷ ps) (Lines lines ∷ os) are some =
    let later = some_fault ps os are.1 some in (later.0, in_rest later.0 p ps later.1, later.2, later.3)

-- what was closed stays
pub closed_stay : (r : StateWithPieces) (bytes : List ℕ) (p : FoundPiece) → Contains r.pieces p → Contains (reading_from r bytes).pieces p
closed_stay r [] p h = h
closed_stay r (b ∷ bytes) p h = closed_stay (reading_with r b) bytes p (Contains-append_left r.pieces (closed_at r.state.place b) p h)

-- a copy that begins with bytes of which a closed piece is faulty has a faulty piece
pub stays_faulty : (profile : Profile) (prefix : List ℕ) → SomeFault (reading profile prefix).pieces → StaysFaultyUnder profile prefix
stays_faulty profile prefix (p, among, kind, fault) more low c is =
    let later : Contains (reading profile (prefix ++ more)).pieces p =
    subst (λ r. Contains r.pieces p) (sym (from_append _ prefix more)) (closed_stay (reading profile prefix) more p among) in
    let u = course_fed profile (prefix ++ more) low in
    let q = alike_of (all_pieces (reading profile (prefix ++ more))) (pieces u.0) p u.4 (among_all (reading profile (prefix ++ more)) p
    (inl later)) in (
      q.0,
      subst (λ d. Contains (pieces d) q.0) (one_course (prefix ++ more) u.0 c u.1 is) q.1,
      kind,
      outcome_alike p q.0 (Fault kind) q.2 fault,
    )
