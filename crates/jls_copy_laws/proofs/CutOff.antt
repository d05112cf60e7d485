-- The piece that the input's end closes, found among the units of its course.
use Rattle.std.proofs.Common.{◌≡◌, ℕ, ◌+◌, ◌/◌, ◌%◌, Bool, true, false, List, [], ◌∷◌, ◌++◌, length, refl, sym, ap, ◌∙◌, subst, arith}
use Rattle.std.proofs.Common.{length-append, inl, inr}
use Rattle.std.specs.Prelude.{if◌then◌else◌}
use Rattle.std.specs.List.{AllByRecursion, Contains}
use Rattle.std.proofs.lemmas.List.{append-nil}
use Rattle.std.proofs.lemmas.Bool.{cases_Bool}
use Rattle.jls_marker.specs.HeaderState.{HeaderState, no_headers}
use Rattle.jls_copy.specs.ScanData.{fill_bytes}
use Rattle.jls_copy.specs.Numbers.{Interval}
use Rattle.jls_copy.specs.Course.{by_input, by_marker, CopyUnit, segment, scan, segment_unit_bytes, scan_data_bytes, unit_bytes, IsUnit}
use Rattle.jls_copy.specs.Course.{AreUnits, Course, IsCourse, with_soi, with_another_marker, with_no_marker, with_fill_alone}
use Rattle.jls_copy.specs.CutPieces.{is_cut, closed_by_input, last_piece}
use Rattle.jls_copy.specs.Pieces.{FoundPiece, unit_pieces, scans_in, pieces_in}
use Rattle.jls_copy.specs.declared.end.End.{End}
use Rattle.jls_copy.proofs.CourseFed.{last_after, some_pieces}
use Rattle.jls_copy_laws.proofs.Members.{first_or_rest, none_in}

-- The last of pieces -----------------------------------------------------------------------------------------------

some_after : (xs : List FoundPiece) (p : FoundPiece) (ps : List FoundPiece)
    → (q : FoundPiece) × (qs : List FoundPiece) × (xs ++ p ∷ ps ≡ q ∷ qs)
some_after [] p ps = (p, ps, refl)
some_after (x ∷ xs) p ps = (x, xs ++ p ∷ ps, refl)

-- Units ------------------------------------------------------------------------------------------------------------

-- where the input's end closes the last unit's piece there are pieces
closed_some : (us : List CopyUnit) (index at : ℕ) → closed_by_input us ≡ true
    → (p : FoundPiece) × (ps : List FoundPiece) × (pieces_in index at us ≡ p ∷ ps)
closed_some [] index at e = absurd cc
closed_some (segment fill code payload ∷ []) index at e = absurd cc
closed_some (scan fill code payload s closed last (by_input n) ∷ []) index at e =
    let r = some_pieces index s 0 (Interval 0) (at + length (segment_unit_bytes fill code payload)) closed last in
    (r.0, r.1 ++ [], ap (λ ps. ps ++ []) r.2)
closed_some (scan fill code payload s closed last by_marker ∷ []) index at e = absurd cc
closed_some (u ∷ v ∷ us) index at e =
    let r = closed_some (v ∷ us) (index + scans_in u) (at + length (unit_bytes u)) e in
    let q = some_after (unit_pieces index at u) r.0 r.1 in
    (q.0, q.1, ap (λ ps. unit_pieces index at u ++ ps) r.2 ∙ q.2)

-- the piece of units that the input's end closes
abbrev pub cut_of : ℕ → ℕ → List CopyUnit → List FoundPiece
cut_of index at us = if closed_by_input us then last_piece (pieces_in index at us) else []

-- is that of the units after the first
cut_of_more : (u v : CopyUnit) (us : List CopyUnit) (index at : ℕ)
    → cut_of index at (u ∷ v ∷ us) ≡ cut_of (index + scans_in u) (at + length (unit_bytes u)) (v ∷ us)
cut_of_more u v us index at = by (closed_by_input (v ∷ us)) refl
  where
    rest : List FoundPiece
    rest = pieces_in (index + scans_in u) (at + length (unit_bytes u)) (v ∷ us)

    by : (b : Bool) → closed_by_input (v ∷ us) ≡ b
        → (if b then last_piece (unit_pieces index at u ++ pieces_in (index + scans_in u) (at + length (unit_bytes u)) (v ∷ us)) else [])
        ≡ (if b then last_piece (pieces_in (index + scans_in u) (at + length (unit_bytes u)) (v ∷ us)) else [])
    by true e =
        let r = closed_some (v ∷ us) (index + scans_in u) (at + length (unit_bytes u)) e in
        ap (λ ps. last_piece (unit_pieces index at u ++ ps)) r.2 ∙ last_after (unit_pieces index at u) r.0 r.1 ∙ ap last_piece (sym r.2)
    by false e = refl

cut_of_one : (u : CopyUnit) (index at : ℕ) → is_cut u ≡ true → cut_of index at (u ∷ []) ≡ last_piece (unit_pieces index at u)
cut_of_one u index at e = rw (e, append-nil) refl

cut_of_none : (u : CopyUnit) (index at : ℕ) → is_cut u ≡ false → cut_of index at (u ∷ []) ≡ []
cut_of_none u index at e = rw e refl

-- what holds of the last piece of each unit that is cut holds of the cut piece
pub all_cut : (Q : FoundPiece → Type 0) (U : CopyUnit → Type 0)
    → ((index at : ℕ) (u : CopyUnit) → U u → is_cut u ≡ true → AllByRecursion Q (last_piece (unit_pieces index at u)))
    → (us : List CopyUnit) (index at : ℕ) → AllByRecursion U us → AllByRecursion Q (cut_of index at us)
all_cut Q U f [] index at h = tt
all_cut Q U f (u ∷ []) index at h =
    elim (cases_Bool (is_cut u)) [
      | inl e ↦ subst (AllByRecursion Q) (sym (cut_of_one u index at e)) (f index at u h.0 e)
      | inr e ↦ subst (AllByRecursion Q) (sym (cut_of_none u index at e)) tt
    ]
all_cut Q U f (u ∷ v ∷ us) index at h =
    subst (AllByRecursion Q) (sym (cut_of_more u v us index at))
    (all_cut Q U f (v ∷ us) (index + scans_in u) (at + length (unit_bytes u)) h.1)

-- A unit that is cut is the last one ---------------------------------------------------------------------------------

no_segment : (n code : ℕ) (payload more : List ℕ) → segment_unit_bytes n code payload ++ more ≡ [] → ⊥
no_segment n code payload more e =
    let k = ap length e in let a = length-append (segment_unit_bytes n code payload) more in
    let b = length-append (fill_bytes n) (255 ∷ code ∷ (length payload + 2) / 256 ∷ (length payload + 2) % 256 ∷ payload) in
    omega (arith, k, a, b)

no_unit : (u : CopyUnit) (more : List ℕ) → unit_bytes u ++ more ≡ [] → ⊥
no_unit (segment fill code payload) more e = no_segment fill code payload more e
no_unit (scan fill code payload s closed last closing) more e =
    let k = ap length e in let a = length-append (segment_unit_bytes fill code payload ++ scan_data_bytes closed last closing) more in
    let b = length-append (segment_unit_bytes fill code payload) (scan_data_bytes closed last closing) in
    no_segment fill code payload []
    (empty (segment_unit_bytes fill code payload ++ []) (omega (arith, k, a, b, length-append (segment_unit_bytes fill code payload) [])))
  where
    empty : (xs : List ℕ) → length xs ≡ 0 → xs ≡ []
    empty [] e = refl
    empty (x ∷ xs) e = absurd (omega (arith, e))

nothing_after : (h after : HeaderState) (u : CopyUnit) (rest : List ℕ) → is_cut u ≡ true → IsUnit h u after rest → rest ≡ []
nothing_after h after (segment fill code payload) rest e is = absurd cc
nothing_after h after (scan fill code payload s closed last (by_input n)) rest e is = is.4
nothing_after h after (scan fill code payload s closed last by_marker) rest e is = absurd cc

-- so its last piece is that of the course
pub cut_stands : (us : List CopyUnit) (index at : ℕ) (h : HeaderState) (from : ℕ) (bytes : List ℕ) (final : HeaderState) (e : End)
    (u : CopyUnit)
    → AreUnits h from bytes us final e → Contains us u → is_cut u ≡ true
    → (i : ℕ) × (offset : ℕ) × ((p : FoundPiece) → Contains (last_piece (unit_pieces i offset u)) p → Contains (cut_of index at us) p)
cut_stands [] index at h from bytes final e u are c cut = absurd (none_in u c)
cut_stands (v ∷ []) index at h from bytes final e u are c cut =
    elim (first_or_rest u v [] c) [
      | inl same ↦ (
        index,
        at,
        λ p m. subst (λ ps. Contains ps p) (sym (cut_of_one v index at (subst (λ x. is_cut x ≡ true) (sym same) cut)))
            (subst (λ x. Contains (last_piece (unit_pieces index at x)) p) (sym same) m),
      )
      | inr later ↦ absurd (none_in u later)
    ]
cut_stands (v ∷ w ∷ us) index at h from bytes final e u (after, rest, whole, is, (after', rest', whole', is', more)) c cut =
    elim (first_or_rest u v (w ∷ us) c) [
      | inl same ↦ absurd (no_unit w rest' (sym whole' ∙ nothing_after h after v rest (subst (λ x. is_cut x ≡ true) (sym same) cut) is))
      | inr later ↦ (
          let there = cut_stands (w ∷ us) (index + scans_in v) (at + length (unit_bytes v)) after _ rest final e u
          (after', rest', whole', is', more) later cut in
          (there.0, there.1, λ p m. subst (λ ps. Contains ps p) (sym (cut_of_more v w us index at)) (there.2 p m)))
    ]

-- the units of a course
pub units_of : (copy : List ℕ) (c : Course) (u : CopyUnit) → IsCourse copy c → Contains c.units u
    → (from : ℕ) × (bytes : List ℕ) × AreUnits no_headers from bytes c.units c.headers c.end
units_of _ _ u (with_soi n bytes units final e h) m = (n + 2, bytes, h)
units_of _ _ u (with_another_marker n code bytes p q) m = absurd (none_in u m)
units_of _ _ u (with_no_marker b bytes p) m = absurd (none_in u m)
units_of _ _ u (with_fill_alone n) m = absurd (none_in u m)
