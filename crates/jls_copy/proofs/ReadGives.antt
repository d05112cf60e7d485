-- The readings that were read of a copy are those that its course gives.
use Rattle.std.proofs.Common.{◌≡◌, ℕ, ◌<◌, ◌≤◌, true, ◌||◌, List, [], ◌∷◌, ◌++◌, length, sym, ap, ◌∙◌, subst, arith}
use Rattle.std.proofs.Common.{inl, inr}
use Rattle.std.specs.List.{list_any, AllByRecursion, Contains}
use Rattle.std.specs.Ordering.{eq_by_cmp}
use Rattle.std.proofs.lemmas.List.Elements.{Contains-append_left, Contains-append_right, Contains-append_cases}
use Rattle.jls_values.specs.OrderedSet as set
use Rattle.jls_values.specs.OrderedSetLaws.{contains-insert_all, contains-empty}
use Rattle.jls_partial.specs.Partial.{PartialPicture}
use Rattle.jls_partial.specs.Reading.{Reading, reading_cmp}
use Rattle.jls_partial.specs.ReadingOrder.{reading_total}
use Rattle.jls_partial.proofs.HeldItems.{any_of_member, member_of_any}
use Rattle.jls_copy.specs.CopyReads.{CopyReadsUnder}
use Rattle.jls_copy.specs.CutPieces.{cut_pieces, IsHeadAt, IsHeadOfCut, head_readings}
use Rattle.jls_copy.specs.Pieces.{FoundPiece, PieceOutcome, Lines, IsOutcome, readings_of, AreOutcomes, readings}
use Rattle.jls_copy.specs.Pieces.{pieces}
use Rattle.jls_copy.specs.ReadCopy.{ReadCopy}
use Rattle.jls_copy.proofs.BytesDecide.{one_outcome, one_head_of_cut, cut_has}
use Rattle.jls_copy.proofs.ScansOfCourse.{HasScan, course_has}
use Rattle.jls_values.proofs.Lists.{is_first, in_rest, none_in, first_or_rest}
use Rattle.jls_copy.specs.Prefixes.{CourseHasReading}
use Rattle.jls_copy.proofs.CutPieces.{cut_short, lines_give}
use Rattle.jls_marker.specs.declared.profile.Profile.{Profile}

-- a set that is made of readings has exactly these
made_tells : (rs : List Reading) (r : Reading) → set.contains (set.insert_all {R = reading_cmp} set.empty rs) r
    ≡ list_any (eq_by_cmp reading_cmp r) rs
made_tells rs r = contains-insert_all reading_total set.empty rs r
    ∙ ap (λ b. b || list_any (eq_by_cmp reading_cmp r) rs) (contains-empty reading_cmp r)

-- Pieces -----------------------------------------------------------------------------------------------------------

-- a piece gives the reading, under what it reads as
abbrev pub PieceGives : FoundPiece → Reading → Type 0
PieceGives p r = (lines : List (List ℕ)) × IsOutcome p (Lines lines) × Contains (readings_of p (Lines lines)) r

-- a reading of all outcomes is one that a piece gives
pub piece_listed : (ps : List FoundPiece) (os : List PieceOutcome) (r : Reading) → AreOutcomes ps os → Contains (readings ps os) r
    → (p : FoundPiece) × Contains ps p × PieceGives p r
piece_listed [] os r are m = absurd (none_in r m)
piece_listed (p ∷ ps) [] r are m = absurd are
piece_listed (p ∷ ps) (o ∷ os) r are m =
    elim (Contains-append_cases (readings_of p o) (readings ps os) r m) [
      | inl here ↦ (
          let f = lines_give p.plan p.number r o here in
          (p, is_first p ps, (f.0, subst (IsOutcome p) f.1 are.0, subst (λ x. Contains (readings_of p x) r) f.1 here)))
      | inr later ↦ (let f = piece_listed ps os r are.1 later in (f.0, in_rest f.0 p ps f.1, f.2))
    ]

-- a reading that a piece of the course gives is among those of all its outcomes
given : (ps : List FoundPiece) (os : List PieceOutcome) (p : FoundPiece) (r : Reading) → AllByRecursion HasScan ps → AreOutcomes ps os
    → Contains ps p → PieceGives p r → Contains (readings ps os) r
given [] os p r scans are m g = absurd (none_in p m)
given (q ∷ ps) [] p r scans are m g = absurd are
given (q ∷ ps) (o ∷ os) p r scans are m g =
    elim (first_or_rest p q ps m) [
      | inl e ↦ Contains-append_left (readings_of q o) (readings ps os) r (own e)
      | inr later ↦ Contains-append_right (readings_of q o) (readings ps os) r (given ps os p r scans.1 are.1 later g)
    ]
  where
    own : q ≡ p → Contains (readings_of q o) r
    own e =
        let h : PieceGives q r = subst (λ x. PieceGives x r) (sym e) g in
        subst (λ x. Contains (readings_of q x) r) (one_outcome q.plan q.number q.bytes (Lines h.0) o scans.0 h.1 are.0) h.2

-- Heads ------------------------------------------------------------------------------------------------------------

abbrev HeadGives : FoundPiece → Reading → Type 0
HeadGives p r = (head : List (List ℕ)) × IsHeadAt p.plan p.number p.bytes head × Contains (readings_of p (Lines head)) r

head_listed : (ps : List FoundPiece) (head : List (List ℕ)) (r : Reading) → IsHeadOfCut ps head → Contains (head_readings ps head) r
    → (p : FoundPiece) × Contains ps p × HeadGives p r
head_listed [] head r is m = absurd (none_in r m)
head_listed (p ∷ ps) head r is m = (p, is_first p ps, (head, is, m))

-- a reading that the head of the cut piece gives is among those of the heads
head_given : (ps : List FoundPiece) (head : List (List ℕ)) (p : FoundPiece) (r : Reading) → length ps ≤ 1 → AllByRecursion HasScan ps
    → IsHeadOfCut ps head → Contains ps p → HeadGives p r → Contains (head_readings ps head) r
head_given [] head p r short scans is m g = absurd (none_in p m)
head_given (q ∷ []) head p r short scans is m g =
    elim (first_or_rest p q [] m) [
      | inl e ↦ (
          let h : HeadGives q r = subst (λ x. HeadGives x r) (sym e) g in
          subst (λ x. Contains (readings_of q (Lines x)) r) (one_head_of_cut (q ∷ []) h.0 head scans h.1 is) h.2)
      | inr later ↦ absurd (none_in p later)
    ]
head_given (q ∷ x ∷ ps) head p r short scans is m g = absurd (omega (arith, short))

-- What was read ----------------------------------------------------------------------------------------------------

module _ {profile : Profile} (file : List ℕ) (read : ReadCopy) (h : CopyReadsUnder profile file read) where
  abbrev all : List Reading
  all = readings (pieces h.course) h.outcomes ++ head_readings (cut_pieces h.course) h.head

  tells : (r : Reading) → set.contains read.partial.readings r ≡ list_any (eq_by_cmp reading_cmp r) all
  tells r = ap (λ (p : PartialPicture). set.contains p.readings r) h.partial_is ∙ made_tells all r

  -- a reading that the partial picture holds is one that the course gives
  pub held_is_given : (r : Reading) → set.contains read.partial.readings r ≡ true → CourseHasReading h.course r
  held_is_given r held =
      elim (Contains-append_cases (readings (pieces h.course) h.outcomes) (head_readings (cut_pieces h.course) h.head) r
      (member_of_any all r (sym (tells r) ∙ held))) [
        | inl m ↦ (let g = piece_listed (pieces h.course) h.outcomes r h.each m in inl (g.0, g.1, g.2.0, g.2.1, g.2.2))
        | inr m ↦ (let g = head_listed (cut_pieces h.course) h.head r h.head_is m in inr (g.0, g.1, g.2.0, g.2.1, g.2.2))
      ]

  -- a reading of the course is held by the partial picture that was read
  pub given_is_held : AllByRecursion (λ b. b < 256) file → (r : Reading) → CourseHasReading h.course r
      → set.contains read.partial.readings r ≡ true
  given_is_held low r g =
      let scans = course_has file h.course low h.is_course in
      let rs = readings (pieces h.course) h.outcomes in
      let heads = head_readings (cut_pieces h.course) h.head in
      tells r ∙ any_of_member all r (elim g [
        | inl (p, m, lines, reads, has) ↦
            Contains-append_left rs heads r (given (pieces h.course) h.outcomes p r scans h.each m (lines, reads, has))
        | inr (p, m, head, is, has) ↦ Contains-append_right rs heads r
            (head_given (cut_pieces h.course) h.head p r (cut_short h.course) (cut_has h.course scans) h.head_is m (head, is, has))
      ])
