-- What the bytes so far give, each longer list of bytes gives whose pieces all read as lines.
use Rattle.std.proofs.Common.{◌≡◌, ℕ, ◌+◌, ◌<◌, ◌≤◌, Bool, true, List, [], ◌∷◌, ◌++◌, length, take, drop, sym, ap, ◌∙◌, subst}
use Rattle.std.proofs.Common.{append_assoc, length-append, arith, inl, inr}
use Rattle.std.specs.Prelude.{◌==◌, get_or, if◌then◌else◌}
use Rattle.std.specs.List.{AllByRecursion, Contains}
use Rattle.std.proofs.lemmas.List.{take-append-drop, length-take-le}
use Rattle.std.proofs.lemmas.List.Elements.{Contains-append_cases}
use Rattle.jls_values.specs.Params.{AreCodingParameters}
use Rattle.jls_values.proofs.Lists.{is_first, in_rest, none_in, first_or_rest, all_at}
use Rattle.jls_bits.specs.Bits.{bits_read, bits_read_after, is_whole}
use Rattle.jls_bits.specs.Appending.{last_after}
use Rattle.jls_bits.proofs.Appending.{data_append, whole_prefix}
use Rattle.jls_interval.specs.Lines.{AreLines}
use Rattle.jls_piece.specs.Lines.{PieceShape, AreOfWholeRows}
use Rattle.jls_piece.specs.Code.{piece_code}
use Rattle.jls_piece.specs.Heads.{IsHeadOfPiece}
use Rattle.jls_piece.specs.Reads.{Reads}
use Rattle.jls_interval.proofs.HeadLines.{prefix_lines}
use Rattle.jls_piece.proofs.PieceCodes.{codes_apart, code_parts}
use Rattle.jls_piece.proofs.PieceReads.{unwhole_reads_no_more}
use Rattle.jls_copy.specs.IntervalOf.{interval_of}
use Rattle.jls_marker.specs.Scan.{Scan, IsScan, first_row}
use Rattle.jls_partial.specs.Reading.{Reading, reading_of}
use Rattle.jls_copy.specs.Course.{Course, IsCourseUnder}
use Rattle.jls_copy.specs.CutPieces.{cut_pieces, IsHeadAt}
use Rattle.jls_copy.specs.Prefixes.{HasLines, CourseHasReading, PrefixesKeepReadingsUnder}
use Rattle.jls_copy.specs.Numbers.{PieceNumber, Interval, BeyondLast}
use Rattle.jls_copy.specs.Pieces.{FoundPiece, Lines, IsOutcomeAt, outcome_readings, readings_of, placed, pieces}
use Rattle.jls_copy.specs.Reader.{all_pieces}
use Rattle.jls_copy.specs.ReaderState.{reading, closed_at_end}
use Rattle.jls_copy.specs.Tells.{FedAs, AlikePiece}
use Rattle.jls_copy.proofs.CourseFed.{course_fed}
use Rattle.jls_copy.proofs.Prefixes.{alike_of, of_alike, at_once, Stands, stands_from}
use Rattle.jls_copy.proofs.Prefixes.{among_all}
use Rattle.jls_copy.proofs.OneCourse.{one_course}
use Rattle.jls_copy.proofs.ScansOfCourse.{HasScan, byte_parts, course_has}
use Rattle.jls_copy.proofs.Gathering.{from_append}
use Rattle.jls_marker.specs.declared.profile.Profile.{Profile}

-- One interval -----------------------------------------------------------------------------------------------------

-- lines with whose code the data bits begin are the first of those that more bytes read as
module _ (i : PieceShape) (ok : AreCodingParameters i.params) (some : 0 < i.width) (prefix more : List ℕ) (lines : List (List ℕ))
    (r : Reads i (prefix ++ more) lines) where
  first_lines : (xs : List (List ℕ)) (unread : List Bool) → AreLines i.params i.width (length xs) xs → AreOfWholeRows i xs
      → length xs ≤ i.line_count → bits_read prefix ≡ piece_code i xs ++ unread → (others : List (List ℕ)) × (lines ≡ xs ++ others)
  first_lines xs unread are rows few e =
      let whole = (whole_prefix 0 prefix more r.begins.data_bits.whole).0 in
      let following : List Bool = bits_read_after (last_after 0 prefix) more in
      let count : length lines ≡ i.line_count = r.begins.are_lines.count_is in
      let within : length xs ≤ length lines = omega (arith, few, count) in
      let own = take (length xs) lines in let others = drop (length xs) lines in
      let size : length own ≡ length xs = length-take-le (length xs) lines within in
      let own_rows : AreOfWholeRows i own = λ by_sample. (let n = rows by_sample in (n.0, size ∙ n.1)) in
      let parted : lines ≡ own ++ others = sym (take-append-drop (length xs) lines) in
      let parts = code_parts i own others own_rows in
      let bits_are : piece_code i xs ++ (unread ++ following) ≡ piece_code i own ++ (parts.0 ++ r.unread) =
      sym (append_assoc (piece_code i xs) unread following) ∙ ap (λ v. v ++ following) (sym e) ∙ sym (data_append 0 prefix more whole)
      ∙ r.begins.data_bits.read ∙ ap (λ v. piece_code i v ++ r.unread) parted ∙ ap (λ v. v ++ r.unread) parts.1
      ∙ append_assoc (piece_code i own) parts.0 r.unread in
      let own_are : AreLines i.params i.width (length xs) own =
      subst (λ k. AreLines i.params i.width k own) size
      (prefix_lines i.params i.width i.line_count lines own others r.begins.are_lines parted) in
      let same = codes_apart (record i { line_count = length xs }) ok some xs own (unread ++ following) (parts.0 ++ r.unread) are rows
      own_are own_rows bits_are in
      (others, parted ∙ ap (λ v. v ++ others) (sym same.0))

  -- what the bytes before them read as
  of_read : (xs : List (List ℕ)) → Reads i prefix xs → (others : List (List ℕ)) × (lines ≡ xs ++ others)
  of_read xs a =
      let count : length xs ≡ i.line_count = a.begins.are_lines.count_is in
      first_lines xs a.unread (subst (λ k. AreLines i.params i.width k xs) (sym count) a.begins.are_lines) a.begins.whole_rows
      (omega (arith, count)) a.begins.data_bits.read

  -- the head of bytes is the first lines of what more bytes read as
  of_head : (head : List (List ℕ)) → IsHeadOfPiece i prefix head → (others : List (List ℕ)) × (lines ≡ head ++ others)
  of_head head (inl (whole, inl (cut, f))) =
      let b = f.begins in
      let l = length-append head b.others in let l1 = ap length b.lines_are in let l2 = cut.are_lines.count_is in
      first_lines head b.unread (prefix_lines i.params i.width i.line_count cut.lines head b.others cut.are_lines b.lines_are) b.whole_rows
      (omega (arith, l, l1, l2)) b.given_is
  of_head head (inl (whole, inr (none, e))) = (lines, ap (λ v. v ++ lines) (sym e))
  of_head head (inr (not_whole, e)) = (lines, ap (λ v. v ++ lines) (sym e))

-- Readings ---------------------------------------------------------------------------------------------------------

-- first lines stand where they stand among all
first_placed : (components : List ℕ) (row place : ℕ) (xs others : List (List ℕ)) (r : Reading)
    → Contains (placed components row place xs) r → Contains (placed components row place (xs ++ others)) r
first_placed components row place [] others r m = absurd (none_in r m)
first_placed components row place (x ∷ xs) others r m =
    let is_last = place + 1 == length components in
    let row' = if is_last then row + 1 else row in
    let place' = if is_last then 0 else place + 1 in
    let here = reading_of (get_or components place 0) row x in
    elim (first_or_rest r here (placed components row' place' xs) m) [
      | inl e ↦ subst (λ y. Contains (placed components row place (x ∷ xs ++ others)) y) e
          (is_first here (placed components row' place' (xs ++ others)))
      | inr later ↦ in_rest r here (placed components row' place' (xs ++ others))
          (first_placed components (if place + 1 == length components then row + 1 else row)
          (if place + 1 == length components then 0 else place + 1) xs others r later)
    ]

-- a piece and the same piece with more bytes
module _ (s : Scan) (ok : IsScan s) (prefix tail : List ℕ) (lines : List (List ℕ)) (r : Reading) where
  -- a reading of a piece is one of the longer piece, if that reads as lines
  piece_keeps : (n : PieceNumber) → IsOutcomeAt s n (prefix ++ tail) (Lines lines) → (xs : List (List ℕ))
      → IsOutcomeAt s n prefix (Lines xs)
      → Contains (outcome_readings s n (Lines xs)) r → Contains (outcome_readings s n (Lines lines)) r
  piece_keeps (Interval k) reads xs is m =
      let f = of_read (interval_of s k) ok.params (let a = ok.width_at_least in omega (arith, a)) prefix tail lines reads xs is in
      subst (λ ls. Contains (placed s.components (first_row s k) 0 ls) r) (sym f.1) (first_placed s.components (first_row s k) 0 xs f.0 r m)
  piece_keeps (BeyondLast k) reads xs is m = absurd reads

  -- a reading of a piece's head is one of the longer piece, if that reads as lines
  head_keeps : (n : PieceNumber) → IsOutcomeAt s n (prefix ++ tail) (Lines lines) → (head : List (List ℕ)) → IsHeadAt s n prefix head
      → Contains (outcome_readings s n (Lines head)) r → Contains (outcome_readings s n (Lines lines)) r
  head_keeps (Interval k) reads head is m =
      let f = of_head (interval_of s k) ok.params (let a = ok.width_at_least in omega (arith, a)) prefix tail lines reads head is in
      subst (λ ls. Contains (placed s.components (first_row s k) 0 ls) r) (sym f.1)
      (first_placed s.components (first_row s k) 0 head f.0 r m)
  head_keeps (BeyondLast k) reads head is m = absurd reads

-- Pieces -----------------------------------------------------------------------------------------------------------

-- what was fed of a piece that reads is its bytes
fed_on : (s : Scan) (n : PieceNumber) (fed piece fed_more piece_more tail : List ℕ) (lines : List (List ℕ))
    → FedAs n fed piece → FedAs n fed_more piece_more → fed_more ≡ fed ++ tail → IsOutcomeAt s n piece_more (Lines lines)
    → piece_more ≡ piece ++ tail
fed_on s (Interval k) fed piece fed_more piece_more tail lines (inl a) (inl b) e reads = sym b ∙ e ∙ ap (λ v. v ++ tail) a
fed_on s (Interval k) fed piece fed_more piece_more tail lines (inr a) (inl b) e reads =
    absurd (unwhole_reads_no_more (interval_of s k) fed a.0 tail lines
    (subst (λ v. IsOutcomeAt s (Interval k) v (Lines lines)) (sym b ∙ e) reads))
fed_on s (Interval k) fed piece fed_more piece_more tail lines a (inr b) e reads =
    let whole : is_whole piece_more ≡ true = reads.begins.data_bits.whole in absurd cc
fed_on s (BeyondLast k) fed piece fed_more piece_more tail lines a b e reads = absurd reads

-- a piece of a longer file that goes on where a piece ended: if it reads, its bytes are that piece's, and some more
record GoesOn (d : Course) (p : FoundPiece) : Type 0 where
  piece : FoundPiece
  among : Contains (pieces d) piece
  plan : piece.plan ≡ p.plan
  number : piece.number ≡ p.number
  tail : List ℕ
  bytes : (lines : List (List ℕ)) → IsOutcomeAt p.plan p.number piece.bytes (Lines lines) → piece.bytes ≡ p.bytes ++ tail

module _ (profile : Profile) (prefix more : List ℕ) (low : AllByRecursion (λ b. b < 256) (prefix ++ more)) (d : Course)
    (is_d : IsCourseUnder profile (prefix ++ more) d)
  where
    goes_on : (fed p : FoundPiece) → Stands (reading profile prefix) fed → AlikePiece fed p → GoesOn d p
    goes_on fed p stands alike =
        let stood : Stands (reading profile (prefix ++ more)) fed =
        subst (λ r. Stands r fed) (sym (from_append _ prefix more)) (stands_from (reading profile prefix) more fed stands) in
        let u = course_fed profile (prefix ++ more) low in
        let q = alike_of (all_pieces (reading profile (prefix ++ more))) (pieces u.0) stood.0 u.4
        (among_all (reading profile (prefix ++ more)) stood.0 stood.1) in
        let plan : q.0.plan ≡ p.plan = sym q.2.plan_is ∙ stood.2.plan ∙ alike.plan_is in
        let number : q.0.number ≡ p.number = sym q.2.number_is ∙ stood.2.number ∙ alike.number_is in
        record {
          piece = q.0;
          among = subst (λ e. Contains (pieces e) q.0) (one_course (prefix ++ more) u.0 d u.1 is_d) q.1;
          plan = plan;
          number = number;
          tail = stood.2.tail;
          bytes = λ lines reads. fed_on p.plan p.number fed.bytes p.bytes stood.0.bytes q.0.bytes stood.2.tail lines alike.fed_as
              (subst (λ n. FedAs n stood.0.bytes q.0.bytes) number q.2.fed_as) stood.2.bytes reads;
        }

    module _ (each : AllByRecursion HasLines (pieces d)) where
      -- what the piece that goes on reads as
      lines_of : (p : FoundPiece) (g : GoesOn d p)
          → (lines : List (List ℕ)) × IsScan p.plan × IsOutcomeAt p.plan p.number (p.bytes ++ g.tail) (Lines lines)
          × ((r : Reading) → Contains (readings_of p (Lines lines)) r → CourseHasReading d r)
      lines_of p g =
          let h = all_at HasLines (pieces d) g.piece each g.among in
          let scan = all_at HasScan (pieces d) g.piece (course_has (prefix ++ more) d low is_d) g.among in
          let reads : IsOutcomeAt p.plan p.number g.piece.bytes (Lines h.0) =
          subst (λ n. IsOutcomeAt p.plan n g.piece.bytes (Lines h.0)) g.number
          (subst (λ s. IsOutcomeAt s g.piece.number g.piece.bytes (Lines h.0)) g.plan h.1) in (
            h.0,
            subst IsScan g.plan scan,
            subst (λ v. IsOutcomeAt p.plan p.number v (Lines h.0)) (g.bytes h.0 reads) reads,
            λ r m. inl (
              g.piece,
              g.among,
              h.0,
              h.1,
              subst (λ n. Contains (outcome_readings g.piece.plan n (Lines h.0)) r) (sym g.number)
                  (subst (λ s. Contains (outcome_readings s p.number (Lines h.0)) r) (sym g.plan) m),
            ),
          )

      keeps : (c : Course) → IsCourseUnder profile prefix c → (r : Reading) → CourseHasReading c r → CourseHasReading d r
      keeps c is_c r given =
          let t = course_fed profile prefix (byte_parts prefix more low).0 in
          let same : t.0 ≡ c = one_course prefix t.0 c t.1 is_c in
          elim given [
            | inl (p, m, lines, reads, has) ↦ (
                let here : Contains (pieces t.0) p = subst (λ e. Contains (pieces e) p) (sym same) m in
                let fed = of_alike (all_pieces (reading profile prefix)) (pieces t.0) p t.4 here in
                let stands : Stands (reading profile prefix) fed.0 = (
                  fed.0,
                  Contains-append_cases (reading profile prefix).pieces (closed_at_end (reading profile prefix).state.place) fed.0 fed.1,
                  at_once fed.0,
                ) in
                let g = goes_on fed.0 p stands fed.2 in
                let l = lines_of p g in
                l.3 r (piece_keeps p.plan l.1 p.bytes g.tail l.0 r p.number l.2 lines reads has))
            | inr (p, m, head, is, has) ↦ (
                let here : Contains (cut_pieces t.0) p = subst (λ e. Contains (cut_pieces e) p) (sym same) m in
                let fed = of_alike (closed_at_end (reading profile prefix).state.place) (cut_pieces t.0) p t.5 here in
                let g = goes_on fed.0 p (fed.0, inr fed.1, at_once fed.0) fed.2 in
                let l = lines_of p g in
                l.3 r (head_keeps p.plan l.1 p.bytes g.tail l.0 r p.number l.2 head is has))
          ]

pub prefixes_keep_readings : (profile : Profile) → PrefixesKeepReadingsUnder profile
prefixes_keep_readings profile prefix more low c d is_c is_d each r given = keeps profile prefix more low d is_d each c is_c r given
