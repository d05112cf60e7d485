-- The places where the code of rows by sample ends in a piece of a mended file.
use Rattle.std.proofs.Common.{◌≡◌, ℕ, zero, suc, ◌+◌, ◌*◌, ◌/◌, ◌<◌, ◌≤◌, Bool, true, List, [], ◌∷◌, ◌++◌, length, take, drop, map, get_or, sym, ap}
use Rattle.std.proofs.Common.{◌∙◌, subst, arith, inl, inr, append_assoc, length-append}
use Rattle.std.specs.Prelude.{if◌then◌else◌}
use Rattle.std.specs.List.{AllByRecursion}
use Rattle.std.proofs.lemmas.Bool.{cases_lt}
use Rattle.std.proofs.lemmas.Nat.{mul-le}
use Rattle.std.proofs.lemmas.List.{append-nil, take-append-le, take-append-drop, length-take-le, get_or-map, length-map}
use Rattle.std.proofs.Math.Nat.{mul-div_cancel}
use Rattle.std.proofs.Math.Seq.{drop-append_seam}
use Rattle.jls_values.specs.Params.{CodingParameters, AreCodingParameters}
use Rattle.jls_values.proofs.Lists.{all_at, longer_begins}
use Rattle.jls_bits.specs.Bits.{bits_read, bits_read_after, is_whole}
use Rattle.jls_bits.specs.Appending.{last_after}
use Rattle.jls_bits.proofs.Appending.{data_append, whole_prefix}
use Rattle.jls_interval.specs.Fronts.{nowhere}
use Rattle.jls_pixel.specs.Pixels.{pixel_shape}
use Rattle.jls_piece.specs.Lines.{PieceShape, piece_shape, pixel_piece}
use Rattle.jls_piece.specs.Code.{piece_code}
use Rattle.jls_piece.specs.Reads.{BeginsWithCode}
use Rattle.jls_piece.specs.Laws.{BrokenBeginsWithNone, IsCutCode}
use Rattle.jls_piece.specs.Heads.{IsHeadOfPiece, AreWholeLines}
use Rattle.jls_marker.specs.Scan.{Scan, IsScan}
use Rattle.jls_marker.specs.declared.profile.Profile.TheVariants.{Wide}
use Rattle.jls_copy.specs.InHand.{first_lines}
use Rattle.jls_copy.specs.IntervalOf.{interval_of}
use Rattle.jls_copy.specs.Pieces.{FoundPiece, pieces}
use Rattle.jls_copy.specs.TellingLaws.{StandsAt, PiecesStandAtTheirOffsetsUnder}
use Rattle.jls_copy.specs.declared.piece_in_hand.PieceInHand.{PieceInHand}
use Rattle.jls_held.specs.MendedFiles.{MendedFile}
use Rattle.jls_held.specs.LineCode.{code_length}
use Rattle.jls_held.specs.FilePieces.{lines_of, IsPieceOf}
use Rattle.jls_held.specs.Chains.{EndAround, AreCodeEnds, together, place_of}
use Rattle.jls_held.specs.RowEnds.{HasWholeRows, EndsInByte, AreRowEnds}
use Rattle.jls_held.proofs.LineBytes.{more_bits}
use Rattle.jls_held.proofs.RowBytes.{rows_within, rows_beyond}

abbrev AreBytes : List ℕ → Type 0
AreBytes xs = AllByRecursion (λ x. x < 256) xs

pub first_bytes : (n : ℕ) (xs : List ℕ) → AreBytes xs → AreBytes (take n xs)
first_bytes zero xs h = tt
first_bytes (suc n) [] h = tt
first_bytes (suc n) (x ∷ xs) h = (h.0, first_bytes n xs h.1)

-- so many rows are some of those of the piece
rows_at_most : (i : PieceShape) (bytes : List ℕ) (count : ℕ) → HasWholeRows i bytes count → count * i.components ≤ i.line_count
rows_at_most i bytes count (inl (lines, unread, b, full)) = omega (arith, full)
rows_at_most i bytes count (inr (head, bad, is_head, head_count)) = by is_head
  where
    none : head ≡ [] → count * i.components ≤ i.line_count
    none e = let l = ap length e in omega (arith, l, head_count)

    by_cut : (cut : IsCutCode i (bits_read bytes)) → AreWholeLines i (bits_read bytes) cut.lines head → count * i.components ≤ i.line_count
    by_cut cut a =
        let f = a.begins in let n1 = ap length f.lines_are in let n2 = length-append head f.others in let n3 = cut.are_lines.count_is in
        omega (arith, n1, n2, n3, head_count)

    by : IsHeadOfPiece i bytes head → count * i.components ≤ i.line_count
    by (inl (w, inl (cut, a))) = by_cut cut a
    by (inl (w, inr (not, e))) = none e
    by (inr (w, e)) = none e

module _ (i : PieceShape) (ok : AreCodingParameters i.params) (some : 0 < i.width) (some_component : 0 < i.components)
    (broken : BrokenBeginsWithNone) (piece : List ℕ) (lines : List (List ℕ)) (unread : List Bool)
    (begins : BeginsWithCode i piece lines unread) (raw behind more : List ℕ) (same : raw ++ more ≡ piece ++ behind)
    (low : AreBytes raw) (whole : is_whole raw ≡ true) where
  -- what the first data bytes carry, and the code of the lines, begin the same bits
  pub record Meets (bytes : List ℕ) : Type 0 where
    pub rest : List Bool
    pub others : List Bool
    pub meet : bits_read bytes ++ rest ≡ piece_code i lines ++ others

  meets : (bytes rest : List ℕ) → is_whole bytes ≡ true → bytes ++ rest ≡ piece ++ behind → Meets bytes
  meets bytes rest is e =
      elim (cases_lt (length piece) (length bytes)) [
        | inl longer ↦ (
            let x = longer_begins bytes piece rest behind e (omega (arith, longer)) in
            let q = bits_read_after (last_after 0 piece) x.0 in
            record {
              rest = [];
              others = unread ++ q;
              meet = append-nil (bits_read bytes) ∙ ap bits_read x.1 ∙ data_append 0 piece x.0 begins.data_bits.whole
                  ∙ ap (λ z. z ++ q) begins.data_bits.read ∙ append_assoc (piece_code i lines) unread q;
            })
        | inr shorter ↦ (
            let x = longer_begins piece bytes behind rest (sym e) (omega (arith, shorter)) in
            record {
              rest = bits_read_after (last_after 0 bytes) x.0;
              others = unread;
              meet = sym (data_append 0 bytes x.0 is) ∙ ap bits_read (sym x.1) ∙ begins.data_bits.read;
            })
      ]

  -- the first data bytes are data bytes
  first_whole : (n : ℕ) → is_whole (take n raw) ≡ true
  first_whole n = (whole_prefix 0 (take n raw) (drop n raw) (ap is_whole (take-append-drop n raw) ∙ whole)).0

  first_meets : (n : ℕ) → Meets (take n raw)
  first_meets n =
      meets (take n raw) (drop n raw ++ more) (first_whole n)
      (sym (append_assoc (take n raw) (drop n raw) more) ∙ ap (λ z. z ++ more) (take-append-drop n raw) ∙ same)

  -- the first bytes of the piece are the first data bytes
  same_first : (n : ℕ) → n ≤ length piece → n ≤ length raw → take n piece ≡ take n raw
  same_first n in_piece in_data =
      sym (take-append-le n piece behind in_piece) ∙ ap (take n) (sym same) ∙ take-append-le n raw more in_data

  pub end_around : (k place : ℕ) → EndsInByte i raw k place
      → EndAround piece (code_length i (take ((k + 1) * i.components) lines)) (record { bytes = place; bits = 1 })
  end_around k place e =
      let n = (k + 1) * i.components in
      let xs = take n lines in let ys = drop n lines in
      let split : lines ≡ xs ++ ys = sym (take-append-drop n lines) in
      let after = e.with_it in let until = e.before in
      let least = after.2 in
      let enough : n ≤ length lines = (
      let a = rows_at_most i (take (place + 1) raw) after.0 after.1 in let b = begins.are_lines.count_is in
      let m = mul-le (k + 1) i.components after.0 i.components (omega (arith, least)) (omega arith) in omega (arith, a, b, m)) in
      let count : length xs ≡ (k + 1) * i.components = length-take-le n lines enough in
      let m1 = first_meets (place + 1) in let m0 = first_meets place in
      let w1 = rows_within i ok some broken lines begins.are_lines begins.whole_rows (take (place + 1) raw)
      (first_bytes (place + 1) raw low) (first_whole (place + 1)) m1.rest m1.others m1.meet after.0 (k + 1) after.1 some_component
      (omega (arith, least)) (omega arith) xs ys split count in
      let most = until.2 in
      let w0 = rows_beyond i ok some broken lines begins.are_lines begins.whole_rows (take place raw)
      (first_bytes place raw low) (first_whole place) m0.rest m0.others m0.meet until.0 (k + 1) until.1 some_component
      (omega (arith, most)) xs ys split count in
      let inside = e.within in
      record {
        carried = λ at within below. (
          elim (cases_lt place at) [
            | inl later ↦ absurd (
                let a = more_bits 0 piece (place + 1) at (omega (arith, later)) in
                let b = ap (λ z. length (bits_read z)) (same_first (place + 1) (omega (arith, later, within)) (omega (arith, inside))) in
                omega (arith, a, b, below, w1))
            | inr early ↦ early
          ],
          λ is. omega arith,
        );
        behind = λ at within above.
            elim (cases_lt at place) [
              | inl early ↦ absurd (
                  let a = more_bits 0 raw (at + 1) place (omega (arith, early)) in
                  let b = ap (λ z. length (bits_read z)) (same_first (at + 1) (omega (arith, within)) (omega (arith, early, inside))) in
                  omega (arith, a, b, above, w0))
              | inr late ↦ late
            ];
      }

-- The piece in hand --------------------------------------------------------------------------------------------

-- the shape of a piece by sample in hand is that of so many rows
same_shape : (plan : Scan) (interval rows count : ℕ) → plan.by_sample ≡ true → count ≡ rows * length plan.components
    → first_lines (interval_of plan interval) count ≡ pixel_piece (pixel_shape plan.params plan.width (length plan.components) rows)
same_shape plan interval rows count by_sample count_is =
    ap (λ n. piece_shape plan.params plan.width (length plan.components) n plan.by_sample) count_is
    ∙ ap (piece_shape plan.params plan.width (length plan.components) (rows * length plan.components)) by_sample

-- so many rows are all of a piece by sample in hand
all_rows : (f : MendedFile) (p : PieceInHand) → IsPieceOf f p → p.plan.by_sample ≡ true → 0 < length p.plan.components
    → length (lines_of p) ≡ length (lines_of p) / length p.plan.components * length p.plan.components
all_rows f p is by_sample some =
    let c = length p.plan.components in let w = is.begins.begins.whole_rows by_sample in
    w.1 ∙ ap (λ n. n * c) (sym (ap (λ n. n / c) w.1 ∙ mul-div_cancel w.0 some))

-- the bytes in which rows end are the places where their code ends
pub places_are : BrokenBeginsWithNone → PiecesStandAtTheirOffsetsUnder Wide → (f : MendedFile) (p : PieceInHand) → IsScan p.plan
    → p.plan.by_sample ≡ true → (params : CodingParameters) (width components rows : ℕ) → params ≡ p.plan.params → width ≡ p.plan.width
    → components ≡ length p.plan.components → rows ≡ length p.lines.items / length p.plan.components → (raw more : List ℕ)
    → raw ++ more ≡ drop p.offset f.bytes → AreBytes raw → is_whole raw ≡ true → (ends : List ℕ)
    → AreRowEnds (pixel_piece (pixel_shape params width components rows)) raw ends
    → (is : IsPieceOf f p) → AreCodeEnds (interval_of p.plan p.interval) is.found.piece.bytes (lines_of p) (map place_of ends)
places_are broken stand f p scan by_sample params width components rows params_is width_is components_is rows_is raw more raw_is low whole
    ends are is = λ k inside.
    let q = is.found in let c = length p.plan.components in
    let i = pixel_piece (pixel_shape p.plan.params p.plan.width c rows) in
    let asked : pixel_piece (pixel_shape params width components rows) ≡ i =
    ap (λ v. pixel_piece (pixel_shape v width components rows)) params_is
    ∙ ap (λ v. pixel_piece (pixel_shape p.plan.params v components rows)) width_is
    ∙ ap (λ v. pixel_piece (pixel_shape p.plan.params p.plan.width v rows)) components_is in
    let s = all_at (λ (piece : FoundPiece). StandsAt f.bytes piece.offset piece.bytes) (pieces q.course) q.piece
    (stand f.bytes q.course q.is_course) q.among in
    let rest : drop p.offset f.bytes ≡ q.piece.bytes ++ s.back =
    ap (λ n. drop n f.bytes) (sym is.offset_is ∙ s.offset_is) ∙ ap (drop (length s.prefix)) s.copy_is
    ∙ drop-append_seam s.prefix (q.piece.bytes ++ s.back) in
    let some : 0 < c = (let n = scan.components_at_least in omega (arith, n)) in
    let lines : length (lines_of p) ≡ length p.lines.items = length-map p.lines.items (λ l. l.items) in
    let count : length (lines_of p) ≡ rows * c =
    all_rows f p is by_sample some ∙ ap (λ n. n * c) (ap (λ n. n / c) lines ∙ sym rows_is) in
    let b : BeginsWithCode i q.piece.bytes (lines_of p) is.begins.unread =
    subst (λ z. BeginsWithCode z q.piece.bytes (lines_of p) is.begins.unread)
    (same_shape p.plan p.interval rows (length (lines_of p)) by_sample count) is.begins.begins in
    let listed : k < length ends = (let l = length-map ends place_of in omega (arith, inside, l)) in
    let width = scan.width_at_least in
    let e = end_around i scan.params (omega (arith, width)) some broken q.piece.bytes (lines_of p) is.begins.unread b raw s.back more
    (raw_is ∙ rest) low whole k (get_or ends k 0) (subst (λ (z : PieceShape). EndsInByte z raw k (get_or ends k 0)) asked (are k 0 listed)) in
    let place : get_or (map place_of ends) k nowhere ≡ place_of (get_or ends k 0) = get_or-map place_of ends k 0 nowhere listed in
    subst (λ z. EndAround q.piece.bytes (code_length (interval_of p.plan p.interval) (take ((k + 1) * together (interval_of p.plan p.interval))
    (lines_of p))) z) (sym place)
    (subst (λ (t : Bool). EndAround q.piece.bytes (length (piece_code (piece_shape p.plan.params p.plan.width c i.line_count t)
    (take ((k + 1) * (if t then c else 1)) (lines_of p)))) (place_of (get_or ends k 0))) (sym by_sample) e)
