-- Each held line is the picture's, where each mended file has a true file in which the pieces begin at the same offsets.
use Rattle.std.proofs.Common.{◌≡◌, ℕ, suc, ◌+◌, ◌<◌, ◌≤◌, List, ◌++◌, length, take, drop, sym, ap, ◌∙◌, subst, arith}
use Rattle.std.proofs.Common.{get_or, append_assoc, length-append}
use Rattle.std.specs.List.{AllByRecursion, Contains}
use Rattle.std.proofs.lemmas.List.{get_or-append-add, get_or_append_left, length-take-le, take-append-drop}
use Rattle.jls_values.proofs.Lists.{all_at}
use Rattle.jls_piece.specs.Reads.{Reads, BeginsWithCode}
use Rattle.jls_partial.specs.Reading.{Reading}
use Rattle.jls_marker.specs.Scan.{IsScan, first_row}
use Rattle.jls_marker.specs.declared.profile.Profile.TheVariants.{Wide}
use Rattle.jls_copy.specs.Course.{Course, IsCourseUnder}
use Rattle.jls_copy.specs.Pieces.{FoundPiece, pieces, placed, readings}
use Rattle.jls_copy.specs.TellingLaws.{StandsAt, PiecesStandAtTheirOffsetsUnder}
use Rattle.jls_copy.proofs.ScansOfCourse.{course_has}
use Rattle.jls_held.specs.MendedFiles.{MendedFile, HasHeldBytes}
use Rattle.jls_copy.specs.InHand.{BeginsWithLines}
use Rattle.jls_held.specs.LineCode.{AreCodedTogether, code_length, bits_before}
use Rattle.jls_held.specs.HeldLines.{PieceOf, interval_at, placed_at, HasHeldCode, IsHeld, in_piece}
use Rattle.jls_carry_laws.specs.StrictlyHeld.{BeforePiece, IsStrictlyHeld, in_file}
use Rattle.jls_carry_laws.specs.TrueFiles.{PictureLines, IsPictureLine, HasTruePieces, IsTrueFile, PieceHead, head_of, HasHead}
use Rattle.jls_carry_laws.specs.TrueFiles.{AreFilesOfBytes, HaveTrueFilesOfTheirSkeletons, HaveTrueFilesAsLong}
use Rattle.jls_carry_laws.specs.Laws.{HeldLinesAreThePicture, StrictlyHeldLinesAreThePicture}
use Rattle.jls_carry_laws.proofs.Walk.{AgreeFrom}
use Rattle.jls_held.proofs.PieceChains.{placed_more}
use Rattle.jls_carry_laws.proofs.OneCode.{rows_before, one_code}
use Rattle.jls_carry_laws.proofs.PlacedLines.{begins_with_known}
use Rattle.jls_carry_laws.proofs.SameHeads.{one_number}

-- the bytes of what stands at an offset
pub byte_at : (copy : List ℕ) (offset : ℕ) (bytes : List ℕ) (place : ℕ) → StandsAt copy offset bytes → place < length bytes
    → get_or copy (offset + place) 0 ≡ get_or bytes place 0
byte_at copy offset bytes place s l =
    ap (λ z. get_or z (offset + place) 0) s.copy_is
    ∙ ap (λ z. get_or (s.prefix ++ (bytes ++ s.back)) (z + place) 0) s.offset_is
    ∙ get_or-append-add s.prefix (bytes ++ s.back) place 0 ∙ get_or_append_left bytes s.back 0 place l

-- the piece of a true file that has the head of a mended file's piece
pub record Fellow (picture : PictureLines) (f : MendedFile) (bytes : List ℕ) (p : PieceOf f) : Type 0 where
  pub offset : ℕ
  pub piece : List ℕ
  pub stands : StandsAt bytes offset piece
  pub offset_is : offset ≡ p.piece.offset
  pub lines : List (List ℕ)
  pub reads : Reads (interval_at f p) piece lines
  pub each : AllByRecursion (IsPictureLine picture) (placed_at f p lines)

-- A piece has its head in each true file that is as long, if all lines before it are the picture's, and all bytes before it that are in no
-- piece are held
abbrev pub StrictPiecesHaveHeads : PictureLines → Type 0
StrictPiecesHaveHeads picture =
    (f : MendedFile) (bytes : List ℕ) → AllByRecursion (λ b. b < 256) f.bytes → (is : IsTrueFile picture f bytes)
    → length f.bytes ≤ length bytes → (p : PieceOf f) (w : BeforePiece f p)
    → ((s : Reading) → Contains (readings w.earlier w.outcomes) s → IsPictureLine picture s) → HasHead is.course f p

module _ (stand : PiecesStandAtTheirOffsetsUnder Wide) (picture : PictureLines) where
  fellow : (f : MendedFile) (bytes : List ℕ) (p : PieceOf f) (c : Course) → IsCourseUnder Wide bytes c → HasTruePieces picture c → HasHead c f p
      → Fellow picture f bytes p
  fellow f bytes p c is each h =
      let q = h.piece in let t = each q h.among in let own = t.1 in
      let number : t.0 ≡ h.number = one_number t.0 h.number (sym own.number_is ∙ h.number_is) in
      let head : head_of q t.0 ≡ head_of p.piece p.number = ap (head_of q) number ∙ h.head_is in
      let shape = ap (λ (v : PieceHead). v.shape) head in
      record {
        offset = q.offset;
        piece = q.bytes;
        stands = all_at (λ piece. StandsAt bytes piece.offset piece.bytes) (pieces c) q (stand bytes c is) h.among;
        offset_is = ap (λ (v : PieceHead). v.offset) head;
        lines = own.lines;
        reads = subst (λ i. Reads i q.bytes own.lines) shape own.reads;
        each = subst (λ (v : PieceHead). AllByRecursion (IsPictureLine picture) (placed v.components v.row 0 own.lines)) head own.each;
      }

  -- where all bytes of the code of lines are held, they are those of the true file
  bytes_agree : (f : MendedFile) (bytes : List ℕ) (p : PieceOf f) (before lines : List (List ℕ))
      → HasHeldBytes f bytes → (w : Fellow picture f bytes p) → HasHeldCode f p before lines
      → AgreeFrom 0 (code_length (interval_at f p) before) (code_length (interval_at f p) (before ++ lines)) p.piece.bytes w.piece
  bytes_agree f bytes p before lines has w own = λ place inx iny below above.
      let next : suc place ≡ place + 1 = omega arith in
      let is_held = own place (record {
        within = inx;
        begins_before_its_end = below;
        ends_after_its_begin = subst (λ z. code_length (interval_at f p) before < bits_before p.piece.bytes z) next above;
      }) in
      let mine = all_at (λ piece. StandsAt f.bytes piece.offset piece.bytes) (pieces p.course) p.piece
      (stand f.bytes p.course p.is_course) p.among in
      sym (byte_at f.bytes p.piece.offset p.piece.bytes place mine inx) ∙ has (p.piece.offset + place) is_held
      ∙ ap (λ z. get_or bytes (z + place) 0) (sym w.offset_is) ∙ byte_at bytes w.offset w.piece place w.stands iny

  -- lines of a piece, where the lines before them are the picture's
  lines_are : (f : MendedFile) (bytes : List ℕ) (p : PieceOf f) → AllByRecursion (λ b. b < 256) f.bytes → HasHeldBytes f bytes
      → Fellow picture f bytes p → (before lines : List (List ℕ)) → AreCodedTogether (interval_at f p) lines
      → BeginsWithLines (interval_at f p) p.piece.bytes (before ++ lines) → HasHeldCode f p before lines
      → ((s : Reading) → Contains (placed_at f p before) s → IsPictureLine picture s)
      → (r : Reading) → Contains (placed_at f p (before ++ lines)) r → IsPictureLine picture r
  lines_are f bytes p low has w before lines together begins own known r within =
      let i = interval_at f p in let cs = p.piece.plan.components in let first = first_row p.piece.plan p.number in
      let sound : IsScan p.piece.plan = all_at (λ (q : FoundPiece). IsScan q.plan) (pieces p.course) p.piece
      (course_has f.bytes p.course low p.is_course) p.among in
      let count : length w.lines ≡ i.line_count = w.reads.begins.are_lines.count_is in
      let few = begins.at_most in let sum = length-append before lines in
      let k = begins_with_known picture cs first 0 before w.lines known w.each (omega (arith, count, few, sum)) in
      let whole = ap length k.1 ∙ length-append before k.0 in
      let others = take (length lines) k.0 in let later = drop (length lines) k.0 in
      let rest : k.0 ≡ others ++ later = sym (take-append-drop (length lines) k.0) in
      let many : length others ≡ length lines = length-take-le (length lines) k.0 (omega (arith, count, few, sum, whole)) in
      let all : w.lines ≡ before ++ (others ++ later) = k.1 ∙ ap (λ z. before ++ z) rest in
      let theirs : BeginsWithCode i w.piece (before ++ (others ++ later)) w.reads.unread =
      subst (λ z. BeginsWithCode i w.piece z w.reads.unread) all w.reads.begins in
      let width = sound.width_at_least in let some = sound.components_at_least in
      let same : lines ≡ others = one_code i sound.params (omega (arith, width)) p.piece.bytes w.piece before lines others later
      w.reads.unread (rows_before i (omega (arith, some)) before lines together begins.begins.whole_rows) (sym many) begins theirs
      (bytes_agree f bytes p before lines has w own) in
      let split : w.lines ≡ (before ++ lines) ++ later =
      all ∙ sym (append_assoc before others later) ∙ ap (λ z. (before ++ z) ++ later) (sym same) in
      all_at (IsPictureLine picture) (placed cs first 0 w.lines) r w.each
      (subst (λ z. Contains (placed cs first 0 z) r) (sym split) (placed_more cs first 0 (before ++ lines) later r within))

  held_is : (files : List MendedFile) → AreFilesOfBytes files → HaveTrueFilesOfTheirSkeletons picture files
      → (r : Reading) → IsHeld files r → IsPictureLine picture r
  held_is files low true _ (in_piece c held r within) =
      let f = c.file in let p = c.piece in let t = true f c.among in let is = t.1 in
      lines_are f t.0 p (low f c.among) is.has_held (fellow f t.0 p is.course is.is_course is.each (t.2 p)) c.before c.lines c.together c.begins
      c.held (λ s inside. held_is files low true s (held s inside)) r within

  strictly_held_is : StrictPiecesHaveHeads picture → (files : List MendedFile) → AreFilesOfBytes files → HaveTrueFilesAsLong picture files
      → (r : Reading) → IsStrictlyHeld files r → IsPictureLine picture r
  strictly_held_is heads files low true _ (in_file f among p before lines together begins own w stood held r within) =
      let t = true f among in let is = t.1 in
      let head = heads f t.0 (low f among) is t.2 p w (λ s inside. strictly_held_is heads files low true s (stood s inside)) in
      lines_are f t.0 p (low f among) is.has_held (fellow f t.0 p is.course is.is_course is.each head) before lines together begins own
      (λ s inside. strictly_held_is heads files low true s (held s inside)) r within

pub held_lines_are_the_picture : PiecesStandAtTheirOffsetsUnder Wide → HeldLinesAreThePicture
held_lines_are_the_picture stand files picture low true r h = held_is stand picture files low true r h

pub strictly_held_from_heads : PiecesStandAtTheirOffsetsUnder Wide → ((picture : PictureLines) → StrictPiecesHaveHeads picture) → StrictlyHeldLinesAreThePicture
strictly_held_from_heads stand heads files picture low true r h =
    strictly_held_is stand picture (heads picture) files low true r h
