-- A written file is read back, and what a reader of copies answers of it.
use Rattle.std.proofs.Common.{◌≡◌, ℕ, List, [], ◌∷◌, ◌++◌, length, take, Option, Some, sym, ◌∙◌, ap, subst}
use Rattle.std.proofs.lemmas.List.{append-nil}
use Rattle.std.proofs.lemmas.Option.{same_Some}
use Rattle.jls_values.specs.OrderedSet as set
use Rattle.jls_values.specs.Shape.{PictureShape}
use Rattle.jls_partial.specs.Reading.{Reading}
use Rattle.jls_partial.specs.Partial.{PartialPicture}
use Rattle.jls_copy.specs.Course.{Course}
use Rattle.jls_copy.specs.CutPieces.{cut_pieces, head_readings}
use Rattle.jls_copy.specs.Pieces.{FoundPiece, PieceOutcome, pieces, AreOutcomes, readings, records}
use Rattle.jls_copy.specs.CopyReads.{CopyReads}
use Rattle.jls_copy.specs.ReadCopy.{ReadCopy}
use Rattle.jls_copy.proofs.OneCourse.{one_course}
use Rattle.jls_write.specs.Picture.{WholePicture}
use Rattle.jls_file_laws.specs.FileLaw.{ReadsBack, FileLaw, AnswersOnly, FileIsRead}
use Rattle.jls_file_laws.proofs.Covering.{intervals_cover}
use Rattle.jls_file_laws.proofs.HeadsTaken.{heads_are_taken}
use Rattle.jls_file_laws.proofs.WrittenUnits.{reads_back}

pub file_law : FileLaw
file_law pic o can = (reads_back pic o can (heads_are_taken pic o can), intervals_cover pic o can.whole.shape.ids_at_least)

without_head : (ps : List FoundPiece) (head : List (List ℕ)) (given rs : List Reading) → given ≡ rs → ps ≡ []
    → given ++ head_readings ps head ≡ rs
without_head [] head given rs e none = append-nil given ∙ e
without_head (p ∷ ps) head given rs e none = absurd cc

abbrev GiveOnly : List Reading → List FoundPiece → List PieceOutcome → Type 0
GiveOnly rs ps os = (readings ps os ≡ rs) × (records ps os ≡ [])

module _ (pic : WholePicture) (copy : List ℕ) (rs : List Reading) (w : ReadsBack pic copy rs) (read : ReadCopy)
    (c : CopyReads copy read) where
  same : w.course ≡ c.course
  same = one_course copy w.course c.course w.is_course c.is_course

  gives : GiveOnly rs (pieces c.course) c.outcomes
  gives = subst (λ (k : Course). AreOutcomes (pieces k) c.outcomes → GiveOnly rs (pieces k) c.outcomes) same (w.gives c.outcomes) c.each

  framed : ◌≡◌ {A = Option PictureShape} (Some c.shape) (Some pic.shape)
  framed = sym c.framed ∙ ap (λ (k : Course). k.headers.frame) (sym same) ∙ w.framed

  uncut : cut_pieces c.course ≡ []
  uncut = ap cut_pieces (sym same) ∙ w.uncut

  answers_only : AnswersOnly pic rs read
  answers_only = record {
    shape = ap (λ (p : PartialPicture). p.shape) c.partial_is ∙ same_Some c.shape pic.shape framed;
    readings_are = subst (λ (t : List Reading). read.partial.readings ≡ set.insert_all set.empty t)
        (without_head (cut_pieces c.course) c.head (readings (pieces c.course) c.outcomes) rs gives.0 uncut)
        (ap (λ (p : PartialPicture). p.readings) c.partial_is);
    no_records = c.pieces_are ∙ ap (take 4096) gives.1;
    none_counted = c.count_is ∙ ap length gives.1;
    offset = w.offset;
    ended = c.ended_is ∙ ap (λ (k : Course). k.end) (sym same) ∙ w.ended;
  }

pub file_is_read : FileIsRead
file_is_read pic o can read c = answers_only pic _ _ (file_law pic o can).0 read c
